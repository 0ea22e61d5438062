-- `words::tokenizer::put` meets its contract.
use lib.ListN.{length-take, length}
use Rattle.words.proofs.OpenWords.{take_room, gap_room}
use native.Mathlib.Omega.{arith}
use Rattle.words.proofs.tokenizer.put.Goals as goal

pub overflow_add-scan : goal.overflow_add-scan
overflow_add-scan c =
    let r = take_room c.args.scan _ c.args.n (length c.args.out.now) c.in-Take.is c.requires.n_nonzero.0 c.requires.word_le_frames_limit.1 in omega (arith, r)

pub overflow_add-scan-in-Take : goal.overflow_add-scan-in-Take
overflow_add-scan-in-Take c =
    let r = take_room c.args.scan _ c.args.n (length c.args.out.now) c.in-Take.is c.requires.n_nonzero.0 c.requires.word_le_frames_limit.1 in omega (arith, r)

pub push-requires : goal.push-requires
push-requires c =
    let r = take_room c.args.scan _ c.args.n (length c.args.out.now) c.in-Take.is c.requires.n_nonzero.0 c.requires.word_le_frames_limit.1 in
    rw length-take (omega (arith, r))

pub end_word-requires : goal.end_word-requires
end_word-requires c =
    (gap_room c.args.scan _ c.args.n (length c.args.out.now) c.in-Gap.is c.requires.word_le_frames_limit.1, c.requires.word_le_frames_limit.0)
