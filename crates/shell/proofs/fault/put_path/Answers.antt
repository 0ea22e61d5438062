-- `shell::fault::put_path` meets its contract: whoever writes the words that are left has written them all.
use mathlib.Core.Path.{sym}
use native.Mathlib.Omega.{arith}
use Rattle.frame.proofs.Series.{all_begin, word_within}
use Rattle.buffer.specs.Ascii.{ascii}
use Rattle.shell.proofs.Faults.{word_counts, sets_out, arrives, goes_on_lem}
use borrow.Enum.Refused.{opened}
use Rattle.shell.proofs.fault.put_path.Goals as goal

pub loop-at-init : goal.loop-at-init
loop-at-init c = sets_out _ _ c.requires.1

pub returns-in_default : goal.returns-in_default
returns-in_default c =
    absurd (all_begin c.args.path.now c.loop-at.at c.loop-at.invariant.ahead c.loop-at-test.true _ c.read_frame.ensures (opened c.in_default.in_default-own.keys2))

pub overflow_add-start : goal.overflow_add-start
overflow_add-start c =
    let w = word_within c.args.path.now c.loop-at.at _ _ (sym c.in-Frame.ensures) in omega arith

pub overflow_add-stop : goal.overflow_add-stop
overflow_add-stop c =
    let w = word_within c.args.path.now c.loop-at.at _ _ (sym c.in-Frame.ensures) in omega arith

pub put-word-requires : goal.put-word-requires
unfolding ascii
put-word-requires c =
    omega arith

pub slice_bounds-put-end-in-loop-at : goal.slice_bounds-put-end-in-loop-at
slice_bounds-put-end-in-loop-at c =
    let w = word_within c.args.path.now c.loop-at.at _ _ (sym c.in-Frame.ensures) in omega arith

pub put-end-requires : goal.put-end-requires
unfolding ascii
put-end-requires c =
    word_counts c.args.path.now _ _ c.loop-at.at _ c.loop-at.invariant c.in-Frame.length _ _ c.requires.0 c.put-word.ensures

pub loop-at-smaller : goal.loop-at-smaller
loop-at-smaller c =
    let w = word_within c.args.path.now c.loop-at.at _ _ (sym c.in-Frame.ensures) in omega arith

pub loop-at-preserved : goal.loop-at-preserved
unfolding ascii
loop-at-preserved c =
    goes_on_lem c.args.path.now _ _ c.loop-at.at _ c.loop-at.invariant _ c.in-Frame.length (sym c.in-Frame.ensures) _ _ _ _ c.put-word.ensures c.put-end.ensures

pub returns : goal.returns
returns c =
    arrives c.args.path.now _ _ _ _ c.loop-at.invariant c.loop-at-test.false
