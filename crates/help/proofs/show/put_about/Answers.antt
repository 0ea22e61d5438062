-- `help::show::put_about` meets its contract: six texts in a row, each within its bound.
use Rattle.help.proofs.NodeHelp.{take_most, about_put}
use Rattle.help.specs.Inner.{about_in}
use Rattle.buffer.specs.Ascii.{ascii}
use native.Mathlib.Omega.{arith}
use Prim.Native.Nat.{◌+◌}
use lib.ListN.{drop}
use Rattle.help.proofs.show.put_about.Goals as goal

pub put-note-requires : goal.put-note-requires
put-note-requires c =
    let m = take_most c.args.texts.description _ (drop (6 + c.args.texts.name) c.args.s.now) c.part.ensures in omega arith

pub put-usage-requires : goal.put-usage-requires
put-usage-requires c =
    let m = take_most c.args.texts.description _ (drop (6 + c.args.texts.name) c.args.s.now) c.part.ensures in omega arith

pub overflow_add-texts-2 : goal.overflow_add-texts-2
overflow_add-texts-2 c =
    omega arith

pub overflow_add-texts-3 : goal.overflow_add-texts-3
overflow_add-texts-3 c =
    omega arith

pub overflow_add-texts-4 : goal.overflow_add-texts-4
overflow_add-texts-4 c =
    omega arith

pub put_usage-requires : goal.put_usage-requires
put_usage-requires c =
    let m = take_most c.args.texts.description _ (drop (6 + c.args.texts.name) c.args.s.now) c.part.ensures in (c.requires.0.other, omega arith)

pub returns : goal.returns
unfolding ascii about_in
returns c =
    let m = take_most c.args.texts.description _ (drop (6 + c.args.texts.name) c.args.s.now) c.part.ensures in (about_put _ _ _ _ _ _ _ _ _ _ _ _ _ _ _ _ c.put-words.ensures c.put_words-end.ensures.inked c.put-about.ensures (rw c.part.ensures at c.put-note.ensures) c.put-usage.ensures c.put_usage.ensures.0, omega arith)
