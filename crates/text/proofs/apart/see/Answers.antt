-- `text::apart::see` meets its contract.
use Rattle.text.proofs.WhiteRuns.{see_character, see_stray, see_end}
use mathlib.Core.Path.{sym}
use lib.ListN.{drop}
use Rattle.text.proofs.apart.see.Goals as goal

pub returns-in-Character : goal.returns-in-Character
returns-in-Character c =
    cc (see_character (drop c.args.at c.args.s.now) _ _ (sym c.in-Character.ensures))

pub returns-in-IllFormed : goal.returns-in-IllFormed
returns-in-IllFormed c = sym (see_stray _ (sym c.in-IllFormed.ensures))

pub returns-in-End : goal.returns-in-End
returns-in-End c = sym (see_end _ (sym c.in-End.ensures))
