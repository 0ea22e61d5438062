-- `quote::word::quiet_at` meets its contract: an ordinary character is quiet, and any other is what the decoder says.
use Rattle.quote.proofs.Showing.{quiet_is, quiet_stop, quiet_ordinary}
use mathlib.Core.Bool.{true, false}
use mathlib.Core.Path.{sym, ◌∙◌}
use Rattle.text.proofs.Prefix.{no_character}
use Rattle.quote.proofs.word.quiet_at.Goals as goal

pub returns-in-Some : goal.returns-in-Some
returns-in-Some c =
    quiet_ordinary c.args.word.now c.args.at _ c.in-Some.ensures

pub returns-in_default-decode : goal.returns-in_default-decode
returns-in_default-decode c = sym (quiet_stop _ _ (sym c.decode.ensures) (no_character _ c.in_default-decode.not-Character))

pub returns-then-calls_for_quotes : goal.returns-then-calls_for_quotes
returns-then-calls_for_quotes c =
    sym (quiet_is _ _ _ true (sym c.in-Character.ensures) (sym c.calls_for_quotes.ensures ∙ c.if-calls_for_quotes.true))

pub returns : goal.returns
returns c =
    sym (quiet_is _ _ _ false (sym c.in-Character.ensures) (sym c.calls_for_quotes.ensures ∙ c.if-calls_for_quotes.false))
