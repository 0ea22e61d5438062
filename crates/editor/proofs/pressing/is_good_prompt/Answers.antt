-- `editor::pressing::is_good_prompt` meets its contract.
use Rattle.buffer.proofs.Choices.{then_is, else_is}
use Rattle.editor.specs.Answer.{good_prompt}
use Rattle.text.specs.Decoding.{well_formed}
use borrow.Author.Tests.{le-leb, lt-leb}
use mathlib.Core.Path.{sym, ap, ◌∙◌}
use Prim.Native.Nat.{ℕ}
use lib.Dec.{eqb}
use lib.ListN.{length}
use Rattle.editor.proofs.pressing.is_good_prompt.Goals as goal

pub returns-then-prompt-le128 : goal.returns-then-prompt-le128
unfolding good_prompt well_formed
returns-then-prompt-le128 c =
    ap (λ (n : ℕ). eqb n (length c.args.prompt.now)) c.well_formed_prefix.ensures ∙ sym (then_is _ _ _ (le-leb (length c.args.prompt.now) 128 c.if-prompt-le128.true))

pub returns-else-prompt-le128 : goal.returns-else-prompt-le128
unfolding good_prompt
returns-else-prompt-le128 c =
    let long = lt-leb (length c.args.prompt.now) 128 c.if-prompt-le128.false in long ∙ sym (else_is _ _ _ long)
