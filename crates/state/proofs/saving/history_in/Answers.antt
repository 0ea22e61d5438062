-- `state::saving::history_in` meets its contract.
use mathlib.Core.Path.{ap, ◌∙◌}
use Prim.Native.Nat.{ℕ}
use mathlib.Core.List.{List}
use Rattle.history.specs.Saved.{restored as restored_history}
use Rattle.state.proofs.Savings.{rest_history}
use Rattle.state.proofs.saving.history_in.Goals as goal

pub returns : goal.returns
returns c =
    c.restored.ensures ∙ ap (λ (x : List ℕ). restored_history x c.args.slots.now) (rest_history c.args.state.now _ c.rest.ensures)
