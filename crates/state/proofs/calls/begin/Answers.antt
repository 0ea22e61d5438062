-- `state::calls::begin` meets its contract.
use Rattle.std.proofs.lemmas.Result.{err_from_is_err_and}
use Rattle.state.proofs.Answering.{no_profile, short_state, long_state, short_slots, long_slots, begin_ready, fresh_bytes}
use Rattle.keys.proofs.Modes.{profile_told, profile_lacks}
use Rattle.state.proofs.Savings.{as_size}
use Rattle.editor.specs.Line.{fresh_editor}
use native.Mathlib.Omega.{arith}
use mathlib.Core.Logic.{inl, inr}
use mathlib.Core.Path.{sym, ap, ◌∙◌}
use Rattle.state.proofs.calls.begin.Goals as goal

pub returns-in_default : goal.returns-in_default
returns-in_default c =
    no_profile c.args.profile c.args.state.now c.args.slots.now (profile_lacks c.args.profile (λ p e. c.in_default.not-Ok p (c.try_from.ensures ∙ e)))

pub returns-in_err-misfit : goal.returns-in_err-misfit
returns-in_err-misfit c =
    let p = err_from_is_err_and c.from_residual.result c.from_residual.ensures.1 in
    let known = (profile_told c.args.profile _ (sym c.try_from.ensures ∙ c.in-Ok.is)).0 in
    rw (p.1, p.2) (elim c.in_err-misfit.ensures [
      | inl w ↦ rw w.1 (short_state c.args.profile c.args.state.now c.args.slots.now known w.0)
      | inr w ↦ rw w.1 (long_state c.args.profile c.args.state.now c.args.slots.now known (omega arith) w.0)
    ])

pub returns-in_err-misfit-2 : goal.returns-in_err-misfit-2
returns-in_err-misfit-2 c =
    let p = err_from_is_err_and c.from_residual-in_err-misfit-2.result c.from_residual-in_err-misfit-2.ensures.1 in
    let known = (profile_told c.args.profile _ (sym c.try_from.ensures ∙ c.in-Ok.is)).0 in
    rw (p.1, p.2) (elim c.in_err-misfit-2.ensures [
      | inl w ↦ rw w.1 (short_slots c.args.profile c.args.state.now c.args.slots.now known (omega arith) (omega arith) w.0)
      | inr w ↦ rw w.1 (long_slots c.args.profile c.args.state.now c.args.slots.now known (omega arith) (omega arith) (omega arith) w.0)
    ])

pub save-requires : goal.save-requires
save-requires c =
    record { state_len = as_size _ (omega arith); editor_fits = fresh_bytes _ _ _ c.fresh.ensures c.fresh_in-history.ensures.state }

pub returns : goal.returns
returns c =
    let known = profile_told c.args.profile _ (sym c.try_from.ensures ∙ c.in-Ok.is) in
    begin_ready c.args.profile c.args.state.now c.args.slots.now known.0 (omega arith) (omega arith) (omega arith) _ _ _ _ (omega arith) (c.fresh.ensures ∙ ap fresh_editor known.1) c.fresh_in-history.ensures c.save.ensures
