-- `state::calls::forget` meets its contract.
use Rattle.state.proofs.Answering.{history_good, forget_other, forget_done, forget_fits, forget_refused}
use Rattle.state.proofs.Savings.{read_size}
use Rattle.state.proofs.calls.forget.Goals as goal

pub returns-in_default : goal.returns-in_default
returns-in_default c =
    forget_other c.args.state.now c.args.slots.now c.args.k c.in_default.ensures

pub forget_tested-forgetting-requires : goal.forget_tested-forgetting-requires
forget_tested-forgetting-requires c =
    history_good _ _ c.args.state.now c.args.slots.now c.in-Some.ensures

pub save-requires : goal.save-requires
save-requires c =
    record { state_len = read_size _ _ c.args.state.now c.args.slots.now c.in-Some.ensures; editor_fits = forget_fits c.args.state.now c.args.slots.now c.args.k _ _ c.in-Some.ensures _ _ _ c.forget_tested-forgetting.ensures }

pub returns-in-Ok : goal.returns-in-Ok
returns-in-Ok c =
    forget_done c.args.state.now c.args.slots.now c.args.k _ _ c.in-Some.ensures _ _ _ c.forget_tested-forgetting.ensures _ _ c.in-Ok.is c.save.ensures

pub returns-in_default-told : goal.returns-in_default-told
returns-in_default-told c =
    forget_refused c.args.state.now c.args.slots.now c.args.k _ _ c.in-Some.ensures _ _ _ c.forget_tested-forgetting.ensures c.in_default-told.not-Ok
