-- `state::calls::add` meets its contract.
use Rattle.state.proofs.Savings.{read_size}
use Rattle.state.proofs.Answering.{add_other, history_good, add_done, add_fits, add_refused}
use Rattle.state.proofs.calls.add.Goals as goal

pub returns-in_default : goal.returns-in_default
returns-in_default c =
    add_other c.args.state.now c.args.slots.now c.args.text.now c.in_default.ensures

pub add_tested-adding-requires : goal.add_tested-adding-requires
add_tested-adding-requires c =
    history_good _ _ c.args.state.now c.args.slots.now c.in-Some.ensures

pub save-requires : goal.save-requires
save-requires c =
    let fits = add_fits c.args.state.now c.args.slots.now c.args.text.now _ _ c.in-Some.ensures _ _ _ c.add_tested-adding.ensures in
    record { state_len = read_size _ _ c.args.state.now c.args.slots.now c.in-Some.ensures; editor_fits = fits }

pub returns-in-Ok : goal.returns-in-Ok
returns-in-Ok c =
    add_done c.args.state.now c.args.slots.now c.args.text.now _ _ c.in-Some.ensures _ _ _ c.add_tested-adding.ensures _ c.in-Ok.is c.save.ensures

pub returns-in_default-told : goal.returns-in_default-told
returns-in_default-told c =
    add_refused c.args.state.now c.args.slots.now c.args.text.now _ _ c.in-Some.ensures _ _ _ c.add_tested-adding.ensures c.in_default-told.not-Ok
