-- `state::saving::save` meets its contract.
use Rattle.state.proofs.Savings.{editor_room, history_room, save_written}
use Rattle.state.proofs.saving.save.Goals as goal

pub save-at-requires : goal.save-at-requires
save-at-requires c =
    (c.requires.editor_fits.0, editor_room c.args.state.now c.requires.state_len)

pub save-requires : goal.save-requires
save-requires c =
    (c.requires.editor_fits.1, history_room c.args.editor c.args.state.now _ _ c.requires.state_len c.well_formed.0.1.1.0.1.0.1 c.save-at.ensures)

pub returns : goal.returns
returns c =
    save_written c.args.editor c.args.history c.args.state.now _ _ _ _ c.requires.state_len c.well_formed.0.1.1.0.1.0.1 c.save-at.ensures c.save.ensures
