-- `state::calls::press` meets its contract.
use Rattle.state.proofs.Savings.{read_good, read_size}
use Rattle.state.proofs.Answering.{key_other, key_refused, key_taken, key_fits}
use mathlib.Core.Path.{ap, ◌∙◌}
use Rattle.std.specs.Prelude.{not}
use Rattle.state.proofs.calls.press.Goals as goal

pub returns-in_default : goal.returns-in_default
returns-in_default c =
    key_other c.args.state.now c.args.slots.now c.args.prompt.now c.args.byte c.args.line.now c.args.screen.now c.in_default.ensures

pub key_tested-pressed-requires : goal.key_tested-pressed-requires
key_tested-pressed-requires c =
    read_good _ _ c.args.state.now c.args.slots.now c.in-Some.ensures

pub returns-else-is_ok : goal.returns-else-is_ok
returns-else-is_ok c =
    let so = c.is_ok.ensures.negation ∙ ap not c.if-is_ok.false in
    key_refused c.args.state.now c.args.slots.now c.args.prompt.now c.args.byte c.args.line.now c.args.screen.now _ _ c.in-Some.ensures _ _ _ _ c.key_tested-pressed.ensures so

pub save-requires : goal.save-requires
save-requires c =
    let fits = key_fits c.args.state.now c.args.slots.now c.args.prompt.now c.args.byte c.args.line.now c.args.screen.now _ _ c.in-Some.ensures _ _ _ _ c.key_tested-pressed.ensures in
    record { state_len = read_size _ _ c.args.state.now c.args.slots.now c.in-Some.ensures; editor_fits = fits }

pub returns-then-is_ok : goal.returns-then-is_ok
returns-then-is_ok c =
    let so = c.is_ok.ensures.negation ∙ ap not c.if-is_ok.true in
    key_taken c.args.state.now c.args.slots.now c.args.prompt.now c.args.byte c.args.line.now c.args.screen.now _ _ c.in-Some.ensures _ _ _ _ c.key_tested-pressed.ensures _ so c.save.ensures
