-- `taking::take_whole` meets its contract.
use Rattle.stream.proofs.Takings.{tree_made, keys_few, keys_ready, keys_made, bad_made, line_never}
use native.Mathlib.Omega.{arith}
use mathlib.Core.Path.{sym, ap, ◌∙◌}
use lib.ListN.{drop}
use Rattle.stream.proofs.taking.take_whole.Goals as goal

pub press_keys-requires : goal.press_keys-requires
press_keys-requires c =
    let d = c.rest-keys.ensures ∙ ap (drop 1) c.part.ensures in
    record { ready = keys_ready c.args.session c.args.line.now c.args.image.now c.args.slots.now c.requires.ready c.requires.lines_lt_last_line.0 c.args.out.now c.args.at _ _ (sym c.blank_frame-frame.ensures) _ _ _ c.read_whole-took.ensures _ c.in-Keys.is _ d; keys_len_bound = (keys_few c.args.session c.args.line.now c.args.image.now c.args.slots.now c.requires.ready c.requires.lines_lt_last_line.0 c.args.out.now c.args.at _ _ (sym c.blank_frame-frame.ensures) _ _ _ c.read_whole-took.ensures _ c.in-Keys.is _ d, omega arith) }

pub returns-in-Tree : goal.returns-in-Tree
returns-in-Tree c =
    tree_made c.args.session c.args.line.now c.args.image.now c.args.slots.now c.requires.ready c.requires.lines_lt_last_line.0 c.args.out.now c.args.at _ _ (sym c.blank_frame-frame.ensures) _ _ _ c.read_whole-took.ensures c.in-Tree.is _ c.settled.ensures

pub returns-in-Keys : goal.returns-in-Keys
returns-in-Keys c =
    keys_made c.args.session c.args.line.now c.args.image.now c.args.slots.now c.requires.ready c.requires.lines_lt_last_line.0 c.args.out.now c.args.at _ _ (sym c.blank_frame-frame.ensures) _ _ _ c.read_whole-took.ensures _ c.in-Keys.is _ (c.rest-keys.ensures ∙ ap (drop 1) c.part.ensures) _ _ _ _ c.press_keys.ensures

pub returns-in-BadLine : goal.returns-in-BadLine
returns-in-BadLine c =
    bad_made c.args.session c.args.line.now c.args.image.now c.args.slots.now c.requires.ready c.requires.lines_lt_last_line.0 c.args.out.now c.args.at _ _ (sym c.blank_frame-frame.ensures) _ _ _ c.read_whole-took.ensures _ c.in-BadLine.is _ _ c.refuse_at.ensures

pub returns-in_default : goal.returns-in_default
returns-in_default c =
    absurd (line_never c.args.session c.args.line.now c.args.image.now c.args.slots.now c.requires.ready c.requires.lines_lt_last_line.0 c.args.out.now c.args.at _ _ (sym c.blank_frame-frame.ensures) _ _ _ c.read_whole-took.ensures c.in_default.in_default-own.keys4)
