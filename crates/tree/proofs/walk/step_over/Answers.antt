-- `tree::walk::step_over` meets its contract: what `frame_at` answers tells the frame at the front.
use Rattle.tree.proofs.PassedFrames.{frame_told, node_least, node_depth, by_node, by_option, by_flag, by_nothing}
use native.Mathlib.Omega.{arith}
use mathlib.Core.Path.{refl, sym, ◌∙◌}
use Rattle.tree.proofs.walk.step_over.Goals as goal

pub node_step-requires : goal.node_step-requires
node_step-requires c =
    let e = sym c.in-Node.is ∙ c.frame_at.ensures in
    let told = frame_told c.args.next.now _ _ _ e refl in
    (node_depth c.args.next.now _ _ _ e, c.requires.0, omega (arith, node_least c.args.next.now _ _ _ e), omega (arith, told.fits, c.requires.1))

pub option_step-requires : goal.option_step-requires
option_step-requires c =
    let told = frame_told c.args.next.now _ _ _ (sym c.in-Option.is ∙ c.frame_at.ensures) refl in
    (c.requires.0, omega (arith, told.fits, c.requires.1))

pub flag_step-requires : goal.flag_step-requires
flag_step-requires c =
    let told = frame_told c.args.next.now _ _ _ (sym c.in-Flag.is ∙ c.frame_at.ensures) refl in
    (c.requires.0, omega (arith, told.fits, c.requires.1))

pub returns-in-Node : goal.returns-in-Node
returns-in-Node c =
    by_node _ _ c.args.next.now _ _ _ _ (sym c.in-Node.is ∙ c.frame_at.ensures) _ c.part.ensures c.node_step.ensures

pub returns-in-Option : goal.returns-in-Option
returns-in-Option c =
    by_option _ _ c.args.next.now _ _ _ _ (sym c.in-Option.is ∙ c.frame_at.ensures) (c.option_step.ensures _ _ _)

pub returns-in-Flag : goal.returns-in-Flag
returns-in-Flag c =
    by_flag _ _ c.args.next.now _ _ _ (sym c.in-Flag.is ∙ c.frame_at.ensures) (c.flag_step.ensures _ _)

pub returns-in_default : goal.returns-in_default
returns-in_default c =
    by_nothing _ _ c.args.next.now _ _ c.frame_at.ensures c.in_default.in_default-own.keys4 refl
