-- `lookup::look::look_first` meets its contract: the head tells the frame at the front.
use Rattle.lookup.proofs.Looks.{looked, looked_none, flag_passed_in}
use Rattle.image.proofs.HeadBytes.{view, definition_small}
use Rattle.buffer.specs.Numbers.{Bytes}
use mathlib.Core.Path.{refl, sym, ◌∙◌}
use Rattle.lookup.proofs.look.look_first.Goals as goal

pub look_option-requires : goal.look_option-requires
unfolding Bytes
look_option-requires c =
    let e = sym c.in-Option.ensures in
    definition_small 3 c.args.s.now _ (λ i. (c.shared_slice_known-1.given i).fits) (view _ _ e).texts

pub returns-in-Node : goal.returns-in-Node
returns-in-Node c =
    looked _ _ c.args.s.now _ _ _ _ (sym c.in-Node.is ∙ c.head_of.ensures) refl (c.look_node.ensures _)

pub returns-in-Option : goal.returns-in-Option
returns-in-Option c =
    looked _ _ c.args.s.now _ _ _ _ (sym c.in-Option.is ∙ c.head_of.ensures) refl (c.look_option.ensures _ _)

pub returns-in-Flag : goal.returns-in-Flag
returns-in-Flag c =
    looked _ _ c.args.s.now _ _ _ _ (sym c.in-Flag.is ∙ c.head_of.ensures) refl (flag_passed_in c.args.sought c.args.key.now _ c.args.s.now _ _)

pub returns-in_default : goal.returns-in_default
returns-in_default c =
    looked_none _ _ c.args.s.now _ c.head_of.ensures c.in_default.in_default-own.keys4
