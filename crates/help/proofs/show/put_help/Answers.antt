-- `help::show::put_help` meets its contract: the node's own lines, then its lists.
use Rattle.help.proofs.NodeHelp.{help_node, help_none, depth_told, drop_most}
use Rattle.buffer.proofs.Inking.{inked_nothing, inked_both, inked_as}
use Rattle.image.proofs.HeadBytes.{view, node_small}
use Rattle.buffer.specs.Numbers.{Bytes}
use native.Mathlib.Omega.{arith}
use mathlib.Core.Path.{sym, ◌∙◌}
use borrow.Enum.Refused.{opened}
use Rattle.help.proofs.show.put_help.Goals as goal

pub returns-in_default : goal.returns-in_default
returns-in_default c =
    inked_nothing _ _ _ (help_none _ c.args.frames.now _ c.head_of.ensures (opened c.in_default.in_default-own.keys2))

pub put_about-at-requires : goal.put_about-at-requires
unfolding Bytes
put_about-at-requires c =
    (node_small c.args.frames.now _ (λ i. (c.shared_slice_known-1.given i).fits) (view _ _ (sym c.in-Node.ensures)).texts, c.requires.1)

pub put_lists-requires : goal.put_lists-requires
unfolding Bytes
put_lists-requires c =
    let l = drop_most c.in-Node.texts.size _ c.args.frames.now c.rest.ensures in (omega arith, c.put_about-at.ensures.1, depth_told c.args.frames.now _ _ _ (λ i. (c.shared_slice_known-1.given i).fits) (sym c.in-Node.ensures))

pub returns : goal.returns
returns c =
    inked_as _ _ _ _ _ _ (help_node _ c.args.frames.now _ _ _ (sym c.in-Node.is ∙ c.head_of.ensures)) (inked_both _ _ _ _ _ _ _ _ c.put_about-at.ensures.0 (rw c.rest.ensures at c.put_lists.ensures))
