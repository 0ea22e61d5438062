-- `image::head::node_head` meets its contract: the frame that its lengths say is there, or runs past the end.
use Rattle.image.proofs.Heads.{node_cut, node_whole}
use Rattle.image.proofs.head.node_head.Goals as goal

pub returns-then-s-texts : goal.returns-then-s-texts
returns-then-s-texts c =
    node_cut c.args.s.now _ c.node_lengths-texts.ensures c.if-s-texts.true

pub returns : goal.returns
returns c =
    node_whole c.args.s.now _ c.node_lengths-texts.ensures _ _ _ c.if-s-texts.false c.byte_at.ensures.byte c.byte_at-2.ensures.byte c.byte_at-3.ensures.byte
