-- `image::head::option_head` meets its contract: the frame that its lengths say is there, or runs past the end.
use Rattle.image.proofs.Heads.{option_cut, option_whole}
use Rattle.image.proofs.head.option_head.Goals as goal

pub returns-then-s-texts : goal.returns-then-s-texts
returns-then-s-texts c =
    option_cut c.args.s.now _ c.definition_lengths-texts.ensures c.if-s-texts.true

pub returns : goal.returns
returns c =
    option_whole c.args.s.now _ c.definition_lengths-texts.ensures _ _ c.if-s-texts.false c.byte_at.ensures.byte c.byte_at-2.ensures.byte
