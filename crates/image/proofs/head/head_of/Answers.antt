-- `image::head::head_of` meets its contract: the kind decides.
use Rattle.image.proofs.Heads.{head_end, head_node, head_option, head_flag, head_bad}
use mathlib.Core.Path.{◌∙◌}
use Rattle.image.proofs.head.head_of.Goals as goal

pub returns-then-s-eq0 : goal.returns-then-s-eq0
returns-then-s-eq0 c = head_end c.args.s.now c.if-s-eq0.true

pub returns-in-1 : goal.returns-in-1
returns-in-1 c =
    c.node_head.ensures ∙ head_node c.args.s.now c.if-s-eq0.false c.in-1.is

pub returns-in-2 : goal.returns-in-2
returns-in-2 c =
    c.option_head.ensures ∙ head_option c.args.s.now c.if-s-eq0.false c.in-2.is

pub returns-in-3 : goal.returns-in-3
returns-in-3 c =
    c.flag_head.ensures ∙ head_flag c.args.s.now c.if-s-eq0.false c.in-3.is

pub returns-in_default : goal.returns-in_default
returns-in_default c =
    head_bad c.args.s.now c.if-s-eq0.false c.in_default.in_default-own.rest.0.0.1 c.in_default.in_default-own.rest.0.1 c.in_default.in_default-own.rest.1
