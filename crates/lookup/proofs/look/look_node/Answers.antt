-- `lookup::look::look_node` meets its contract: what is sought decides, then depth and name.
use Rattle.lookup.proofs.Looks.{node_ends, node_other, node_named, node_upper}
use Rattle.image.specs.Reading.{node_in}
use Rattle.lookup.proofs.look.look_node.Goals as goal

pub returns-then-depth-d : goal.returns-then-depth-d
unfolding node_in
returns-then-depth-d c = λ h. node_other _ _ _ _ h _ _ _ _ c.in-Node.is c.if-depth-d.true

pub returns-else-depth-d : goal.returns-else-depth-d
unfolding node_in
returns-else-depth-d c =
    λ h. node_named _ _ _ _ h _ _ _ _ _ _ _ c.in-Node.is c.if-depth-d.false c.hit_or_pass.ensures c.same.ensures c.part.ensures

pub returns-in-Upper : goal.returns-in-Upper
unfolding node_in
returns-in-Upper c = λ h. node_upper _ _ _ _ h _ _ _ _ _ c.in-Upper.is c.hit_or_pass-in-Upper.ensures

pub returns-in-OptionKeyed : goal.returns-in-OptionKeyed
unfolding node_in
returns-in-OptionKeyed c = λ h. node_ends _ _ _ _ h _ _ _ c.in-OptionKeyed.is
