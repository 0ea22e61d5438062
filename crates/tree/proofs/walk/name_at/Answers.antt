-- `tree::walk::name_at` meets its contract: the rest of the image, its first byte, and as many bytes after that.
use Rattle.tree.proofs.Walks.{name_lent}
use Rattle.tree.proofs.walk.name_at.Goals as goal

pub returns : goal.returns
returns c =
    name_lent c.args.image.now _ _ c.args.place _ c.rest-tail.ensures c.byte_at.ensures.byte c.part.ensures
