-- `table::Table::has` meets its contract: `any` over the entries that count.
use Rattle.std.proofs.Common.{rules, tests, ◌∙◌, take}
use Rattle.std.proofs.lemmas.Iterator.{YieldsList-from_slice}
use Rattle.std.proofs.lemmas.Iterator.Search.{any_from_yields_List}
use Rattle.buffer.specs.Compare.{same_bytes}
use Rattle.table.specs.Inner.{key_of}
use Rattle.table.proofs.TableMaps.{has_some}
use Rattle.table.proofs.sorted.Table.has.Goals as goal

pub returns : goal.returns
returns c =
    any_from_yields_List (λ e. same_bytes c.args.wanted.now (key_of c.args.words.now c.args.image.now e)) _ _ _ c.any.ensures.ran
    (YieldsList-from_slice (take c.size-n.result c.args.self.at) cc) (λ x b q k. search (rules, tests))
    ∙ has_some c.args.words.now c.args.image.now c.args.self c.args.wanted.now c.size-n.result c.size-n.ensures.0
