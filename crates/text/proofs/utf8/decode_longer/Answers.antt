-- `text::utf8::decode_longer` meets its contract.
use Rattle.text.proofs.TableRows.{decode_at}
use mathlib.Core.Path.{◌∙◌}
use Rattle.text.proofs.utf8.decode_longer.Goals as goal

pub returns : goal.returns
returns c =
    c.longer.ensures ∙ cc (decode_at c.args.s.now c.args.at c.requires.0)
