-- `trees::base_tree` meets its contract: the bytes are computed from the frames.
use Rattle.buffer.specs.Ascii.{ascii}
use Rattle.trees.specs.Commands.{command, marked, base_tree}
use Rattle.tree.specs.Images.{flat}
use Rattle.image.specs.Frames.{text, perhaps, encode_frame}
use Rattle.buffer.specs.Numbers.{number_bytes}
use Rattle.frame.specs.Text.{text_of}
use mathlib.Core.Path.{refl}
use Rattle.trees.proofs.base_tree.Goals as goal

pub returns : goal.returns
unfolding ascii command marked base_tree number_bytes text_of text perhaps encode_frame flat
returns c = refl
