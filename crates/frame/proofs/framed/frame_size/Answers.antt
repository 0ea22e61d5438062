-- `frame::frame_size` meets its contract: one byte for the kind and then a long text, whatever the kind is.
use Rattle.frame.proofs.Frames.{length_frame_of}
use Rattle.frame.proofs.Texts.{length_text_of}
use native.Mathlib.Omega.{arith}
use Rattle.frame.proofs.framed.frame_size.Goals as goal

pub overflow_add-result : goal.overflow_add-result
overflow_add-result c = omega (arith, length_text_of 2 c.args.t.now)

pub returns : goal.returns
returns c =
    λ kind. omega (arith, c.long_text_size.ensures, length_text_of 2 c.args.t.now, length_frame_of kind c.args.t.now)
