-- `size` of `OptionFrame` meets its contract: a byte for the kind, and two long texts.
use Rattle.report.specs.Pairs.{length_option}
use Rattle.frame.proofs.Texts.{length_text_of}
use native.Mathlib.Omega.{arith}
use Rattle.report.proofs.pairs.OptionFramePairFrame.size.Goals as goal

pub overflow_add-result : goal.overflow_add-result
overflow_add-result c =
    omega (arith, c.long_text_size.ensures, length_text_of 2 c.args.key.now, c.requires)

pub overflow_add-result-2 : goal.overflow_add-result-2
overflow_add-result-2 c =
    omega (arith, c.long_text_size.ensures, c.long_text_size-2.ensures, length_text_of 2 c.args.key.now, length_text_of 2 c.args.value.now, c.requires)

pub returns : goal.returns
returns c =
    omega (arith, c.long_text_size.ensures, c.long_text_size-2.ensures, length_option c.args.key.now c.args.value.now)
