-- `words::tokenizer::tokenize` meets its contract.
use Rattle.words.proofs.Answers.{too_long}
use native.Mathlib.Omega.{arith}
use Rattle.words.proofs.tokenizer.tokenize.Goals as goal

pub returns-then-line-gt-LINE_LIMIT : goal.returns-then-line-gt-LINE_LIMIT
returns-then-line-gt-LINE_LIMIT c = too_long _ _ _ c.if-line-gt-LINE_LIMIT.true (omega (arith, c.told_length.ensures))
