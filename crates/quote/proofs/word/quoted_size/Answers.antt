-- `quote::word::quoted_size` meets its contract: the word, its quotes and its `\`.
use Rattle.quote.proofs.Showing.{quoted_length}
use native.Mathlib.Omega.{arith}
use Rattle.quote.proofs.word.quoted_size.Goals as goal

pub escapes-requires : goal.escapes-requires
escapes-requires c = c.requires.word_value.0

pub returns : goal.returns
returns c =
    let q = quoted_length c.args.word.now c.requires.word_value.0 c.requires.word_value.1 in omega (arith, q, c.escapes.ensures.0)
