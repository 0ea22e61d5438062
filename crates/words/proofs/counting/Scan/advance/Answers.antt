-- `words::counting::Scan::advance` meets its contract.
use Rattle.words.proofs.OpenWords.{closed_least}
use native.Mathlib.Omega.{arith}
use Rattle.words.proofs.counting.Scan.advance.Goals as goal

pub overflow_add-result : goal.overflow_add-result
overflow_add-result c =
    let l = closed_least c.args.self.done c.args.self.word in omega (arith, c.requires.0, c.requires.1)
