-- `session::printing::print_prompt` meets its contract: the constant is the prompt after its kind.
use Rattle.session.specs.Prints.{prompt}
use Rattle.buffer.specs.Ascii.{ascii}
use Rattle.session.proofs.printing.print_prompt.Goals as goal

pub returns : goal.returns
unfolding prompt ascii
returns c = c.print_screen.ensures
