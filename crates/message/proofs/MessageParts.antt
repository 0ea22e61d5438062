-- A message that names a text is known by what is told.
use Prim.Native.Nat.{ℕ}
use mathlib.Core.Path.{◌≡◌}
use mathlib.Core.List.{List, ◌++◌}
use Rattle.message.specs.Messages.{before, after, message}
use Rattle.message.specs.declared.error.ParseError.{ParseError}

pub message_is : (told known : ParseError) (text : List ℕ) → told ≡ known → before known ++ text ++ after known ≡ message told text
unfolding message
message_is told known text e = rw e
