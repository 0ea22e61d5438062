-- What only contracts of inner functions cite: the lines on a node as the code reads it, and what a reply answers and leaves by itself.
use Rattle.std.specs.Prelude.{ℕ, ◌+◌, List, take, drop, length, ◌≡◌, Result}
use Rattle.image.specs.Reading.{perhaps_in}
use Rattle.image.specs.declared.head.Lengths.{Lengths}
use Rattle.help.specs.Texts.{about}
use Rattle.help.specs.declared.call.HelpRefusal.{HelpRefusal}
use Rattle.help.specs.Answer.{Reply, bytes_of, answer_by, leaves_by}

-- the lines on a node whose texts stand in s
unfoldable pub about_in : List (List ℕ) → List ℕ → Lengths → List ℕ
about_in words s texts =
    about words (take texts.description (drop (6 + texts.name) s)) (perhaps_in texts.other (drop (6 + texts.name + texts.description + 1) s))

-- what a reply answers and leaves by itself
pub record Replied (reply : Reply) (out : List ℕ) (r : Result ℕ HelpRefusal) (left : List ℕ) : Type 0 where
  pub answer : r ≡ answer_by reply (length out)
  pub bytes : left ≡ leaves_by (answer_by reply (length out)) (bytes_of reply) out
