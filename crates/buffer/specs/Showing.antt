-- What showing a text answers and leaves: the text at the front, or the length needed and nothing written (STANDARD 9 of 10.1, for a text).
use Rattle.std.specs.Prelude.{ℕ, ◌≡◌, cond, List, ltb, length, Ok, Err, Result}
use denote.Ref.{MutBor}
use denote.Param.Members.{Shared}
use Rattle.buffer.specs.Inks.{Inked}
use Rattle.buffer.specs.Write.{over_if_fits}
use Rattle.buffer.specs.declared.show.TooShort.{TooShort}

unfoldable pub show_answer : List ℕ → ℕ → Result ℕ TooShort
show_answer text room = cond (ltb room (length text)) (Err (record { needed = length text })) (Ok (length text))

pub record Showing (text out : List ℕ) (r : Result ℕ TooShort) (left : List ℕ) : Type 0 where
  pub answer : r ≡ show_answer text (length out)
  pub bytes : left ≡ over_if_fits text out

-- a function puts a text: at the front of any buffer, as far as there is room
abbrev pub Puts : {F : Type 0} → Shared F (MutBor (List ℕ) × Unit {0}) (ℕ × (MutBor (List ℕ) × Unit {0})) → F → List ℕ → Type 0
Puts g put text = (lent left : MutBor (List ℕ)) (r : ℕ) → g.post put (lent, tt) (r, (left, tt)) → Inked text lent.now 0 r left.now

-- the refusal's number (STANDARD 10.1; 0: none), and the value that goes with it
abbrev pub number : Result ℕ TooShort → ℕ
number (Ok n) = 0
number (Err refusal) = 9

abbrev pub value : Result ℕ TooShort → ℕ
value (Ok n) = n
value (Err refusal) = refusal.needed
