-- What `quote` answers and leaves (STANDARD 10: 10, 2, 9, in that order).
use Rattle.std.specs.Prelude.{ℕ, min, ◌≡◌, cond, List, [], map, ltb, length, Ok, Err, Result}
use Rattle.frame.specs.Limits.{line_limit, value_limit}
use Rattle.buffer.specs.Write.{over}
use Rattle.quote.specs.Given.{listed, judge_words, on_judged}
use Rattle.quote.specs.Shown.{shown}
use Rattle.quote.specs.Joined.{joined}
use Rattle.quote.specs.declared.quoter.QuoteRefusal.{QuoteRefusal}
use Rattle.quote.specs.declared.quoter.QuoteRefusal.TheVariants.{BadWord, LineTooLong, NoRoom}

-- the line that gives words back (5.6, 5.11)
unfoldable pub quote_line : List (List ℕ) → List ℕ
quote_line words = joined (map shown words)

-- the answer for a line of n bytes and a buffer of `room` bytes (10.9)
unfoldable pub line_answer : ℕ → ℕ → Result ℕ QuoteRefusal
line_answer n room =
    cond (ltb line_limit n) (Err (LineTooLong (min n value_limit)))
    (cond (ltb room n) (Err (NoRoom n))
    (Ok n))

-- the answer for words that come as frames (10.9)
unfoldable pub quote_answer : List ℕ → ℕ → Result ℕ QuoteRefusal
quote_answer words room = on_judged (judge_words (listed words)) (λ n. Err (BadWord n)) (λ ws. line_answer (length (quote_line ws)) room)

-- the line of words that come as frames; where one is bad there is none
unfoldable pub line_of : List ℕ → List ℕ
line_of words = on_judged (judge_words (listed words)) (λ n. []) quote_line

-- a refusal writes nothing; the line stands in the first bytes, and the rest stays
abbrev pub leaves_by : Result ℕ QuoteRefusal → List ℕ → List ℕ → List ℕ
leaves_by (Ok n) line out = over line out
leaves_by (Err (BadWord n)) line out = out
leaves_by (Err (LineTooLong n)) line out = out
leaves_by (Err (NoRoom n)) line out = out

unfoldable pub quote_leaves : List ℕ → List ℕ → List ℕ
quote_leaves words out = leaves_by (quote_answer words (length out)) (line_of words) out

pub record Quotation (words out : List ℕ) (r : Result ℕ QuoteRefusal) (left : List ℕ) : Type 0 where
  pub answer : r ≡ quote_answer words (length out)
  pub bytes : left ≡ quote_leaves words out

-- the refusal's number (STANDARD 10.1; 0: none), and the value that goes with it
abbrev pub number : Result ℕ QuoteRefusal → ℕ
number (Ok n) = 0
number (Err (BadWord n)) = 10
number (Err (LineTooLong n)) = 2
number (Err (NoRoom n)) = 9

abbrev pub value : Result ℕ QuoteRefusal → ℕ
value (Ok n) = n
value (Err (BadWord n)) = n
value (Err (LineTooLong n)) = n
value (Err (NoRoom n)) = n
