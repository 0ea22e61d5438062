-- What `tokenize` answers and leaves (STANDARD 10: 2, 3, 9, in that order).
use Rattle.std.specs.Prelude.{ℕ, min, ◌≡◌, cond, List, ltb, length, Ok, Err, Result}
use Rattle.frame.specs.Limits.{line_limit, value_limit}
use Rattle.buffer.specs.Write.{over}
use Rattle.text.specs.Decoding.{well_formed_length, is_ill_formed}
use Rattle.words.specs.Tokens.{words_of, word_frames}
use Rattle.words.specs.declared.tokenizer.TokenizeRefusal.{TokenizeRefusal}
use Rattle.words.specs.declared.tokenizer.TokenizeRefusal.TheVariants.{LineTooLong, IllFormed, NoRoom}

-- the frames of a line's words: what `tokenize` writes (5.5)
unfoldable pub written : List ℕ → List ℕ
written line = word_frames (words_of line)

-- the answer for a line and a buffer of `room` bytes (10.8)
unfoldable pub answer_for : List ℕ → ℕ → Result ℕ TokenizeRefusal
answer_for line room =
    cond (ltb line_limit (length line)) (Err (LineTooLong (min (length line) value_limit)))
    (cond (is_ill_formed line) (Err (IllFormed (well_formed_length line)))
    (cond (ltb room (length (written line))) (Err (NoRoom (length (written line))))
    (Ok (length (written line)))))

-- a refusal writes nothing; words stand in the first bytes, and the rest stays
abbrev pub leaves_by : Result ℕ TokenizeRefusal → List ℕ → List ℕ → List ℕ
leaves_by (Ok n) frames out = over frames out
leaves_by (Err (LineTooLong n)) frames out = out
leaves_by (Err (IllFormed n)) frames out = out
leaves_by (Err (NoRoom n)) frames out = out

-- (10.8)
unfoldable pub leaves_for : List ℕ → List ℕ → List ℕ
leaves_for line out = leaves_by (answer_for line (length out)) (written line) out

pub record Tokenized (line out : List ℕ) (r : Result ℕ TokenizeRefusal) (left : List ℕ) : Type 0 where
  pub answer : r ≡ answer_for line (length out)
  pub bytes : left ≡ leaves_for line out

-- the refusal's number (STANDARD 10.1; 0: none), and the value that goes with it
abbrev pub number : Result ℕ TokenizeRefusal → ℕ
number (Ok n) = 0
number (Err (LineTooLong n)) = 2
number (Err (IllFormed n)) = 3
number (Err (NoRoom n)) = 9

abbrev pub value : Result ℕ TokenizeRefusal → ℕ
value (Ok n) = n
value (Err (LineTooLong n)) = n
value (Err (IllFormed n)) = n
value (Err (NoRoom n)) = n
