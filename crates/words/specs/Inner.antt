-- What only contracts of inner functions cite: how the code goes through a line, twice by the same steps: what a step does to its numbers, and to the buffer.
use Rattle.std.specs.Prelude.{ℕ, zero, suc, ◌+◌, ◌-◌, ◌≤◌, ◌<◌, ◌≡◌, Bool, true, false, cond, not, List, [], ◌∷◌, ◌++◌, length, take, drop, Result, Ok, Err}
use Rattle.buffer.specs.Write.{over_at}
use Rattle.buffer.specs.Numbers.{number_bytes}
use Rattle.text.specs.Decoding.{codes_in, well_formed_length, is_ill_formed}
use Rattle.words.specs.Answer.{written}
use Rattle.words.specs.declared.role.Role.{Role}
use Rattle.words.specs.declared.role.Role.TheVariants.{Take, Escape, Toggle, Gap}
use Rattle.words.specs.declared.counting.Scan.{Scan}
use Rattle.words.specs.declared.step.Step.{Step}
use Rattle.text.specs.Unicode.{encode_all}
use Rattle.text.specs.Apart.{unless_empty}
use Rattle.words.specs.Tokens.{role_of, tokens_from}

-- the words still to come after characters that do what the role says
abbrev pub done_by : Role → Bool → List ℕ → List ℕ → List ℕ → List (List ℕ)
done_by Take quotes word run rest = tokens_from (word ++ run) quotes false rest
done_by Escape quotes word run rest = tokens_from word quotes true rest
done_by Toggle quotes word run rest = tokens_from word (not quotes) false rest
done_by Gap quotes word run rest = unless_empty word (tokens_from [] quotes false rest)

-- the first characters that are taken, whatever stood before them
abbrev pub is_take : Role → Bool
is_take Take = true
is_take Escape = false
is_take Toggle = false
is_take Gap = false

unfoldable pub run_first : Bool → List ℕ → List ℕ
run_first quotes [] = []
run_first quotes (code ∷ codes) = cond (is_take (role_of quotes false code)) (code ∷ run_first quotes codes) []

-- how many bytes the frames take once the open word has ended
unfoldable pub closed_at : ℕ → ℕ → ℕ
closed_at done zero = done
closed_at done (suc more) = done + 3 + suc more

abbrev pub closed_by : Scan → ℕ
closed_by s = closed_at s.done s.word

-- the numbers after a character of n bytes
abbrev pub advanced : Scan → Role → ℕ → Scan
advanced s Take n = record { at = s.at + n; done = s.done; word = s.word + n; quotes = s.quotes; escaped = false }
advanced s Escape n = record { at = s.at + n; done = s.done; word = s.word; quotes = s.quotes; escaped = true }
advanced s Toggle n = record { at = s.at + n; done = s.done; word = s.word; quotes = not s.quotes; escaped = false }
advanced s Gap n = record { at = s.at + n; done = closed_at s.done s.word; word = 0; quotes = s.quotes; escaped = false }

-- what a step reads: characters that fill n bytes, and together do what the role says
pub record Reading (line : List ℕ) (s : Scan) (role : Role) (n : ℕ) : Type 0 where
  pub run : List ℕ
  pub some : 0 < n
  pub fits : s.at + n ≤ length line
  pub prefix : s.at + n + well_formed_length (drop (s.at + n) line) ≡ s.at + well_formed_length (drop s.at line)
  pub codes : codes_in (drop s.at line) ≡ run ++ codes_in (drop (s.at + n) line)
  pub bytes : take n (drop s.at line) ≡ encode_all run
  pub does : (word rest : List ℕ) → tokens_from word s.quotes s.escaped (run ++ rest) ≡ done_by role s.quotes word run rest

-- a step reads characters, or stands where the line is ill-formed
abbrev pub StepOf : List ℕ → Scan → Result Step ℕ → Type 0
StepOf line s (Ok step) = Reading line s step.role step.length
StepOf line s (Err place) = (place ≡ s.at) × (codes_in (drop s.at line) ≡ [])

-- a run: the characters from a place to another that are all taken, whatever stood before them, up to one that is not
pub record Run (line : List ℕ) (start : ℕ) (quotes : Bool) (at : ℕ) : Type 0 where
  pub run : List ℕ
  pub onward : start ≤ at
  pub fits : at ≤ length line
  pub prefix : at + well_formed_length (drop at line) ≡ start + well_formed_length (drop start line)
  pub codes : codes_in (drop start line) ≡ run ++ codes_in (drop at line)
  pub bytes : take (at - start) (drop start line) ≡ encode_all run
  pub taken : run_first quotes run ≡ run

pub record WholeRun (line : List ℕ) (start : ℕ) (quotes : Bool) (at : ℕ) : Type 0 where
  pub reached : Run line start quotes at
  pub stops : run_first quotes (codes_in (drop at line)) ≡ []

-- the head of a word's frame, once the word has ended
unfoldable pub headed : ℕ → ℕ → List ℕ → List ℕ
headed done zero out = out
headed done (suc more) out = over_at (0x14 ∷ number_bytes 2 (suc more)) out done

-- the buffer after a character of n bytes: a word's bytes leave room for its head
abbrev pub put_by : List ℕ → Scan → Role → ℕ → List ℕ → List ℕ
put_by line s Take n out = over_at (take n (drop s.at line)) out (s.done + 3 + s.word)
put_by line s Escape n out = out
put_by line s Toggle n out = out
put_by line s Gap n out = headed s.done s.word out

-- what measuring a line finds: the length of its frames, or where it is ill-formed
unfoldable pub measured : List ℕ → Result ℕ ℕ
measured line = cond (is_ill_formed line) (Err (well_formed_length line)) (Ok (length (written line)))
