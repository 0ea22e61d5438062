-- The Rust's `tokenize` gives the words of a line.
use Rattle.std.proofs.Common.{◌≡◌, ℕ, ◌<◌, Bool, true, false, cond, not, eqb, List, [], ◌∷◌, ◌++◌, map, length, sym, refl, ap, ◌∙◌, append_assoc, append-nil, arith, length-append}
use Rattle.text.specs.Unicode.{encode, encode_all}
use Rattle.text.specs.Decoding.{codes_in}
use Rattle.text.specs.Space.{is_white_space}
use Rattle.text.specs.Apart.{unless_empty}
use Rattle.text.proofs.Pieces.{encode_some}
use Rattle.text.proofs.Prefix.{encode_append}
use Rattle.words.specs.Tokens.{backslash, quote, role_of, on_role, tokens_from, tokens, words_of}
use Rattle.words.specs.declared.role.Role.TheVariants.{Take, Escape, Toggle, Gap}
use Rattle.rust.specs.Parser.{closed, tokenize_from, tokenize}

-- a word that ends is pushed, unless it is empty
closed_some : (done : List (List ℕ)) (word : List ℕ) → 0 < length word → closed done word ≡ done ++ (word ∷ [])
unfolding closed
closed_some done [] h = absurd (omega arith)
closed_some done (b ∷ word) h = refl

closed_is : (done : List (List ℕ)) (word : List ℕ) → closed done (encode_all word) ≡ done ++ map encode_all (unless_empty word [])
unfolding closed encode_all
closed_is done [] = sym (append-nil done)
closed_is done (c ∷ word) =
    let h = encode_some c in
    let l = length-append (encode c) (encode_all word) in
    closed_some done (encode c ++ encode_all word) (omega arith)

ended_then : (word : List ℕ) (rest : List (List ℕ)) → map encode_all (unless_empty word rest) ≡ map encode_all (unless_empty word []) ++ map encode_all rest
ended_then [] rest = refl
ended_then (c ∷ word) rest = refl

taken : (word : List ℕ) (ch : ℕ) → encode_all word ++ encode ch ≡ encode_all (word ++ (ch ∷ []))
unfolding encode_all
taken word ch = sym (encode_append word (ch ∷ []) ∙ ap (λ (l : List ℕ). encode_all word ++ l) (append-nil (encode ch)))

-- the words still to come, pushed after those that are done
abbrev FromIs : List ℕ → Type 0
FromIs chars =
    (done : List (List ℕ)) (word : List ℕ) (quotes escape : Bool)
    → tokenize_from done (encode_all word) quotes escape chars ≡ done ++ map encode_all (tokens_from word quotes escape chars)

module _ (ch : ℕ) (chars : List ℕ) (more : FromIs chars) (done : List (List ℕ)) (word : List ℕ) where
  take_is : (quotes : Bool) → tokenize_from done (encode_all word ++ encode ch) quotes false chars ≡ done ++ map encode_all (tokens_from (word ++ (ch ∷ [])) quotes false chars)
  take_is quotes = ap (λ (l : List ℕ). tokenize_from done l quotes false chars) (taken word ch) ∙ more done (word ++ (ch ∷ [])) quotes false

  gap_is : (quotes : Bool) → tokenize_from (closed done (encode_all word)) [] quotes false chars ≡ done ++ map encode_all (unless_empty word (tokens_from [] quotes false chars))
  unfolding encode_all
  gap_is quotes =
      more (closed done (encode_all word)) [] quotes false
      ∙ ap (λ (l : List (List ℕ)). l ++ map encode_all (tokens_from [] quotes false chars)) (closed_is done word)
      ∙ append_assoc done (map encode_all (unless_empty word [])) (map encode_all (tokens_from [] quotes false chars))
      ∙ ap (λ (l : List (List ℕ)). done ++ l) (sym (ended_then word (tokens_from [] quotes false chars)))

  -- by the tests in the Rust's order: escape_next, `\`, `"`, white space outside of quotes
  char_is : (e b q quotes w : Bool)
      → cond e (tokenize_from done (encode_all word ++ encode ch) quotes false chars)
      (cond b (tokenize_from done (encode_all word) quotes true chars)
      (cond q (tokenize_from done (encode_all word) (not quotes) e chars)
      (cond (cond w (not quotes) false) (tokenize_from (closed done (encode_all word)) [] quotes e chars)
      (tokenize_from done (encode_all word ++ encode ch) quotes e chars))))
      ≡ done
      ++ map encode_all
      (on_role (cond e Take (cond b Escape (cond q Toggle (cond quotes Take (cond w Gap Take)))))
      (λ _. tokens_from (word ++ (ch ∷ [])) quotes false chars)
      (λ _. tokens_from word quotes true chars)
      (λ _. tokens_from word (not quotes) false chars)
      (λ _. unless_empty word (tokens_from [] quotes false chars)))
  char_is true b q quotes w = take_is quotes
  char_is false true q quotes w = more done word quotes true
  char_is false false true quotes w = more done word (not quotes) false
  char_is false false false true true = take_is true
  char_is false false false true false = take_is true
  char_is false false false false true = gap_is false
  char_is false false false false false = take_is false

from_is : (chars : List ℕ) → FromIs chars
unfolding tokenize_from tokens_from role_of
from_is [] done word quotes escape = closed_is done word
from_is (ch ∷ chars) done word quotes escape =
    char_is ch chars (from_is chars) done word escape (eqb ch backslash) (eqb ch quote) quotes (is_white_space ch)

pub tokenize_is : (line : List ℕ) → tokenize line ≡ words_of line
unfolding tokenize words_of tokens encode_all
tokenize_is line = from_is (codes_in line) [] [] false false
