-- What tokenizing never does: it gives no empty word, and no word that is ill-formed.
use Prim.Native.Nat.{ℕ, ◌<◌}
use mathlib.Core.Path.{refl}
use mathlib.Core.Bool.{Bool, true, false, not}
use mathlib.Core.List.{List, [], ◌∷◌, ◌++◌, map}
use native.Mathlib.Omega.{arith}
use lib.ListN.{length, length-append}
use Rattle.text.specs.Unicode.{Scalar, Scalars, none, more, encode, encode_all, WellFormed}
use Rattle.text.specs.Decoding.{codes_in}
use Rattle.text.specs.Apart.{unless_empty}
use Rattle.text.proofs.Pieces.{encode_some}
use Rattle.text.proofs.Prefix.{codes_scalars}
use Rattle.words.specs.declared.role.Role.{Role}
use Rattle.words.specs.declared.role.Role.TheVariants.{Take, Escape, Toggle, Gap}
use Rattle.words.specs.Tokens.{role_of, on_role, tokens_from, tokens, words_of}

-- a property of every word of a list
pub data Each (P : List ℕ → Type 0) : List (List ℕ) → Type 0 where
  nothing : Each P []
  also : {word : List ℕ} {words : List (List ℕ)} → P word → Each P words → Each P (word ∷ words)

-- a word by its characters: some, and all of them scalar values
record Fair (word : List ℕ) : Type 0 where
  some : 0 < length word
  scalars : Scalars word

-- a word as a text: some bytes, and well-formed
pub record Good (word : List ℕ) : Type 0 where
  pub some : 0 < length word
  pub formed : WellFormed word

scalars_more : (word : List ℕ) (code : ℕ) → Scalars word → Scalar code → Scalars (word ++ (code ∷ []))
scalars_more [] code none h = more h none
scalars_more (c ∷ word) code (more k ks) h = more k (scalars_more word code ks h)

ended_fair : (word : List ℕ) (words : List (List ℕ)) → Scalars word → Each Fair words → Each Fair (unless_empty word words)
ended_fair [] words s h = h
ended_fair (c ∷ word) words s h = also {word = c ∷ word} (record { some = omega arith; scalars = s }) h

tokens_fair : (word : List ℕ) (quotes escaped : Bool) (codes : List ℕ) → Scalars word → Scalars codes → Each Fair (tokens_from word quotes escaped codes)
unfolding tokens_from
tokens_fair word quotes escaped [] s none = ended_fair word [] s nothing
tokens_fair word quotes escaped (code ∷ codes) s (more h hs) =
    by (role_of quotes escaped code) (tokens_fair (word ++ (code ∷ [])) quotes false codes (scalars_more word code s h) hs) (tokens_fair word quotes true codes s hs)
    (tokens_fair word (not quotes) false codes s hs) (tokens_fair [] quotes false codes none hs)
  where
    by : (t : Role) → Each Fair (tokens_from (word ++ (code ∷ [])) quotes false codes) → Each Fair (tokens_from word quotes true codes)
        → Each Fair (tokens_from word (not quotes) false codes) → Each Fair (tokens_from [] quotes false codes)
        → Each Fair (on_role t (λ _. tokens_from (word ++ (code ∷ [])) quotes false codes) (λ _. tokens_from word quotes true codes) (λ _. tokens_from word (not quotes) false codes)
        (λ _. unless_empty word (tokens_from [] quotes false codes)))
    by Take a b c d = a
    by Escape a b c d = b
    by Toggle a b c d = c
    by Gap a b c d = ended_fair word (tokens_from [] quotes false codes) s d

good : (word : List ℕ) → Fair word → Good (encode_all word)
unfolding encode_all
good [] f = absurd (let h = f.some in omega arith)
good (c ∷ word) f =
    record {
      some = let h = encode_some c in omega (arith, length-append (encode c) (encode_all word));
      formed = record { codes = c ∷ word; scalars = f.scalars; encoded = refl };
    }

all_good : (words : List (List ℕ)) → Each Fair words → Each Good (map encode_all words)
all_good [] nothing = nothing
all_good (word ∷ words) (also f fs) = also (good word f) (all_good words fs)

pub words_good : (line : List ℕ) → Each Good (words_of line)
unfolding words_of tokens
words_good line = all_good (tokens_from [] false false (codes_in line)) (tokens_fair [] false false (codes_in line) none (codes_scalars line))
