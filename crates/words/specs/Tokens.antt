-- The words of a line (STANDARD 5; the Rust's `tokenize`): left to right by character.
use Rattle.std.specs.Prelude.{ℕ, Bool, true, false, cond, not, List, [], ◌∷◌, ◌++◌, map, eqb}
use Rattle.text.specs.Unicode.{encode_all}
use Rattle.text.specs.Decoding.{codes_in}
use Rattle.text.specs.Space.{is_white_space}
use Rattle.text.specs.Apart.{unless_empty}
use Rattle.frame.specs.Framed.{frame_of}
use Rattle.words.specs.declared.role.Role.{Role}
use Rattle.words.specs.declared.role.Role.TheVariants.{Take, Escape, Toggle, Gap}

abbrev pub backslash : ℕ
backslash = 0x5C

abbrev pub quote : ℕ
quote = 0x22

-- what a character does. After `\` the next is taken as it stands, also inside quotes; `\` and `"` vanish; white space outside
-- quotes ends a word; everything else is taken into the word (5.1, 5.4).
unfoldable pub role_of : Bool → Bool → ℕ → Role
role_of quotes escaped code =
    cond escaped Take
    (cond (eqb code backslash) Escape
    (cond (eqb code quote) Toggle
    (cond quotes Take
    (cond (is_white_space code) Gap
    Take))))

abbrev pub on_role : {A : Type 0} → Role → (Unit {0} → A) → (Unit {0} → A) → (Unit {0} → A) → (Unit {0} → A) → A
on_role Take a b c d = a tt
on_role Escape a b c d = b tt
on_role Toggle a b c d = c tt
on_role Gap a b c d = d tt

-- the words still to come where `word` has been read and not ended, inside quotes or not, after `\` or not. Empty words don't exist;
-- a final `\` is lost; an open quotation ends with the line (5.1 to 5.3).
unfoldable pub tokens_from : List ℕ → Bool → Bool → List ℕ → List (List ℕ)
tokens_from word quotes escaped [] = unless_empty word []
tokens_from word quotes escaped (code ∷ codes) =
    on_role (role_of quotes escaped code)
    (λ _. tokens_from (word ++ (code ∷ [])) quotes false codes)
    (λ _. tokens_from word quotes true codes)
    (λ _. tokens_from word (not quotes) false codes)
    (λ _. unless_empty word (tokens_from [] quotes false codes))

-- the words of a line, each by its characters, and each as a text (5.1)
unfoldable pub tokens : List ℕ → List (List ℕ)
tokens line = tokens_from [] false false (codes_in line)

-- (5.1, 5.11, 7.1, 12.9)
unfoldable pub words_of : List ℕ → List (List ℕ)
words_of line = map encode_all (tokens line)

-- words as frames of kind 14 (5.5)
unfoldable pub word_frames : List (List ℕ) → List ℕ
word_frames [] = []
word_frames (word ∷ words) = frame_of 0x14 word ++ word_frames words
