-- The words of a well-formed help line are well-formed, so that the `Debug` text of one is the Rust's where its characters are printed as they are.
use Rattle.std.proofs.Common.{◌≡◌, ℕ, Bool, true, false, cond, List, [], ◌∷◌, ◌++◌, map, length, take, drop, sym, refl, ap, ◌∙◌, arith, take-append-drop, drop_at}
use Rattle.buffer.proofs.Ordering.{same_is}
use Rattle.text.specs.Unicode.{Scalars, none, more, encode, encode_all}
use Rattle.text.specs.Decoding.{Piece, character, pieces_of, bytes_all, codes_in, well_formed_length}
use Rattle.text.specs.Apart.{white, unless_empty, words_after, words_between}
use Rattle.text.proofs.Encoding.{decode_complete}
use Rattle.text.proofs.Pieces.{pieces_character, pieces_none}
use Rattle.text.proofs.Prefix.{codes_are, codes_scalars, codes_whole}
use Rattle.buffer.specs.Ascii.{ascii}
use Rattle.message.specs.Debug.{debug_bytes}
use Rattle.shell.specs.Lines.{begins_help, help_words}
use Rattle.rust.specs.Shell.{debug_chars}
use Rattle.rust.specs.Same.{all_printed}
use Rattle.rust.proofs.Plain.{codes_after}
use Rattle.rust.proofs.Escapes.{chars_same}

-- what holds of each of several words
abbrev pub Each : (List ℕ → Type 0) → List (List ℕ) → Type 0
Each P [] = Unit
Each P (w ∷ words) = P w × Each P words

-- the pieces of a text are its characters
pieces_are : (codes : List ℕ) → Scalars codes → pieces_of (encode_all codes) ≡ map character codes
unfolding encode_all
pieces_are [] none = pieces_none
pieces_are (c ∷ codes) (more h hs) =
    pieces_character (encode c ++ encode_all codes) c (length (encode c)) (decode_complete c (encode_all codes) h)
    ∙ ap (λ (s : List ℕ). character c ∷ pieces_of s) (drop_at (encode c) (encode_all codes) (length (encode c)) refl)
    ∙ ap (λ (ps : List Piece). character c ∷ ps) (pieces_are codes hs)

help_codes : (t : List ℕ) → codes_in (ascii "help " ++ t) ≡ ascii "help " ++ codes_in t
unfolding ascii
help_codes t = codes_after (ascii "help ") t (omega arith, (omega arith, (omega arith, (omega arith, (omega arith, tt)))))

-- what stands after `help ` in a well-formed line, by its characters
help_after : (line : List ℕ) → encode_all (codes_in line) ≡ line → codes_in line ≡ ascii "help " ++ codes_in (drop 5 line) → drop 5 line ≡ encode_all (codes_in (drop 5 line))
unfolding ascii encode encode_all
help_after line w e = sym (ap (drop 5) w) ∙ ap (λ (codes : List ℕ). drop 5 (encode_all codes)) e

-- a text that is its characters
abbrev pub Whole : List ℕ → Type 0
Whole w = encode_all (codes_in w) ≡ w

-- the Rust's `Debug` text of such a word is ours
abbrev pub AsIs : (ℕ → Bool) → List ℕ → Type 0
AsIs printable w = debug_chars printable (codes_in w) ≡ debug_bytes w

pub whole_told : (printable : ℕ → Bool) (w : List ℕ) → Whole w → all_printed printable (codes_in w) ≡ true → AsIs printable w
whole_told printable w e p = chars_same printable (codes_in w) p ∙ ap debug_bytes e

scalars_both : (a b : List ℕ) → Scalars a → Scalars b → Scalars (a ++ b)
scalars_both [] b none y = y
scalars_both (c ∷ a) b (more h hs) y = more h (scalars_both a b hs y)

scalars_after : (a b : List ℕ) → Scalars (a ++ b) → Scalars b
scalars_after [] b x = x
scalars_after (c ∷ a) b (more h hs) = scalars_after a b hs

bytes_are : (codes : List ℕ) → bytes_all (map character codes) ≡ encode_all codes
unfolding bytes_all encode_all
bytes_are [] = refl
bytes_are (c ∷ codes) = ap (λ (s : List ℕ). encode c ++ s) (bytes_are codes)

whole_text : (codes : List ℕ) → Scalars codes → Whole (bytes_all (map character codes))
whole_text codes h = rw bytes_are (ap encode_all (codes_are codes h))

-- words between white space
ended_whole : (word : List ℕ) (words : List (List Piece)) → Scalars word → Each Whole (map bytes_all words) → Each Whole (map bytes_all (unless_empty (map character word) words))
ended_whole [] words h rest = rest
ended_whole (c ∷ word) words h rest = (whole_text (c ∷ word) h, rest)

last_in : (word : List ℕ) (c : ℕ) → map character word ++ (character c ∷ []) ≡ map character (word ++ (c ∷ []))
last_in [] c = refl
last_in (d ∷ word) c = ap (λ (ps : List Piece). character d ∷ ps) (last_in word c)

words_whole : (codes word : List ℕ) → Scalars word → Scalars codes → Each Whole (map bytes_all (words_after (map character word) (map character codes)))
unfolding words_after
words_whole [] word f none = ended_whole word [] f tt
words_whole (c ∷ codes) word f (more h hs) =
    by (white (character c)) (words_whole codes [] none hs) (words_whole codes (word ++ (c ∷ [])) (scalars_both word (c ∷ []) f (more h none)) hs)
  where
    by : (t : Bool) → Each Whole (map bytes_all (words_after [] (map character codes))) → Each Whole (map bytes_all (words_after (map character (word ++ (c ∷ []))) (map character codes)))
        → Each Whole (map bytes_all (cond t (unless_empty (map character word) (words_after [] (map character codes))) (words_after (map character word ++ (character c ∷ [])) (map character codes))))
    by true fresh on = ended_whole word (words_after [] (map character codes)) f fresh
    by false fresh on = rw (last_in word c) on

between_whole : (codes : List ℕ) → Scalars codes → Each Whole (words_between (encode_all codes))
unfolding words_between
between_whole codes h = rw (pieces_are codes h) (words_whole codes [] none h)

-- after `help ` the line's characters go on
pub help_whole : (line : List ℕ) → well_formed_length line ≡ length line → begins_help line ≡ true → Each Whole (help_words line)
unfolding help_words begins_help
help_whole line w b =
    let whole : line ≡ ascii "help " ++ drop 5 line = sym (take-append-drop 5 line) ∙ ap (λ (s : List ℕ). s ++ drop 5 line) (same_is (take 5 line) (ascii "help ") b) in
    let codes : codes_in line ≡ ascii "help " ++ codes_in (drop 5 line) = ap codes_in whole ∙ help_codes (drop 5 line) in
    let scalars = codes_scalars line in
    rw (help_after line (codes_whole line w) codes) (between_whole (codes_in (drop 5 line)) (scalars_after (ascii "help ") (codes_in (drop 5 line)) (rw codes at scalars)))
