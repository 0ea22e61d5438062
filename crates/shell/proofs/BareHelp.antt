-- A line that begins `help ` and has no other word is a bare `help`: it is never asked what help there is for no words.
use Prim.Native.Nat.{ℕ}
use mathlib.Core.Path.{◌≡◌, refl, sym, ap, ◌∙◌}
use mathlib.Core.Bool.{Bool, true, false, cond}
use mathlib.Core.List.{List, [], ◌∷◌, ◌++◌, map}
use native.Mathlib.Omega.{arith}
use lib.ListN.{take, drop, take-append-drop}
use Rattle.buffer.specs.Compare.{same_bytes}
use Rattle.buffer.proofs.Ordering.{same_is}
use Rattle.text.specs.Unicode.{encode}
use Rattle.text.specs.Decoding.{Piece, character, table, decode_first, pieces_from, pieces_of, bytes_all}
use Rattle.text.specs.Space.{white_space, among, is_white_space}
use Rattle.text.specs.Apart.{white, after_run, before_end, trim_end, trimmed, unless_empty, words_after, words_between}
use Rattle.buffer.specs.Ascii.{ascii}
use Rattle.shell.specs.Lines.{builtin_of, begins_help, help_words}
use Rattle.shell.specs.declared.builtin.Builtin.TheVariants.{Help}

-- a word that was begun is there
some_word : (ps : List Piece) (p : Piece) (word : List Piece) → words_after (p ∷ word) ps ≡ [] → ⊥
unfolding words_after
some_word [] p word e = let z : ◌≡◌ {A = ℕ} 0 1 = cc in omega arith
some_word (q ∷ ps) p word e = by (white q) (some_word ps p (word ++ (q ∷ []))) e
  where
    by : (t : Bool) → (words_after (p ∷ (word ++ (q ∷ []))) ps ≡ [] → ⊥) → cond t (unless_empty (p ∷ word) (words_after [] ps)) (words_after (p ∷ (word ++ (q ∷ []))) ps) ≡ [] → ⊥
    by true more h = let z : ◌≡◌ {A = ℕ} 0 1 = cc in omega arith
    by false more h = more h

-- pieces without a word are white, and trimmed away
nothing_left : (ps : List Piece) → words_after [] ps ≡ [] → trim_end ps ≡ []
unfolding words_after trim_end
nothing_left [] e = refl
nothing_left (p ∷ ps) e = by (white p) refl (nothing_left ps) e
  where
    by : (t : Bool) → white p ≡ t → (words_after [] ps ≡ [] → trim_end ps ≡ []) → cond t (words_after [] ps) (words_after (p ∷ []) ps) ≡ [] → before_end p (trim_end ps) ≡ []
    by true w more h = ap (before_end p) (more h) ∙ ap (λ (b : Bool). cond b [] (p ∷ [])) w
    by false w more h = absurd (some_word ps p [] h)

none_mapped : (l : List (List Piece)) → map bytes_all l ≡ [] → l ≡ []
none_mapped [] e = refl
none_mapped (p ∷ l) e = cc

bare : (t : List ℕ) → words_between t ≡ [] → builtin_of (trimmed (ascii "help " ++ t)) ≡ Help
unfolding trimmed pieces_of pieces_from decode_first table after_run trim_end is_white_space among white_space words_between bytes_all encode builtin_of same_bytes ascii
bare t e =
    ap
    (λ (ps : List Piece). builtin_of (bytes_all (before_end (character 0x68) (before_end (character 0x65) (before_end (character 0x6c) (before_end (character 0x70) (before_end (character 0x20) ps)))))))
    (nothing_left (pieces_of t) (none_mapped (words_after [] (pieces_of t)) e))

pub bare_help : (line : List ℕ) → begins_help line ≡ true → help_words line ≡ [] → builtin_of (trimmed line) ≡ Help
unfolding begins_help help_words
bare_help line b e =
    let whole : line ≡ ascii "help " ++ drop 5 line = sym (take-append-drop 5 line) ∙ ap (λ (s : List ℕ). s ++ drop 5 line) (same_is (take 5 line) (ascii "help ") b) in
    ap (λ (s : List ℕ). builtin_of (trimmed s)) whole ∙ bare (drop 5 line) e
