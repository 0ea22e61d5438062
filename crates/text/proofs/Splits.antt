-- A text taken apart at white space: trimming removes exactly the outer white space, and the next word is the first of the words.
use Rattle.std.specs.Prelude.{Some, None, Option}
use Prim.Native.Nat.{ℕ, ◌+◌, ◌-◌, ◌<◌, ◌≤◌}
use mathlib.Core.Path.{◌≡◌, refl, sym, ap, ◌∙◌}
use mathlib.Core.Bool.{Bool, true, false, cond, beq}
use mathlib.Core.List.{List, [], ◌∷◌, ◌++◌, map, append_assoc, append-nil}
use mathlib.Core.Logic.{⊎_elim}
use native.Mathlib.Omega.{arith}
use borrow.Author.Tests.{tests, eq-eqb, ne_eqb, eqb-true, eqb-false}
use lib.Dec.{eqb}
use lib.ListN.{length, take, drop, length-append, length-drop}
use lib.Seq.{drop-drop, take_at, append_snoc}
use Rattle.buffer.specs.Greatest.{greatest}
use Rattle.buffer.specs.Lend.{between}
use Rattle.buffer.specs.declared.lend.Span.{Span}
use Rattle.buffer.proofs.Choices.{else_is, neither}
use Rattle.buffer.proofs.Lists.{drop_end}
use Rattle.text.specs.Decoding.{Piece, pieces_of, bytes_of, bytes_all}
use Rattle.text.specs.Apart.{white, run_of, after_run, trim_end, before_end, trimmed, all_white, blank, unless_empty, words_after, words_between, word_at, next_word}
use Rattle.text.specs.Space.{is_white_space}
use Rattle.text.specs.Inner.{in_ranges}
use Rattle.text.proofs.Encoding.{below_or_not}
use Rattle.text.proofs.TableRows.{decode_ascii}
use Rattle.text.proofs.Spaces.{ranges_are}
use Rattle.text.proofs.Pieces.{Fair, by_pieces, pieces_bytes, pieces_none, pieces_character, piece_some}
use Rattle.text.proofs.WhiteRuns.{solid_length}

-- a run and what lies after it make up the pieces
pub run_splits : (is : Bool) (ps : List Piece) → bytes_all ps ≡ bytes_all (run_of is ps) ++ bytes_all (after_run is ps)
unfolding bytes_all run_of after_run
run_splits is [] = refl
run_splits is (p ∷ ps) = by (beq (white p) is) (run_splits is ps)
  where
    by : (t : Bool) → bytes_all ps ≡ bytes_all (run_of is ps) ++ bytes_all (after_run is ps)
        → bytes_of p ++ bytes_all ps ≡ bytes_all (cond t (p ∷ run_of is ps) []) ++ bytes_all (cond t (after_run is ps) (p ∷ ps))
    by true h = ap (λ (l : List ℕ). bytes_of p ++ l) h ∙ sym (append_assoc (bytes_of p) _ _)
    by false h = refl

pub run_fits : (is : Bool) (s : List ℕ) → length (bytes_all (run_of is (pieces_of s))) ≤ length s
run_fits is s =
    let size : length s ≡ length (bytes_all (run_of is (pieces_of s))) + length (bytes_all (after_run is (pieces_of s))) =
    ap length (sym (pieces_bytes s) ∙ run_splits is (pieces_of s)) ∙ length-append (bytes_all (run_of is (pieces_of s))) (bytes_all (after_run is (pieces_of s)))
    in
    omega arith

-- the pieces of what is left after a run are the pieces after it
After : Bool → List ℕ → List Piece → Type 0
After is s ps = pieces_of s ≡ ps → pieces_of (drop (length (bytes_all (run_of is ps))) s) ≡ after_run is ps

after_more : (is : Bool) (p : Piece) (s : List ℕ) → Fair p → s ≡ bytes_of p ++ drop (length (bytes_of p)) s
    → After is (drop (length (bytes_of p)) s) (pieces_of (drop (length (bytes_of p)) s)) → After is s (p ∷ pieces_of (drop (length (bytes_of p)) s))
unfolding After bytes_all run_of after_run
after_more is p s f e h q = by (beq (white p) is) (h refl)
  where
    t : List ℕ
    t = drop (length (bytes_of p)) s

    by : (b : Bool) → pieces_of (drop (length (bytes_all (run_of is (pieces_of t)))) t) ≡ after_run is (pieces_of t)
        → pieces_of (drop (length (bytes_all (cond b (p ∷ run_of is (pieces_of t)) []))) s) ≡ cond b (after_run is (pieces_of t)) (p ∷ pieces_of t)
    by true k =
        ap pieces_of
        (ap (λ (n : ℕ). drop n s) (length-append (bytes_of p) (bytes_all (run_of is (pieces_of t))))
        ∙ sym (drop-drop (length (bytes_all (run_of is (pieces_of t)))) (length (bytes_of p)) s))
        ∙ k
    by false k = q

after_none : (is : Bool) → After is [] []
unfolding After bytes_all run_of after_run
after_none is e = e

pub after_pieces : (is : Bool) (s : List ℕ) → pieces_of (drop (length (bytes_all (run_of is (pieces_of s)))) s) ≡ after_run is (pieces_of s)
unfolding After
after_pieces is s = by_pieces (After is) (after_none is) (after_more is) s refl

-- a text is blank exactly if its white space reaches to its end
same_sum : (k a b : ℕ) → eqb (k + a) (k + b) ≡ eqb a b
same_sum k a b = by (eqb a b) refl
  where
    by : (t : Bool) → eqb a b ≡ t → eqb (k + a) (k + b) ≡ t
    by true e = let h = eqb-true a b e in eq-eqb (k + a) (k + b) (omega arith)
    by false e = ne_eqb (k + a) (k + b) (λ q. eqb-false a b e (omega arith))

all_white_lem : (ps : List Piece) → all_white ps ≡ eqb (length (bytes_all (run_of true ps))) (length (bytes_all ps))
unfolding all_white bytes_all run_of
all_white_lem [] = refl
all_white_lem (p ∷ ps) = by (white p) refl (all_white_lem ps)
  where
    by : (t : Bool) → white p ≡ t → all_white ps ≡ eqb (length (bytes_all (run_of true ps))) (length (bytes_all ps))
        → cond t (all_white ps) false ≡ eqb (length (bytes_all (cond (beq t true) (p ∷ run_of true ps) []))) (length (bytes_of p ++ bytes_all ps))
    by true e h =
        h
        ∙ sym (same_sum (length (bytes_of p)) (length (bytes_all (run_of true ps))) (length (bytes_all ps)))
        ∙ cc (length-append (bytes_of p) (bytes_all (run_of true ps)), length-append (bytes_of p) (bytes_all ps))
    by false e h =
        let k = piece_some p in
        let l = length-append (bytes_of p) (bytes_all ps) in
        sym (ne_eqb 0 (length (bytes_of p ++ bytes_all ps)) (λ q. omega arith))

pub blank_is : (s : List ℕ) (n : ℕ) → n ≡ 0 + length (bytes_all (run_of true (pieces_of s))) → eqb n (length s) ≡ blank s
unfolding blank
blank_is s n e =
    let z : n ≡ length (bytes_all (run_of true (pieces_of s))) = omega arith in
    cc (z, all_white_lem (pieces_of s), ap length (pieces_bytes s))

-- an ASCII text with a byte above 20 is not blank: no white space of ASCII is above 20
ascii_solid : (code : ℕ) → 0x20 < code → code < 0x80 → is_white_space code ≡ false
unfolding in_ranges
ascii_solid code h k = let e : false ≡ in_ranges code = grind (arith, tests) in sym (e ∙ ranges_are code)

blank_ascii : (a : ℕ) (s : List ℕ) → a < 0x80 → blank (a ∷ s) ≡ cond (is_white_space a) (blank s) false
unfolding blank all_white
blank_ascii a s h = ap all_white (pieces_character (a ∷ s) a 1 (decode_ascii (a ∷ s) 0 (omega arith) h))

pub solid_ascii : (s : List ℕ) → greatest s < 0x80 → 0x20 < greatest s → blank s ≡ false
unfolding greatest
solid_ascii [] h k = absurd (omega arith)
solid_ascii (a ∷ s) h k =
    blank_ascii a s (omega arith)
    ∙ ⊎_elim
    (λ (l : 0x20 < a). else_is (is_white_space a) (blank s) false (ascii_solid a l (omega arith)))
    (λ (l : a ≤ 0x20). ap (λ (t : Bool). cond (is_white_space a) t false) (solid_ascii s (omega arith) (omega arith)) ∙ neither (is_white_space a))
    (below_or_not 0x20 a)

-- what is left without the white space at the end begins the pieces
record Leaves (ps : List Piece) : Type 0 where
  after : List Piece
  blanks : all_white after ≡ true
  split : ps ≡ trim_end ps ++ after

end_splits : (ps : List Piece) → Leaves ps
unfolding trim_end all_white
end_splits [] = record { after = []; blanks = refl; split = refl }
end_splits (p ∷ ps) = by (trim_end ps) refl (white p) refl (end_splits ps)
  where
    by : (rest : List Piece) → trim_end ps ≡ rest → (t : Bool) → white p ≡ t → Leaves ps → Leaves (p ∷ ps)
    by [] e true w h =
        let all : ps ≡ h.after = h.split ∙ ap (λ (l : List Piece). l ++ h.after) e in
        record {
          after = p ∷ h.after;
          blanks = rw w h.blanks;
          split = rw (e, w) (ap (λ (l : List Piece). p ∷ l) all);
        }
    by [] e false w h =
        let all : ps ≡ h.after = h.split ∙ ap (λ (l : List Piece). l ++ h.after) e in
        record { after = h.after; blanks = h.blanks; split = rw (e, w) (ap (λ (l : List Piece). p ∷ l) all) }
    by (q ∷ rest) e t w h =
        record { after = h.after; blanks = h.blanks; split = rw e (ap (λ (l : List Piece). p ∷ l) (h.split ∙ ap (λ (l : List Piece). l ++ h.after) e)) }

pub bytes_append : (ps qs : List Piece) → bytes_all (ps ++ qs) ≡ bytes_all ps ++ bytes_all qs
unfolding bytes_all
bytes_append [] qs = refl
bytes_append (p ∷ ps) qs = ap (λ (l : List ℕ). bytes_of p ++ l) (bytes_append ps qs) ∙ sym (append_assoc (bytes_of p) (bytes_all ps) (bytes_all qs))

solid_splits : (t : List ℕ) → t ≡ bytes_all (trim_end (pieces_of t)) ++ bytes_all (end_splits (pieces_of t)).after
solid_splits t =
    sym (pieces_bytes t)
    ∙ ap bytes_all (end_splits (pieces_of t)).split
    ∙ bytes_append (trim_end (pieces_of t)) (end_splits (pieces_of t)).after

solid_fits : (t : List ℕ) → solid_length t ≤ length t
unfolding solid_length
solid_fits t =
    let size = ap length (solid_splits t) ∙ length-append (bytes_all (trim_end (pieces_of t))) (bytes_all (end_splits (pieces_of t)).after) in
    omega (arith, size)

solid_take : (t : List ℕ) → take (solid_length t) t ≡ bytes_all (trim_end (pieces_of t))
unfolding solid_length
solid_take t =
    ap (λ (l : List ℕ). take (length (bytes_all (trim_end (pieces_of t)))) l) (solid_splits t)
    ∙ take_at (bytes_all (trim_end (pieces_of t))) (bytes_all (end_splits (pieces_of t)).after) (length (bytes_all (trim_end (pieces_of t)))) refl

-- the part from after the white space at the beginning to the end of the last solid piece is the trimmed text
module _ (s : List ℕ) (start end : ℕ) (e : start ≡ 0 + length (bytes_all (run_of true (pieces_of s)))) (f : end ≡ start + solid_length (drop start s)) where
  pub trim_fits : end ≤ length s
  trim_fits = let h = solid_fits (drop start s) in let k = run_fits true s in omega (arith, length-drop start s)

  pub trim_is : take (end - start) (drop start s) ≡ trimmed s
  unfolding trimmed
  trim_is =
      let z : start ≡ length (bytes_all (run_of true (pieces_of s))) = omega arith in
      let size : end - start ≡ solid_length (drop start s) = omega arith in
      let ps : pieces_of (drop start s) ≡ after_run true (pieces_of s) = ap (λ (n : ℕ). pieces_of (drop n s)) z ∙ after_pieces true s in
      ap (λ (n : ℕ). take n (drop start s)) size
      ∙ solid_take (drop start s)
      ∙ ap (λ (l : List Piece). bytes_all (trim_end l)) ps

-- Trimming removes exactly the outer white space: the pieces of a text are white space, the trimmed text and white space, and what is
-- trimmed neither begins nor ends with white space.
abbrev pub begins_white : List Piece → Bool
begins_white [] = false
begins_white (p ∷ ps) = white p

abbrev pub ends_white : List Piece → Bool
ends_white [] = false
ends_white (p ∷ []) = white p
ends_white (p ∷ q ∷ ps) = ends_white (q ∷ ps)

pub record Trimming (s : List ℕ) : Type 0 where
  pub before : List Piece
  pub inner : List Piece
  pub after : List Piece
  pub pieces : pieces_of s ≡ before ++ (inner ++ after)
  pub blank_before : all_white before ≡ true
  pub blank_after : all_white after ≡ true
  pub kept : trimmed s ≡ bytes_all inner
  pub begins : begins_white inner ≡ false
  pub ends : ends_white inner ≡ false

run_pieces : (is : Bool) (ps : List Piece) → ps ≡ run_of is ps ++ after_run is ps
unfolding run_of after_run
run_pieces is [] = refl
run_pieces is (p ∷ ps) = by (beq (white p) is) (run_pieces is ps)
  where
    by : (t : Bool) → ps ≡ run_of is ps ++ after_run is ps → p ∷ ps ≡ cond t (p ∷ run_of is ps) [] ++ cond t (after_run is ps) (p ∷ ps)
    by true h = ap (λ (l : List Piece). p ∷ l) h
    by false h = refl

run_white : (ps : List Piece) → all_white (run_of true ps) ≡ true
unfolding run_of all_white
run_white [] = refl
run_white (p ∷ ps) = by (white p) refl (run_white ps)
  where
    by : (t : Bool) → white p ≡ t → all_white (run_of true ps) ≡ true → all_white (cond (beq t true) (p ∷ run_of true ps) []) ≡ true
    by true e h = rw e h
    by false e h = refl

-- after a run of white space there is none
after_solid : (ps : List Piece) → begins_white (after_run true ps) ≡ false
unfolding after_run
after_solid [] = refl
after_solid (p ∷ ps) = by (white p) refl (after_solid ps)
  where
    by : (t : Bool) → white p ≡ t → begins_white (after_run true ps) ≡ false → begins_white (cond (beq t true) (after_run true ps) (p ∷ ps)) ≡ false
    by true e h = h
    by false e h = e

end_begins : (ps : List Piece) → begins_white ps ≡ false → begins_white (trim_end ps) ≡ false
unfolding trim_end
end_begins [] h = refl
end_begins (p ∷ ps) h = by (trim_end ps)
  where
    by : (rest : List Piece) → begins_white (before_end p rest) ≡ false
    by [] = rw h h
    by (q ∷ rest) = h

end_ends : (ps : List Piece) → ends_white (trim_end ps) ≡ false
unfolding trim_end
end_ends [] = refl
end_ends (p ∷ ps) = by (trim_end ps) (white p) refl (end_ends ps)
  where
    by : (rest : List Piece) (t : Bool) → white p ≡ t → ends_white rest ≡ false → ends_white (before_end p rest) ≡ false
    by [] true e h = rw e
    by [] false e h = rw e e
    by (q ∷ rest) t e h = h

pub trimming : (s : List ℕ) → Trimming s
unfolding trimmed
trimming s =
    let rest : List Piece = after_run true (pieces_of s) in
    let l = end_splits rest in
    record {
      before = run_of true (pieces_of s);
      inner = trim_end rest;
      after = l.after;
      pieces = run_pieces true (pieces_of s) ∙ ap (λ (x : List Piece). run_of true (pieces_of s) ++ x) l.split;
      blank_before = run_white (pieces_of s);
      blank_after = l.blanks;
      kept = refl;
      begins = end_begins rest (after_solid (pieces_of s));
      ends = end_ends rest;
    }

-- where the next word lies
word_here : (ps : List Piece) (start : ℕ) → begins_white ps ≡ false → 0 < length (bytes_all ps)
    → word_at start (run_of false ps) ≡ Some (record { start = start; end = start + length (bytes_all (run_of false ps)) })
unfolding bytes_all run_of
word_here [] start e h = absurd (omega arith)
word_here (p ∷ ps) start e h = rw e

module _ (s : List ℕ) (at start : ℕ) (e : start ≡ at + length (bytes_all (run_of true (pieces_of (drop at s))))) where
  left_is : drop (length (bytes_all (run_of true (pieces_of (drop at s))))) (drop at s) ≡ drop start s
  left_is = drop-drop (length (bytes_all (run_of true (pieces_of (drop at s))))) at s ∙ ap (λ (n : ℕ). drop n s) (sym e)

  after_is : after_run true (pieces_of (drop at s)) ≡ pieces_of (drop start s)
  after_is = sym (after_pieces true (drop at s)) ∙ ap pieces_of left_is

  pub next_none : length s ≤ start → next_word at (drop at s) ≡ None
  unfolding next_word run_of
  next_none h = rw (after_is, drop_end s start h, pieces_none)

  pub next_is : (end : ℕ) → start < length s → end ≡ start + length (bytes_all (run_of false (pieces_of (drop start s)))) → next_word at (drop at s) ≡ Some (record { start = start; end = end })
  unfolding next_word
  next_is end h f =
      let some : 0 < length (bytes_all (pieces_of (drop start s))) = rw (pieces_bytes (drop start s), length-drop start s) (omega arith) in
      let solid : begins_white (pieces_of (drop start s)) ≡ false = rw after_is at (after_solid (pieces_of (drop at s))) in
      rw (← e, after_is) (word_here (pieces_of (drop start s)) start solid some ∙ ap (λ (n : ℕ). Some (record { start = start; end = n })) (sym f))

pub next_past : (s : List ℕ) (at : ℕ) → length s ≤ at → next_word at (drop at s) ≡ None
unfolding next_word run_of after_run
next_past s at h = rw (drop_end s at h, pieces_none)

-- the words of pieces: white space in front does not count, and the first word ends at the next white space
words_start : (ps : List Piece) → words_after [] ps ≡ words_after [] (after_run true ps)
unfolding words_after after_run
words_start [] = refl
words_start (p ∷ ps) = by (white p) refl (words_start ps)
  where
    by : (t : Bool) → white p ≡ t → words_after [] ps ≡ words_after [] (after_run true ps)
        → cond t (words_after [] ps) (words_after (p ∷ []) ps) ≡ words_after [] (cond (beq t true) (after_run true ps) (p ∷ ps))
    by true e h = h
    by false e h = rw e

words_first : (word ps : List Piece) → words_after word ps ≡ unless_empty (word ++ run_of false ps) (words_after [] (after_run false ps))
unfolding words_after run_of after_run
words_first word [] = ap (λ (l : List Piece). unless_empty l []) (sym (append-nil word))
words_first word (p ∷ ps) = by (white p) refl (words_first (word ++ (p ∷ [])) ps)
  where
    by : (t : Bool) → white p ≡ t → words_after (word ++ (p ∷ [])) ps ≡ unless_empty ((word ++ (p ∷ [])) ++ run_of false ps) (words_after [] (after_run false ps))
        → cond t (unless_empty word (words_after [] ps)) (words_after (word ++ (p ∷ [])) ps)
        ≡ unless_empty (word ++ cond (beq t false) (p ∷ run_of false ps) []) (words_after [] (cond (beq t false) (after_run false ps) (p ∷ ps)))
    by true e h = rw e (ap (λ (l : List Piece). unless_empty l (words_after [] ps)) (sym (append-nil word)))
    by false e h = h ∙ ap (λ (l : List Piece). unless_empty l (words_after [] (after_run false ps))) (append_snoc word p (run_of false ps))

-- the next word of a text, and the words after it, are its words
abbrev pub WordsBy : List ℕ → Option Span → Type 0
WordsBy s None = words_between s ≡ []
WordsBy s (Some word) = words_between s ≡ between s word.start word.end ∷ words_between (drop word.end s)

no_word : (ps : List Piece) → begins_white ps ≡ false → run_of false ps ≡ [] → ps ≡ []
unfolding run_of
no_word [] e h = refl
no_word (p ∷ ps) e h = let q : p ∷ run_of false ps ≡ [] = rw e at h in cc

-- the word at the beginning of a text that does not begin with white space
record Word-at (t : List ℕ) : Type 0 where
  taken : take (length (bytes_all (run_of false (pieces_of t)))) t ≡ bytes_all (run_of false (pieces_of t))
  rest : pieces_of (drop (length (bytes_all (run_of false (pieces_of t)))) t) ≡ after_run false (pieces_of t)

word_at_lem : (t : List ℕ) → Word-at t
word_at_lem t =
    let word : List ℕ = bytes_all (run_of false (pieces_of t)) in
    record {
      taken =
          ap (λ (l : List ℕ). take (length word) l) (sym (pieces_bytes t) ∙ run_splits false (pieces_of t))
          ∙ take_at word (bytes_all (after_run false (pieces_of t))) (length word) refl;
      rest = after_pieces false t;
    }

words_by : (s : List ℕ) (start : ℕ) (word : List Piece) → pieces_of (drop start s) ≡ after_run true (pieces_of s)
    → run_of false (pieces_of (drop start s)) ≡ word → WordsBy s (word_at start word)
unfolding words_between words_after
words_by s start [] e w =
    let none : after_run true (pieces_of s) ≡ [] = no_word (after_run true (pieces_of s)) (after_solid (pieces_of s)) (ap (run_of false) (sym e) ∙ w) in
    ap (map bytes_all) (words_start (pieces_of s) ∙ ap (words_after []) none)
words_by s start (p ∷ word) e w =
    let t : List ℕ = drop start s in
    let k : ℕ = length (bytes_all (p ∷ word)) in
    let h = word_at_lem t in
    let size : start + k - start ≡ k = omega arith in
    let taken : take k t ≡ bytes_all (p ∷ word) = rw w at h.taken in
    let rest : pieces_of (drop k t) ≡ after_run false (pieces_of t) = rw w at h.rest in
    let words : words_after [] (pieces_of s) ≡ unless_empty (p ∷ word) (words_after [] (after_run false (pieces_of t))) =
    words_start (pieces_of s) ∙ ap (words_after []) (sym e) ∙ words_first [] (pieces_of t) ∙ ap (λ (l : List Piece). unless_empty l (words_after [] (after_run false (pieces_of t)))) w
    in
    ap (map bytes_all) words
    ∙ ap (λ (l : List ℕ). l ∷ map bytes_all (words_after [] (after_run false (pieces_of t)))) (sym taken ∙ ap (λ (n : ℕ). take n t) (sym size))
    ∙ ap (λ (l : List Piece). take (start + k - start) t ∷ map bytes_all (words_after [] l)) (sym rest ∙ ap pieces_of (drop-drop k start s))

pub words_next : (s : List ℕ) → WordsBy s (next_word 0 s)
unfolding next_word
words_next s =
    let start : ℕ = 0 + length (bytes_all (run_of true (pieces_of s))) in
    let z : start ≡ length (bytes_all (run_of true (pieces_of s))) = omega arith in
    let e : pieces_of (drop start s) ≡ after_run true (pieces_of s) = ap (λ (n : ℕ). pieces_of (drop n s)) z ∙ after_pieces true s in
    words_by s start (run_of false (after_run true (pieces_of s))) e (ap (run_of false) e)
