-- Where the code stands in the words: what it has counted or written, and what the rest of the words will add.
use Rattle.frame.specs.Framed.{frame_first}
use Rattle.frame.specs.declared.framed.Framed.TheVariants.{Frame}
use Rattle.frame.proofs.Frames.{frame_within}
use borrow.Author.Tests.{eqb-true, eqb-false}
use lib.Dec.{eqb}
use mathlib.Core.Bool.{Bool, true, false}
use Prim.Native.Nat.{ℕ, zero, suc, ◌+◌, ◌-◌, ◌*◌, ◌<◌, ◌≤◌}
use mathlib.Core.Path.{◌≡◌, refl, sym, ap, ◌∙◌}
use mathlib.Core.List.{List, [], ◌∷◌, ◌++◌, map, append_assoc}
use native.Mathlib.Omega.{arith}
use native.Mathlib.Numerals.{add-one}
use lib.ListN.{length, take, drop, length-append, length-drop}
use Rattle.text.specs.Decoding.{well_formed_length}
use Rattle.quote.specs.Given.{listed, Judged, bad, fine, on_judged, word_before, judge_words, good_word}
use Rattle.quote.specs.Shown.{shown}
use Rattle.quote.specs.Joined.{gap_before, joined_from, joined}
use Rattle.quote.specs.Answer.{quote_line, line_of}
use Rattle.quote.specs.Inner.{item_first, line_size_of, IsFine}
use Rattle.std.specs.Prelude.{Result, Ok, Err, None}
use Rattle.quote.specs.declared.given.Item.{Item}
use Rattle.quote.proofs.Listing.{good_formed, frame_room_lem, part_is, part_length, WordTold, ItemTold, judge_word, judge_bad, listed_end, item_first_lem, item_other}
use Rattle.buffer.proofs.Choices.{else_is}
use Rattle.quote.proofs.Showing.{shown_most}

pub gap_none : (n : ℕ) → n ≡ 0 → gap_before n ≡ []
unfolding gap_before
gap_none n e = rw e

pub gap_some : (n : ℕ) → (n ≡ 0 → ⊥) → gap_before n ≡ 0x20 ∷ []
unfolding gap_before
gap_some zero h = absurd (h refl)
gap_some (suc n) h = refl

pub gap_most : (n : ℕ) → length (gap_before n) ≤ 1
unfolding gap_before
gap_most zero = omega arith
gap_most (suc n) = omega arith

-- a word that is read at a place
module _ (words : List ℕ) (at len : ℕ) (t : WordTold (drop at words) len) where
  pub word_within : at + 3 + len ≤ length words
  word_within = frame_room_lem words at 0x14 len t.head

  pub word_formed : well_formed_length (take (at + 3 + len - (at + 3)) (drop (at + 3) words)) ≡ length (take (at + 3 + len - (at + 3)) (drop (at + 3) words))
  word_formed = rw (part_is words at len) (good_formed (take len (drop 3 (drop at words))) t.good)

  pub word_judged : judge_words (listed (drop at words)) ≡ word_before (take (at + 3 + len - (at + 3)) (drop (at + 3) words)) (judge_words (listed (drop (at + 3 + len) words)))
  word_judged = judge_word words at len t ∙ ap (λ (w : List ℕ). word_before w (judge_words (listed (drop (at + 3 + len) words)))) (sym (part_is words at len))

-- what measuring finds, where n words of `size` bytes are passed
abbrev pub resume : ℕ → ℕ → Judged → Result ℕ ℕ
resume n size (bad k) = Err (n + k)
resume n size (fine ws) = Ok (size + length (joined_from n (map shown ws)))

resume_start : (j : Judged) → on_judged j (λ k. Err k) (λ ws. Ok (length (quote_line ws))) ≡ resume 0 0 j
unfolding quote_line joined
resume_start (bad k) = ap Err (omega arith)
resume_start (fine ws) = ap Ok (omega arith)

resume_turn : (n size : ℕ) (w : List ℕ) (j : Judged) → resume n size (word_before w j) ≡ resume (n + 1) (size + length (gap_before n) + length (shown w)) j
unfolding joined_from
resume_turn n size w (bad k) = ap Err (omega arith)
resume_turn n size w (fine ws) =
    let rest : List ℕ = joined_from (suc n) (map shown ws) in
    let a = length-append (gap_before n) (shown w ++ rest) in
    let b = length-append (shown w) rest in
    let c : length (joined_from (n + 1) (map shown ws)) ≡ length rest = ap (λ (k : ℕ). length (joined_from k (map shown ws))) (add-one n) in
    ap Ok (omega arith)

pub record Counted (words : List ℕ) (size n at : ℕ) : Type 0 where
  pub inside : at ≤ length words
  pub few : n ≤ at
  pub cost : size ≤ 2 * at
  pub all : line_size_of words ≡ resume n size (judge_words (listed (drop at words)))

pub counted_start : (words : List ℕ) → Counted words 0 0 0
unfolding line_size_of
counted_start words = record { inside = omega arith; few = omega arith; cost = omega arith; all = resume_start (judge_words (listed words)) }

module _ (words : List ℕ) (size n at : ℕ) (h : Counted words size n at) where
  pub counted_cost : (g : ℕ) (i : Item) → ItemTold (drop at words) i → g ≡ length (gap_before n) → size + g + i.size ≤ 2 * (at + 3 + i.length)
  counted_cost g i t p =
      let w : List ℕ = take i.length (drop 3 (drop at words)) in
      let l = part_length words at i.length (word_within words at i.length t.word) in
      let same = ap length (part_is words at i.length) in
      let m = shown_most w (good_formed w t.word.good) in
      let s = t.shows in
      let k = gap_most n in
      let c = h.cost in
      omega arith

  pub counted_turn : (g : ℕ) (i : Item) → ItemTold (drop at words) i → g ≡ length (gap_before n)
      → Counted words (size + g + i.size) (n + 1) (at + 3 + i.length)
  counted_turn g i t p =
      record {
        inside = word_within words at i.length t.word;
        few = let f = h.few in omega arith;
        cost = counted_cost g i t p;
        all =
            h.all
            ∙ ap (resume n size) (judge_word words at i.length t.word)
            ∙ resume_turn n size (take i.length (drop 3 (drop at words))) (judge_words (listed (drop (at + 3 + i.length) words)))
            ∙ rw (p, t.shows);
      }

  pub counted_bad : at < length words → item_first (drop at words) ≡ None → line_size_of words ≡ Err n
  counted_bad k e =
      let some : 0 < length (drop at words) = rw (length-drop at words) (omega arith) in
      h.all ∙ ap (resume n size) (judge_bad (drop at words) some e) ∙ ap Err (omega arith)

  pub counted_end : length words ≤ at → line_size_of words ≡ Ok size
  unfolding joined_from
  counted_end k = h.all ∙ ap (resume n size) (listed_end words at k) ∙ ap Ok (omega arith)

-- what is still to be written after n words
abbrev pub rest_line : ℕ → Judged → List ℕ
rest_line n (bad k) = []
rest_line n (fine ws) = joined_from n (map shown ws)

pub rest_start : (words : List ℕ) → line_of words ≡ rest_line 0 (judge_words (listed words))
unfolding line_of quote_line joined
rest_start words = by (judge_words (listed words))
  where
    by : (j : Judged) → on_judged j (λ n. []) quote_line ≡ rest_line 0 j
    by (bad k) = refl
    by (fine ws) = refl

rest_more : (n : ℕ) (w : List ℕ) (j : Judged) → IsFine j → rest_line n (word_before w j) ≡ (gap_before n ++ shown w) ++ rest_line (n + 1) j
unfolding joined_from
rest_more n w (bad k) f = absurd f
rest_more n w (fine ws) f =
    sym (append_assoc (gap_before n) (shown w) (joined_from (suc n) (map shown ws)))
    ∙ ap (λ (k : ℕ). (gap_before n ++ shown w) ++ joined_from k (map shown ws)) (sym (add-one n))

fine_after : (w : List ℕ) (j : Judged) → IsFine (word_before w j) → IsFine j
fine_after w (bad k) f = f
fine_after w (fine ws) f = tt

module _ (words : List ℕ) (n at : ℕ) (f : IsFine (judge_words (listed (drop at words)))) where
  pub fine_turn : (len : ℕ) → WordTold (drop at words) len → IsFine (judge_words (listed (drop (at + 3 + len) words)))
  fine_turn len t =
      fine_after (take (at + 3 + len - (at + 3)) (drop (at + 3) words)) (judge_words (listed (drop (at + 3 + len) words))) (rw (word_judged words at len t) at f)

  pub rest_turn : (len : ℕ) → WordTold (drop at words) len
      → rest_line n (judge_words (listed (drop at words)))
      ≡ (gap_before n ++ shown (take (at + 3 + len - (at + 3)) (drop (at + 3) words))) ++ rest_line (n + 1) (judge_words (listed (drop (at + 3 + len) words)))
  rest_turn len t =
      ap (rest_line n) (word_judged words at len t)
      ∙ rest_more n (take (at + 3 + len - (at + 3)) (drop (at + 3) words)) (judge_words (listed (drop (at + 3 + len) words))) (fine_turn len t)

  pub rest_bad : at < length words → item_first (drop at words) ≡ None → ⊥
  rest_bad k e =
      let some : 0 < length (drop at words) = rw (length-drop at words) (omega arith) in
      rw (judge_bad (drop at words) some e) at f

pub rest_end : (words : List ℕ) (n at : ℕ) → length words ≤ at → rest_line n (judge_words (listed (drop at words))) ≡ []
unfolding joined_from
rest_end words n at k = ap (rest_line n) (listed_end words at k)

-- where all words are good, a frame holds one
pub fine_word : (s : List ℕ) (kind n : ℕ) → IsFine (judge_words (listed s)) → frame_first s ≡ Frame kind n → WordTold s n
fine_word s kind n f e = by (eqb kind 0x14) (good_word (take n (drop 3 s))) refl refl
  where
    none : item_first s ≡ None → WordTold s n
    none b = absurd (rw (judge_bad s (let r = frame_within s kind n e in omega arith) b) at f)

    by : (t u : Bool) → eqb kind 0x14 ≡ t → good_word (take n (drop 3 s)) ≡ u → WordTold s n
    by false u p q = none (item_other s kind n e (eqb-false kind 0x14 p))
    by true true p q = record { head = e ∙ ap (λ (k : ℕ). Frame k n) (eqb-true kind 0x14 p); good = q }
    by true false p q = none (item_first_lem s kind n e (eqb-true kind 0x14 p) ∙ else_is _ _ _ q)
