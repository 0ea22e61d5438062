-- The words that bytes begin with: what the code reads at a place against the list of the words and its judgement.
use Prim.Native.Nat.{ℕ, zero, suc, ◌+◌, ◌-◌, ◌<◌, ◌≤◌}
use mathlib.Core.Path.{◌≡◌, refl, sym, ap, ◌∙◌}
use mathlib.Core.Bool.{Bool, true, false, cond}
use mathlib.Core.List.{List, [], ◌∷◌}
use native.Mathlib.Omega.{arith}
use borrow.Author.Tests.{eq-eqb, ne_eqb, eqb-true}
use types.Run.{OneOf, miss}
use denote.Enum.Declared.{tag_of}
use lib.Dec.{eqb}
use lib.ListN.{length, take, drop, length-drop, length-take}
use lib.Seq.{drop-drop, drop-nil}
use Rattle.buffer.proofs.Choices.{then_is, else_is, true_is_not_false}
use Rattle.buffer.proofs.Lists.{drop_end}
use Rattle.text.specs.Decoding.{well_formed_length, well_formed}
use Rattle.frame.specs.Framed.{frame_first}
use Rattle.frame.specs.Series.{on_frame}
use Rattle.frame.specs.declared.framed.Framed.{Framed}
use Rattle.frame.specs.declared.framed.Framed.TheVariants.{Frame, Broken, End}
use Rattle.frame.specs.contracts.framed.Framed.{the_type}
use Rattle.frame.proofs.Frames.{frame_within}
use Rattle.quote.specs.Given.{Listed, broken, word, listed_from, listed, good_word, bad, fine, word_before, judge_words}
use Rattle.quote.specs.Shown.{shown}
use Rattle.quote.specs.Inner.{item_of, item_first, plain_word}
use Rattle.text.proofs.Prefix.{prefix_fits}
use Rattle.quote.proofs.Showing.{plain_formed, shown_plain}
use Rattle.quote.specs.declared.given.Item.{Item}
use Rattle.std.specs.Prelude.{Option, Some, None}

-- what a good word is
pub good_some : (w : List ℕ) → good_word w ≡ true → 0 < length w
unfolding good_word
good_some w e = by (eqb (length w) 0) refl e
  where
    by : (t : Bool) → eqb (length w) 0 ≡ t → cond t false (well_formed w) ≡ true → 0 < length w
    by true p q = absurd (true_is_not_false (sym q))
    by false p q = some w p
      where
        some : (v : List ℕ) → eqb (length v) 0 ≡ false → 0 < length v
        some [] r = absurd (true_is_not_false r)
        some (a ∷ v) r = omega arith

pub good_formed : (w : List ℕ) → good_word w ≡ true → well_formed_length w ≡ length w
unfolding good_word well_formed
good_formed w e = by (eqb (length w) 0) e
  where
    by : (t : Bool) → cond t false (well_formed w) ≡ true → well_formed_length w ≡ length w
    by true q = absurd (true_is_not_false (sym q))
    by false q = eqb-true _ _ q

good_is : (w : List ℕ) → (length w ≡ 0 → ⊥) → well_formed_length w ≡ length w → good_word w ≡ true
unfolding good_word well_formed
good_is w some h = else_is _ _ _ (ne_eqb (length w) 0 some) ∙ eq-eqb _ _ h

-- what a word is
pub item_empty : (n : ℕ) (w : List ℕ) → length w ≡ 0 → item_of n w ≡ None
unfolding good_word
item_empty n w h = else_is _ _ _ (then_is _ _ _ (eq-eqb (length w) 0 h))

pub item_good : (n r : ℕ) (w : List ℕ) → (length w ≡ 0 → ⊥) → well_formed_length w ≡ length w → r ≡ length (shown w) → item_of n w ≡ Some (record { length = n; size = r })
item_good n r w some h e = rw e (then_is _ _ _ (good_is w some h))

pub item_plain : (w : List ℕ) → (length w ≡ 0 → ⊥) → plain_word w ≡ true → item_of (length w) w ≡ Some (record { length = length w; size = length w })
item_plain w some e = item_good (length w) (length w) w some (plain_formed w e) (sym (ap length (shown_plain w e)))

pub item_broken : (n r : ℕ) (w : List ℕ) → (length w ≡ 0 → ⊥) → r ≡ well_formed_length w → r < length w → item_of n w ≡ None
unfolding good_word well_formed
item_broken n r w some e h = else_is _ _ _ (else_is _ _ _ (ne_eqb (length w) 0 some) ∙ ne_eqb (well_formed_length w) (length w) (λ q. omega arith))

pub reaches_end : (w : List ℕ) (r : ℕ) → r ≡ well_formed_length w → length w ≤ r → well_formed_length w ≡ length w
reaches_end w r e h = let f = prefix_fits w in omega arith

-- the word at a place, by what is read there
abbrev item_by : List ℕ → Framed → Option Item
item_by s d = on_frame d (λ kind n. cond (eqb kind 0x14) (item_of n (take n (drop 3 s))) None) None

pub item_none : (s : List ℕ) (d : Framed) → frame_first s ≡ d → OneOf (1 ∷ 2 ∷ []) (tag_of the_type d) → item_first s ≡ None
unfolding item_first
item_none s (Frame kind n) e k = absurd (miss (1 ∷ 2 ∷ []) 0 tt k)
item_none s Broken e k = ap (item_by s) e
item_none s End e k = ap (item_by s) e

pub item_other : (s : List ℕ) (kind n : ℕ) → frame_first s ≡ Frame kind n → (kind ≡ 0x14 → ⊥) → item_first s ≡ None
unfolding item_first
item_other s kind n e h = ap (item_by s) e ∙ else_is _ _ _ (ne_eqb kind 0x14 h)

pub item_first_lem : (s : List ℕ) (kind n : ℕ) → frame_first s ≡ Frame kind n → kind ≡ 0x14 → item_first s ≡ item_of n (take n (drop 3 s))
unfolding item_first
item_first_lem s kind n e h = ap (item_by s) e ∙ then_is _ _ _ (eq-eqb kind 0x14 h)

-- a frame at a place lies within the bytes, and its text is a part of them
pub frame_room_lem : (words : List ℕ) (at kind n : ℕ) → frame_first (drop at words) ≡ Frame kind n → at + 3 + n ≤ length words
frame_room_lem words at kind n e =
    let h = frame_within (drop at words) kind n e in
    let l = length-drop at words in
    omega arith

pub part_is : (words : List ℕ) (at n : ℕ) → take (at + 3 + n - (at + 3)) (drop (at + 3) words) ≡ take n (drop 3 (drop at words))
part_is words at n =
    let e : at + 3 + n - (at + 3) ≡ n = omega arith in
    ap (λ (k : ℕ). take k (drop (at + 3) words)) e ∙ ap (take n) (sym (drop-drop 3 at words))

pub part_length : (words : List ℕ) (at n : ℕ) → at + 3 + n ≤ length words → length (take (at + 3 + n - (at + 3)) (drop (at + 3) words)) ≡ n
part_length words at n h = rw (length-take, length-drop) (omega arith)

pub item_judged : (words : List ℕ) (at kind n : ℕ) (r : Option Item) → frame_first (drop at words) ≡ Frame kind n → kind ≡ 0x14
    → r ≡ item_of (length (take (at + 3 + n - (at + 3)) (drop (at + 3) words))) (take (at + 3 + n - (at + 3)) (drop (at + 3) words)) → r ≡ item_first (drop at words)
item_judged words at kind n r e h q =
    q
    ∙ ap (λ (k : ℕ). item_of k (take (at + 3 + n - (at + 3)) (drop (at + 3) words))) (part_length words at n (frame_room_lem words at kind n e))
    ∙ ap (item_of n) (part_is words at n)
    ∙ sym (item_first_lem (drop at words) kind n e h)

-- a good word that was read
pub record WordTold (s : List ℕ) (n : ℕ) : Type 0 where
  pub head : frame_first s ≡ Frame 0x14 n
  pub good : good_word (take n (drop 3 s)) ≡ true

pub record ItemTold (s : List ℕ) (i : Item) : Type 0 where
  pub word : WordTold s i.length
  pub shows : i.size ≡ length (shown (take i.length (drop 3 s)))

no_word : (i : Item) → None ≡ Some i → ⊥
no_word i e = let z : ◌≡◌ {A = ℕ} 0 1 = cc in omega arith

item_kind : (s : List ℕ) (i : Item) (kind m : ℕ) (t g : Bool) → eqb kind 0x14 ≡ t → good_word (take m (drop 3 s)) ≡ g → frame_first s ≡ Frame kind m
    → cond t (cond g (Some (record { length = m; size = length (shown (take m (drop 3 s))) })) None) None ≡ Some i → ItemTold s i
item_kind s i kind m true true e g q r =
    let long : m ≡ i.length = cc in
    let wide : length (shown (take m (drop 3 s))) ≡ i.size = cc in
    let is = eqb-true kind 0x14 e in
    record {
      word =
          record { head = q ∙ ap (λ (k : ℕ). Frame k m) is ∙ ap (λ (k : ℕ). Frame 0x14 k) long; good = ap (λ (k : ℕ). good_word (take k (drop 3 s))) (sym long) ∙ g };
      shows = sym wide ∙ ap (λ (k : ℕ). length (shown (take k (drop 3 s)))) long;
    }
item_kind s i kind m true false e g q r = absurd (no_word i r)
item_kind s i kind m false g e h q r = absurd (no_word i r)

pub item_told : (s : List ℕ) (i : Item) → item_first s ≡ Some i → ItemTold s i
unfolding item_first
item_told s i e = by (frame_first s) refl e
  where
    by : (d : Framed) → frame_first s ≡ d → item_by s d ≡ Some i → ItemTold s i
    by (Frame kind m) q r = item_kind s i kind m (eqb kind 0x14) (good_word (take m (drop 3 s))) refl refl q r
    by Broken q r = absurd (no_word i r)
    by End q r = absurd (no_word i r)

-- the list of the words at a place
pub listed_skip : (s : List ℕ) (j : ℕ) → listed_from s j ≡ listed (drop j s)
unfolding listed_from listed
listed_skip [] j = rw (drop-nil {A = ℕ} j)
listed_skip (a ∷ s) zero = refl
listed_skip (a ∷ s) (suc j) = listed_skip s j

abbrev listed_by : ℕ → List ℕ → Framed → Listed
listed_by a s d = on_frame d (λ kind n. cond (eqb kind 0x14) (word (take n (drop 3 (a ∷ s))) (listed_from s (2 + n))) broken) broken

pub listed_word : (s : List ℕ) (n : ℕ) → frame_first s ≡ Frame 0x14 n → listed s ≡ word (take n (drop 3 s)) (listed (drop (3 + n) s))
unfolding listed_from listed frame_first
listed_word [] n e = cc
listed_word (a ∷ s) n e =
    let more : 3 + n ≡ suc (2 + n) = omega arith in
    ap (listed_by a s) e
    ∙ ap (λ (l : Listed). word (take n (drop 3 (a ∷ s))) l) (listed_skip s (2 + n) ∙ ap (λ (k : ℕ). listed (drop k (a ∷ s))) (sym more))

pub listed_end : (s : List ℕ) (at : ℕ) → length s ≤ at → judge_words (listed (drop at s)) ≡ fine []
unfolding listed_from listed judge_words
listed_end s at h = rw (drop_end s at h)

-- and its judgement
pub judge_first : (s : List ℕ) (n : ℕ) → WordTold s n → judge_words (listed s) ≡ word_before (take n (drop 3 s)) (judge_words (listed (drop (3 + n) s)))
unfolding judge_words
judge_first s n t =
    ap judge_words (listed_word s n t.head) ∙ then_is _ _ _ t.good

pub judge_word : (words : List ℕ) (at n : ℕ) → WordTold (drop at words) n
    → judge_words (listed (drop at words)) ≡ word_before (take n (drop 3 (drop at words))) (judge_words (listed (drop (at + 3 + n) words)))
judge_word words at n t =
    let w : List ℕ = take n (drop 3 (drop at words)) in
    let place : at + (3 + n) ≡ at + 3 + n = omega arith in
    judge_first (drop at words) n t
    ∙ ap (λ (l : List ℕ). word_before w (judge_words (listed l))) (drop-drop (3 + n) at words ∙ ap (λ (k : ℕ). drop k words) place)

word_or_bad : (i : Item) → Some i ≡ None → ⊥
word_or_bad i e = let z : ◌≡◌ {A = ℕ} 0 1 = cc in omega arith

bad_kind : (a : ℕ) (s : List ℕ) (kind m : ℕ) (t g : Bool) → eqb kind 0x14 ≡ t → good_word (take m (drop 3 (a ∷ s))) ≡ g
    → cond {A = Option Item} t (cond g (Some (record { length = m; size = length (shown (take m (drop 3 (a ∷ s)))) })) None) None ≡ None → judge_words (cond t (word (take m (drop 3 (a ∷ s))) (listed_from s (2 + m))) broken) ≡ bad 0
unfolding judge_words
bad_kind a s kind m true true e g r = absurd (word_or_bad _ r)
bad_kind a s kind m true false e g r = else_is _ _ _ g
bad_kind a s kind m false g e h r = refl

pub judge_bad : (s : List ℕ) → 0 < length s → item_first s ≡ None → judge_words (listed s) ≡ bad 0
unfolding listed_from listed item_first judge_words
judge_bad [] h e = absurd (omega arith)
judge_bad (a ∷ s) h e = by (frame_first (a ∷ s)) e
  where
    by : (d : Framed) → item_by (a ∷ s) d ≡ None → judge_words (listed_by a s d) ≡ bad 0
    by (Frame kind m) r = bad_kind a s kind m (eqb kind 0x14) (good_word (take m (drop 3 (a ∷ s)))) refl refl r
    by Broken r = refl
    by End r = refl
