-- A text is well-formed exactly if each of its bytes, and its end, fits after the three bytes before it.
use Prim.Native.Nat.{ℕ, zero, suc, ◌+◌, ◌<◌, ◌≤◌, max}
use mathlib.Core.Path.{◌≡◌, refl, sym, ap, ◌∙◌}
use mathlib.Core.Bool.{Bool, true, false}
use mathlib.Core.List.{List, [], ◌∷◌}
use mathlib.Core.Logic.{⊎_elim}
use native.Mathlib.Omega.{arith}
use types.Run.{hit}
use borrow.Author.Tests.{lt-ltb, le-ltb, le-leb, lt-leb, eq-eqb, ne_eqb, eqb-true, eqb-false}
use lib.Dec.{leb, eqb}
use lib.ListN.{length, drop, get_or, length-drop}
use lib.Seq.{get_or-drop, drop-drop}
use Rattle.buffer.proofs.Choices.{then_is, else_is, true_is_not_false}
use Rattle.text.specs.declared.utf8.Decoded.TheVariants.{Character, IllFormed}
use Rattle.text.specs.Decoding.{least_second, greatest_second, within, second, later, table, decode_first, well_formed_length, well_formed}
use Rattle.text.specs.Inner.{outside, awaited, misfit, unfit}
use Rattle.text.proofs.Encoding.{below_or_not, within_is, within_has, second_in, least_other, greatest_other}
use Rattle.text.proofs.TableRows.{two_is, two_not, three_is, three_not, three_cut, four_is, four_not, four_cut, four_cut_last, row_ascii, row_none, row_two, row_three, row_four, row_past}
use Rattle.text.proofs.Pieces.{character_fits}
use Rattle.text.proofs.Prefix.{codes_stop, codes_none, prefix_step, prefix_none}

-- when a byte is awaited, and when not
module _ (c b a : ℕ) where
  pub after_head : 0xC2 ≤ a → awaited c b a ≡ true
  unfolding awaited
  after_head h = then_is _ _ _ (le-leb 0xC2 a h)

  pub after_second : a < 0xC2 → 0xE0 ≤ b → awaited c b a ≡ true
  unfolding awaited
  after_second h k = else_is _ _ _ (lt-leb 0xC2 a h) ∙ then_is _ _ _ (le-leb 0xE0 b k)

  pub after_third : a < 0xC2 → b < 0xE0 → awaited c b a ≡ leb 0xF0 c
  unfolding awaited
  after_third h k = else_is _ _ _ (lt-leb 0xC2 a h) ∙ else_is _ _ _ (lt-leb 0xE0 b k)

  after_whole : a < 0xC2 → b < 0xE0 → c < 0xF0 → awaited c b a ≡ false
  after_whole h k l = after_third h k ∙ lt-leb 0xF0 c l

  -- a byte that is awaited, and one that begins a character
  pub misfit_awaited : (x : ℕ) → awaited c b a ≡ true → misfit c b a x ≡ outside (least_second a) (greatest_second a) x
  unfolding misfit
  misfit_awaited x e = then_is _ _ _ e

  pub misfit_ascii : (x : ℕ) → awaited c b a ≡ false → x < 0x80 → misfit c b a x ≡ 0
  unfolding misfit
  misfit_ascii x e h = else_is _ _ _ e ∙ then_is _ _ _ (lt-ltb x 0x80 h)

  pub misfit_head : (x : ℕ) → awaited c b a ≡ false → 0x80 ≤ x → misfit c b a x ≡ outside 0xC2 0xF4 x
  unfolding misfit
  misfit_head x e h = else_is _ _ _ e ∙ else_is _ _ _ (le-ltb x 0x80 h)

  misfit_as : (c₂ b₂ a₂ x : ℕ) → awaited c b a ≡ awaited c₂ b₂ a₂ → least_second a ≡ least_second a₂ → greatest_second a ≡ greatest_second a₂
      → misfit c b a x ≡ misfit c₂ b₂ a₂ x
  unfolding misfit
  misfit_as c₂ b₂ a₂ x e f g = rw (e, f, g)

pub outside_not : (l g x : ℕ) → within l g x ≡ true → outside l g x ≡ 0
unfolding outside
outside_not l g x e = then_is _ _ _ e

pub outside_is : (l g x : ℕ) → within l g x ≡ false → outside l g x ≡ 1
unfolding outside
outside_is l g x e = else_is _ _ _ e

-- a byte that is no head of three or four has the bounds of every later byte
least_low : (a : ℕ) → a < 0xE0 → least_second a ≡ 0x80
least_low a h = least_other a (λ e. omega arith) (λ e. omega arith)

greatest_low : (a : ℕ) → a < 0xE0 → greatest_second a ≡ 0xBF
greatest_low a h = greatest_other a (λ e. omega arith) (λ e. omega arith)

second_later : (a x : ℕ) → a < 0xE0 → second a x ≡ later x
second_later a x h = rw (least_low a h, greatest_low a h)

-- whoever leaves the window without being awaited for is as good as nothing there
awaited_far : (c b a : ℕ) → c < 0xF0 → awaited c b a ≡ awaited 0 b a
unfolding awaited
awaited_far c b a h = rw (lt-leb 0xF0 c h)

awaited_middle : (c b a : ℕ) → b < 0xE0 → awaited c b a ≡ awaited c 0 a
unfolding awaited
awaited_middle c b a h = rw (lt-leb 0xE0 b h)

awaited_near : (c b a : ℕ) → a < 0xC2 → awaited c b a ≡ awaited c b 0
unfolding awaited
awaited_near c b a h = rw (lt-leb 0xC2 a h)

misfit_far : (c b a x : ℕ) → c < 0xF0 → misfit c b a x ≡ misfit 0 b a x
misfit_far c b a x h = misfit_as c b a 0 b a x (awaited_far c b a h) refl refl

misfit_middle : (c b a x : ℕ) → b < 0xE0 → misfit c b a x ≡ misfit c 0 a x
misfit_middle c b a x h = misfit_as c b a c 0 a x (awaited_middle c b a h) refl refl

misfit_near : (c b a x : ℕ) → a < 0xC2 → misfit c b a x ≡ misfit c b 0 x
misfit_near c b a x h =
    misfit_as c b a c b 0 x (awaited_near c b a h) (least_low a (omega arith) ∙ sym (least_low 0 (omega arith)))
    (greatest_low a (omega arith) ∙ sym (greatest_low 0 (omega arith)))

unfit_far : (c b a : ℕ) (s : List ℕ) → c < 0xF0 → unfit c b a s ≡ unfit 0 b a s
unfolding unfit
unfit_far c b a [] h = misfit_far c b a 0 h
unfit_far c b a (x ∷ s) h = ap (λ (n : ℕ). max n (unfit b a x s)) (misfit_far c b a x h)

unfit_middle : (c b a : ℕ) (s : List ℕ) → b < 0xE0 → unfit c b a s ≡ unfit c 0 a s
unfolding unfit
unfit_middle c b a [] h = misfit_middle c b a 0 h
unfit_middle c b a (x ∷ s) h =
    ap (λ (n : ℕ). max n (unfit b a x s)) (misfit_middle c b a x h) ∙ ap (λ (n : ℕ). max (misfit c 0 a x) n) (unfit_far b a x s (omega arith))

unfit_near : (c b a : ℕ) (s : List ℕ) → a < 0xC2 → unfit c b a s ≡ unfit c b 0 s
unfolding unfit
unfit_near c b a [] h = misfit_near c b a 0 h
unfit_near c b a (x ∷ s) h =
    ap (λ (n : ℕ). max n (unfit b a x s)) (misfit_near c b a x h) ∙ ap (λ (n : ℕ). max (misfit c b 0 x) n) (unfit_middle b a x s (omega arith))

-- after a whole character a text is judged as if it began there
unfit_whole : (c b a : ℕ) (s : List ℕ) → a < 0xC2 → b < 0xE0 → c < 0xF0 → unfit c b a s ≡ unfit 0 0 0 s
unfit_whole c b a s h k l = unfit_near c b a s h ∙ unfit_middle c b 0 s k ∙ unfit_far c 0 0 s l

-- one byte on
unfit_on : (c b a x : ℕ) (s : List ℕ) → misfit c b a x ≡ 0 → unfit c b a (x ∷ s) ≡ unfit b a x s
unfolding unfit
unfit_on c b a x s e = omega arith

unfit_broken : (c b a x : ℕ) (s : List ℕ) → misfit c b a x ≡ 1 → eqb (unfit c b a (x ∷ s)) 0 ≡ false
unfolding unfit
unfit_broken c b a x s e = ne_eqb (max (misfit c b a x) (unfit b a x s)) 0 (λ z. omega arith)

-- nothing goes on with a zero
second_zero : (a : ℕ) → second a 0 ≡ false
second_zero a = by (second a 0) refl
  where
    by : (t : Bool) → second a 0 ≡ t → second a 0 ≡ false
    by true e = absurd (let w = (second_in a 0 e).least in omega arith)
    by false e = e

-- where a byte is awaited, by the next byte, 0 where there is none
awaits_more : (c b a : ℕ) (s : List ℕ) → awaited c b a ≡ true → second a (get_or s 0 0) ≡ true → unfit c b a s ≡ unfit b a (get_or s 0 0) (drop 1 s)
awaits_more c b a [] e f = absurd (true_is_not_false (sym f ∙ second_zero a))
awaits_more c b a (x ∷ s) e f = unfit_on c b a x s (misfit_awaited c b a x e ∙ outside_not _ _ x f)

awaits_other : (c b a : ℕ) (s : List ℕ) → awaited c b a ≡ true → second a (get_or s 0 0) ≡ false → eqb (unfit c b a s) 0 ≡ false
unfolding unfit
awaits_other c b a [] e f = let z : misfit c b a 0 ≡ 1 = misfit_awaited c b a 0 e ∙ outside_is _ _ 0 f in ne_eqb (misfit c b a 0) 0 (λ q. omega arith)
awaits_other c b a (x ∷ s) e f = unfit_broken c b a x s (misfit_awaited c b a x e ∙ outside_is _ _ x f)

-- a well-formed text by the character that it begins with
same_sum : (n x y : ℕ) → eqb (n + x) (n + y) ≡ eqb x y
same_sum n x y = by (eqb x y) refl
  where
    by : (t : Bool) → eqb x y ≡ t → eqb (n + x) (n + y) ≡ t
    by true e = let z = eqb-true x y e in eq-eqb (n + x) (n + y) (omega arith)
    by false e = let z : (x ≡ y) → ⊥ = eqb-false x y e in ne_eqb (n + x) (n + y) (λ q. z (omega arith))

pub formed_step : (s : List ℕ) (code n : ℕ) → decode_first s ≡ Character code n → well_formed s ≡ well_formed (drop n s)
unfolding well_formed
formed_step s code n e =
    let f = character_fits s 0 code n e in
    let l : length s ≡ n + length (drop n s) = let d = length-drop n s in omega arith in
    rw (prefix_step s code n e, l) (same_sum n (well_formed_length (drop n s)) (length (drop n s)))

pub formed_none : well_formed [] ≡ true
unfolding well_formed
formed_none = rw (prefix_none [] codes_none)

pub formed_not : (a : ℕ) (s : List ℕ) → decode_first (a ∷ s) ≡ IllFormed → well_formed (a ∷ s) ≡ false
unfolding well_formed
formed_not a s e =
    let z = prefix_none (a ∷ s) (codes_stop (a ∷ s) IllFormed e (hit (1 ∷ 2 ∷ []) 1 tt)) in
    ne_eqb (well_formed_length (a ∷ s)) (length (a ∷ s)) (λ q. omega arith)

-- that a text is well-formed exactly if all of it fits, by what it begins with
abbrev Same : List ℕ → Type 0
Same s = eqb (unfit 0 0 0 s) 0 ≡ well_formed s

same_empty : Same []
unfolding unfit
same_empty = eq-eqb (misfit 0 0 0 0) 0 (misfit_ascii 0 0 0 0 (after_whole 0 0 0 (omega arith) (omega arith) (omega arith)) (omega arith)) ∙ sym formed_none

first_is : (x : ℕ) (s : List ℕ) → decode_first (x ∷ s) ≡ table x (get_or s 0 0) (get_or s 1 0) (get_or s 2 0)
unfolding decode_first
first_is x s = refl

same_ascii : (x : ℕ) (s : List ℕ) → x < 0x80 → Same s → Same (x ∷ s)
same_ascii x s h k =
    ap (λ (n : ℕ). eqb n 0)
    (unfit_on 0 0 0 x s (misfit_ascii 0 0 0 x (after_whole 0 0 0 (omega arith) (omega arith) (omega arith)) h)
    ∙ unfit_whole 0 0 x s (omega arith) (omega arith) (omega arith))
    ∙ k
    ∙ sym (formed_step (x ∷ s) x 1 (first_is x s ∙ row_ascii x _ _ _ h))

same_broken : (x : ℕ) (s : List ℕ) → 0x80 ≤ x → within 0xC2 0xF4 x ≡ false → decode_first (x ∷ s) ≡ IllFormed → Same (x ∷ s)
same_broken x s h e f =
    unfit_broken 0 0 0 x s (misfit_head 0 0 0 x (after_whole 0 0 0 (omega arith) (omega arith) (omega arith)) h ∙ outside_is 0xC2 0xF4 x e)
    ∙ sym (formed_not x s f)

not_within : (l g x : ℕ) → (l ≤ x → x ≤ g → ⊥) → within l g x ≡ false
not_within l g x h = by (within l g x) refl
  where
    by : (t : Bool) → within l g x ≡ t → within l g x ≡ false
    by true e = absurd (let w = within_has l g x e in h w.least w.most)
    by false e = e

head_on : (x : ℕ) (s : List ℕ) → 0xC2 ≤ x → x < 0xF5 → unfit 0 0 0 (x ∷ s) ≡ unfit 0 0 x s
head_on x s h k =
    unfit_on 0 0 0 x s
    (misfit_head 0 0 0 x (after_whole 0 0 0 (omega arith) (omega arith) (omega arith)) (omega arith) ∙ outside_not 0xC2 0xF4 x (within_is 0xC2 0xF4 x h (omega arith)))

-- the byte after one from 80 to BF, at a place of a text
front_at : (s : List ℕ) (k : ℕ) → get_or (drop k s) 0 0 ≡ get_or s k 0
front_at s k = let e : k + 0 ≡ k = omega arith in get_or-drop k s 0 0 ∙ ap (λ (j : ℕ). get_or s j 0) e

next_is : (y : ℕ) (s : List ℕ) (k : ℕ) → y < 0xC2 → second y (get_or (drop k s) 0 0) ≡ later (get_or s k 0)
next_is y s k h = second_later y (get_or (drop k s) 0 0) (omega arith) ∙ ap later (front_at s k)

next_low : (s : List ℕ) (k : ℕ) → later (get_or s k 0) ≡ true → get_or (drop k s) 0 0 < 0xC2
next_low s k e =
    let q = front_at s k in
    let w = (within_has 0x80 0xBF (get_or s k 0) e).most in
    omega arith

same_two : (x : ℕ) (s : List ℕ) → 0xC2 ≤ x → x < 0xE0 → Same (drop 1 s) → Same (x ∷ s)
same_two x s h k l = by (second x y) refl
  where
    y : ℕ
    y = get_or s 0 0

    by : (t : Bool) → second x y ≡ t → Same (x ∷ s)
    by true e =
        let w = (second_in x y e).most in
        ap (λ (n : ℕ). eqb n 0)
        (head_on x s h (omega arith) ∙ awaits_more 0 0 x s (after_head 0 0 x h) e ∙ unfit_whole 0 x y (drop 1 s) (omega arith) k (omega arith))
        ∙ l
        ∙ sym (formed_step (x ∷ s) _ 2 (first_is x s ∙ row_two x _ _ _ h k ∙ two_is x y e))
    by false e =
        ap (λ (n : ℕ). eqb n 0) (head_on x s h (omega arith)) ∙ awaits_other 0 0 x s (after_head 0 0 x h) e
        ∙ sym (formed_not x s (first_is x s ∙ row_two x _ _ _ h k ∙ two_not x y e))

-- what the first two bytes of three or four lead to
second_on : (x : ℕ) (s : List ℕ) → 0xC2 ≤ x → x < 0xF5 → second x (get_or s 0 0) ≡ true → unfit 0 0 0 (x ∷ s) ≡ unfit 0 x (get_or s 0 0) (drop 1 s)
second_on x s h k e = head_on x s h k ∙ awaits_more 0 0 x s (after_head 0 0 x h) e

second_off : (x : ℕ) (s : List ℕ) → 0xC2 ≤ x → x < 0xF5 → second x (get_or s 0 0) ≡ false → eqb (unfit 0 0 0 (x ∷ s)) 0 ≡ false
second_off x s h k e = ap (λ (n : ℕ). eqb n 0) (head_on x s h k) ∙ awaits_other 0 0 x s (after_head 0 0 x h) e

third_on : (x y : ℕ) (s : List ℕ) → 0xE0 ≤ x → y < 0xC2 → later (get_or s 1 0) ≡ true → unfit 0 x y (drop 1 s) ≡ unfit x y (get_or (drop 1 s) 0 0) (drop 2 s)
third_on x y s h k e =
    awaits_more 0 x y (drop 1 s) (after_second 0 x y k h) (next_is y s 1 k ∙ e)
    ∙ ap (λ (l : List ℕ). unfit x y (get_or (drop 1 s) 0 0) l) (drop-drop 1 1 s)

third_off : (x y : ℕ) (s : List ℕ) → 0xE0 ≤ x → y < 0xC2 → later (get_or s 1 0) ≡ false → eqb (unfit 0 x y (drop 1 s)) 0 ≡ false
third_off x y s h k e = awaits_other 0 x y (drop 1 s) (after_second 0 x y k h) (next_is y s 1 k ∙ e)

same_three : (x : ℕ) (s : List ℕ) → 0xE0 ≤ x → x < 0xF0 → Same (drop 2 s) → Same (x ∷ s)
same_three x s h k l = by (second x y) (later z) refl refl
  where
    y : ℕ
    y = get_or s 0 0

    z : ℕ
    z = get_or s 1 0

    by : (t u : Bool) → second x y ≡ t → later z ≡ u → Same (x ∷ s)
    by true true e f =
        let w = (second_in x y e).most in
        ap (λ (n : ℕ). eqb n 0)
        (second_on x s (omega arith) (omega arith) e ∙ third_on x y s h (omega arith) f
        ∙ unfit_whole x y (get_or (drop 1 s) 0 0) (drop 2 s) (next_low s 1 f) (omega arith) k)
        ∙ l
        ∙ sym (formed_step (x ∷ s) _ 3 (first_is x s ∙ row_three x _ _ _ h k ∙ three_is x y z e f))
    by true false e f =
        let w = (second_in x y e).most in
        ap (λ (n : ℕ). eqb n 0) (second_on x s (omega arith) (omega arith) e) ∙ third_off x y s h (omega arith) f
        ∙ sym (formed_not x s (first_is x s ∙ row_three x _ _ _ h k ∙ three_cut x y z e f))
    by false u e f =
        second_off x s (omega arith) (omega arith) e ∙ sym (formed_not x s (first_is x s ∙ row_three x _ _ _ h k ∙ three_not x y z e))

fourth_awaited : (x y z : ℕ) → 0xF0 ≤ x → y < 0xC2 → z < 0xC2 → awaited x y z ≡ true
fourth_awaited x y z h k l = after_third x y z l (omega arith) ∙ le-leb 0xF0 x h

fourth_on : (x y z : ℕ) (s : List ℕ) → 0xF0 ≤ x → y < 0xC2 → z < 0xC2 → later (get_or s 2 0) ≡ true → unfit x y z (drop 2 s) ≡ unfit y z (get_or (drop 2 s) 0 0) (drop 3 s)
fourth_on x y z s h k l e =
    awaits_more x y z (drop 2 s) (fourth_awaited x y z h k l) (next_is z s 2 l ∙ e)
    ∙ ap (λ (t : List ℕ). unfit y z (get_or (drop 2 s) 0 0) t) (drop-drop 1 2 s)

fourth_off : (x y z : ℕ) (s : List ℕ) → 0xF0 ≤ x → y < 0xC2 → z < 0xC2 → later (get_or s 2 0) ≡ false → eqb (unfit x y z (drop 2 s)) 0 ≡ false
fourth_off x y z s h k l e = awaits_other x y z (drop 2 s) (fourth_awaited x y z h k l) (next_is z s 2 l ∙ e)

same_four : (x : ℕ) (s : List ℕ) → 0xF0 ≤ x → x < 0xF5 → Same (drop 3 s) → Same (x ∷ s)
same_four x s h k l = by (second x y) (later z) (later v) refl refl refl
  where
    y : ℕ
    y = get_or s 0 0

    z : ℕ
    z = get_or s 1 0

    v : ℕ
    v = get_or s 2 0

    by : (t u w : Bool) → second x y ≡ t → later z ≡ u → later v ≡ w → Same (x ∷ s)
    by true true true e f g =
        let w = (second_in x y e).most in
        let m = next_low s 1 f in
        ap (λ (n : ℕ). eqb n 0)
        (second_on x s (omega arith) k e ∙ third_on x y s (omega arith) (omega arith) f ∙ fourth_on x y _ s h (omega arith) m g
        ∙ unfit_whole y (get_or (drop 1 s) 0 0) (get_or (drop 2 s) 0 0) (drop 3 s) (next_low s 2 g) (omega arith) (omega arith))
        ∙ l
        ∙ sym (formed_step (x ∷ s) _ 4 (first_is x s ∙ row_four x _ _ _ h k ∙ four_is x y z v e f g))
    by true true false e f g =
        let w = (second_in x y e).most in
        let m = next_low s 1 f in
        ap (λ (n : ℕ). eqb n 0) (second_on x s (omega arith) k e ∙ third_on x y s (omega arith) (omega arith) f)
        ∙ fourth_off x y _ s h (omega arith) m g
        ∙ sym (formed_not x s (first_is x s ∙ row_four x _ _ _ h k ∙ four_cut_last x y z v e f g))
    by true false u e f g =
        let w = (second_in x y e).most in
        ap (λ (n : ℕ). eqb n 0) (second_on x s (omega arith) k e) ∙ third_off x y s (omega arith) (omega arith) f
        ∙ sym (formed_not x s (first_is x s ∙ row_four x _ _ _ h k ∙ four_cut x y z v e f))
    by false t u e f g =
        second_off x s (omega arith) k e ∙ sym (formed_not x s (first_is x s ∙ row_four x _ _ _ h k ∙ four_not x y z v e))

-- by the first byte, given the law for what is left after one, two, three or four bytes
same_front : (x : ℕ) (s : List ℕ) → ((i : ℕ) → Same (drop i s)) → Same (x ∷ s)
same_front x s ih =
    ⊎_elim
    (λ (h : x < 0x80). same_ascii x s h (ih 0))
    (λ (h : 0x80 ≤ x).
    ⊎_elim
    (λ (k : x < 0xC2). same_broken x s h (not_within 0xC2 0xF4 x (λ l m. omega arith)) (first_is x s ∙ row_none x _ _ _ h k))
    (λ (k : 0xC2 ≤ x).
    ⊎_elim
    (λ (l : x < 0xE0). same_two x s k l (ih 1))
    (λ (l : 0xE0 ≤ x).
    ⊎_elim
    (λ (m : x < 0xF0). same_three x s l m (ih 2))
    (λ (m : 0xF0 ≤ x).
    ⊎_elim
    (λ (n : x < 0xF5). same_four x s m n (ih 3))
    (λ (n : 0xF5 ≤ x). same_broken x s h (not_within 0xC2 0xF4 x (λ p q. omega arith)) (first_is x s ∙ row_past x _ _ _ n))
    (below_or_not x 0xF5))
    (below_or_not x 0xF0))
    (below_or_not x 0xE0))
    (below_or_not x 0xC2))
    (below_or_not x 0x80)

same_within : (k : ℕ) (s : List ℕ) → length s < k → Same s
same_within zero s h = absurd (omega arith)
same_within (suc k) [] h = same_empty
same_within (suc k) (x ∷ s) h = same_front x s (λ i. same_within k (drop i s) (let d = length-drop i s in omega arith))

-- a text is well-formed exactly if its bytes and its end fit
pub fits_formed : (s : List ℕ) → eqb (unfit 0 0 0 s) 0 ≡ well_formed s
fits_formed s = same_within (suc (length s)) s (omega arith)
