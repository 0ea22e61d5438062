-- A text whose bytes are judged in parts: its first three bytes, blocks that may overlap, and its end.
use Prim.Native.Nat.{ℕ, zero, suc, ◌+◌, ◌-◌, ◌<◌, ◌≤◌, max}
use mathlib.Core.Path.{◌≡◌, refl, sym, ap, ◌∙◌}
use mathlib.Core.List.{List, [], ◌∷◌}
use native.Mathlib.Omega.{arith}
use mathlib.Core.Bool.{Bool, true, false, ◌&&◌}
use borrow.Author.Tests.{ne_eqb}
use lib.Dec.{eqb}
use lib.ListN.{length, take, drop, get_or, length-drop}
use lib.Seq.{get_or-drop, drop-drop}
use Rattle.buffer.specs.Greatest.{greatest}
use Rattle.buffer.proofs.Lists.{drop_step, drop_end}
use Rattle.buffer.proofs.Greatest.{greatest_append, greatest_covered}
use Rattle.text.specs.Inner.{misfit, misfits, misfits_in, end_misfit, unfit}

-- as many as there are bytes from the fourth on
length_misfits : (c b a : ℕ) (s : List ℕ) → length (misfits c b a s) ≡ length s
unfolding misfits
length_misfits c b a [] = refl
length_misfits c b a (x ∷ s) = ap (λ (n : ℕ). suc n) (length_misfits b a x s)

length_in : (s : List ℕ) → length (misfits_in s) ≡ length s - 3
unfolding misfits_in
length_in s = length_misfits (get_or s 0 0) (get_or s 1 0) (get_or s 2 0) (drop 3 s) ∙ length-drop 3 s

-- what is left of a text, and its beginning
in_rest : (x : ℕ) (s : List ℕ) → misfits_in s ≡ drop 1 (misfits_in (x ∷ s))
unfolding misfits misfits_in
in_rest x [] = refl
in_rest x (b ∷ []) = refl
in_rest x (b ∷ a ∷ []) = refl
in_rest x (b ∷ a ∷ y ∷ s) = refl

in_drop : (j : ℕ) (s : List ℕ) → misfits_in (drop j s) ≡ drop j (misfits_in s)
unfolding misfits misfits_in
in_drop zero s = refl
in_drop (suc j) [] = refl
in_drop (suc j) (x ∷ s) =
    let e : 1 + j ≡ suc j = omega arith in
    in_drop j s ∙ ap (drop j) (in_rest x s) ∙ drop-drop j 1 (misfits_in (x ∷ s)) ∙ ap (λ (n : ℕ). drop n (misfits_in (x ∷ s))) e

misfits_take : (i c b a : ℕ) (s : List ℕ) → misfits c b a (take i s) ≡ take i (misfits c b a s)
unfolding misfits
misfits_take zero c b a s = refl
misfits_take (suc i) c b a [] = refl
misfits_take (suc i) c b a (x ∷ s) = ap (λ (l : List ℕ). misfit c b a x ∷ l) (misfits_take i b a x s)

take_none : (i : ℕ) → take {A = ℕ} i [] ≡ []
take_none zero = refl
take_none (suc i) = refl

in_front : (i : ℕ) (s : List ℕ) → misfits_in (take (suc (suc (suc i))) s) ≡ take i (misfits_in s)
unfolding misfits misfits_in
in_front i [] = sym (take_none i)
in_front i (c ∷ []) = sym (take_none i)
in_front i (c ∷ b ∷ []) = sym (take_none i)
in_front i (c ∷ b ∷ a ∷ s) = misfits_take i c b a s

in_take : (i : ℕ) (s : List ℕ) → misfits_in (take (i + 3) s) ≡ take i (misfits_in s)
in_take i s = let e : i + 3 ≡ suc (suc (suc i)) = omega arith in ap (λ (n : ℕ). misfits_in (take n s)) e ∙ in_front i s

-- a beginning and an end that together cover a text
pub misfits_covered : (s : List ℕ) (i j : ℕ) → j ≤ i → max (greatest (misfits_in (take (i + 3) s))) (greatest (misfits_in (drop j s))) ≡ greatest (misfits_in s)
misfits_covered s i j h =
    ap (λ (l : List ℕ). max (greatest l) (greatest (misfits_in (drop j s)))) (in_take i s)
    ∙ ap (λ (l : List ℕ). max (greatest (take i (misfits_in s))) (greatest l)) (in_drop j s)
    ∙ greatest_covered (misfits_in s) i j h

-- the misfit at a place
front_in : (s : List ℕ) → 3 < length s → get_or (misfits_in s) 0 0 ≡ misfit (get_or s 0 0) (get_or s 1 0) (get_or s 2 0) (get_or s 3 0)
unfolding misfits misfits_in
front_in [] h = absurd (omega arith)
front_in (c ∷ []) h = absurd (omega arith)
front_in (c ∷ b ∷ []) h = absurd (omega arith)
front_in (c ∷ b ∷ a ∷ []) h = absurd (omega arith)
front_in (c ∷ b ∷ a ∷ x ∷ s) h = refl

misfit_at : (s : List ℕ) (j : ℕ) → j + 3 < length s → get_or (misfits_in s) j 0 ≡ misfit (get_or s j 0) (get_or s (j + 1) 0) (get_or s (j + 2) 0) (get_or s (j + 3) 0)
misfit_at s j h =
    let e : j + 0 ≡ j = omega arith in
    let l = length-drop j s in
    let p : get_or (misfits_in (drop j s)) 0 0 ≡ get_or (misfits_in s) j 0 =
    ap (λ (t : List ℕ). get_or t 0 0) (in_drop j s) ∙ get_or-drop j (misfits_in s) 0 0 ∙ ap (λ (n : ℕ). get_or (misfits_in s) n 0) e
    in
    let q : get_or (drop j s) 0 0 ≡ get_or s j 0 = get_or-drop j s 0 0 ∙ ap (λ (n : ℕ). get_or s n 0) e in
    sym p ∙ front_in (drop j s) (omega arith) ∙ cc (q, get_or-drop j s 1 0, get_or-drop j s 2 0, get_or-drop j s 3 0)

-- of two both fit exactly if there is no misfit
none_both : (m n : ℕ) → (eqb m 0 && eqb n 0) ≡ eqb (max m n) 0
none_both zero n = let e : n ≡ max 0 n = omega arith in ap (λ (k : ℕ). eqb k 0) e
none_both (suc m) n = ap (λ (t : Bool). t && eqb n 0) (ne_eqb (suc m) 0 (λ e. omega arith)) ∙ sym (ne_eqb (max (suc m) n) 0 (λ e. omega arith))

pub both_fit : (t u : Bool) (m n : ℕ) → t ≡ eqb m 0 → u ≡ eqb n 0 → (t && u) ≡ eqb (max m n) 0
both_fit t u m n e f = cc (e, f) ∙ none_both m n

pub three_fit : (t u v : Bool) (m n k : ℕ) → t ≡ eqb m 0 → u ≡ eqb n 0 → v ≡ eqb k 0 → ((t && u) && v) ≡ eqb (max (max m n) k) 0
three_fit t u v m n k e f g = both_fit (t && u) v (max m n) k (both_fit t u m n e f) g

-- a turn of the pass, which looks back from its place, and its end
pub pass_turn : (s : List ℕ) (i : ℕ) (fit t : Bool) → 3 ≤ i → i < length s → t ≡ eqb (misfit (get_or s (i - 3) 0) (get_or s (i - 2) 0) (get_or s (i - 1) 0) (get_or s i 0)) 0
    → ((fit && t) && eqb (greatest (drop (i + 1 - 3) (misfits_in s))) 0) ≡ (fit && eqb (greatest (drop (i - 3) (misfits_in s))) 0)
unfolding greatest
pass_turn s i true t h k e =
    let on : i + 1 - 3 ≡ i - 3 + 1 = omega arith in
    let p : i - 2 ≡ i - 3 + 1 = omega arith in
    let q : i - 1 ≡ i - 3 + 2 = omega arith in
    let r : i ≡ i - 3 + 3 = omega arith in
    let l = length_in s in
    let is : misfit (get_or s (i - 3) 0) (get_or s (i - 2) 0) (get_or s (i - 1) 0) (get_or s i 0) ≡ get_or (misfits_in s) (i - 3) 0 =
    cc (ap (λ (n : ℕ). get_or s n 0) p, ap (λ (n : ℕ). get_or s n 0) q, ap (λ (n : ℕ). get_or s n 0) r) ∙ sym (misfit_at s (i - 3) (omega arith))
    in
    ap (λ (u : Bool). u && eqb (greatest (drop (i + 1 - 3) (misfits_in s))) 0) (e ∙ ap (λ (n : ℕ). eqb n 0) is)
    ∙ none_both (get_or (misfits_in s) (i - 3) 0) (greatest (drop (i + 1 - 3) (misfits_in s)))
    ∙ ap (λ (n : ℕ). eqb (max (get_or (misfits_in s) (i - 3) 0) (greatest (drop n (misfits_in s)))) 0) on
    ∙ ap (λ (t : List ℕ). eqb (greatest t) 0) (sym (drop_step (misfits_in s) (i - 3) 0 (omega arith)))
pass_turn s i false t h k e = refl

pub pass_end : (s : List ℕ) (i : ℕ) (fit : Bool) → length s ≤ i → fit ≡ (fit && eqb (greatest (drop (i - 3) (misfits_in s))) 0)
unfolding greatest
pass_end s i true h = let l = length_in s in rw (drop_end (misfits_in s) (i - 3) (omega arith)) refl
pass_end s i false h = refl

-- a turn of the walk, which carries the last three bytes, and its end
pub walk_turn : (s : List ℕ) (c b a i : ℕ) (fit t : Bool) → i < length s → t ≡ eqb (misfit c b a (get_or s i 0)) 0
    → ((fit && t) && eqb (unfit b a (get_or s i 0) (drop (i + 1) s)) 0) ≡ (fit && eqb (unfit c b a (drop i s)) 0)
unfolding unfit
walk_turn s c b a i true t h e =
    rw (drop_step s i 0) (ap (λ (u : Bool). u && eqb (unfit b a (get_or s i 0) (drop (i + 1) s)) 0) e ∙ none_both (misfit c b a (get_or s i 0)) (unfit b a (get_or s i 0) (drop (i + 1) s)))
walk_turn s c b a i false t h e = refl

pub walk_end : (s : List ℕ) (c b a i : ℕ) (fit : Bool) → length s ≤ i → (fit && eqb (misfit c b a 0) 0) ≡ (fit && eqb (unfit c b a (drop i s)) 0)
unfolding unfit
walk_end s c b a i fit h = rw (drop_end s i) refl

-- the first three bytes
nested : (p q r : ℕ) → max (max p q) r ≡ max p (max q (max r 0))
nested p q r = omega arith

pub front_three : (s : List ℕ) → 3 ≤ length s
    → max (max (misfit 0 0 0 (get_or s 0 0)) (misfit 0 0 (get_or s 0 0) (get_or s 1 0))) (misfit 0 (get_or s 0 0) (get_or s 1 0) (get_or s 2 0)) ≡ greatest (misfits 0 0 0 (take 3 s))
unfolding misfits greatest
front_three [] h = absurd (omega arith)
front_three (x ∷ []) h = absurd (omega arith)
front_three (x ∷ y ∷ []) h = absurd (omega arith)
front_three (x ∷ y ∷ z ∷ s) h = nested (misfit 0 0 0 x) (misfit 0 0 x y) (misfit 0 x y z)

-- the end is judged by the last three bytes
end_on : (c : ℕ) (s : List ℕ) → 3 ≤ length s → end_misfit (c ∷ s) ≡ end_misfit s
unfolding end_misfit
end_on c s h =
    let p : length (c ∷ s) - 3 ≡ suc (length s - 3) = omega arith in
    let q : length (c ∷ s) - 2 ≡ suc (length s - 2) = omega arith in
    let r : length (c ∷ s) - 1 ≡ suc (length s - 1) = omega arith in
    rw (p, q, r) refl

end_three : (c b a : ℕ) → end_misfit (c ∷ b ∷ a ∷ []) ≡ misfit c b a 0
unfolding end_misfit
end_three c b a = refl

unfit_parts : (c b a : ℕ) (s : List ℕ) → unfit c b a s ≡ max (greatest (misfits c b a s)) (end_misfit (c ∷ b ∷ a ∷ s))
unfolding unfit misfits greatest
unfit_parts c b a [] = let e = end_three c b a in omega arith
unfit_parts c b a (x ∷ s) =
    let e = unfit_parts b a x s in
    let f = end_on c (b ∷ a ∷ x ∷ s) (omega arith) in
    omega arith

-- the first three bytes, those from the fourth on, and the end
three_parts : (s : List ℕ) → 3 ≤ length s → greatest (misfits 0 0 0 s) ≡ max (greatest (misfits 0 0 0 (take 3 s))) (greatest (misfits_in s))
unfolding misfits misfits_in
three_parts [] h = absurd (omega arith)
three_parts (x ∷ []) h = absurd (omega arith)
three_parts (x ∷ y ∷ []) h = absurd (omega arith)
three_parts (x ∷ y ∷ z ∷ s) h = greatest_append (misfits 0 0 0 (x ∷ y ∷ z ∷ [])) (misfits x y z s)

pub unfit_three : (s : List ℕ) → 3 ≤ length s → max (max (greatest (misfits 0 0 0 (take 3 s))) (greatest (misfits_in s))) (end_misfit s) ≡ unfit 0 0 0 s
unfit_three s h =
    let e : end_misfit (0 ∷ 0 ∷ 0 ∷ s) ≡ end_misfit s = end_on 0 (0 ∷ 0 ∷ s) (omega arith) ∙ end_on 0 (0 ∷ s) (omega arith) ∙ end_on 0 s h in
    ap (λ (n : ℕ). max n (end_misfit s)) (sym (three_parts s h)) ∙ ap (λ (n : ℕ). max (greatest (misfits 0 0 0 s)) n) (sym e) ∙ sym (unfit_parts 0 0 0 s)
