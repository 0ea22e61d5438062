-- Laws of forgetting an entry: what remains are the entries without one, or without two that stand together, and it keeps the rules: one removal more is always enough.
use Prim.Native.Nat.{ℕ, zero, suc, ◌+◌, ◌-◌, ◌<◌, ◌≤◌}
use mathlib.Core.Path.{◌≡◌, refl, sym, ap, ◌∙◌}
use mathlib.Core.Bool.{Bool, true, false, cond}
use mathlib.Core.List.{List, [], ◌∷◌, ◌++◌}
use native.Mathlib.Omega.{arith}
use lib.Dec.{ltb}
use lib.ListN.{length, take, drop, get_or, length-append, length-drop, get_or-append, take-append-drop}
use lib.Seq.{take-append-le, drop_at, take-take, drop-drop, length-take-le, get_or-take, get_or-drop, get_or-append-add}
use borrow.Author.Tests.{lt-ltb, le-ltb, ltb-true, ltb-false}
use Rattle.buffer.proofs.Choices.{then_is, else_is, neither, true_is_not_false}
use Rattle.buffer.proofs.Ordering.{same_is, is_same}
use Rattle.buffer.specs.Compare.{same_bytes}
use Rattle.history.specs.Entries.{usable, sound, total}
use Rattle.history.specs.Forgotten.{without, repeats, remaining, gone}
use Rattle.history.specs.Inner.{cut_out}
use Rattle.history.proofs.Layouts.{Short, short_append, short_take, short_drop}
use Rattle.history.proofs.Judging.{usable_some}
use Rattle.history.proofs.States.{holds, refutes}
use Rattle.history.proofs.Totals.{total_append}
use Rattle.history.proofs.Kept.{Entries, usable_at, sound_from}

-- entries cut out from one number up to another: how many are left, that they are short, and their total
pub length_cut : (s t : ℕ) (es : List (List ℕ)) → s ≤ t → t ≤ length es → length (cut_out s t es) ≡ length es - (t - s)
length_cut s t es h k =
    let a = length-append (take s es) (drop t es) in
    let b = length-take-le s es (omega arith) in
    let c = length-drop t es in
    omega arith

short_cut : (s t : ℕ) (es : List (List ℕ)) → Short es → Short (cut_out s t es)
short_cut s t es h = short_append (take s es) (drop t es) (short_take s es h) (short_drop t es h)

pub total_cut : (s t : ℕ) (es : List (List ℕ)) → s ≤ t → total (cut_out s t es) + total (take (t - s) (drop s es)) ≡ total es
total_cut s t es h =
    let on : s + (t - s) ≡ t = omega arith in
    let front = ap total (take-append-drop s es) in
    let rest = ap total (take-append-drop (t - s) (drop s es)) in
    let tail : total (drop (t - s) (drop s es)) ≡ total (drop t es) = ap total (drop-drop (t - s) s es ∙ ap (λ (n : ℕ). drop n es) on) in
    let a = total_append (take s es) (drop s es) in
    let b = total_append (take (t - s) (drop s es)) (drop (t - s) (drop s es)) in
    let c = total_append (take s es) (drop t es) in
    omega arith

-- of entries that follow another each differs from the one before it
differs_at : (before : List ℕ) (es : List (List ℕ)) (i : ℕ) → i < length es → sound before es ≡ true → same_bytes (get_or (before ∷ es) i []) (get_or es i []) ≡ false
unfolding sound
differs_at before [] i l s = absurd (omega arith)
differs_at before (e ∷ es) zero l s = (refutes (same_bytes before e) _ (holds (usable e) _ s).1).0
differs_at before (e ∷ es) (suc i) l s = differs_at e es i (omega arith) (refutes (same_bytes before e) _ (holds (usable e) _ s).1).1

pub neighbours : (es : List (List ℕ)) (i : ℕ) → i + 1 < length es → sound [] es ≡ true → get_or es i [] ≡ get_or es (i + 1) [] → ⊥
neighbours es i l s e =
    let on : i + 1 ≡ suc i = omega arith in
    let d = ap (λ (n : ℕ). same_bytes (get_or ([] ∷ es) n []) (get_or es (i + 1) [])) (sym on) ∙ differs_at [] es (i + 1) l s in
    true_is_not_false (sym (is_same (get_or es i []) (get_or es (i + 1) []) e) ∙ d)

-- entries cut out leave sound ones where those that come together differ
sound_cut : (before : List ℕ) (es : List (List ℕ)) (s t : ℕ) → s ≤ t → sound before es ≡ true → (t < length es → same_bytes (get_or (before ∷ es) s []) (get_or es t []) ≡ false)
    → sound before (cut_out s t es) ≡ true
unfolding sound
sound_cut before es zero t h k d = sound_from before before es t k d
sound_cut before es (suc s) zero h k d = absurd (omega arith)
sound_cut before [] (suc s) (suc t) h k d = refl
sound_cut before (e ∷ es) (suc s) (suc t) h k d =
    let a = holds (usable e) _ k in
    let b = refutes (same_bytes before e) _ a.1 in
    then_is _ _ _ a.0 ∙ else_is _ _ _ b.0 ∙ sound_cut e es s t (omega arith) b.1 (λ l. d (omega arith))

-- two texts that were read, compared
pub as_read : {a b c d : List ℕ} → a ≡ c → b ≡ d → same_bytes a b ≡ same_bytes c d
as_read p q = cc

-- which entries come together without entry k: those before and after it, where both are there
module _ (k : ℕ) (es : List (List ℕ)) where
  pub first_alone : k ≡ 0 → repeats k (without k es) ≡ false
  unfolding repeats
  first_alone e = else_is _ _ _ (le-ltb 0 k (omega arith))

  pub one_goes : repeats k (without k es) ≡ false → gone k es ≡ 1
  unfolding gone
  one_goes r = else_is _ _ _ r

  pub two_gone : repeats k (without k es) ≡ true → gone k es ≡ 2
  unfolding gone
  two_gone r = then_is _ _ _ r

  module _ (there : k < length es) where
    front : length (take k es) ≡ k
    front = length-take-le k es (omega arith)

    length_without : length (without k es) ≡ length es - 1
    unfolding without
    length_without = let c = length_cut k (k + 1) es (omega arith) (omega arith) in omega arith

    pub last_alone : length es ≤ k + 1 → repeats k (without k es) ≡ false
    unfolding repeats
    last_alone l =
        ap (λ (t : Bool). cond (ltb 0 k) t false) (else_is _ _ _ (let n = length_without in le-ltb k (length (without k es)) (omega arith)))
        ∙ neither (ltb 0 k)

    pub come_together : 0 < k → k + 1 < length es → repeats k (without k es) ≡ same_bytes (get_or es (k - 1) []) (get_or es (k + 1) [])
    unfolding repeats without
    come_together p l =
        let n = length_without in
        let f = front in
        let older : get_or (without k es) (k - 1) [] ≡ get_or es (k - 1) [] =
        get_or-append (take k es) (drop (k + 1) es) [] (k - 1) (omega arith) ∙ get_or-take k es (k - 1) [] (omega arith)
        in
        let at : k ≡ length (take k es) + 0 = omega arith in
        let on : k + 1 + 0 ≡ k + 1 = omega arith in
        let newer : get_or (without k es) k [] ≡ get_or es (k + 1) [] =
        ap (λ (i : ℕ). get_or (take k es ++ drop (k + 1) es) i []) at
        ∙ get_or-append-add (take k es) (drop (k + 1) es) 0 []
        ∙ get_or-drop (k + 1) es 0 []
        ∙ ap (λ (i : ℕ). get_or es i []) on
        in
        then_is _ _ _ (lt-ltb 0 k p)
        ∙ then_is _ _ _ (lt-ltb k (length (without k es)) (omega arith))
        ∙ ap (λ (e : List ℕ). same_bytes e (get_or (without k es) k [])) older
        ∙ ap (same_bytes (get_or es (k - 1) [])) newer

    -- two go only where there is one before it and one after it, and these are equal
    pub together : repeats k (without k es) ≡ true → (0 < k) × (k + 1 < length es) × (get_or es (k - 1) [] ≡ get_or es (k + 1) [])
    together r = by (ltb 0 k) (ltb (k + 1) (length es)) refl refl
      where
        not_both : {A : Type 0} → repeats k (without k es) ≡ false → A
        not_both e = absurd (true_is_not_false (sym r ∙ e))

        by : (a b : Bool) → ltb 0 k ≡ a → ltb (k + 1) (length es) ≡ b → (0 < k) × (k + 1 < length es) × (get_or es (k - 1) [] ≡ get_or es (k + 1) [])
        by false b p q = not_both (first_alone (let z = ltb-false 0 k p in omega arith))
        by true false p q = not_both (last_alone (ltb-false (k + 1) (length es) q))
        by true true p q =
            let a = ltb-true 0 k p in
            let b = ltb-true (k + 1) (length es) q in
            (a, b, same_is _ _ (sym (come_together a b) ∙ r))

    -- what remains, as entries cut out
    cut_one : repeats k (without k es) ≡ false → remaining k es ≡ cut_out k (k + 1) es
    unfolding remaining without
    cut_one r = else_is _ _ _ r

    cut_two : repeats k (without k es) ≡ true → remaining k es ≡ cut_out (k - 1) (k + 1) es
    unfolding remaining without
    cut_two r =
        let p = (together r).0 in
        let f = front in
        let on : k - 1 + 1 ≡ k = omega arith in
        then_is _ _ _ r
        ∙ ap (λ (l : List (List ℕ)). l ++ drop (k - 1 + 1) (take k es ++ drop (k + 1) es))
        (take-append-le (k - 1) (take k es) (drop (k + 1) es) (omega arith) ∙ take-take (k - 1) k es (omega arith))
        ∙ ap (λ (n : ℕ). take (k - 1) es ++ drop n (take k es ++ drop (k + 1) es)) on
        ∙ ap (λ (l : List (List ℕ)). take (k - 1) es ++ l) (drop_at (take k es) (drop (k + 1) es) k front)

    -- two go exactly there
    pub two_go : gone k es ≡ 2 → (0 < k) × (k + 1 < length es) × (get_or es (k - 1) [] ≡ get_or es (k + 1) [])
    two_go e = by (repeats k (without k es)) refl
      where
        by : (t : Bool) → repeats k (without k es) ≡ t → (0 < k) × (k + 1 < length es) × (get_or es (k - 1) [] ≡ get_or es (k + 1) [])
        by true r = together r
        by false r = absurd (let n = one_goes r in omega arith)

    pub then_two : 0 < k → k + 1 < length es → get_or es (k - 1) [] ≡ get_or es (k + 1) [] → gone k es ≡ 2
    then_two p l e = two_gone (come_together p l ∙ is_same (get_or es (k - 1) []) (get_or es (k + 1) []) e)

    -- one or two go, and what remains are those before them and those after entry k, in their order
    pub gone_few : (1 ≤ gone k es) × (gone k es ≤ 2) × (gone k es ≤ k + 1)
    gone_few = by (repeats k (without k es)) refl
      where
        by : (t : Bool) → repeats k (without k es) ≡ t → (1 ≤ gone k es) × (gone k es ≤ 2) × (gone k es ≤ k + 1)
        by true r = let p = (together r).0 in let e = two_gone r in (omega arith, omega arith, omega arith)
        by false r = let e = one_goes r in (omega arith, omega arith, omega arith)

    pub remaining_cut : remaining k es ≡ cut_out (k + 1 - gone k es) (k + 1) es
    remaining_cut = by (repeats k (without k es)) refl
      where
        cut : (start : ℕ) → start ≡ k + 1 - gone k es → cut_out start (k + 1) es ≡ cut_out (k + 1 - gone k es) (k + 1) es
        cut start e = ap (λ (i : ℕ). cut_out i (k + 1) es) e

        by : (t : Bool) → repeats k (without k es) ≡ t → remaining k es ≡ cut_out (k + 1 - gone k es) (k + 1) es
        by true r = let p = (together r).0 in let e = two_gone r in cut_two r ∙ cut (k - 1) (omega arith)
        by false r = let e = one_goes r in cut_one r ∙ cut k (omega arith)

    pub length_remaining : length (remaining k es) + gone k es ≡ length es
    length_remaining =
        let g = gone_few in
        let few = g.2 in
        let n = ap length remaining_cut ∙ length_cut (k + 1 - gone k es) (k + 1) es (omega arith) (omega arith) in
        omega arith

    pub total_remaining : total (remaining k es) + total (take (gone k es) (drop (k + 1 - gone k es) es)) ≡ total es
    total_remaining =
        let few = gone_few.2 in
        let n : k + 1 - (k + 1 - gone k es) ≡ gone k es = omega arith in
        let c = total_cut (k + 1 - gone k es) (k + 1) es (omega arith) in
        ap (λ (l : List (List ℕ)). total l + total (take (gone k es) (drop (k + 1 - gone k es) es))) remaining_cut
        ∙ ap (λ (m : ℕ). total (cut_out (k + 1 - gone k es) (k + 1) es) + total (take m (drop (k + 1 - gone k es) es))) (sym n)
        ∙ c

    -- NEIGHBOURS STILL DIFFER: the one removal more is always enough
    pub sound_remaining : sound [] es ≡ true → sound [] (remaining k es) ≡ true
    sound_remaining s = by (repeats k (without k es)) refl
      where
        by : (t : Bool) → repeats k (without k es) ≡ t → sound [] (remaining k es) ≡ true
        by true r =
            let a = together r in
            let b = a.1 in
            ap (sound []) (cut_two r)
            ∙ sound_cut [] es (k - 1) (k + 1) (omega arith) s
            (λ l. ap (same_bytes (get_or ([] ∷ es) (k - 1) [])) (sym a.2) ∙ differs_at [] es (k - 1) (omega arith) s)
        by false r = ap (sound []) (cut_one r) ∙ sound_cut [] es k (k + 1) (omega arith) s (λ l. apart (ltb 0 k) refl l)
          where
            apart : (t : Bool) → ltb 0 k ≡ t → k + 1 < length es → same_bytes (get_or ([] ∷ es) k []) (get_or es (k + 1) []) ≡ false
            apart false p l =
                let z = ltb-false 0 k p in
                let e : k ≡ 0 = omega arith in
                ap (λ (i : ℕ). same_bytes (get_or ([] ∷ es) i []) (get_or es (k + 1) [])) e ∙ usable_some (get_or es (k + 1) []) (usable_at [] es (k + 1) l s)
            apart true p l =
                let a = ltb-true 0 k p in
                let e : k ≡ suc (k - 1) = omega arith in
                ap (λ (i : ℕ). same_bytes (get_or ([] ∷ es) i []) (get_or es (k + 1) [])) e ∙ sym (come_together a l) ∙ r

    pub entries_remaining : Entries es → Entries (remaining k es)
    entries_remaining g =
        let few = g.few in
        let n = length_remaining in
        record {
          short = rw remaining_cut (short_cut (k + 1 - gone k es) (k + 1) es g.short);
          few = omega arith;
          is_sound = sound_remaining g.is_sound;
        }
