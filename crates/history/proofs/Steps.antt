-- Laws of a history's record and of the steps that change it.
use Rattle.std.specs.Prelude.{Some, None, Option}
use Prim.Native.Nat.{ℕ, ◌+◌, ◌-◌, ◌<◌, ◌≤◌}
use mathlib.Core.Path.{◌≡◌, refl, sym, ap, ◌∙◌}
use mathlib.Core.Bool.{Bool, true, false, cond}
use native.Mathlib.Omega.{arith}
use lib.Dec.{ltb, eqb}
use borrow.Author.Tests.{lt-ltb, le-ltb}
use Rattle.buffer.proofs.Choices.{then_is, else_is}
use Rattle.history.specs.Steps.{placed_at, back, recalled_at, onward}
use Rattle.history.specs.declared.stepping.History.{History}
use Rattle.history.specs.declared.stepping.Step.{Step}

-- records with the same numbers
pub same_numbers : {n m p q t u f g : ℕ} → n ≡ m → p ≡ q → t ≡ u → f ≡ g
    → ◌≡◌ {A = History} (record { count = n; place = p; total = t; first = f }) (record { count = m; place = q; total = u; first = g })
same_numbers a b c d = cc

-- a step on, with what it recalls
abbrev stepped : History → Option ℕ → Step
stepped h r = record { history = placed_at h (h.place + 1); recalled = r }

onward_below : (h : History) → h.place < h.count → onward h ≡ stepped h (recalled_at h.count (h.place + 1))
unfolding onward
onward_below h k = then_is _ _ _ (lt-ltb _ _ k)

pub onward_end : (h : History) → h.place < h.count → h.count ≤ h.place + 1 → onward h ≡ stepped h None
unfolding recalled_at
onward_end h k l = onward_below h k ∙ ap (stepped h) (else_is _ _ _ (le-ltb (h.place + 1) h.count l))

pub onward_entry : (h : History) → h.place + 1 < h.count → onward h ≡ stepped h (Some (h.place + 1))
unfolding recalled_at
onward_entry h l = onward_below h (omega arith) ∙ ap (stepped h) (then_is _ _ _ (lt-ltb (h.place + 1) h.count l))

-- a step changes the place alone
pub back_placed : (h : History) → (back h).history ≡ placed_at h (back h).history.place
unfolding back
back_placed h = by (eqb h.place 0)
  where
    by : (t : Bool) → let r : Step = cond t (record { history = h; recalled = None }) (record { history = placed_at h (h.place - 1); recalled = Some (h.place - 1) }) in
        r.history ≡ placed_at h r.history.place
    by true = refl
    by false = refl

pub onward_placed : (h : History) → (onward h).history ≡ placed_at h (onward h).history.place
unfolding onward
onward_placed h = by (ltb h.place h.count)
  where
    by : (t : Bool) → let r : Step = cond t (stepped h (recalled_at h.count (h.place + 1))) (record { history = h; recalled = None }) in
        r.history ≡ placed_at h r.history.place
    by true = refl
    by false = refl

-- so it keeps the total
pub back_total : (h : History) → (back h).history.total ≡ h.total
back_total h = ap (λ (x : History). x.total) (back_placed h)

pub onward_total : (h : History) → (onward h).history.total ≡ h.total
onward_total h = ap (λ (x : History). x.total) (onward_placed h)

-- and where it leads and what it recalls goes by place and count alone
back_by : (h : History) → ((back h).recalled ≡ cond (eqb h.place 0) None (Some (h.place - 1))) × ((back h).history.place ≡ cond (eqb h.place 0) h.place (h.place - 1))
unfolding back
back_by h = by (eqb h.place 0)
  where
    by : (t : Bool) → let r : Step = cond t (record { history = h; recalled = None }) (record { history = placed_at h (h.place - 1); recalled = Some (h.place - 1) }) in
        (r.recalled ≡ cond t None (Some (h.place - 1))) × (r.history.place ≡ cond t h.place (h.place - 1))
    by true = (refl, refl)
    by false = (refl, refl)

onward_by : (h : History)
    → ((onward h).recalled ≡ cond (ltb h.place h.count) (recalled_at h.count (h.place + 1)) None)
    × ((onward h).history.place ≡ cond (ltb h.place h.count) (h.place + 1) h.place)
unfolding onward
onward_by h = by (ltb h.place h.count)
  where
    by : (t : Bool) → let r : Step = cond t (stepped h (recalled_at h.count (h.place + 1))) (record { history = h; recalled = None }) in
        (r.recalled ≡ cond t (recalled_at h.count (h.place + 1)) None) × (r.history.place ≡ cond t (h.place + 1) h.place)
    by true = (refl, refl)
    by false = (refl, refl)

pub same_steps : (h k : History) → k.count ≡ h.count → k.place ≡ h.place
    → ((back k).recalled ≡ (back h).recalled) × ((back k).history.place ≡ (back h).history.place)
    × ((onward k).recalled ≡ (onward h).recalled) × ((onward k).history.place ≡ (onward h).history.place)
same_steps h k c p = (
  (back_by k).0 ∙ ap (λ (n : ℕ). cond (eqb n 0) None (Some (n - 1))) p ∙ sym (back_by h).0,
  (back_by k).1 ∙ ap (λ (n : ℕ). cond (eqb n 0) n (n - 1)) p ∙ sym (back_by h).1,
  (onward_by k).0 ∙ recalls p c ∙ sym (onward_by h).0,
  (onward_by k).1 ∙ leads p c ∙ sym (onward_by h).1,
)
  where
    recalls : {a b m n : ℕ} → a ≡ b → m ≡ n → cond (ltb a m) (recalled_at m (a + 1)) None ≡ cond (ltb b n) (recalled_at n (b + 1)) None
    recalls u v = cc

    leads : {a b m n : ℕ} → a ≡ b → m ≡ n → cond (ltb a m) (a + 1) a ≡ cond (ltb b n) (b + 1) b
    leads u v = cc
