-- Laws of what is waited for after keys: a byte that is not ESC leaves typing on and brings the end of a sequence nearer, and no key leads to a mode that is
-- not good.
use Prim.Native.Nat.{ℕ, suc, ◌+◌, ◌-◌, ◌≤◌, ◌<◌}
use mathlib.Core.Path.{◌≡◌, refl, sym, ap, ◌∙◌}
use mathlib.Core.Bool.{Bool, true, false, cond}
use native.Mathlib.Omega.{arith}
use lib.Dec.{eqb, ltb}
use borrow.Author.Tests.{eq-eqb, ne_eqb, eqb-true, eqb-false, ltb-true, le-leb}
use Rattle.buffer.proofs.Choices.{then_is, else_is, true_is_not_false}
use Rattle.keys.specs.declared.standing.Profile.{Profile}
use Rattle.keys.specs.declared.standing.Profile.TheVariants.{Rust, Ecma48}
use Rattle.keys.specs.declared.standing.Progress.{Progress}
use Rattle.keys.specs.declared.standing.Mode.{Mode}
use Rattle.keys.specs.declared.standing.Mode.TheVariants.{Typing, Escape, Sequence, Control}
use Rattle.keys.specs.declared.meaning.Meaning.{Meaning}
use Rattle.keys.specs.Modes.{other, longest, single, good_progress, good_mode, patience}
use Rattle.keys.specs.Control.{goes_on, is_final, digit, further}
use Rattle.keys.specs.Keys.{typed, begun, escaped, sequenced, awaiting_more, controlled, meaning}

-- whatever holds of both meanings holds of the one that is chosen
first : (P : Meaning → Type 0) (t : Bool) (x y : Meaning) → (t ≡ true → P x) → (t ≡ false → P y) → P (cond t x y)
first P true x y p q = p refl
first P false x y p q = q refl

typing_stays : (b : ℕ) → (b ≡ 0x1B → ⊥) → (typed b).mode ≡ Typing
unfolding typed
typing_stays b n =
    first Ends (eqb b 0x0D) _ _ (λ q. refl)
    (λ q. first Ends (eqb b 0x0A) _ _ (λ q. refl)
    (λ q. first Ends (eqb b 0x08) _ _ (λ q. refl)
    (λ q. first Ends (eqb b 0x7F) _ _ (λ q. refl)
    (λ q. first Ends (eqb b 0x1B) _ _ (λ q. absurd (n (eqb-true b 0x1B q))) (λ q. first Ends (ltb b 0x20) _ _ (λ q. refl) (λ q. refl))))))
  where
    Ends : Meaning → Type 0
    Ends x = x.mode ≡ Typing

-- how many bytes without ESC a mode lasts at most
abbrev pub remaining : Profile → Mode → ℕ
remaining profile Typing = 0
remaining profile Escape = patience profile
remaining profile Sequence = 1
remaining profile (Control p) = suc (15 - p.read)

module _ (profile : Profile) where
  Lasts : ℕ → Meaning → Type 0
  Lasts n x = remaining profile x.mode ≤ n

  begun_left : remaining profile (begun profile) ≤ patience profile - 1
  begun_left = by profile
    where
      by : (p : Profile) → remaining p (begun p) ≤ patience p - 1
      by Rust = omega arith
      by Ecma48 = omega arith

  onward_left : (p : Progress) (b : ℕ) → Lasts (15 - p.read) (awaiting_more p b)
  unfolding awaiting_more longest further Lasts
  onward_left p b = first (Lasts (15 - p.read)) (ltb p.read 15) _ _ (λ q. let h = ltb-true p.read 15 q in omega arith) (λ q. omega arith)

  controlled_left : (p : Progress) (b : ℕ) → remaining profile (controlled p b).mode ≤ 15 - p.read
  unfolding controlled Lasts
  controlled_left p b = first (Lasts (15 - p.read)) (goes_on b) _ _ (λ q. onward_left p b) (λ q. first (Lasts (15 - p.read)) (is_final b) _ _ (λ h. omega arith) (λ h. omega arith))

  -- a byte that is not ESC brings typing nearer by one
  pub nearer : (m : Mode) (b : ℕ) → (b ≡ 0x1B → ⊥) → remaining profile (meaning profile m b).mode ≤ remaining profile m - 1
  unfolding escaped sequenced Lasts
  nearer Typing b n = rw (typing_stays b n) (omega arith)
  nearer Escape b n = first (Lasts (patience profile - 1)) (eqb b 0x5B) _ _ (λ q. begun_left) (λ q. omega arith)
  nearer Sequence b n = omega arith
  nearer (Control p) b n = let h = controlled_left p b in omega arith

  -- from a good mode so many bring it back
  pub left_most : (m : Mode) → good_mode profile m ≡ true → remaining profile m ≤ patience profile
  left_most = by profile
    where
      by : (p : Profile) (m : Mode) → good_mode p m ≡ true → remaining p m ≤ patience p
      by Rust Typing g = omega arith
      by Rust Escape g = omega arith
      by Rust Sequence g = omega arith
      by Rust (Control q) g = absurd (true_is_not_false (sym g))
      by Ecma48 Typing g = omega arith
      by Ecma48 Escape g = omega arith
      by Ecma48 Sequence g = absurd (true_is_not_false (sym g))
      by Ecma48 (Control q) g = omega arith

  pub none_left : (m : Mode) → remaining profile m ≤ 0 → m ≡ Typing
  none_left Typing h = refl
  none_left Escape h = by profile h
    where
      by : (p : Profile) → patience p ≤ 0 → Escape ≡ Typing
      by Rust h = absurd (omega arith)
      by Ecma48 h = absurd (omega arith)
  none_left Sequence h = absurd (omega arith)
  none_left (Control p) h = absurd (omega arith)

-- one byte makes one of the parameters
single_digit : (b : ℕ) → single (digit b) ≡ true
unfolding single digit other
single_digit b = by (eqb b 0x31) (eqb b 0x33) (eqb b 0x34) (eqb b 0x37) (eqb b 0x38)
  where
    by : (one three four seven eight : Bool) → single (cond one 1 (cond three 3 (cond four 4 (cond seven 7 (cond eight 8 255))))) ≡ true
    by true three four seven eight = refl
    by false true four seven eight = refl
    by false false true seven eight = refl
    by false false false true eight = refl
    by false false false false true = refl
    by false false false false false = refl

-- a byte more leads from a good state of a sequence to a good one
pub first_good : (p : Progress) (b : ℕ) → p.read ≡ 0 → good_progress (further p b) ≡ true
unfolding good_progress further
first_good p b z = rw z (single_digit b)

pub later_good : (p : Progress) (b : ℕ) → (p.read ≡ 0 → ⊥) → p.read < 15 → good_progress (further p b) ≡ true
unfolding good_progress further longest
later_good p b n h =
    else_is _ _ _ (ne_eqb (p.read + 1) 0 (λ e. omega arith))
    ∙ else_is _ _ _ (ne_eqb (p.read + 1) 1 (λ e. n (omega arith)))
    ∙ then_is _ _ _ (le-leb (p.read + 1) 15 (omega arith))
    ∙ ap (λ (x : ℕ). eqb x other) (else_is _ _ _ (ne_eqb p.read 0 n))
    ∙ eq-eqb other other refl

further_good : (p : Progress) (b : ℕ) → p.read < 15 → good_progress (further p b) ≡ true
further_good p b h = by (eqb p.read 0) refl
  where
    by : (t : Bool) → eqb p.read 0 ≡ t → good_progress (further p b) ≡ true
    by true q = first_good p b (eqb-true _ _ q)
    by false q = later_good p b (eqb-false _ _ q) h

begun_good : (p : Profile) → good_mode p (begun p) ≡ true
unfolding good_progress
begun_good Rust = refl
begun_good Ecma48 = refl

typed_good : (p : Profile) (b : ℕ) → good_mode p (typed b).mode ≡ true
unfolding typed
typed_good p b =
    first Good (eqb b 0x0D) _ _ (λ q. refl)
    (λ q. first Good (eqb b 0x0A) _ _ (λ q. refl)
    (λ q. first Good (eqb b 0x08) _ _ (λ q. refl)
    (λ q. first Good (eqb b 0x7F) _ _ (λ q. refl)
    (λ q. first Good (eqb b 0x1B) _ _ (λ q. refl) (λ q. first Good (ltb b 0x20) _ _ (λ q. refl) (λ q. refl))))))
  where
    Good : Meaning → Type 0
    Good x = good_mode p x.mode ≡ true

-- no byte leads from a good mode to another
pub mode_kept : (p : Profile) (m : Mode) (b : ℕ) → good_mode p m ≡ true → good_mode p (meaning p m b).mode ≡ true
unfolding escaped sequenced controlled awaiting_more longest
mode_kept p Typing b g = typed_good p b
mode_kept p Escape b g = first (λ (x : Meaning). good_mode p x.mode ≡ true) (eqb b 0x5B) _ _ (λ q. begun_good p) (λ q. refl)
mode_kept p Sequence b g = refl
mode_kept Rust (Control r) b g = absurd (true_is_not_false (sym g))
mode_kept Ecma48 (Control r) b g =
    first Good (goes_on b) _ _
    (λ q. first Good (ltb r.read 15) _ _ (λ h. further_good r b (ltb-true r.read 15 h)) (λ h. refl)) (λ q. first Good (is_final b) _ _ (λ h. refl) (λ h. refl))
  where
    Good : Meaning → Type 0
    Good x = good_mode Ecma48 x.mode ≡ true
