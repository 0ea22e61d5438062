-- Laws of profiles and modes and their numbers.
use Rattle.std.specs.Prelude.{Ok, Err, Some, None, Result}
use Rattle.std.specs.Result.{result_ok}
use Prim.Native.Nat.{ℕ, zero, suc, ◌≤◌}
use mathlib.Core.Path.{◌≡◌, refl, sym, ◌∙◌}
use mathlib.Core.Bool.{Bool, true, false, cond}
use native.Mathlib.Omega.{arith}
use lib.Dec.{eqb}
use borrow.Author.Tests.{ne_eqb, eqb-true, le-ltb, leb-true}
use Rattle.buffer.proofs.Choices.{else_is, true_is_not_false}
use Rattle.keys.specs.declared.standing.Profile.{Profile}
use Rattle.keys.specs.declared.standing.Profile.TheVariants.{Rust, Ecma48}
use Rattle.keys.specs.declared.standing.Progress.{Progress}
use Rattle.keys.specs.declared.standing.Mode.{Mode}
use Rattle.keys.specs.declared.standing.Mode.TheVariants.{Typing, Escape, Sequence, Control}
use Rattle.keys.specs.declared.numbers.NoProfile.{NoProfile}
use Rattle.keys.specs.Modes.{unread, is_profile, profile_number, profile_of, mode_number, progress_of, is_mode, mode_of, profile_in, mode_in}

-- a profile and its number
pub profile_back : (p : Profile) → profile_of (profile_number p) ≡ p
unfolding profile_of
profile_back Rust = refl
profile_back Ecma48 = refl

pub profile_is : (p : Profile) → is_profile (profile_number p) ≡ true
unfolding is_profile
profile_is Rust = refl
profile_is Ecma48 = refl

pub profile_number_lem : (n : ℕ) → is_profile n ≡ true → profile_number (profile_of n) ≡ n
unfolding is_profile profile_of
profile_number_lem zero h = refl
profile_number_lem (suc zero) h = refl
profile_number_lem (suc (suc n)) h = absurd (let z = leb-true (suc (suc n)) 1 h in omega arith)

-- a mode, its number and what stands beside it
pub mode_back : (m : Mode) → mode_of (mode_number m) (progress_of m) ≡ m
unfolding mode_of
mode_back Typing = refl
mode_back Escape = refl
mode_back Sequence = refl
mode_back (Control p) = refl

pub mode_is : (m : Mode) → is_mode (mode_number m) (progress_of m) ≡ true
unfolding is_mode
mode_is Typing = refl
mode_is Escape = refl
mode_is Sequence = refl
mode_is (Control p) = refl

-- what is the number of a mode, and what is beside it
pub record Numbered (n : ℕ) (p : Progress) : Type 0 where
  pub number : mode_number (mode_of n p) ≡ n
  pub beside : progress_of (mode_of n p) ≡ p

bare : (p : Progress) → cond (eqb p.read 0) (eqb p.parameter 0) false ≡ true → unread ≡ p
bare p = by (eqb p.read 0) (eqb p.parameter 0) refl refl
  where
    parts : {a b c d : ℕ} → a ≡ c → b ≡ d → ◌≡◌ {A = Progress} (record { read = c; parameter = d }) (record { read = a; parameter = b })
    parts e f = cc

    by : (t u : Bool) → eqb p.read 0 ≡ t → eqb p.parameter 0 ≡ u → cond t u false ≡ true → unread ≡ p
    by true true q r h = parts (eqb-true _ _ q) (eqb-true _ _ r)
    by true false q r h = absurd (true_is_not_false (sym h))
    by false u q r h = absurd (true_is_not_false (sym h))

pub no_mode : (n : ℕ) (p : Progress) → 3 ≤ n → (n ≡ 3 → ⊥) → is_mode n p ≡ false
unfolding is_mode
no_mode n p a b = else_is _ _ _ (le-ltb n 3 a) ∙ ne_eqb n 3 b

pub numbered : (n : ℕ) (p : Progress) → is_mode n p ≡ true → Numbered n p
unfolding is_mode mode_of
numbered zero p h = record { number = refl; beside = bare p h }
numbered (suc zero) p h = record { number = refl; beside = bare p h }
numbered (suc (suc zero)) p h = record { number = refl; beside = bare p h }
numbered (suc (suc (suc zero))) p h = record { number = refl; beside = refl }
numbered (suc (suc (suc (suc n)))) p h = absurd (true_is_not_false (sym h ∙ no_mode (suc (suc (suc (suc n)))) p (omega arith) (λ e. omega arith)))

-- what a number is read as
pub profile_read : (n : ℕ) (p : Profile) → result_ok (profile_in n) ≡ Some p → (is_profile n ≡ true) × (p ≡ profile_of n)
profile_read n p e = by (is_profile n) e
  where
    by : (t : Bool) → result_ok {E = NoProfile} (cond t (Ok (profile_of n)) (Err (record { number = n }))) ≡ Some p → (t ≡ true) × (p ≡ profile_of n)
    by true q = (refl, cc)
    by false q = absurd (let z : ◌≡◌ {A = ℕ} 0 1 = cc in omega arith)

pub profile_unread : (n : ℕ) → result_ok (profile_in n) ≡ None → is_profile n ≡ false
profile_unread n e = by (is_profile n) e
  where
    by : (t : Bool) → result_ok {E = NoProfile} (cond t (Ok (profile_of n)) (Err (record { number = n }))) ≡ None → t ≡ false
    by true q = absurd (let z : ◌≡◌ {A = ℕ} 0 1 = cc in omega arith)
    by false q = refl

pub mode_read : (n : ℕ) (p : Progress) (m : Mode) → mode_in n p ≡ Some m → (is_mode n p ≡ true) × (m ≡ mode_of n p)
mode_read n p m e = by (is_mode n p) e
  where
    by : (t : Bool) → cond t (Some (mode_of n p)) None ≡ Some m → (t ≡ true) × (m ≡ mode_of n p)
    by true q = (refl, cc)
    by false q = absurd (let z : ◌≡◌ {A = ℕ} 0 1 = cc in omega arith)

pub mode_unread : (n : ℕ) (p : Progress) → mode_in n p ≡ None → is_mode n p ≡ false
mode_unread n p e = by (is_mode n p) e
  where
    by : (t : Bool) → cond t (Some (mode_of n p)) None ≡ None → t ≡ false
    by true q = absurd (let z : ◌≡◌ {A = ℕ} 0 1 = cc in omega arith)
    by false q = refl

pub profile_told : (n : ℕ) (p : Profile) → profile_in n ≡ Ok p → (is_profile n ≡ true) × (p ≡ profile_of n)
profile_told n p e = by (is_profile n) e
  where
    by : (t : Bool) → ◌≡◌ {A = Result Profile NoProfile} (cond t (Ok (profile_of n)) (Err (record { number = n }))) (Ok p) → (t ≡ true) × (p ≡ profile_of n)
    by true q = (refl, cc)
    by false q = absurd (let z : ◌≡◌ {A = ℕ} 0 1 = cc in omega arith)

pub profile_lacks : (n : ℕ) → ((p : Profile) → profile_in n ≡ Ok p → ⊥) → is_profile n ≡ false
profile_lacks n k = by (is_profile n) k
  where
    by : (t : Bool) → ((p : Profile) → ◌≡◌ {A = Result Profile NoProfile} (cond t (Ok (profile_of n)) (Err (record { number = n }))) (Ok p) → ⊥) → t ≡ false
    by true q = absurd (q (profile_of n) refl)
    by false q = refl
