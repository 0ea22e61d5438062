-- A mode is good exactly if bytes lead to it from typing; and so many bytes without ESC as a profile has patience for lead back.
use Prim.Native.Nat.{ℕ, zero, suc, ◌+◌, ◌-◌, ◌≤◌}
use mathlib.Core.Path.{◌≡◌, refl, sym, ap, ◌∙◌}
use mathlib.Core.Bool.{Bool, true, not}
use mathlib.Core.List.{List, [], ◌∷◌, append-nil}
use native.Mathlib.Omega.{arith}
use lib.Dec.{eqb, leb}
use lib.ListN.{length, replicate, length-replicate}
use borrow.Author.Tests.{ne_eqb, eqb-true, eqb-false, leb-true, not-true}
use Rattle.buffer.proofs.Choices.{true_is_not_false}
use Rattle.keys.specs.declared.standing.Profile.{Profile}
use Rattle.keys.specs.declared.standing.Profile.TheVariants.{Rust, Ecma48}
use Rattle.keys.specs.declared.standing.Mode.{Mode}
use Rattle.keys.specs.declared.standing.Mode.TheVariants.{Typing, Escape, Sequence, Control}
use Rattle.keys.specs.Modes.{other, longest, single, good_progress, good_mode, patience}
use Rattle.keys.specs.Control.{between, goes_on, digit, further}
use Rattle.keys.specs.Keys.{typed, escaped, awaiting_more, controlled, meaning, mode_after}
use Rattle.keys.specs.Sequences.{all}
use Rattle.keys.proofs.Ranges.{each, met}
use Rattle.keys.proofs.Awaiting.{remaining, nearer, left_most, none_left, mode_kept}
use Rattle.keys.proofs.Grammar.{progressed, progressed_later, nothing_read, opened}

-- bytes lead to good modes only
kept : (p : Profile) (m : Mode) (bytes : List ℕ) → good_mode p m ≡ true → good_mode p (mode_after p m bytes) ≡ true
unfolding mode_after
kept p m [] g = g
kept p m (b ∷ bytes) g = kept p (meaning p m b).mode bytes (mode_kept p m b g)

pub led_good : (p : Profile) (bytes : List ℕ) → good_mode p (mode_after p Typing bytes) ≡ true
led_good p bytes = kept p Typing bytes refl

-- and to each of them: in a control sequence to what no byte makes, one byte, and more bytes
abbrev pub Led : Profile → Mode → Type 0
Led p m = (bytes : List ℕ) × (mode_after p Typing bytes ≡ m)

none_led : (parameter : ℕ) → eqb parameter 0 ≡ true → Led Ecma48 (Control (record { read = 0; parameter = parameter }))
unfolding mode_after typed escaped
none_led parameter g = rw (eqb-true parameter 0 g) (0x1B ∷ 0x5B ∷ [], refl)

one_led : (parameter : ℕ) → single parameter ≡ true → Led Ecma48 (Control (record { read = 1; parameter = parameter }))
unfolding mode_after typed escaped controlled between awaiting_more longest further digit single other
one_led k =
    met P k 1 (λ s. (0x1B ∷ 0x5B ∷ 0x31 ∷ [], refl))
    (λ a. met P k 3 (λ s. (0x1B ∷ 0x5B ∷ 0x33 ∷ [], refl))
    (λ b. met P k 4 (λ s. (0x1B ∷ 0x5B ∷ 0x34 ∷ [], refl))
    (λ c. met P k 7 (λ s. (0x1B ∷ 0x5B ∷ 0x37 ∷ [], refl))
    (λ d. met P k 8 (λ s. (0x1B ∷ 0x5B ∷ 0x38 ∷ [], refl))
    (λ e. met P k 255 (λ s. (0x1B ∷ 0x5B ∷ 0x30 ∷ [], refl))
    (λ f s. absurd (true_is_not_false (sym s ∙ simp (a, b, c, d, e, f)))))))))
  where
    P : ℕ → Type 0
    P x = single x ≡ true → Led Ecma48 (Control (record { read = 1; parameter = x }))

abbrev zeros : ℕ → List ℕ
zeros n = replicate n 0x30

zeros_on : (n : ℕ) → all goes_on (zeros n) ≡ true
unfolding all between
zeros_on zero = refl
zeros_on (suc n) = zeros_on n

zeros_led : (n : ℕ) → suc (suc n) ≤ 15 → mode_after Ecma48 Typing (0x1B ∷ 0x5B ∷ zeros (suc (suc n))) ≡ Control (record { read = suc (suc n); parameter = other })
unfolding progressed further
zeros_led n h =
    let e = length-replicate {A = ℕ} n 0x30 in
    let sum : 2 + length (zeros n) ≡ suc (suc n) = omega arith in
    let read = (opened (zeros (suc (suc n))) (zeros_on (suc (suc n))) (omega arith) nothing_read).after in
    (rw append-nil at read) ∙ ap Control (progressed_later 1 (zeros n) ∙ rw sum)

more_led : (n parameter : ℕ) → good_progress (record { read = suc (suc n); parameter = parameter }) ≡ true
    → Led Ecma48 (Control (record { read = suc (suc n); parameter = parameter }))
unfolding good_progress longest
more_led n k g =
    let t = each (leb (suc (suc n)) 15) (eqb k other) (rw (ne_eqb (suc (suc n)) 0 (λ e. omega arith), ne_eqb (suc (suc n)) 1 (λ e. omega arith)) at g) in
    rw (eqb-true k other t.1) (0x1B ∷ 0x5B ∷ zeros (suc (suc n)), zeros_led n (leb-true (suc (suc n)) 15 t.0))

pub good_led : (p : Profile) (m : Mode) → good_mode p m ≡ true → Led p m
unfolding mode_after typed escaped good_progress
good_led p Typing g = ([], refl)
good_led p Escape g = (0x1B ∷ [], refl)
good_led Rust Sequence g = (0x1B ∷ 0x5B ∷ [], refl)
good_led Ecma48 Sequence g = absurd (true_is_not_false (sym g))
good_led Rust (Control q) g = absurd (true_is_not_false (sym g))
good_led Ecma48 (Control q) g = by q.read q.parameter g
  where
    by : (n k : ℕ) → good_progress (record { read = n; parameter = k }) ≡ true → Led Ecma48 (Control (record { read = n; parameter = k }))
    by zero k g = none_led k g
    by (suc zero) k g = one_led k g
    by (suc (suc n)) k g = more_led n k g

-- a byte that is not ESC brings typing nearer by one, and no mode is farther from it than its profile's patience
abbrev pub no_escape_lem : ℕ → Bool
no_escape_lem b = not (eqb b 0x1B)

nearer_all : (p : Profile) (m : Mode) (bytes : List ℕ) → all no_escape_lem bytes ≡ true → remaining p (mode_after p m bytes) ≤ remaining p m - length bytes
unfolding mode_after all
nearer_all p m [] h = omega arith
nearer_all p m (b ∷ bytes) h =
    let t = each _ _ h in
    let one = nearer p m b (eqb-false b 0x1B (not-true _ t.0)) in
    let more = nearer_all p (meaning p m b).mode bytes t.1 in
    omega arith

pub bytes_back : (p : Profile) (m : Mode) (bytes : List ℕ) → good_mode p m ≡ true → all no_escape_lem bytes ≡ true → patience p ≤ length bytes → mode_after p m bytes ≡ Typing
bytes_back p m bytes g h l = let most = left_most p m g in let after = nearer_all p m bytes h in none_left p (mode_after p m bytes) (omega arith)
