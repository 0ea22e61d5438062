-- Laws of the bytes that are saved of a history: what was saved is read back, nothing in the bytes is lost, and what is restored is good.
use Rattle.std.specs.Prelude.{Some, None}
use Prim.Native.Nat.{ℕ, ◌≤◌, ◌+◌, ◌*◌, ◌/◌, ◌%◌}
use mathlib.Core.Path.{◌≡◌, refl, sym, ap, ◌∙◌}
use mathlib.Core.Bool.{Bool, true, false}
use mathlib.Core.List.{List, [], ◌∷◌, ◌++◌}
use native.Mathlib.Omega.{arith}
use lib.ListN.{length, get_or, length-append}
use lib.Seq.{take_at, get_or_at}
use Rattle.buffer.proofs.Choices.{then_is, else_is}
use Rattle.buffer.proofs.Ordering.{same_is, is_same, same_lengths}
use Rattle.buffer.proofs.Numbers.{length_number, number_kept, number_two, value_number, value_two, bytes_take, bytes_drop}
use Rattle.buffer.specs.Compare.{same_bytes}
use Rattle.buffer.specs.Numbers.{Bytes, number_bytes, number_of}
use Rattle.history.specs.Journal.{good}
use Rattle.history.specs.Saved.{saved_size, saved_of, saved_in, is_saved, restored}
use Rattle.history.specs.declared.stepping.History.{History}
use Rattle.history.proofs.Steps.{same_numbers}
use Rattle.history.proofs.States.{holds}

pub length_saved : (h : History) → length (saved_of h) ≡ saved_size
unfolding saved_of saved_size
length_saved h = let n = length_number 2 h.total in let a = length-append (number_bytes 2 h.total) (h.first ∷ []) in omega arith

-- the total's bytes, and as the code makes them
pub saved_bytes : (h : History) → h.count ∷ h.place ∷ h.total / 256 ∷ h.total % 256 ∷ h.first ∷ [] ≡ saved_of h
unfolding saved_of
saved_bytes h = ap (λ (l : List ℕ). h.count ∷ h.place ∷ (l ++ (h.first ∷ []))) (sym (number_two h.total))

pub saved_two : (h : History) (two : List ℕ) → h.total ≤ 65535 → two ≡ h.total / 256 % 256 ∷ h.total % 256 ∷ []
    → h.count ∷ h.place ∷ get_or two 0 0 ∷ get_or two 1 0 ∷ h.first ∷ [] ≡ saved_of h
saved_two h two fits q =
    let high : h.total / 256 % 256 ≡ h.total / 256 = omega arith in
    ap (λ (l : List ℕ). h.count ∷ h.place ∷ get_or l 0 0 ∷ get_or l 1 0 ∷ h.first ∷ []) q
    ∙ ap (λ (b : ℕ). h.count ∷ h.place ∷ b ∷ h.total % 256 ∷ h.first ∷ []) high
    ∙ saved_bytes h

pub saved_in_lem : (h : History) → saved_in (saved_of h) ≡ h
unfolding saved_in saved_of
saved_in_lem h =
    let two : List ℕ = number_bytes 2 h.total in
    let n : length two ≡ 2 = length_number 2 h.total in
    same_numbers refl refl
    (ap number_of (take_at two (h.first ∷ []) 2 n) ∙ number_kept 1 h.total)
    (get_or_at two h.first [] 0 2 n)

-- bytes that are what is saved of what they hold: as many as that takes, the last of them below 256
abbrev pub HasForm : List ℕ → Type 0
HasForm bytes = saved_of (saved_in bytes) ≡ bytes

pub form_size : (bytes : List ℕ) → HasForm bytes → length bytes ≡ saved_size
form_size bytes f = ap length (sym f) ∙ length_saved (saved_in bytes)

-- five that are bytes
pub bytes_form : (bytes : List ℕ) → length bytes ≡ saved_size → Bytes bytes → HasForm bytes
unfolding saved_in saved_of saved_size
bytes_form [] n b = absurd (let z : ◌≡◌ {A = ℕ} 0 5 = n in omega arith)
bytes_form (c ∷ []) n b = absurd (omega arith)
bytes_form (c ∷ p ∷ []) n b = absurd (omega arith)
bytes_form (c ∷ p ∷ h ∷ []) n b = absurd (omega arith)
bytes_form (c ∷ p ∷ h ∷ l ∷ []) n b = absurd (omega arith)
bytes_form (c ∷ p ∷ h ∷ l ∷ f ∷ []) n b =
    ap (λ (s : List ℕ). c ∷ p ∷ (s ++ (f ∷ [])))
    (value_number (h ∷ l ∷ []) (bytes_take 2 (h ∷ l ∷ f ∷ []) (bytes_drop 2 (c ∷ p ∷ h ∷ l ∷ f ∷ []) b)))
bytes_form (c ∷ p ∷ h ∷ l ∷ f ∷ x ∷ s) n b = absurd (omega arith)

-- bytes that are a history beside slots: their form, and what they hold
pub record IsSaved (bytes slots : List ℕ) : Type 0 where
  pub form : HasForm bytes
  pub is_good_lem : good (saved_in bytes) slots ≡ true

pub saved_has : (bytes slots : List ℕ) → is_saved bytes slots ≡ true → IsSaved bytes slots
unfolding is_saved
saved_has bytes slots h =
    let a = holds (same_bytes (saved_of (saved_in bytes)) bytes) _ h in record { form = same_is _ _ a.0; is_good_lem = a.1 }

-- in the right form they are as good as what they hold
pub right_form : (bytes slots : List ℕ) → HasForm bytes → is_saved bytes slots ≡ good (saved_in bytes) slots
unfolding is_saved
right_form bytes slots f = then_is _ _ _ (is_same _ _ f)

pub saved_is : (h : History) (slots : List ℕ) → is_saved (saved_of h) slots ≡ good h slots
saved_is h slots = right_form (saved_of h) slots (ap saved_of (saved_in_lem h)) ∙ ap (λ (x : History). good x slots) (saved_in_lem h)

-- what is restored
pub restored_is : (bytes slots : List ℕ) → is_saved bytes slots ≡ true → restored bytes slots ≡ Some (saved_in bytes)
unfolding restored
restored_is bytes slots h = then_is _ _ _ h

pub restored_not : (bytes slots : List ℕ) → is_saved bytes slots ≡ false → restored bytes slots ≡ None
unfolding restored
restored_not bytes slots h = else_is _ _ _ h

-- a good history that was saved is restored, and what is restored is good
pub restored_saved : (h : History) (slots : List ℕ) → good h slots ≡ true → restored (saved_of h) slots ≡ Some h
restored_saved h slots g = restored_is (saved_of h) slots (saved_is h slots ∙ g) ∙ ap Some (saved_in_lem h)

pub record Back (h : History) (bytes slots : List ℕ) : Type 0 where
  pub is : is_saved bytes slots ≡ true
  pub held : h ≡ saved_in bytes

pub good_back : (bytes slots : List ℕ) (h : History) → restored bytes slots ≡ Some h → Back h bytes slots
good_back bytes slots h q = by (is_saved bytes slots) refl
  where
    by : (t : Bool) → is_saved bytes slots ≡ t → Back h bytes slots
    by true p = record { is = p; held = inside (sym q ∙ restored_is bytes slots p) }
      where
        inside : {a b : History} → Some a ≡ Some b → a ≡ b
        inside e = cc
    by false p = absurd (let e : Some h ≡ None = sym q ∙ restored_not bytes slots p in let z : ◌≡◌ {A = ℕ} 0 1 = cc in omega arith)

pub bad_back : (bytes slots : List ℕ) → restored bytes slots ≡ None → is_saved bytes slots ≡ false
bad_back bytes slots q = by (is_saved bytes slots) refl
  where
    by : (t : Bool) → is_saved bytes slots ≡ t → t ≡ false
    by true p = absurd (let e : Some (saved_in bytes) ≡ None = sym (restored_is bytes slots p) ∙ q in let z : ◌≡◌ {A = ℕ} 0 1 = cc in omega arith)
    by false p = refl

pub restored_good : (bytes slots : List ℕ) (h : History) → restored bytes slots ≡ Some h → good h slots ≡ true
restored_good bytes slots h q =
    let k = good_back bytes slots h q in
    ap (λ (x : History). good x slots) k.held ∙ (saved_has bytes slots k.is).is_good_lem

-- the ways through the code
pub wrong_length : (bytes slots : List ℕ) → (length bytes ≡ 5 → ⊥) → None ≡ restored bytes slots
unfolding is_saved saved_size
wrong_length bytes slots n =
    sym (restored_not bytes slots (else_is _ _ _ (same_lengths (saved_of (saved_in bytes)) bytes (λ e. n (sym e ∙ length_saved (saved_in bytes))))))

module _ (bytes slots : List ℕ) (count place sum first : ℕ) (n : length bytes ≡ 5) (small : Bytes bytes)
    (p : count ≡ get_or bytes 0 0) (q : place ≡ get_or bytes 1 0) (r : sum ≡ get_or bytes 2 0 * 256 + get_or bytes 3 0) (t : first ≡ get_or bytes 4 0) where
  told : History
  told = record { count = count; place = place; total = sum; first = first }

  read : told ≡ saved_in bytes
  unfolding saved_in told
  read = same_numbers p q (let v = value_two bytes 2 (omega arith) in omega arith) t

  as_good : is_saved bytes slots ≡ good told slots
  unfolding saved_size
  as_good = right_form bytes slots (bytes_form bytes n small) ∙ ap (λ (x : History). good x slots) (sym read)

  pub read_bad : good (record { count = count; place = place; total = sum; first = first }) slots ≡ false → None ≡ restored bytes slots
  unfolding told
  read_bad g = sym (restored_not bytes slots (as_good ∙ g))

  pub read_good : good (record { count = count; place = place; total = sum; first = first }) slots ≡ true
      → Some (record { count = count; place = place; total = sum; first = first }) ≡ restored bytes slots
  unfolding told
  read_good g = ap Some read ∙ sym (restored_is bytes slots (as_good ∙ g))
