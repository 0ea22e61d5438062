-- The shape of a call's table: rows in the order of the standard, of which the first that applies tells number, value, and what is left.
use Prim.Native.Nat.{ℕ}
use mathlib.Core.Path.{◌≡◌, ap, ◌∙◌}
use mathlib.Core.Bool.{Bool, true, false, cond}
use mathlib.Core.List.{List, [], ◌∷◌}
use lib.Dec.{ltb}
use lib.ListN.{length}

-- what a call tells: the refusal's number (STANDARD 10.1; 0: none), the value that goes with it, and what stands in each lent buffer and state
pub record Answered (L : Type 0) : Type 0 where
  pub number : ℕ
  pub value : ℕ
  pub left : L

abbrev pub told : {L : Type 0} → ℕ → ℕ → L → Answered L
told number value left = record { number = number; value = value; left = left }

-- a row: the number, when it is answered, the value, and what is left
pub record Row (L : Type 0) : Type 0 where
  pub when : Bool
  pub tells : Answered L

abbrev pub row : {L : Type 0} → ℕ → Bool → ℕ → L → Row L
row number when value left = record { when = when; tells = told number value left }

-- the first row that applies; if none does, nothing is refused
unfoldable pub first : {L : Type 0} → List (Row L) → Answered L → Answered L
first [] done = done
first (r ∷ rows) done = cond r.when r.tells (first rows done)

-- bytes for which a buffer is too short
abbrev pub lacks : List ℕ → List ℕ → Bool
lacks bytes out = ltb (length out) (length bytes)

-- what holds of both ways holds of a choice
pub either : {A B : Type 0} (f : A → B) (t : Bool) (x y : A) (u v : B) → f x ≡ u → f y ≡ v → f (cond t x y) ≡ cond t u v
either f true x y u v p q = p
either f false x y u v p q = q

-- the same where a choice is made of the answer, and the same choice of what it leaves
pub split : {A L B : Type 0} (f : A → L → B) (t : Bool) (x y : A) (l m : L) (u v : B) → f x l ≡ u → f y m ≡ v → f (cond t x y) (cond t l m) ≡ cond t u v
split f true x y l m u v p q = p
split f false x y l m u v p q = q

-- an answer and what it leaves tell what their equals tell
pub telling : {A L : Type 0} (number value : A → ℕ) (r q : A) (l m : L) → r ≡ q → l ≡ m → told (number r) (value r) l ≡ told (number q) (value q) m
telling number value r q l m e f = ap (λ (x : _). told (number x) (value x) l) e ∙ ap (told (number q) (value q)) f

-- two or more parts that are left, each known
pub pair : {A B : Type 0} {x y : A} {l m : B} → x ≡ y → l ≡ m → ◌≡◌ {A = A × B} (x, l) (y, m)
pair p q = cc

-- two parts that are chosen alike
pub chosen_pair : {A B : Type 0} (t : Bool) (x y : A × B) {l : A} {m : B} → l ≡ cond t x.0 y.0 → m ≡ cond t x.1 y.1 → ◌≡◌ {A = A × B} (l, m) (cond t x y)
chosen_pair true x y p q = pair p q
chosen_pair false x y p q = pair p q
