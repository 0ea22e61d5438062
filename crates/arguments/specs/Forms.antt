-- The forms of an argument word (STANDARD 7): `--k=v`, `--k`, `-` and more, and all else.
use Rattle.std.specs.Prelude.{ℕ, suc, cond, List, [], ◌∷◌, eqb, ltb, length, take, drop, get_or}

abbrev pub dash : ℕ
dash = 0x2D

abbrev pub equals : ℕ
equals = 0x3D

-- (7.5, 7.8)
pub data Form : Type 0 where
  valued : (key value : List ℕ) → Form
  long : (key : List ℕ) → Form
  shorts : (letters : List ℕ) → Form
  positional : Form

-- how many bytes stand before the first `=` (7.6)
unfoldable pub before_equals : List ℕ → ℕ
before_equals [] = 0
before_equals (b ∷ s) = cond (eqb b equals) 0 (suc (before_equals s))

-- what stands after `--`: with a `=`, a key and a value; else a key (7.6)
unfoldable pub long_form : List ℕ → Form
long_form k =
    cond (ltb (before_equals k) (length k)) (valued (take (before_equals k) k) (drop (suc (before_equals k)) k)) (long k)

-- (7.5, 7.8, 7.9)
unfoldable pub form_of : List ℕ → Form
form_of w =
    cond (ltb (length w) 2) positional
    (cond (eqb (get_or w 0 0) dash)
    (cond (eqb (get_or w 1 0) dash) (long_form (drop 2 w)) (shorts (drop 1 w)))
    positional)
