-- What a write leaves in a lent buffer (STANDARD 6.3, 10.5).
use Rattle.std.specs.Prelude.{ℕ, ◌+◌, ◌≡◌, cond, List, ◌++◌, ltb, length, take, drop}

-- a buffer after `text` was written at its front: the bytes after the text stay (10.5)
unfoldable pub over : List ℕ → List ℕ → List ℕ
over text out = text ++ drop (length text) out

-- the same where there may be no room: a buffer that is too short for the text stays as it is (6.3, 10.5)
unfoldable pub over_if_fits : List ℕ → List ℕ → List ℕ
over_if_fits text out = cond (ltb (length out) (length text)) out (over text out)

-- a buffer after `text` was written at the place `at`: the bytes before and after it stay (10.5)
unfoldable pub over_at : List ℕ → List ℕ → ℕ → List ℕ
over_at text out at = take at out ++ over text (drop at out)

-- a writer at the front returns the text's length
pub record Written (text out : List ℕ) (r : ℕ) (left : List ℕ) : Type 0 where
  pub count : r ≡ length text
  pub bytes : left ≡ over text out

-- a writer at a place returns the place after the text
pub record Pushed (text out : List ℕ) (at r : ℕ) (left : List ℕ) : Type 0 where
  pub place : r ≡ at + length text
  pub bytes : left ≡ over_at text out at
