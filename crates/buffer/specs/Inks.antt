-- A writer at a place that also measures: where the text does not fit, it only tells the place after it.
use Rattle.std.specs.Prelude.{ℕ, ◌+◌, ◌*◌, ◌<◌, ◌≤◌, ◌≡◌, List, length}
use Rattle.buffer.specs.Write.{over_at}

pub record Inked (text out : List ℕ) (at r : ℕ) (left : List ℕ) : Type 0 where
  pub place : r ≡ at + length text
  pub size : length left ≡ length out
  pub bytes : at + length text ≤ length out → left ≡ over_at text out at

-- places are counted below this number, far above what the limits of trees and lines need
abbrev pub count_limit : ℕ
count_limit = 4294967296

-- the places up to the end of a text can be counted
abbrev pub Countable : List ℕ → ℕ → Type 0
Countable text at = at + length text < count_limit

-- the same for a text that is at most 64 times as long as the frames that it is written from
pub record InkedFrom (frames : List ℕ) (text out : List ℕ) (at r : ℕ) (left : List ℕ) : Type 0 where
  pub inked : Inked text out at r left
  pub most : r ≤ at + 64 * length frames
