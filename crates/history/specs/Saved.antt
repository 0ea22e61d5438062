-- A history's part of a saved state: five bytes, the count, the place, the total in two and the first slot. What they hold counts where it is good
-- with its slots (STANDARD 4.2, 4.4).
use Rattle.std.specs.Prelude.{ℕ, ◌≤◌, Bool, false, cond, List, [], ◌∷◌, ◌++◌, take, drop, get_or, Some, None, Option}
use Rattle.buffer.specs.Compare.{same_bytes}
use Rattle.buffer.specs.Numbers.{number_bytes, number_of}
use Rattle.history.specs.Journal.{good}
use Rattle.history.specs.declared.stepping.History.{History}

-- how many bytes that is: `History::SAVED`
unfoldable pub saved_size : ℕ
saved_size = 5

-- (4.2)
unfoldable pub saved_of : History → List ℕ
saved_of h = h.count ∷ h.place ∷ (number_bytes 2 h.total ++ (h.first ∷ []))

-- the record that bytes hold (4.2)
unfoldable pub saved_in : List ℕ → History
saved_in bytes = record { count = get_or bytes 0 0; place = get_or bytes 1 0; total = number_of (take 2 (drop 2 bytes)); first = get_or bytes 4 0 }

-- bytes that are a history beside these slots: they are what is saved of what they hold, neither more nor less, and that is good with the
-- slots (4.4)
unfoldable pub is_saved : List ℕ → List ℕ → Bool
is_saved bytes slots = cond (same_bytes (saved_of (saved_in bytes)) bytes) (good (saved_in bytes) slots) false

-- what is restored: the record, or none (4.2)
unfoldable pub restored : List ℕ → List ℕ → Option History
restored bytes slots = cond (is_saved bytes slots) (Some (saved_in bytes)) None

-- numbers that fit their bytes, as those of a good state do
pub record Fits (h : History) : Type 0 where
  pub count : h.count ≤ 255
  pub place : h.place ≤ 255
  pub total : h.total ≤ 65535
  pub first : h.first ≤ 255
