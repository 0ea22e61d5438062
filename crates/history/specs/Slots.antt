-- Where a history lies (the standard): a lent buffer of 25,600 bytes in slots of 256, a length byte then the text; the oldest entry in the slot that the record names, the
-- others in the slots that follow it, round the end of the buffer; all unused bytes zero (STANDARD 3.10, 3.11, 3.16).
use Rattle.std.specs.Prelude.{ℕ, zero, suc, ◌+◌, ◌-◌, ◌*◌, ◌%◌, ◌≡◌, List, [], ◌∷◌, ◌++◌, length, take, drop, get_or}
use Rattle.buffer.specs.Lend.{zeros}

-- how many bytes a slot has: `History::SLOT`
abbrev pub slot_size : ℕ
slot_size = 256

-- how many slots there are, one for each entry that a history may have: `History::MOST`
abbrev pub slot_count : ℕ
slot_count = 100

-- how many bytes all of them have: `History::SLOTS`
abbrev pub slots_size : ℕ
slots_size = 25600

-- the slot that lies so many after another, round the end: after the last comes slot 0 (3.16)
unfoldable pub slot_after : ℕ → ℕ → ℕ
slot_after number n = (number + n) % slot_count

-- one entry in its slot (3.10, 3.11)
unfoldable pub slot : List ℕ → List ℕ
slot e = length e ∷ (e ++ zeros (255 - length e))

-- (3.10)
unfoldable pub run : List (List ℕ) → List ℕ
run [] = []
run (e ∷ es) = slot e ++ run es

-- all slots in the order of the entries, those without one last (3.10, 3.11)
unfoldable pub in_order : List (List ℕ) → List ℕ
in_order es = run es ++ zeros (slots_size - slot_size * length es)

-- slots that begin with another of them, the ones before it after the end (3.16)
unfoldable pub turned : ℕ → List ℕ → List ℕ
turned number slots = drop (slot_size * number) slots ++ take (slot_size * number) slots

-- the buffer that holds entries, the oldest in the slot of that number (3.10, 3.11, 3.16)
unfoldable pub layout : ℕ → List (List ℕ) → List ℕ
layout first es = turned (slot_count - first) (in_order es)

-- the slot of a number, and the entry in a slot (3.10)
unfoldable pub slot_at : ℕ → List ℕ → List ℕ
slot_at number slots = take slot_size (drop (slot_size * number) slots)

-- (3.10)
unfoldable pub entry : List ℕ → List ℕ
entry bytes = take (get_or bytes 0 0) (drop 1 bytes)

-- the entries of n slots, from one on and round the end: entry k in the slot `slot_after first k` (3.10, 3.16)
unfoldable pub entries_from : ℕ → ℕ → List ℕ → List (List ℕ)
entries_from first zero slots = []
entries_from first (suc n) slots = entry (slot_at (first % slot_count) slots) ∷ entries_from (first + 1) n slots

-- a buffer before and after, in which no byte but those of one slot may have changed (3.17)
pub record ChangesOnly (number : ℕ) (slots slots' : List ℕ) : Type 0 where
  pub size : length slots' ≡ length slots
  pub front : take (slot_size * number) slots' ≡ take (slot_size * number) slots
  pub rest : drop (slot_size * (number + 1)) slots' ≡ drop (slot_size * (number + 1)) slots
