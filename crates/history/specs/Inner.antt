-- What only contracts of inner functions cite: the test of a state slot by slot, over the slots in the order of the entries (Slots: `turned`), and entries that are taken out.
use Rattle.std.specs.Prelude.{ℕ, zero, suc, ◌+◌, ◌-◌, ◌*◌, Bool, false, cond, List, [], ◌∷◌, ◌++◌, ltb, eqb, length, take, drop, get_or}
use Rattle.buffer.specs.Compare.{same_bytes}
use Rattle.buffer.specs.Greatest.{greatest}
use Rattle.buffer.specs.Lend.{zeros}
use Rattle.buffer.specs.Write.{over_at}
use Rattle.history.specs.Entries.{usable, total}
use Rattle.history.specs.Slots.{slot_size, slots_size, entry}
use Rattle.history.specs.Journal.{Journal}

-- what lies after the entry in a slot
unfoldable pub unused : List ℕ → List ℕ
unused bytes = take (255 - get_or bytes 0 0) (drop (1 + get_or bytes 0 0) bytes)

-- a slot whose entry is usable, with zeros after it
unfoldable pub good_slot : List ℕ → Bool
good_slot bytes = cond (usable (entry bytes)) (eqb (greatest (unused bytes)) 0) false

-- the slot before entry k, with which bytes begin; before the oldest there is none
unfoldable pub slot_before : ℕ → List ℕ → List ℕ
slot_before k bytes = cond (eqb k 0) [] (take slot_size bytes)

-- the place after that of a slot, round the end
unfoldable pub next_place : ℕ → ℕ
next_place at = cond (ltb (at + slot_size) slots_size) (at + slot_size) 0

-- the entries of the first n slots of bytes
unfoldable pub entries_of : ℕ → List ℕ → List (List ℕ)
entries_of zero bytes = []
entries_of (suc n) bytes = entry (take slot_size bytes) ∷ entries_of n (drop slot_size bytes)

-- n good slots, each of which differs from the slot before it, and zeros after them
unfoldable pub judged : List ℕ → ℕ → List ℕ → Bool
judged before zero bytes = eqb (greatest bytes) 0
judged before (suc n) bytes =
    cond (good_slot (take slot_size bytes))
    (cond (same_bytes before (take slot_size bytes)) false (judged (take slot_size bytes) n (drop slot_size bytes)))
    false

-- the same of n slots, and that their entries have this total
unfoldable pub tallied : ℕ → ℕ → List ℕ → Bool
tallied n sum bytes = cond (judged [] n bytes) (eqb sum (total (entries_of n bytes))) false

-- entries without those from one number up to another
abbrev pub cut_out : ℕ → ℕ → List (List ℕ) → List (List ℕ)
cut_out start end es = take start es ++ drop end es

-- a history without them, at the place that is the count then
abbrev pub cut_from : ℕ → ℕ → Journal → Journal
cut_from start end j = record { entries = cut_out start end j.entries; place = length (cut_out start end j.entries); first = j.first }

-- slots in the order of the entries, after those from number `end` up to the count have moved down to number `start`
abbrev pub closed_up : ℕ → ℕ → ℕ → List ℕ → List ℕ
closed_up start end count bytes = over_at (take (slot_size * (count - end)) (drop (slot_size * end) bytes)) bytes (slot_size * start)

-- and after zeros were written into those from one number up to another
abbrev pub cleared : ℕ → ℕ → List ℕ → List ℕ
cleared start end bytes = over_at (zeros (slot_size * (end - start))) bytes (slot_size * start)
