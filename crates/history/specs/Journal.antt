-- A history as one value (STANDARD 3): its entries from oldest to newest, a place from 0 to their count, and the slot of the oldest; the record and
-- the slots that hold it, and what they hold. Where a byte lies is said in Slots and nowhere else: all other rooms speak of the value.
use Rattle.std.specs.Prelude.{ℕ, ◌≡◌, Bool, false, cond, List, [], ◌++◌, ltb, leb, eqb, length, get_or}
use Rattle.buffer.specs.Compare.{same_bytes}
use Rattle.history.specs.Entries.{most_entries, is_new, added, sound, total}
use Rattle.history.specs.Slots.{slot_count, slots_size, slot_after, layout, entries_from}
use Rattle.history.specs.declared.stepping.History.{History}

-- (3.2, 3.16)
pub record Journal : Type 0 where
  pub entries : List (List ℕ)
  pub place : ℕ
  pub first : ℕ

-- no entry (3.3, 4.3)
abbrev pub no_entries : Journal
no_entries = record { entries = []; place = 0; first = 0 }

-- how many entries there are, and the entry of a number, the oldest being 0
abbrev pub count : Journal → ℕ
count j = length j.entries

-- (3.2, 3.7)
abbrev pub entry_of : Journal → ℕ → List ℕ
entry_of j number = get_or j.entries number []

-- the slot of the oldest after a text was offered: it moves on by one where the oldest is dropped, and else stays (3.16)
unfoldable pub first_after : List ℕ → List (List ℕ) → ℕ → ℕ
first_after text es first = cond (is_new text es) (cond (ltb (length es) most_entries) first (slot_after first 1)) first

-- a text is offered; every add sets the place to the count (3.4, 3.5, 3.16)
abbrev pub offered : List ℕ → Journal → Journal
offered text j =
    record {
      entries = added text j.entries;
      place = length (added text j.entries);
      first = first_after text j.entries j.first;
    }

-- the same entries in the same slots, at another place (3.8, 3.9)
abbrev pub at_place : Journal → ℕ → Journal
at_place j place = record { entries = j.entries; place = place; first = j.first }

-- two histories with the same entries and the same place, wherever each begins (3.18)
pub record Alike (j k : Journal) : Type 0 where
  pub entries : k.entries ≡ j.entries
  pub place : k.place ≡ j.place

-- a history that has all entries of another in front, in the same slots (3.21)
pub record Longer (j k : Journal) : Type 0 where
  pub more : List (List ℕ)
  pub entries : k.entries ≡ j.entries ++ more
  pub first : k.first ≡ j.first

-- the record and the slots that hold a history, and the history that they hold (3.12, 3.15, 3.16, 4.3)
unfoldable pub record_of : Journal → History
record_of j = record { count = length j.entries; place = j.place; total = total j.entries; first = j.first }

-- (3.10, 3.12, 3.16, 4.3)
unfoldable pub slots_of : Journal → List ℕ
slots_of j = layout j.first j.entries

-- (3.10, 3.12, 3.16; the total has no part in it)
unfoldable pub journal_of : History → List ℕ → Journal
journal_of h slots = record { entries = entries_from h.first h.count slots; place = h.place; first = h.first }

-- A state is bad exactly if the buffer has another length, the first slot exceeds 99, the count exceeds 100, the place exceeds the count, a used slot
-- has length 0 or is blank or ill-formed, two neighbours are equal, an unused byte is not zero, or the total is not that of the entries' lengths.
-- Neighbours are two entries one after the other, across the end of the buffer too; the newest and the oldest are none (3.2, 3.13, 3.15, 3.16).
unfoldable pub good : History → List ℕ → Bool
good h slots =
    cond (eqb (length slots) slots_size)
    (cond (ltb h.first slot_count)
    (cond (leb h.count most_entries)
    (cond (leb h.place h.count)
    (cond (sound [] (journal_of h slots).entries)
    (cond (same_bytes (slots_of (journal_of h slots)) slots) (eqb h.total (total (journal_of h slots).entries)) false)
    false)
    false)
    false)
    false)
    false
