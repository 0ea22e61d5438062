-- What adding to a history answers and leaves (STANDARD 10: 12, 13, 3, in that order).
use Rattle.std.specs.Prelude.{ℕ, ◌≡◌, Bool, cond, List, ltb, length, Ok, Err, Result, ⊤}
use Rattle.text.specs.Decoding.{well_formed_length, well_formed}
use Rattle.history.specs.Journal.{Journal, no_entries, offered, record_of, slots_of, journal_of, good}
use Rattle.history.specs.declared.stepping.History.{History}
use Rattle.history.specs.declared.adding.AddRefusal.{AddRefusal}
use Rattle.history.specs.declared.adding.AddRefusal.TheVariants.{BadState, TooLong, IllFormed}

-- a record and slots that hold a history
pub record Holds (j : Journal) (r : History) (left : List ℕ) : Type 0 where
  pub state : r ≡ record_of j
  pub bytes : left ≡ slots_of j

-- a fresh history, with slots that hold no entry (3.3)
abbrev pub Emptied : History → List ℕ → Type 0
Emptied r left = Holds no_entries r left

-- a text that a good state takes (3.6)
abbrev pub Offered : History → List ℕ → List ℕ → History → List ℕ → Type 0
Offered h slots text r left = Holds (offered text (journal_of h slots)) r left

-- the answer for a text, given whether the state is good (10.15)
unfoldable pub add_answer : Bool → List ℕ → Result ⊤ AddRefusal
add_answer is text =
    cond is
    (cond (ltb 255 (length text)) (Err (TooLong (length text)))
    (cond (well_formed text) (Ok tt)
    (Err (IllFormed (well_formed_length text)))))
    (Err BadState)

-- a refusal keeps the state and every byte (3.5)
abbrev pub record_by : Result ⊤ AddRefusal → History → Journal → History
record_by (Ok u) h j = record_of j
record_by (Err BadState) h j = h
record_by (Err (TooLong n)) h j = h
record_by (Err (IllFormed n)) h j = h

-- (4.5)
abbrev pub slots_by : Result ⊤ AddRefusal → List ℕ → Journal → List ℕ
slots_by (Ok u) slots j = slots_of j
slots_by (Err BadState) slots j = slots
slots_by (Err (TooLong n)) slots j = slots
slots_by (Err (IllFormed n)) slots j = slots

-- (3.6)
pub record Addition (h : History) (slots text : List ℕ) (r : History) (told : Result ⊤ AddRefusal) (left : List ℕ) : Type 0 where
  pub answer : told ≡ add_answer (good h slots) text
  pub state : r ≡ record_by (add_answer (good h slots) text) h (offered text (journal_of h slots))
  pub bytes : left ≡ slots_by (add_answer (good h slots) text) slots (offered text (journal_of h slots))

-- the refusal's number (STANDARD 10.1; 0: none), and the value that goes with it
abbrev pub number : Result ⊤ AddRefusal → ℕ
number (Ok u) = 0
number (Err BadState) = 12
number (Err (TooLong n)) = 13
number (Err (IllFormed n)) = 3

abbrev pub value : Result ⊤ AddRefusal → ℕ
value (Ok u) = 0
value (Err BadState) = 0
value (Err (TooLong n)) = n
value (Err (IllFormed n)) = n
