-- Forgetting one entry (STANDARD 3.19; 12 and 18 of 10.1, in that order): what remains of the entries, the history after it, and what the call answers and leaves.
use Rattle.std.specs.Prelude.{ℕ, ◌+◌, ◌-◌, ◌≡◌, Bool, true, false, cond, List, [], ◌++◌, ltb, length, take, drop, get_or, Ok, Err, Result}
use Rattle.buffer.specs.Compare.{same_bytes}
use Rattle.history.specs.Journal.{Journal, record_of, slots_of, journal_of, good}
use Rattle.history.specs.declared.stepping.History.{History}
use Rattle.history.specs.declared.forgetting.ForgetRefusal.{ForgetRefusal}
use Rattle.history.specs.declared.forgetting.ForgetRefusal.TheVariants.{BadState, NoEntry}

-- the entries without the one of a number, the oldest being 0 (3.19)
unfoldable pub without : ℕ → List (List ℕ) → List (List ℕ)
without k es = take k es ++ drop (k + 1) es

-- entry k and the one before it are there, and equal (3.19)
unfoldable pub repeats : ℕ → List (List ℕ) → Bool
repeats k es = cond (ltb 0 k) (cond (ltb k (length es)) (same_bytes (get_or es (k - 1) []) (get_or es k [])) false) false

-- what remains: entry k goes, and if that brings two equal entries together, the older of them goes as well (3.19)
unfoldable pub remaining : ℕ → List (List ℕ) → List (List ℕ)
remaining k es = cond (repeats k (without k es)) (without (k - 1) (without k es)) (without k es)

-- how many go (3.19)
unfoldable pub gone : ℕ → List (List ℕ) → ℕ
gone k es = cond (repeats k (without k es)) 2 1

-- the history after it: the place is the count, and the first slot stays (3.19)
abbrev pub forgotten : ℕ → Journal → Journal
forgotten k j = record { entries = remaining k j.entries; place = length (remaining k j.entries); first = j.first }

-- the answer for a number, given whether the state is good (10.24)
unfoldable pub forget_answer : Bool → ℕ → List (List ℕ) → Result ℕ ForgetRefusal
forget_answer is k es = cond is (cond (ltb k (length es)) (Ok (gone k es)) (Err (NoEntry k))) (Err BadState)

abbrev pub is_gone : Result ℕ ForgetRefusal → Bool
is_gone (Ok n) = true
is_gone (Err BadState) = false
is_gone (Err (NoEntry k)) = false

-- a refusal keeps the record and every byte (3.19, 4.5)
abbrev pub record_left : Result ℕ ForgetRefusal → History → Journal → History
record_left told h j = cond (is_gone told) (record_of j) h

abbrev pub slots_left : Result ℕ ForgetRefusal → List ℕ → Journal → List ℕ
slots_left told slots j = cond (is_gone told) (slots_of j) slots

-- (3.19)
pub record Forgets (h : History) (slots : List ℕ) (k : ℕ) (r : History) (told : Result ℕ ForgetRefusal) (left : List ℕ) : Type 0 where
  pub answer : told ≡ forget_answer (good h slots) k (journal_of h slots).entries
  pub state : r ≡ record_left told h (forgotten k (journal_of h slots))
  pub bytes : left ≡ slots_left told slots (forgotten k (journal_of h slots))

-- the refusal's number (STANDARD 10.1; 0: none), and the value that goes with it
abbrev pub number : Result ℕ ForgetRefusal → ℕ
number (Ok n) = 0
number (Err BadState) = 12
number (Err (NoEntry k)) = 18

abbrev pub value : Result ℕ ForgetRefusal → ℕ
value (Ok n) = n
value (Err BadState) = 0
value (Err (NoEntry k)) = k
