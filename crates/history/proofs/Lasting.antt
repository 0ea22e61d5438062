-- No call on a history leads from a good state to a bad one (for the steps through it: Journals, `back_good` and `onward_good`).
use Rattle.std.specs.Prelude.{Ok, Err, Result, ⊤}
use Prim.Native.Nat.{ℕ}
use mathlib.Core.Path.{◌≡◌, refl, ◌∙◌}
use mathlib.Core.Bool.{true}
use mathlib.Core.List.{List}
use Rattle.history.specs.Journal.{Journal, no_entries, offered, journal_of, good}
use Rattle.history.specs.Answer.{Holds, Emptied, Offered, add_answer, record_by, slots_by, Addition}
use Rattle.history.specs.declared.stepping.History.{History}
use Rattle.history.specs.declared.adding.AddRefusal.{AddRefusal}
use Rattle.history.specs.declared.adding.AddRefusal.TheVariants.{BadState, TooLong, IllFormed}
use Rattle.history.proofs.Journals.{Fair, same_good, fair_good, fair_none}
use Rattle.history.specs.Forgotten.{Forgets}
use Rattle.history.specs.declared.forgetting.ForgetRefusal.{ForgetRefusal}
use Rattle.history.specs.declared.forgetting.ForgetRefusal.TheVariants.{BadState as NoHistory, NoEntry}
use Rattle.history.proofs.Called.{Taken, done_has, taken_fair}
use Rattle.history.proofs.Shortened.{gone_good}

-- what holds a history within the rules
pub holds_good : (j : Journal) (r : History) (left : List ℕ) → Fair j → Holds j r left → good r left ≡ true
holds_good j r left f o = same_good o.state o.bytes ∙ fair_good j f

-- a fresh history
pub emptied_good : (r : History) (left : List ℕ) → Emptied r left → good r left ≡ true
emptied_good r left o = holds_good no_entries r left fair_none o

-- a text that is offered
pub offered_good : (h : History) (slots text : List ℕ) (r : History) (left : List ℕ) → Taken h slots text → Offered h slots text r left → good r left ≡ true
offered_good h slots text r left t o = holds_good (offered text (journal_of h slots)) r left (taken_fair h slots text t) o

-- a text that is added, whatever the answer
pub added_good : (h : History) (slots text : List ℕ) (r : History) (told : Result ⊤ AddRefusal) (left : List ℕ) → good h slots ≡ true
    → Addition h slots text r told left → good r left ≡ true
added_good h slots text r told left g a = by (add_answer (good h slots) text) refl a.state a.bytes
  where
    by : (x : Result ⊤ AddRefusal) → add_answer (good h slots) text ≡ x → r ≡ record_by x h (offered text (journal_of h slots)) → left ≡ slots_by x slots (offered text (journal_of h slots))
        → good r left ≡ true
    by (Ok u) d p q = offered_good h slots text r left (done_has h slots text d) (record { state = p; bytes = q })
    by (Err BadState) d p q = same_good p q ∙ g
    by (Err (TooLong n)) d p q = same_good p q ∙ g
    by (Err (IllFormed n)) d p q = same_good p q ∙ g

-- an entry that is forgotten, whatever the answer
pub forgets_good : (h : History) (slots : List ℕ) (k : ℕ) (r : History) (told : Result ℕ ForgetRefusal) (left : List ℕ) → good h slots ≡ true → Forgets h slots k r told left → good r left ≡ true
forgets_good h slots k r (Ok n) left g a = gone_good h slots k r n left a
forgets_good h slots k r (Err NoHistory) left g a = same_good a.state a.bytes ∙ g
forgets_good h slots k r (Err (NoEntry m)) left g a = same_good a.state a.bytes ∙ g
