-- Laws of the newest entry, and of the entry of a number.
use Prim.Native.Nat.{ℕ, suc, ◌+◌, ◌-◌, ◌*◌, ◌<◌, ◌≤◌}
use mathlib.Core.Path.{◌≡◌, refl, sym, ap, ◌∙◌}
use mathlib.Core.Bool.{true, false, not}
use mathlib.Core.List.{List, [], ◌∷◌}
use native.Mathlib.Omega.{arith}
use lib.ListN.{length, take, drop, get_or}
use lib.Seq.{drop-drop, get_or-take, get_or-drop}
use Rattle.buffer.proofs.Choices.{then_is, else_is}
use Rattle.buffer.specs.Compare.{same_bytes}
use Rattle.text.specs.Apart.{blank}
use Rattle.history.specs.Entries.{newest_is, is_new}
use Rattle.history.specs.Slots.{slot_after, slot_at, entry, entries_from}
use Rattle.history.specs.Journal.{entry_of, journal_of}
use Rattle.history.specs.declared.stepping.History.{History}
use Rattle.history.proofs.Turned.{length_entries, entry_from, entry_past}
use Rattle.history.proofs.Passing.{within_slot}

-- what is recalled: an entry that is there, and one past the count
module _ (h : History) (slots : List ℕ) (number : ℕ) where
  pub recall_past : h.count ≤ number → take 0 (drop 0 slots) ≡ entry_of (journal_of h slots) number
  unfolding journal_of
  recall_past k = sym (entry_past h.first h.count number slots k)

  pub recall_there : number < h.count → (at n : ℕ) → at ≡ 256 * slot_after h.first number → n ≡ get_or slots at 0 → n ≤ 255
      → take n (drop (at + 1) slots) ≡ entry_of (journal_of h slots) number
  unfolding journal_of entry slot_at
  recall_there there at n p e small =
      let here : List ℕ = take 256 (drop at slots) in
      let place : at + 0 ≡ at = omega arith in
      let byte : get_or here 0 0 ≡ n = get_or-take 256 (drop at slots) 0 0 (omega arith) ∙ get_or-drop at slots 0 0 ∙ ap (λ (i : ℕ). get_or slots i 0) place ∙ sym e in
      sym (entry_from h.first h.count number slots there
      ∙ ap (λ (i : ℕ). take (get_or (take 256 (drop i slots)) 0 0) (drop 1 (take 256 (drop i slots)))) (sym p)
      ∙ ap (λ (k : ℕ). take k (drop 1 here)) byte
      ∙ within_slot n 1 (drop at slots) (omega arith)
      ∙ ap (take n) (drop-drop 1 at slots))

-- the newest entry of a history that has some
newest_last : (text : List ℕ) (es : List (List ℕ)) → 0 < length es → newest_is text es ≡ same_bytes (get_or es (length es - 1) []) text
unfolding newest_is
newest_last text [] h = absurd (omega arith)
newest_last text (e ∷ []) h = refl
newest_last text (e ∷ d ∷ es) h =
    let less : length (d ∷ es) - 1 ≡ length es = omega arith in
    let one : suc (length es) ≡ length (e ∷ d ∷ es) - 1 = omega arith in
    newest_last text (d ∷ es) (omega arith)
    ∙ ap (λ (n : ℕ). same_bytes (get_or (d ∷ es) n []) text) less
    ∙ ap (λ (n : ℕ). same_bytes (get_or (e ∷ d ∷ es) n []) text) one

pub newest_entry : (h : History) (slots text : List ℕ) → 0 < h.count
    → newest_is text (journal_of h slots).entries ≡ same_bytes (entry_of (journal_of h slots) (h.count - 1)) text
unfolding journal_of
newest_entry h slots text some =
    let n = length_entries h.first h.count slots in
    newest_last text (entries_from h.first h.count slots) (omega arith)
    ∙ ap (λ (k : ℕ). same_bytes (get_or (entries_from h.first h.count slots) (k - 1) []) text) n

-- when a text is new
pub blank_not_new : (text : List ℕ) (es : List (List ℕ)) → blank text ≡ true → is_new text es ≡ false
unfolding is_new
blank_not_new text es e = then_is _ _ _ e

pub first_new : (h : History) (slots text : List ℕ) → blank text ≡ false → h.count ≡ 0 → is_new text (journal_of h slots).entries ≡ true
unfolding is_new entries_from newest_is journal_of
first_new h slots text e z = else_is _ _ _ e ∙ ap (λ (n : ℕ). not (newest_is text (entries_from h.first n slots))) z

pub other_new : (h : History) (slots text : List ℕ) → blank text ≡ false → 0 < h.count
    → is_new text (journal_of h slots).entries ≡ not (same_bytes (entry_of (journal_of h slots) (h.count - 1)) text)
unfolding is_new
other_new h slots text e some = else_is _ _ _ e ∙ ap not (newest_entry h slots text some)
