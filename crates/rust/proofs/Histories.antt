-- Our history is the Rust's `CommandHistory::new(100)`: its three functions on values and ours do the same to entries and place, and with the list shortened it is ours after an entry was forgotten.
use Rattle.std.specs.Prelude.{Ok, Some, None}
use Rattle.std.proofs.Common.{◌≡◌, ℕ, zero, suc, ◌+◌, ◌-◌, ◌<◌, ◌≤◌, Bool, true, false, cond, not, eqb, ltb, leb, List, [], ◌∷◌, ◌++◌, length, get_or, take, drop, sym, refl, ap, ◌∙◌, arith, ltb-false, ltb-true, le-ltb, lt-ltb, eqb-true, le-leb}
use mathlib.Core.Bool.{beq}
use mathlib.Core.Option.{Option, none, some}
use lib.ListN.{get_elem?}
use lib.Seq.{drop-nil}
use borrow.Author.Tests.{lt-leb, eqb-false}
use Rattle.buffer.proofs.Choices.{then_is, else_is}
use Rattle.text.specs.Decoding.{Piece, pieces_of, bytes_all}
use Rattle.text.specs.Apart.{white, after_run, trim_end, before_end, trimmed, all_white, blank}
use Rattle.text.proofs.WhiteRuns.{some_bytes}
use Rattle.history.specs.Entries.{most_entries, newest_is, is_new, with_room, added}
use Rattle.history.specs.Journal.{Journal, no_entries, count, entry_of, offered, at_place, journal_of, good}
use Rattle.history.specs.Answer.{Addition}
use Rattle.history.specs.Forgotten.{without, repeats, remaining, forgotten, Forgets}
use Rattle.history.specs.Steps.{placed_at, back, recalled_at, onward}
use Rattle.history.specs.declared.stepping.History.{History}
use Rattle.history.specs.declared.stepping.Step.{Step}
use Rattle.history.proofs.Journals.{good_fair, count_held, place_held}
use Rattle.history.proofs.Called.{add_after}
use Rattle.history.proofs.Shortened.{forget_after}
use Rattle.rust.specs.Std.{is_empty}
use Rattle.rust.specs.History.{new, last, is_some, pushed, kept, add_command, removed, meet, shortened_list, shortened, Stepped, previous, next}
use Rattle.rust.specs.Same.{original, step_in}

-- `trim().is_empty()` is blank
some_left : (l : List ℕ) → 0 < length l → is_empty l ≡ false
some_left [] h = absurd (omega arith)
some_left (x ∷ l) h = refl

solid_end : (p : Piece) (ps : List Piece) → white p ≡ false → is_empty (bytes_all (before_end p ps)) ≡ false
solid_end p [] w = ap (λ (t : Bool). is_empty (bytes_all (cond t [] (p ∷ [])))) w ∙ some_left (bytes_all (p ∷ [])) (some_bytes p [])
solid_end p (q ∷ ps) w = some_left (bytes_all (p ∷ q ∷ ps)) (some_bytes p (q ∷ ps))

trim_blank : (ps : List Piece) → is_empty (bytes_all (trim_end (after_run true ps))) ≡ all_white ps
unfolding after_run all_white trim_end bytes_all
trim_blank [] = refl
trim_blank (p ∷ ps) = by (white p) refl (trim_blank ps)
  where
    by : (t : Bool) → white p ≡ t → is_empty (bytes_all (trim_end (after_run true ps))) ≡ all_white ps
        → is_empty (bytes_all (trim_end (cond (beq t true) (after_run true ps) (p ∷ ps)))) ≡ cond t (all_white ps) false
    by true w h = h
    by false w h = solid_end p (trim_end ps) w

pub blank_is_empty : (t : List ℕ) → is_empty (trimmed t) ≡ blank t
unfolding trimmed blank
blank_is_empty t = trim_blank (pieces_of t)

-- `last() == Some(&cmd)` is the newest entry
last_is : (t : List ℕ) (es : List (List ℕ)) → is_some (last es) t ≡ newest_is t es
unfolding last newest_is
last_is t [] = refl
last_is t (e ∷ []) = refl
last_is t (e ∷ d ∷ es) = last_is t (d ∷ es)

room_is : (es : List (List ℕ)) → cond (leb 100 (length es)) (drop 1 es) es ≡ with_room es
unfolding with_room most_entries
room_is es = by (ltb (length es) 100) refl
  where
    by : (t : Bool) → ltb (length es) 100 ≡ t → cond (leb 100 (length es)) (drop 1 es) es ≡ cond t es (drop 1 es)
    by true q = else_is _ _ _ (lt-leb 100 (length es) (ltb-true _ _ q))
    by false q = then_is _ _ _ (le-leb 100 (length es) (ltb-false _ _ q))

kept_is : (es : List (List ℕ)) (t : List ℕ) → kept 100 es t ≡ added t es
unfolding kept pushed added is_new
kept_is es t =
    ap (λ (b : Bool). cond (not b) (cond (not (is_some (last es) t)) (cond (leb 100 (length es)) (drop 1 es) es ++ (t ∷ [])) es) es) (blank_is_empty t)
    ∙ ap (λ (b : Bool). cond (not (blank t)) (cond (not b) (cond (leb 100 (length es)) (drop 1 es) es ++ (t ∷ [])) es) es) (last_is t es)
    ∙ ap (λ (l : List (List ℕ)). cond (not (blank t)) (cond (not (newest_is t es)) (l ++ (t ∷ [])) es) es) (room_is es)
    ∙ by (blank t) (newest_is t es)
  where
    by : (b n : Bool) → cond (not b) (cond (not n) (with_room es ++ (t ∷ [])) es) es ≡ cond (cond b false (not n)) (with_room es ++ (t ∷ [])) es
    by true n = refl
    by false true = refl
    by false false = refl

-- it begins as the Rust's does
pub fresh_is : original no_entries ≡ new 100
fresh_is = refl

pub add_is : (j : Journal) (t : List ℕ) → add_command (original j) t ≡ original (offered t j)
unfolding add_command
add_is j t = ap (λ (l : List (List ℕ)). record { history = l; index = length l; size = 100 }) (kept_is j.entries t)

-- an entry taken out
removed_is : (k : ℕ) (es : List (List ℕ)) → removed k es ≡ without k es
unfolding removed without
removed_is zero [] = refl
removed_is (suc k) [] = sym (drop-nil (suc k + 1))
removed_is zero (e ∷ es) = refl
removed_is (suc k) (e ∷ es) =
    let on : suc (k + 1) ≡ suc k + 1 = omega arith in
    ap (λ (l : List (List ℕ)). e ∷ l) (removed_is k es ∙ ap (λ (n : ℕ). take k es ++ drop n (e ∷ es)) on)

list_is : (k : ℕ) (es : List (List ℕ)) → shortened_list k es ≡ remaining k es
unfolding shortened_list remaining meet repeats
list_is k es =
    ap (λ (l : List (List ℕ)). cond (meet k l) (removed (k - 1) l) l) (removed_is k es)
    ∙ ap (λ (l : List (List ℕ)). cond (meet k (without k es)) l (without k es)) (removed_is (k - 1) (without k es))

shortened_is : (k : ℕ) (j : Journal) → shortened k (original j) ≡ original (forgotten k j)
unfolding shortened
shortened_is k j = ap (λ (l : List (List ℕ)). record { history = l; index = length l; size = 100 }) (list_is k j.entries)

-- an entry that is there
found : (es : List (List ℕ)) (n : ℕ) → n < length es → get_elem? es n ≡ some (get_or es n [])
found [] n h = absurd (omega arith)
found (e ∷ es) zero h = refl
found (e ∷ es) (suc n) h = found es n (omega arith)

-- a step back and a step on, at a place among the entries: what the Rust gives back is the entry there
module _ (j : Journal) (h : j.place ≤ count j) where
  -- the Rust's history at another place, and what it gives back there
  at : ℕ → Option (List ℕ) → Stepped
  at place text = record { after = original (at_place j place); text = text }

  pub previous_is : previous (original j)
      ≡ cond (eqb j.place 0) (record { after = original j; text = none }) (record { after = original (at_place j (j.place - 1)); text = some (entry_of j (j.place - 1)) })
  unfolding previous at
  previous_is = by (eqb j.place 0) refl
    where
      by : (t : Bool) → eqb j.place 0 ≡ t
          → cond {A = Stepped} (ltb 0 j.place) (at (j.place - 1) (get_elem? j.entries (j.place - 1))) (record { after = original j; text = none })
          ≡ cond t (record { after = original j; text = none }) (at (j.place - 1) (some (entry_of j (j.place - 1))))
      by true q = let z = eqb-true j.place 0 q in else_is _ _ _ (le-ltb 0 j.place (omega arith))
      by false q =
          let z = eqb-false j.place 0 q in
          then_is _ _ _ (lt-ltb 0 j.place (omega arith)) ∙ ap (at (j.place - 1)) (found j.entries (j.place - 1) (omega arith))

  pub next_is : next (original j)
      ≡ cond (ltb j.place (count j))
      (record { after = original (at_place j (j.place + 1)); text = cond (ltb (j.place + 1) (count j)) (some (entry_of j (j.place + 1))) none })
      (record { after = original j; text = none })
  unfolding next at
  next_is = by (ltb j.place (count j)) (ltb (j.place + 1) (count j)) refl refl
    where
      by : (t u : Bool) → ltb j.place (count j) ≡ t → ltb (j.place + 1) (count j) ≡ u
          → cond {A = Stepped} t (at (j.place + 1) (cond u (get_elem? j.entries (j.place + 1)) none)) (record { after = original j; text = none })
          ≡ cond t (at (j.place + 1) (cond u (some (entry_of j (j.place + 1))) none)) (record { after = original j; text = none })
      by false u p q = refl
      by true false p q = refl
      by true true p q = ap (at (j.place + 1)) (found j.entries (j.place + 1) (ltb-true _ _ q))

-- THE CALLS
-- the Rust's add_command on the history that record and slots hold
pub add_as_rust : (h : History) (slots text : List ℕ) (r : History) (left : List ℕ) → Addition h slots text r (Ok tt) left
    → add_command (original (journal_of h slots)) text ≡ original (journal_of r left)
add_as_rust h slots text r left a = add_is (journal_of h slots) text ∙ ap original (sym (add_after h slots text r left a))

-- and that history with the shortened list
pub forget_as_rust : (h : History) (slots : List ℕ) (k : ℕ) (r : History) (n : ℕ) (left : List ℕ) → Forgets h slots k r (Ok n) left
    → shortened k (original (journal_of h slots)) ≡ original (journal_of r left)
forget_as_rust h slots k r n left a = shortened_is k (journal_of h slots) ∙ ap original (sym (forget_after h slots k r n left a))

-- its previous and next: the place that a step leads to, and the entry of the number that it recalls
module _ (h : History) (slots : List ℕ) (is : good h slots ≡ true) where
  -- a step back from a place, and a step on among so many entries
  back_from : ℕ → Step
  back_from place = cond (eqb place 0) (record { history = h; recalled = None }) (record { history = placed_at h (place - 1); recalled = Some (place - 1) })

  on_from : ℕ → ℕ → Step
  on_from place n = cond (ltb place n) (record { history = placed_at h (place + 1); recalled = recalled_at n (place + 1) }) (record { history = h; recalled = None })

  pub previous_as_rust : previous (original (journal_of h slots)) ≡ step_in (journal_of h slots) (back h)
  unfolding back back_from
  previous_as_rust =
      let j : Journal = journal_of h slots in
      previous_is j (good_fair h slots is).placed ∙ by (eqb j.place 0) ∙ ap (λ (p : ℕ). step_in j (back_from p)) (place_held h slots)
    where
      by : (t : Bool) → let j : Journal = journal_of h slots in
          ◌≡◌ {A = Stepped} (cond t (record { after = original j; text = none }) (record { after = original (at_place j (j.place - 1)); text = some (entry_of j (j.place - 1)) }))
          (step_in j (cond t (record { history = h; recalled = None }) (record { history = placed_at h (j.place - 1); recalled = Some (j.place - 1) })))
      by true = ap (λ (p : ℕ). record { after = original (at_place (journal_of h slots) p); text = none }) (place_held h slots)
      by false = refl

  pub next_as_rust : next (original (journal_of h slots)) ≡ step_in (journal_of h slots) (onward h)
  unfolding onward on_from recalled_at
  next_as_rust =
      let j : Journal = journal_of h slots in
      next_is j (good_fair h slots is).placed
      ∙ by (ltb j.place (count j)) (ltb (j.place + 1) (count j))
      ∙ ap (λ (n : ℕ). step_in j (on_from j.place n)) (count_held h slots)
      ∙ ap (λ (p : ℕ). step_in j (on_from p h.count)) (place_held h slots)
    where
      by : (t u : Bool) → let j : Journal = journal_of h slots in
          ◌≡◌ {A = Stepped} (cond t (record { after = original (at_place j (j.place + 1)); text = cond u (some (entry_of j (j.place + 1))) none }) (record { after = original j; text = none }))
          (step_in j (cond t (record { history = placed_at h (j.place + 1); recalled = cond u (Some (j.place + 1)) None }) (record { history = h; recalled = None })))
      by true true = refl
      by true false = refl
      by false u = ap (λ (p : ℕ). record { after = original (at_place (journal_of h slots) p); text = none }) (place_held h slots)
