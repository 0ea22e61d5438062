-- Laws of the calls on a saved state: what each way through the code answers and leaves.
use Rattle.std.specs.Prelude.{Ok, Err, Result, ⊤}
use Prim.Native.Nat.{ℕ, ◌<◌, ◌≤◌}
use mathlib.Core.Path.{◌≡◌, refl, sym, ap, ◌∙◌}
use mathlib.Core.Bool.{Bool, true, false, cond}
use mathlib.Core.List.{List}
use native.Mathlib.Omega.{arith}
use lib.Dec.{ltb}
use lib.ListN.{length}
use borrow.Author.Tests.{lt-ltb, le-ltb}
use Rattle.buffer.proofs.Choices.{then_is, else_is}
use Rattle.history.specs.Entries.{total}
use Rattle.history.specs.Journal.{Journal, no_entries, offered, record_of, journal_of, good}
use Rattle.history.specs.Answer.{Emptied, add_answer, record_by, slots_by, Addition}
use Rattle.history.specs.declared.stepping.History.{History}
use Rattle.history.specs.declared.adding.AddRefusal.{AddRefusal}
use Rattle.history.specs.declared.adding.AddRefusal.TheVariants.{BadState as BadHistory, TooLong, IllFormed}
use Rattle.history.specs.Forgotten.{forgotten, forget_answer, record_left, Forgets}
use Rattle.history.specs.declared.forgetting.ForgetRefusal.{ForgetRefusal}
use Rattle.history.specs.declared.forgetting.ForgetRefusal.TheVariants.{BadState as NoHistory, NoEntry}
use Rattle.history.proofs.Lasting.{added_good, forgets_good}
use Rattle.editor.proofs.States.{good_parts, state_parts, good_state_lem}
use Rattle.editor.proofs.Fine.{stays_good}
use Rattle.keys.specs.declared.standing.Profile.{Profile}
use Rattle.keys.specs.Modes.{is_profile, profile_of}
use Rattle.editor.specs.declared.line.Editor.{Editor}
use Rattle.editor.specs.declared.drawing.KeyAnswer.{KeyAnswer}
use Rattle.editor.specs.declared.drawing.KeyRefusal.TheVariants.{BadState}
use Rattle.editor.specs.Line.{fresh_editor}
use Rattle.editor.specs.Turns.{turn_of}
use Rattle.editor.specs.Answer.{state_of, editor_of, history_of, good_state, key_answer, refused, Pressing}
use Rattle.state.specs.State.{state_size, saved_of, editor_in, history_in, good_saved, Read}
use Rattle.state.specs.Calls.{begin_answer, fresh_saved, Beginning, turn_in, press_answer, saved_after, SavedKey, saved_answer, state_by, SavedAdd, saved_forget_answer, state_left, SavedForget}
use Rattle.state.specs.declared.calls.BeginRefusal.TheVariants.{NoRoom, BadState as NoState}
use Rattle.state.proofs.Savings.{size_is, good_saved_parts, Fits, good_fits, read_good}

-- a fresh session
module _ (profile : ℕ) (state slots : List ℕ) where
  pub no_profile : is_profile profile ≡ false → Beginning profile state slots (Err NoState) state slots
  unfolding begin_answer
  no_profile n = record { answer = sym (else_is _ _ _ n); kept = refl; held = refl }

  module _ (p : is_profile profile ≡ true) where
    pub short_state : length state < 266 → Beginning profile state slots (Err (NoRoom 266)) state slots
    unfolding begin_answer
    short_state a =
        record {
          answer = sym (then_is _ _ _ p ∙ then_is _ _ _ (ap (ltb (length state)) size_is ∙ lt-ltb _ 266 a) ∙ ap (λ (n : ℕ). Err (NoRoom n)) size_is);
          kept = refl;
          held = refl;
        }

    module _ (a : 266 ≤ length state) where
      room : ltb (length state) state_size ≡ false
      room = ap (ltb (length state)) size_is ∙ le-ltb _ 266 a

      pub long_state : 266 < length state → Beginning profile state slots (Err NoState) state slots
      unfolding begin_answer
      long_state m =
          record {
            answer = sym (then_is _ _ _ p ∙ else_is _ _ _ room ∙ then_is _ _ _ (ap (λ (n : ℕ). ltb n (length state)) size_is ∙ lt-ltb 266 _ m));
            kept = refl;
            held = refl;
          }

      module _ (m : length state ≤ 266) where
        exact : begin_answer profile (length state) (length slots) ≡ cond (ltb (length slots) 25600) (Err (NoRoom 25600)) (cond (ltb 25600 (length slots)) (Err NoState) (Ok tt))
        unfolding begin_answer
        exact = then_is _ _ _ p ∙ else_is _ _ _ room ∙ else_is _ _ _ (ap (λ (n : ℕ). ltb n (length state)) size_is ∙ le-ltb 266 _ m)

        pub short_slots : length slots < 25600 → Beginning profile state slots (Err (NoRoom 25600)) state slots
        short_slots b = record { answer = sym (exact ∙ then_is _ _ _ (lt-ltb _ 25600 b)); kept = refl; held = refl }

        module _ (b : 25600 ≤ length slots) where
          pub long_slots : 25600 < length slots → Beginning profile state slots (Err NoState) state slots
          long_slots n = record { answer = sym (exact ∙ else_is _ _ _ (le-ltb _ 25600 b) ∙ then_is _ _ _ (lt-ltb 25600 _ n)); kept = refl; held = refl }

          pub begin_ready : (e : Editor) (h : History) (state' slots' : List ℕ) → length slots ≤ 25600 → e ≡ fresh_editor (profile_of profile) → Emptied h slots' → state' ≡ saved_of e h
              → Beginning profile state slots (Ok tt) state' slots'
          unfolding fresh_saved
          begin_ready e h state' slots' n q o w =
              record {
                answer = sym (exact ∙ else_is _ _ _ (le-ltb _ 25600 b) ∙ else_is _ _ _ (le-ltb 25600 _ n));
                kept = w ∙ ap (λ (x : Editor). saved_of x h) q ∙ ap (saved_of (fresh_editor (profile_of profile))) o.state;
                held = o.bytes;
              }

fresh_small : (p : Profile) → Fits (fresh_editor p) (record_of no_entries)
unfolding record_of total
fresh_small p = (record { size = omega arith; cursor = omega arith }, record { count = omega arith; place = omega arith; total = omega arith; first = omega arith })

pub fresh_bytes : (p : Profile) (e : Editor) (h : History) → e ≡ fresh_editor p → h ≡ record_of no_entries → Fits e h
fresh_bytes p e h a b = rw (a, b) (fresh_small p)

-- the history of a state that was read is good
pub history_good : (e : Editor) (h : History) (state slots : List ℕ) → Read e h state slots → good h slots ≡ true
history_good e h state slots read = (good_parts e h slots (read_good e h state slots read)).1

-- a text added
module _ (state slots text : List ℕ) where
  pub add_other : good_saved state slots ≡ false → SavedAdd state slots text (Err BadHistory) state slots
  unfolding saved_answer add_answer
  add_other h = record { answer = sym (else_is _ _ _ h); kept = refl; held = refl }

  module _ (e : Editor) (h : History) (read : Read e h state slots) where
    module _ (r : History) (told : Result ⊤ AddRefusal) (left : List ℕ) (b : Addition h slots text r told left) where
      a : Addition (history_in state) slots text r told left
      a = rw read.history at b

      answered_so : told ≡ saved_answer state slots text
      unfolding saved_answer
      answered_so = b.answer ∙ ap (λ (t : Bool). add_answer t text) (history_good e h state slots read ∙ sym read.is)

      left_so : left ≡ slots_by told slots (offered text (journal_of (history_in state) slots))
      left_so = a.bytes ∙ ap (λ (x : Result ⊤ AddRefusal). slots_by x slots (offered text (journal_of (history_in state) slots))) (sym a.answer)

      pub add_done : (state' : List ℕ) → told ≡ Ok tt → state' ≡ saved_of e r → SavedAdd state slots text told state' left
      add_done state' d w =
          let j : Journal = offered text (journal_of (history_in state) slots) in
          let known : add_answer (good (history_in state) slots) text ≡ Ok tt = sym a.answer ∙ d in
          record {
            answer = answered_so;
            kept =
                w
                ∙ ap (λ (x : Editor). saved_of x r) read.editor
                ∙ ap (saved_of (editor_in state)) (a.state ∙ ap (λ (x : Result ⊤ AddRefusal). record_by x (history_in state) (offered text (journal_of (history_in state) slots))) known)
                ∙ ap (λ (x : Result ⊤ AddRefusal). state_by x state j) (sym d);
            held = left_so;
          }

      pub add_good : good_state e r left ≡ true
      add_good = good_state_lem e r left (state_parts e h slots (read_good e h state slots read)).0 (added_good h slots text r told left (history_good e h state slots read) b)

      pub add_fits : Fits e r
      add_fits = good_fits e r left add_good

      pub add_refused : ((u : ⊤) → told ≡ Ok u → ⊥) → SavedAdd state slots text told state left
      add_refused k = record { answer = answered_so; kept = sym (stays told k); held = left_so }
        where
          stays : (x : Result ⊤ AddRefusal) → ((u : ⊤) → x ≡ Ok u → ⊥) → state_by x state (offered text (journal_of (history_in state) slots)) ≡ state
          stays (Ok u) m = absurd (m u refl)
          stays (Err BadHistory) m = refl
          stays (Err (TooLong n)) m = refl
          stays (Err (IllFormed n)) m = refl

-- an entry forgotten
module _ (state slots : List ℕ) (k : ℕ) where
  pub forget_other : good_saved state slots ≡ false → SavedForget state slots k (Err NoHistory) state slots
  unfolding saved_forget_answer forget_answer
  forget_other h = record { answer = sym (else_is _ _ _ h); kept = refl; held = refl }

  module _ (e : Editor) (h : History) (read : Read e h state slots) (r : History) (told : Result ℕ ForgetRefusal) (left : List ℕ) (b : Forgets h slots k r told left) where
    f : Forgets (history_in state) slots k r told left
    f = rw read.history at b

    forgot_so : told ≡ saved_forget_answer state slots k
    unfolding saved_forget_answer
    forgot_so =
        f.answer
        ∙ ap (λ (t : Bool). forget_answer t k (journal_of (history_in state) slots).entries)
        (ap (λ (x : History). good x slots) (sym read.history) ∙ history_good e h state slots read ∙ sym read.is)

    pub forget_done : (state' : List ℕ) (n : ℕ) → told ≡ Ok n → state' ≡ saved_of e r → SavedForget state slots k told state' left
    forget_done state' n d w =
        let j : Journal = forgotten k (journal_of (history_in state) slots) in
        record {
          answer = forgot_so;
          kept =
              w
              ∙ ap (λ (x : Editor). saved_of x r) read.editor
              ∙ ap (saved_of (editor_in state)) (f.state ∙ ap (λ (x : Result ℕ ForgetRefusal). record_left x (history_in state) j) d)
              ∙ ap (λ (x : Result ℕ ForgetRefusal). state_left x state j) (sym d);
          held = f.bytes;
        }

    pub forget_fits : Fits e r
    forget_fits =
        good_fits e r left
        (good_state_lem e r left (state_parts e h slots (read_good e h state slots read)).0 (forgets_good h slots k r told left (history_good e h state slots read) b))

    pub forget_refused : ((n : ℕ) → told ≡ Ok n → ⊥) → SavedForget state slots k told state left
    forget_refused m = record { answer = forgot_so; kept = sym (stays told m); held = f.bytes }
      where
        stays : (x : Result ℕ ForgetRefusal) → ((n : ℕ) → x ≡ Ok n → ⊥) → state_left x state (forgotten k (journal_of (history_in state) slots)) ≡ state
        stays (Ok n) m = absurd (m n refl)
        stays (Err NoHistory) m = refl
        stays (Err (NoEntry n)) m = refl

-- one key
module _ (state slots prompt : List ℕ) (byte : ℕ) (line screen : List ℕ) where
  pub key_other : good_saved state slots ≡ false → SavedKey state slots prompt byte line screen (Err BadState) state slots line screen
  unfolding press_answer key_answer
  key_other h = record { answer = sym (else_is _ _ _ h); kept = refl; held = refl; given = refl; shown = refl }

  module _ (e : Editor) (h : History) (read : Read e h state slots) (k : KeyAnswer) (slots' line' screen' : List ℕ)
      (b : Pressing e h slots prompt byte line screen k slots' line' screen') where
    p : Pressing (editor_in state) (history_in state) slots prompt byte line screen k slots' line' screen'
    p = rw (read.editor, read.history) at b

    told_so : k.answer ≡ press_answer state slots prompt byte (length line) (length screen)
    unfolding press_answer turn_in
    told_so =
        p.answer
        ∙ ap (λ (t : Bool). key_answer t prompt (turn_of prompt (state_of (editor_in state) (history_in state) slots) byte) (length line) (length screen))
        ((good_saved_parts state slots read.is).1 ∙ sym read.is)

    pub key_refused : refused k.answer ≡ true → SavedKey state slots prompt byte line screen k.answer state slots' line' screen'
    unfolding turn_in
    key_refused t = record { answer = told_so; kept = sym (then_is _ _ _ t); held = p.held; given = p.given; shown = p.shown }

    -- what is left of a key that is taken
    after_editor : refused k.answer ≡ false → k.editor ≡ editor_of (turn_in state slots prompt byte).after
    unfolding turn_in
    after_editor t = p.editor ∙ else_is _ _ _ t

    after_history : refused k.answer ≡ false → k.history ≡ history_of (turn_in state slots prompt byte).after
    unfolding turn_in
    after_history t = p.history ∙ else_is _ _ _ t

    pub key_taken : (state' : List ℕ) → refused k.answer ≡ false → state' ≡ saved_of k.editor k.history
        → SavedKey state slots prompt byte line screen k.answer state' slots' line' screen'
    unfolding saved_after turn_in
    key_taken state' t s =
        record {
          answer = told_so;
          kept =
              s
              ∙ ap (λ (x : Editor). saved_of x k.history) (after_editor t)
              ∙ ap (saved_of (editor_of (turn_in state slots prompt byte).after)) (after_history t)
              ∙ sym (else_is _ _ _ t);
          held = p.held;
          given = p.given;
          shown = p.shown;
        }

    pub key_fits : Fits k.editor k.history
    key_fits =
        good_fits k.editor k.history slots' (stays_good e h slots prompt byte line screen k slots' line' screen' (read_good e h state slots read) b)
