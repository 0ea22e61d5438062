-- Demand 1 for keys and history: each call's refusals in the order of the standard, with number, value, and what stands in each lent buffer and state.
use Rattle.std.specs.Prelude.{Ok, Err, Result, ⊤}
use Prim.Native.Nat.{ℕ, min}
use mathlib.Core.Path.{◌≡◌, refl, ap, ◌∙◌}
use mathlib.Core.Bool.{Bool, true, false, cond, not}
use mathlib.Core.List.{List, [], ◌∷◌}
use lib.Dec.{ltb}
use lib.ListN.{length}
use Rattle.buffer.specs.Write.{over, over_if_fits}
use Rattle.text.specs.Decoding.{well_formed_length}
use Rattle.text.specs.Decoding.{well_formed}
use Rattle.history.specs.Journal.{Journal, no_entries, offered, record_of, journal_of, good, slots_of as journal_slots}
use Rattle.history.specs.Answer.{add_answer, record_by, slots_by, Addition, number as added_number, value as added_value}
use Rattle.history.specs.Forgotten.{gone, forgotten, forget_answer, is_gone, Forgets, number as forgot_number, value as forgot_value}
use Rattle.history.specs.declared.stepping.History.{History}
use Rattle.history.specs.declared.adding.AddRefusal.{AddRefusal}
use Rattle.history.specs.declared.adding.AddRefusal.TheVariants.{BadState as BadHistory, TooLong, IllFormed}
use Rattle.history.specs.declared.forgetting.ForgetRefusal.{ForgetRefusal}
use Rattle.history.specs.declared.forgetting.ForgetRefusal.TheVariants.{BadState as NoHistory, NoEntry}
use Rattle.screen.specs.Redraw.{redraw, greatest_number, room_answer, Redraw, number as drawn_number, value as drawn_value}
use Rattle.buffer.specs.declared.show.TooShort.{TooShort}
use Rattle.history.specs.Saved.{saved_size as history_size}
use Rattle.editor.specs.Saved.{saved_size as editor_size}
use Rattle.editor.specs.declared.line.Editor.{Editor}
use Rattle.editor.specs.declared.drawing.KeyAnswer.{KeyAnswer}
use Rattle.editor.specs.declared.drawing.Pressed.{Pressed}
use Rattle.editor.specs.declared.drawing.KeyRefusal.{KeyRefusal}
use Rattle.editor.specs.declared.drawing.KeyRefusal.TheVariants.{BadState, BadPrompt, NoRoom}
use Rattle.keys.specs.Modes.{is_profile}
use Rattle.state.specs.declared.calls.BeginRefusal.TheVariants.{BadState as NoState}
use Rattle.editor.specs.Line.{limit}
use Rattle.editor.specs.Turns.{Kind, shows, enters, drops, Turn, turn_of}
use Rattle.editor.specs.Answer.{state_of, editor_of, history_of, slots_of, good_state, good_prompt, taken, turn_answer, key_answer, refused, Pressing, number as pressed_number, value as pressed_value, kind_number, kind as pressed_kind, beside as pressed_beside}
use Rattle.editor.proofs.Called.{counted}
use Rattle.state.specs.State.{state_size, saved_of, editor_in, history_in, good_saved}
use Rattle.state.specs.Calls.{begin_answer, is_ready, fresh_saved, Beginning, turn_in, press_answer, saved_after, SavedKey, saved_answer, state_by, SavedAdd, saved_forget_answer, SavedForget, number as begun_number, value as begun_value}
use Rattle.state.specs.declared.calls.BeginRefusal.{BeginRefusal}
use Rattle.promises.proofs.Tables.{Answered, told, Row, row, first, lacks, either, split, telling, pair, chosen_pair}

-- ADD_COMMAND: 12, 13, 3. A refusal keeps the record and the slots.
unfoldable pub add_table : History → List ℕ → List ℕ → Answered (History × List ℕ)
add_table h slots text =
    first
    (row 12 (not (good h slots)) 0 (h, slots)
    ∷ row 13 (ltb 255 (length text)) (length text) (h, slots)
    ∷ row 3 (not (well_formed text)) (well_formed_length text) (h, slots)
    ∷ [])
    (told 0 0 (record_of (offered text (journal_of h slots)), journal_slots (offered text (journal_of h slots))))

pub add_tells : (h : History) (slots text : List ℕ) (r : History) (a : Result ⊤ AddRefusal) (left : List ℕ) → Addition h slots text r a left
    → told (added_number a) (added_value a) (r, left) ≡ add_table h slots text
unfolding add_table first add_answer
add_tells h slots text r a left t =
    telling added_number added_value _ _ (r, left) _ t.answer (pair t.state t.bytes)
    ∙ by (good h slots) (ltb 255 (length text)) (well_formed text)
  where
    tells : Result ⊤ AddRefusal → Answered (History × List ℕ)
    tells x = told (added_number x) (added_value x) (record_by x h (offered text (journal_of h slots)), slots_by x slots (offered text (journal_of h slots)))

    by : (g l w : Bool) → tells (cond g (cond l (Err (TooLong (length text))) (cond w (Ok tt) (Err (IllFormed (well_formed_length text))))) (Err BadHistory))
        ≡ cond (not g) (told 12 0 (h, slots)) (cond l (told 13 (length text) (h, slots)) (cond (not w) (told 3 (well_formed_length text) (h, slots)) (tells (Ok tt))))
    by true true w = refl
    by true false true = refl
    by true false false = refl
    by false l w = refl

-- CLEAR_LINE_AND_REDRAW: 9. A length needed that is above the greatest number of 64 bits is given as that one.
unfoldable pub redraw_table : List ℕ → List ℕ → Answered (List ℕ)
redraw_table bytes out = first (row 9 (lacks bytes out) (min (length bytes) greatest_number) out ∷ []) (told 0 (length bytes) (over bytes out))

pub redraw_tells : (prompt content : List ℕ) (cursor : ℕ) (out : List ℕ) (r : Result ℕ TooShort) (left : List ℕ) → Redraw prompt content cursor out r left
    → told (drawn_number r) (drawn_value r) left ≡ redraw_table (redraw prompt content cursor) out
unfolding redraw_table first room_answer over_if_fits
redraw_tells prompt content cursor out r left t =
    telling drawn_number drawn_value _ _ _ _ t.answer t.bytes
    ∙ split (λ (x : Result ℕ TooShort) (l : List ℕ). told (drawn_number x) (drawn_value x) l) (lacks (redraw prompt content cursor) out) _ _ out _ _ _ refl refl

-- KEY: 12, 11, 9, a line buffer under 255 first, at every key. What a key holds and is lent:
pub record Seat : Type 0 where
  pub editor : Editor
  pub history : History
  pub slots : List ℕ
  pub line : List ℕ
  pub screen : List ℕ

-- what a key that is taken leaves: the state after its turn, the line that it submits, the bytes that it shows
abbrev pub seat_after : Turn → List ℕ → List ℕ → Seat
seat_after t line screen =
    record {
      editor = editor_of t.after;
      history = history_of t.after;
      slots = slots_of t.after;
      line = over t.submitted line;
      screen = over t.screen screen;
    }

-- Beside number and value a key tells its kind (it shows bytes 0, enters 1, drops its byte 2; of a refusal 0), and the length of the line that it submits.
pub record Keyed (L : Type 0) : Type 0 where
  pub kind : ℕ
  pub submitted : ℕ
  pub held : L

abbrev pub keyed : {L : Type 0} → ℕ → ℕ → L → Keyed L
keyed kind submitted held = record { kind = kind; submitted = submitted; held = held }

abbrev pub key_refusals : {L : Type 0} → Bool → List ℕ → Turn → List ℕ → List ℕ → L → List (Row (Keyed L))
key_refusals is prompt t line screen kept =
    row 12 (not is) 0 (keyed 0 0 kept)
    ∷ row 11 (not (good_prompt prompt)) (length prompt) (keyed 0 0 kept)
    ∷ row 9 (ltb (length line) limit) limit (keyed 0 0 kept)
    ∷ row 9 (lacks t.screen screen) (length t.screen) (keyed 0 0 kept)
    ∷ []

-- the value of a key that is taken is the number of bytes that it shows
abbrev pub key_rows : {L : Type 0} → Bool → List ℕ → Turn → List ℕ → List ℕ → L → L → Answered (Keyed L)
key_rows is prompt t line screen kept after =
    first (key_refusals is prompt t line screen kept) (told 0 (length t.screen) (keyed (kind_number t.kind) (length t.submitted) after))

unfoldable pub key_table : Seat → List ℕ → ℕ → Answered (Keyed Seat)
key_table s prompt byte =
    let t : Turn = turn_of prompt (state_of s.editor s.history s.slots) byte in
    key_rows (good_state s.editor s.history s.slots) prompt t s.line s.screen s (seat_after t s.line s.screen)

-- a key's answer tells what its rows tell: a refusal keeps all
abbrev key_tells : {L : Type 0} → L → L → Result Pressed KeyRefusal → Answered (Keyed L)
key_tells kept after x = told (pressed_number x) (pressed_value x) (keyed (pressed_kind x) (pressed_beside x) (cond (refused x) kept after))

key_rows_lem : {L : Type 0} (is : Bool) (prompt : List ℕ) (t : Turn) (line screen : List ℕ) (kept after : L)
    → (pressed_value (taken t t.kind) ≡ length t.screen) × (pressed_beside (taken t t.kind) ≡ length t.submitted)
    → key_tells kept after (key_answer is prompt t (length line) (length screen)) ≡ key_rows is prompt t line screen kept after
unfolding first key_answer turn_answer
key_rows_lem is prompt t line screen kept after counts =
    by is (good_prompt prompt) (ltb (length line) limit) (lacks t.screen screen) t.kind
    ∙ ap (λ (n : ℕ). first (key_refusals is prompt t line screen kept) (told 0 n (keyed (kind_number t.kind) (pressed_beside (taken t t.kind)) after))) counts.0
    ∙ ap (λ (n : ℕ). first (key_refusals is prompt t line screen kept) (told 0 (length t.screen) (keyed (kind_number t.kind) n after))) counts.1
  where
    by : (g p l s : Bool) (k : Kind)
        → key_tells kept after (cond g (cond p (cond l (Err (NoRoom limit)) (cond s (Err (NoRoom (length t.screen))) (taken t k))) (Err (BadPrompt (length prompt)))) (Err BadState))
        ≡ cond (not g) (told 12 0 (keyed 0 0 kept)) (cond (not p) (told 11 (length prompt) (keyed 0 0 kept)) (cond l (told 9 limit (keyed 0 0 kept))
        (cond s (told 9 (length t.screen) (keyed 0 0 kept)) (told 0 (pressed_value (taken t k)) (keyed (kind_number k) (pressed_beside (taken t k)) after)))))
    by true true true s k = refl
    by true true false true k = refl
    by true true false false shows = refl
    by true true false false enters = refl
    by true true false false drops = refl
    by true false l s k = refl
    by false p l s k = refl

pub key_tells_lem : (s : Seat) (prompt : List ℕ) (byte : ℕ) (k : KeyAnswer) (slots line screen : List ℕ)
    → Pressing s.editor s.history s.slots prompt byte s.line s.screen k slots line screen
    → told (pressed_number k.answer) (pressed_value k.answer)
    (keyed (pressed_kind k.answer) (pressed_beside k.answer) (record { editor = k.editor; history = k.history; slots = slots; line = line; screen = screen }))
    ≡ key_table s prompt byte
unfolding key_table
key_tells_lem s prompt byte k slots line screen p =
    let t : Turn = turn_of prompt (state_of s.editor s.history s.slots) byte in
    ap (λ (x : Seat). told (pressed_number k.answer) (pressed_value k.answer) (keyed (pressed_kind k.answer) (pressed_beside k.answer) x))
    (chosen (refused k.answer) s (seat_after t s.line s.screen) p.editor p.history p.held p.given p.shown)
    ∙ ap (key_tells s (seat_after t s.line s.screen)) p.answer
    ∙ key_rows_lem (good_state s.editor s.history s.slots) prompt t s.line s.screen s (seat_after t s.line s.screen)
    (counted prompt (state_of s.editor s.history s.slots) byte)
  where
    parts : {e e' : Editor} {h h' : History} {x y z x' y' z' : List ℕ} → e ≡ e' → h ≡ h' → x ≡ x' → y ≡ y' → z ≡ z'
        → ◌≡◌ {A = Seat} (record { editor = e; history = h; slots = x; line = y; screen = z }) (record { editor = e'; history = h'; slots = x'; line = y'; screen = z' })
    parts p q u v w = cc

    chosen : (r : Bool) (a b : Seat) {e : Editor} {h : History} {x y z : List ℕ}
        → e ≡ cond r a.editor b.editor → h ≡ cond r a.history b.history → x ≡ cond r a.slots b.slots → y ≡ cond r a.line b.line → z ≡ cond r a.screen b.screen
        → ◌≡◌ {A = Seat} (record { editor = e; history = h; slots = x; line = y; screen = z }) (cond r a b)
    chosen true a b p q u v w = parts p q u v w
    chosen false a b p q u v w = parts p q u v w

-- PRESS, the same on a saved state, with all that it is lent: state, slots, line buffer, screen
abbrev pub Lent : Type 0
Lent = List ℕ × List ℕ × List ℕ × List ℕ

abbrev pub lent_after : Turn → List ℕ → List ℕ → Lent
lent_after t line screen = (saved_after t.after, slots_of t.after, over t.submitted line, over t.screen screen)

unfoldable pub press_table : List ℕ → List ℕ → List ℕ → ℕ → List ℕ → List ℕ → Answered (Keyed Lent)
press_table state slots prompt byte line screen =
    let t : Turn = turn_in state slots prompt byte in key_rows (good_saved state slots) prompt t line screen (state, slots, line, screen) (lent_after t line screen)

pub press_tells : (state slots prompt : List ℕ) (byte : ℕ) (line screen : List ℕ) (r : Result Pressed KeyRefusal) (state' slots' line' screen' : List ℕ)
    → SavedKey state slots prompt byte line screen r state' slots' line' screen'
    → told (pressed_number r) (pressed_value r) (keyed (pressed_kind r) (pressed_beside r) (state', slots', line', screen')) ≡ press_table state slots prompt byte line screen
unfolding press_table press_answer turn_in
press_tells state slots prompt byte line screen r state' slots' line' screen' p =
    let t : Turn = turn_in state slots prompt byte in
    let kept : Lent = (state, slots, line, screen) in
    ap (λ (x : Lent). told (pressed_number r) (pressed_value r) (keyed (pressed_kind r) (pressed_beside r) x)) (chosen (refused r) kept (lent_after t line screen) p.kept p.held p.given p.shown)
    ∙ ap (key_tells kept (lent_after t line screen)) p.answer
    ∙ key_rows_lem (good_saved state slots) prompt t line screen kept (lent_after t line screen) (counted prompt (state_of (editor_in state) (history_in state) slots) byte)
  where
    parts : {a b c d a' b' c' d' : List ℕ} → a ≡ a' → b ≡ b' → c ≡ c' → d ≡ d' → ◌≡◌ {A = Lent} (a, b, c, d) (a', b', c', d')
    parts p q u v = cc

    chosen : (u : Bool) (x y : Lent) {a b c d : List ℕ} → a ≡ cond u x.0 y.0 → b ≡ cond u x.1 y.1 → c ≡ cond u x.2 y.2 → d ≡ cond u x.3 y.3
        → ◌≡◌ {A = Lent} (a, b, c, d) (cond u x y)
    chosen true x y p q v w = parts p q v w
    chosen false x y p q v w = parts p q v w

-- ADD on a saved state: 12 also for a bad line, 13, 3
unfoldable pub saved_add_table : List ℕ → List ℕ → List ℕ → Answered (List ℕ × List ℕ)
saved_add_table state slots text =
    let j : Journal = offered text (journal_of (history_in state) slots) in
    first
    (row 12 (not (good_saved state slots)) 0 (state, slots)
    ∷ row 13 (ltb 255 (length text)) (length text) (state, slots)
    ∷ row 3 (not (well_formed text)) (well_formed_length text) (state, slots)
    ∷ [])
    (told 0 0 (saved_of (editor_in state) (record_of j), journal_slots j))

pub saved_add_tells : (state slots text : List ℕ) (r : Result ⊤ AddRefusal) (state' slots' : List ℕ) → SavedAdd state slots text r state' slots'
    → told (added_number r) (added_value r) (state', slots') ≡ saved_add_table state slots text
unfolding saved_add_table first saved_answer add_answer
saved_add_tells state slots text r state' slots' p =
    ap (told (added_number r) (added_value r)) (pair p.kept p.held)
    ∙ ap tells p.answer
    ∙ by (good_saved state slots) (ltb 255 (length text)) (well_formed text)
  where
    tells : Result ⊤ AddRefusal → Answered (List ℕ × List ℕ)
    tells x =
        told (added_number x) (added_value x)
        (state_by x state (offered text (journal_of (history_in state) slots)), slots_by x slots (offered text (journal_of (history_in state) slots)))

    by : (g l w : Bool) → tells (cond g (cond l (Err (TooLong (length text))) (cond w (Ok tt) (Err (IllFormed (well_formed_length text))))) (Err BadHistory))
        ≡ cond (not g) (told 12 0 (state, slots)) (cond l (told 13 (length text) (state, slots)) (cond (not w) (told 3 (well_formed_length text) (state, slots)) (tells (Ok tt))))
    by true true w = refl
    by true false true = refl
    by true false false = refl
    by false l w = refl

-- FORGET: 12, 18. The value is how many entries went; a refusal keeps the record and the slots.
unfoldable pub forget_rows : {L : Type 0} → Bool → ℕ → List (List ℕ) → L → L → Answered L
forget_rows is k es kept left = first (row 12 (not is) 0 kept ∷ row 18 (not (ltb k (length es))) k kept ∷ []) (told 0 (gone k es) left)

forget_rows_lem : {L M : Type 0} (is : Bool) (k : ℕ) (es : List (List ℕ)) (kept left : L × M) (x : Result ℕ ForgetRefusal) {l : L} {m : M} → x ≡ forget_answer is k es
    → l ≡ cond (is_gone x) left.0 kept.0 → m ≡ cond (is_gone x) left.1 kept.1 → told (forgot_number x) (forgot_value x) (l, m) ≡ forget_rows is k es kept left
unfolding forget_rows first forget_answer
forget_rows_lem is k es kept left x e p q =
    ap (told (forgot_number x) (forgot_value x)) (chosen_pair (is_gone x) left kept p q)
    ∙ ap (λ (y : Result ℕ ForgetRefusal). told (forgot_number y) (forgot_value y) (cond (is_gone y) left kept)) e
    ∙ by is (ltb k (length es))
  where
    by : (g l : Bool) → let x : Result ℕ ForgetRefusal = cond g (cond l (Ok (gone k es)) (Err (NoEntry k))) (Err NoHistory) in
        told (forgot_number x) (forgot_value x) (cond (is_gone x) left kept) ≡ cond (not g) (told 12 0 kept) (cond (not l) (told 18 k kept) (told 0 (gone k es) left))
    by true true = refl
    by true false = refl
    by false l = refl

unfoldable pub forget_table : History → List ℕ → ℕ → Answered (History × List ℕ)
forget_table h slots k =
    let j : Journal = journal_of h slots in forget_rows (good h slots) k j.entries (h, slots) (record_of (forgotten k j), journal_slots (forgotten k j))

pub forget_tells : (h : History) (slots : List ℕ) (k : ℕ) (r : History) (a : Result ℕ ForgetRefusal) (left : List ℕ) → Forgets h slots k r a left
    → told (forgot_number a) (forgot_value a) (r, left) ≡ forget_table h slots k
unfolding forget_table
forget_tells h slots k r a left t =
    let j : Journal = journal_of h slots in
    forget_rows_lem (good h slots) k j.entries (h, slots) (record_of (forgotten k j), journal_slots (forgotten k j)) a t.answer t.state t.bytes

-- on a saved state: 12 also for a bad line
unfoldable pub saved_forget_table : List ℕ → List ℕ → ℕ → Answered (List ℕ × List ℕ)
saved_forget_table state slots k =
    let j : Journal = journal_of (history_in state) slots in
    forget_rows (good_saved state slots) k j.entries (state, slots) (saved_of (editor_in state) (record_of (forgotten k j)), journal_slots (forgotten k j))

pub saved_forget_tells : (state slots : List ℕ) (k : ℕ) (r : Result ℕ ForgetRefusal) (state' slots' : List ℕ) → SavedForget state slots k r state' slots'
    → told (forgot_number r) (forgot_value r) (state', slots') ≡ saved_forget_table state slots k
unfolding saved_forget_table saved_forget_answer
saved_forget_tells state slots k r state' slots' p =
    let j : Journal = journal_of (history_in state) slots in
    forget_rows_lem (good_saved state slots) k j.entries (state, slots) (saved_of (editor_in state) (record_of (forgotten k j)), journal_slots (forgotten k j)) r p.answer p.kept p.held

-- A BAD SAVED STATE, whatever it is that is bad, is refused with 12 by all three, and every byte stays
pub press_bad : (state slots prompt : List ℕ) (byte : ℕ) (line screen : List ℕ) (r : Result Pressed KeyRefusal) (state' slots' line' screen' : List ℕ)
    → SavedKey state slots prompt byte line screen r state' slots' line' screen' → good_saved state slots ≡ false
    → told (pressed_number r) (pressed_value r) (keyed {L = Lent} (pressed_kind r) (pressed_beside r) (state', slots', line', screen')) ≡ told 12 0 (keyed {L = Lent} 0 0 (state, slots, line, screen))
unfolding press_table first
press_bad state slots prompt byte line screen r state' slots' line' screen' p n = press_tells state slots prompt byte line screen r state' slots' line' screen' p ∙ rw n

pub saved_add_bad : (state slots text : List ℕ) (r : Result ⊤ AddRefusal) (state' slots' : List ℕ) → SavedAdd state slots text r state' slots' → good_saved state slots ≡ false
    → told {L = List ℕ × List ℕ} (added_number r) (added_value r) (state', slots') ≡ told 12 0 (state, slots)
unfolding saved_add_table first
saved_add_bad state slots text r state' slots' p n = saved_add_tells state slots text r state' slots' p ∙ rw n

pub saved_forget_bad : (state slots : List ℕ) (k : ℕ) (r : Result ℕ ForgetRefusal) (state' slots' : List ℕ) → SavedForget state slots k r state' slots' → good_saved state slots ≡ false
    → told {L = List ℕ × List ℕ} (forgot_number r) (forgot_value r) (state', slots') ≡ told 12 0 (state, slots)
unfolding saved_forget_table forget_rows first
saved_forget_bad state slots k r state' slots' p n = saved_forget_tells state slots k r state' slots' p ∙ rw n

-- BEGIN: 12 for a number that is no profile's; then buffer by buffer, the state's first, 9 for one that is too short and 12 for one that is too long, since another length is no state's
unfoldable pub begin_table : ℕ → List ℕ → List ℕ → Answered (List ℕ × List ℕ)
begin_table profile state slots =
    first
    (row 12 (not (is_profile profile)) 0 (state, slots)
    ∷ row 9 (ltb (length state) 266) 266 (state, slots)
    ∷ row 12 (ltb 266 (length state)) 0 (state, slots)
    ∷ row 9 (ltb (length slots) 25600) 25600 (state, slots)
    ∷ row 12 (ltb 25600 (length slots)) 0 (state, slots)
    ∷ [])
    (told 0 0 (fresh_saved profile, journal_slots no_entries))

pub begin_tells : (profile : ℕ) (state slots : List ℕ) (r : Result ⊤ BeginRefusal) (state' slots' : List ℕ) → Beginning profile state slots r state' slots'
    → told (begun_number r) (begun_value r) (state', slots') ≡ begin_table profile state slots
unfolding begin_table first begin_answer state_size editor_size history_size
begin_tells profile state slots r state' slots' p =
    ap (told (begun_number r) (begun_value r)) (pair p.kept p.held)
    ∙ ap tells p.answer
    ∙ known (is_profile profile) _ _
    (either tells (ltb (length state) 266) _ _ _ _ refl
    (either tells (ltb 266 (length state)) _ _ _ _ refl (either tells (ltb (length slots) 25600) _ _ _ _ refl (either tells (ltb 25600 (length slots)) _ _ _ _ refl refl))))
  where
    tells : Result ⊤ BeginRefusal → Answered (List ℕ × List ℕ)
    tells x = told (begun_number x) (begun_value x) (cond (is_ready x) (fresh_saved profile) state, cond (is_ready x) (journal_slots no_entries) slots)

    known : (t : Bool) (x : Result ⊤ BeginRefusal) (y : Answered (List ℕ × List ℕ)) → tells x ≡ y → tells (cond t x (Err NoState)) ≡ cond (not t) (told 12 0 (state, slots)) y
    known true x y q = q
    known false x y q = refl
