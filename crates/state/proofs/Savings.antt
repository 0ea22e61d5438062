-- Laws of saved states: what was saved is restored, nothing in the bytes is lost, and how the code writes them.
use Rattle.std.specs.Prelude.{Some, None, Option}
use Prim.Native.Nat.{ℕ, ◌+◌, ◌*◌, ◌≤◌}
use mathlib.Core.Path.{◌≡◌, refl, sym, ap, ◌∙◌}
use mathlib.Core.Bool.{Bool, true, false, cond}
use mathlib.Core.List.{List, [], ◌∷◌, ◌++◌, append-nil}
use native.Mathlib.Omega.{arith}
use lib.ListN.{length, take, drop, get_or, length-append, length-drop, take-append-drop}
use lib.Seq.{take_at, drop_at, drop-drop, get_or-drop}
use Rattle.buffer.proofs.Choices.{then_is, else_is}
use Rattle.buffer.proofs.Lists.{drop_end}
use Rattle.buffer.proofs.Lending.{over_at_front, length_over_at}
use Rattle.buffer.proofs.Writing.{pushed_both}
use Rattle.buffer.specs.Write.{over, Pushed}
use Rattle.buffer.specs.Lend.{zeros}
use Rattle.buffer.specs.Numbers.{Bytes, number_bytes, number_of}
use Rattle.buffer.proofs.Numbers.{value_two, bytes_drop}
use Rattle.history.specs.declared.stepping.History.{History}
use Rattle.history.specs.Entries.{total}
use Rattle.history.specs.Journal.{no_entries, record_of, good}
use Rattle.history.specs.Saved.{saved_size as history_size, saved_of as history_saved, saved_in as history_saved_in, is_saved as is_history, restored as restored_history, Fits as HistoryFits}
use Rattle.history.proofs.States.{holds}
use Rattle.history.proofs.Journals.{good_fits as history_fits}
use Rattle.history.proofs.Saved.{HasForm, form_size as history_size_lem, bytes_form, saved_in_lem as history_back, length_saved as length_history, saved_is as history_is, saved_has as history_has, right_form as right_form_history, good_back, bad_back, restored_saved as history_restored}
use Rattle.keys.specs.declared.standing.Profile.{Profile}
use Rattle.keys.specs.Modes.{profile_number}
use Rattle.keys.proofs.Modes.{profile_back}
use Rattle.editor.specs.declared.line.Editor.{Editor}
use Rattle.editor.specs.Line.{limit, padded, fresh_editor, good_editor}
use Rattle.editor.specs.Turns.{State, turn_of}
use Rattle.editor.specs.Answer.{state_of, good_state}
use Rattle.editor.specs.Saved.{saved_size as editor_size, saved_of as editor_saved, saved_in as editor_saved_in, has_form, is_saved as is_editor, restored as restored_editor, Fits as EditorFits}
use Rattle.editor.proofs.Lines.{good_line_lem, length_of_lem}
use Rattle.editor.proofs.States.{good_parts, state_parts}
use Rattle.editor.proofs.Saved.{length_saved, saved_is as editor_is, saved_has as editor_has, right_form, form_size, saved_in_lem, saved_back, good_fits as editor_fits, Back as EditorBack, good_back as editor_read_back, bad_back as no_editor_back, restored_saved as editor_restored}
use Rattle.state.specs.State.{state_size, saved_of, editor_in, history_in, good_saved, Read}
use Rattle.state.specs.Calls.{fresh_saved, turn_in}

-- the sizes
pub size_is : state_size ≡ 266
unfolding state_size editor_size history_size
size_is = refl

editor_part : (e : Editor) → length e.line ≡ 255 → length (editor_saved e) ≡ editor_size
unfolding editor_size
editor_part e l = length_saved e l

-- restoring what was saved gives it back
pub front_saved : (e : Editor) (h : History) → length e.line ≡ 255 → take editor_size (saved_of e h) ≡ editor_saved e
unfolding saved_of
front_saved e h l = take_at (editor_saved e) (history_saved h) editor_size (editor_part e l)

rest_saved : (e : Editor) (h : History) → length e.line ≡ 255 → drop editor_size (saved_of e h) ≡ history_saved h
unfolding saved_of
rest_saved e h l = drop_at (editor_saved e) (history_saved h) editor_size (editor_part e l)

pub editor_saved_lem : (e : Editor) (h : History) → length e.line ≡ 255 → editor_in (saved_of e h) ≡ e
unfolding editor_in
editor_saved_lem e h l = ap editor_saved_in (front_saved e h l) ∙ saved_in_lem e l

pub history_saved_lem : (e : Editor) (h : History) → length e.line ≡ 255 → history_in (saved_of e h) ≡ h
unfolding history_in
history_saved_lem e h l = ap history_saved_in (rest_saved e h l) ∙ history_back h

-- a saved state is as good as its editor and its history, and a key takes the same turn in it
pub good_saved_lem : (e : Editor) (h : History) (slots : List ℕ) → length e.line ≡ 255 → good_saved (saved_of e h) slots ≡ good_state e h slots
unfolding good_saved good_state
good_saved_lem e h slots l =
    ap (λ (x : List ℕ). cond (is_editor x) (is_history (drop editor_size (saved_of e h)) slots) false) (front_saved e h l)
    ∙ ap (λ (x : List ℕ). cond (is_editor (editor_saved e)) (is_history x slots) false) (rest_saved e h l)
    ∙ ap (λ (t : Bool). cond t (is_history (history_saved h) slots) false) (editor_is e l)
    ∙ ap (λ (t : Bool). cond (good_editor e) t false) (history_is h slots)

pub held_saved : (e : Editor) (h : History) (slots : List ℕ) → length e.line ≡ 255 → state_of (editor_in (saved_of e h)) (history_in (saved_of e h)) slots ≡ state_of e h slots
held_saved e h slots l =
    ap (λ (x : Editor). state_of x (history_in (saved_of e h)) slots) (editor_saved_lem e h l) ∙ ap (λ (x : History). state_of e x slots) (history_saved_lem e h l)

pub turn_saved : (e : Editor) (h : History) (slots prompt : List ℕ) (byte : ℕ) → length e.line ≡ 255
    → turn_in (saved_of e h) slots prompt byte ≡ turn_of prompt (state_of e h slots) byte
unfolding turn_in
turn_saved e h slots prompt byte l = ap (λ (s : State). turn_of prompt s byte) (held_saved e h slots l)

-- the two tests of a good state
tests_held : (s slots : List ℕ) → good_saved s slots ≡ true → (is_editor (take editor_size s) ≡ true) × (is_history (drop editor_size s) slots ≡ true)
unfolding good_saved
tests_held s slots g = holds (is_editor (take editor_size s)) _ g

-- bytes with the form of an editor and then of a history; they are as good as the editor and the history that they hold
pub record IsState (state : List ℕ) : Type 0 where
  pub form : has_form (take editor_size state) ≡ true
  pub rest : HasForm (drop editor_size state)

pub good_as : (s slots : List ℕ) → IsState s → good_saved s slots ≡ good_state (editor_in s) (history_in s) slots
unfolding good_saved good_state editor_in history_in
good_as s slots k =
    ap (λ (t : Bool). cond t (is_history (drop editor_size s) slots) false) (right_form (take editor_size s) k.form)
    ∙ ap (λ (t : Bool). cond (good_editor (editor_saved_in (take editor_size s))) t false) (right_form_history (drop editor_size s) slots k.rest)

-- they have a state's length
state_size_lem : (s : List ℕ) → IsState s → length s ≡ state_size
unfolding state_size
state_size_lem s k =
    let a = form_size (take editor_size s) k.form in
    let b = history_size_lem (drop editor_size s) k.rest in
    let w = ap length (take-append-drop editor_size s) in
    let l = length-append (take editor_size s) (drop editor_size s) in
    omega arith

-- a good one is such, and so are that many bytes with an editor's form
pub good_saved_parts : (s slots : List ℕ) → good_saved s slots ≡ true → IsState s × (good_state (editor_in s) (history_in s) slots ≡ true)
good_saved_parts s slots g = (shape, sym (good_as s slots shape) ∙ g)
  where
    parts : (is_editor (take editor_size s) ≡ true) × (is_history (drop editor_size s) slots ≡ true)
    parts = tests_held s slots g

    shape : IsState s
    shape =
        record { form = (editor_has (take editor_size s) parts.0).form; rest = (history_has (drop editor_size s) slots parts.1).form }

-- its history is good, and its line has all its bytes
pub good_history : (s slots : List ℕ) → good_saved s slots ≡ true → good (history_in s) slots ≡ true
good_history s slots g = (good_parts (editor_in s) (history_in s) slots (good_saved_parts s slots g).1).1

pub good_whole : (s slots : List ℕ) → good_saved s slots ≡ true → length (editor_in s).line ≡ 255
good_whole s slots g = (length_of_lem (editor_in s) (good_line_lem (editor_in s) (good_parts (editor_in s) (history_in s) slots (good_saved_parts s slots g).1).0)).0

pub bytes_state : (s : List ℕ) → length s ≡ state_size → Bytes s → has_form (take editor_size s) ≡ true → IsState s
unfolding state_size
bytes_state s n b f =
    let d = length-drop editor_size s in
    record { form = f; rest = bytes_form (drop editor_size s) (omega arith) (bytes_drop editor_size s b) }

-- what restores is the saving of what was restored
pub saved_restored : (s : List ℕ) → IsState s → saved_of (editor_in s) (history_in s) ≡ s
unfolding saved_of editor_in history_in
saved_restored s k =
    ap (λ (x : List ℕ). x ++ history_saved (history_saved_in (drop editor_size s))) (saved_back (take editor_size s) k.form)
    ∙ ap (λ (x : List ℕ). take editor_size s ++ x) k.rest
    ∙ take-append-drop editor_size s

-- the total lies in two bytes, the first slot in the last
pub saved_total : (s : List ℕ) → IsState s → get_or s 263 0 * 256 + get_or s 264 0 ≡ (history_in s).total
unfolding history_in history_saved_in editor_size
saved_total s k =
    let n = state_size_lem s k ∙ size_is in
    sym (value_two s 263 (omega arith)) ∙ ap (λ (x : List ℕ). number_of (take 2 x)) (sym (drop-drop 2 261 s))

pub saved_first : (s : List ℕ) → get_or s 265 0 ≡ (history_in s).first
unfolding history_in history_saved_in editor_size
saved_first s = sym (get_or-drop 261 s 4 0)

-- a fresh session is all zeros but for its profile's number
fresh_zeros : (p : Profile) → saved_of (fresh_editor p) (record_of no_entries) ≡ zeros 258 ++ (profile_number p ∷ zeros 7)
unfolding saved_of editor_saved history_saved number_bytes record_of total padded limit zeros
fresh_zeros p = refl

pub fresh_saved_lem : (p : Profile) → fresh_saved (profile_number p) ≡ zeros 258 ++ (profile_number p ∷ zeros 7)
unfolding fresh_saved
fresh_saved_lem p = ap (λ (x : Profile). saved_of (fresh_editor x) (record_of no_entries)) (profile_back p) ∙ fresh_zeros p

-- the numbers of a good state are bytes
abbrev pub Fits : Editor → History → Type 0
Fits e h = EditorFits e × HistoryFits h

pub good_fits : (e : Editor) (h : History) (slots : List ℕ) → good_state e h slots ≡ true → Fits e h
good_fits e h slots g = let p = state_parts e h slots g in (editor_fits e p.0, history_fits h slots p.1)

-- how the code writes them: the editor, then the history after it
pub editor_room : (state : List ℕ) → length state ≡ state_size → 0 + editor_size ≤ length state
unfolding state_size
editor_room state n = omega arith

pub history_room : (e : Editor) (state mid : List ℕ) (p : ℕ) → length state ≡ state_size → length e.line ≡ 255 → Pushed (editor_saved e) state 0 p mid
    → p + history_size ≤ length mid
unfolding state_size
history_room e state mid p n l w =
    let size = editor_part e l in
    let a = w.place in
    let b : length mid ≡ length state = ap length w.bytes ∙ length_over_at (editor_saved e) state 0 (omega arith) in
    omega arith

pub save_written : (e : Editor) (h : History) (state mid left : List ℕ) (p r : ℕ) → length state ≡ state_size → length e.line ≡ 255
    → Pushed (editor_saved e) state 0 p mid → Pushed (history_saved h) mid p r left → left ≡ saved_of e h
unfolding saved_of over state_size
save_written e h state mid left p r n l a b =
    let size = editor_part e l in
    let more = length_history h in
    let all : List ℕ = editor_saved e ++ history_saved h in
    let whole = length-append (editor_saved e) (history_saved h) in
    let none : drop (length all) state ≡ [] = drop_end state (length all) (omega arith) in
    (pushed_both (editor_saved e) (history_saved h) state mid left 0 p r (omega arith) a b).bytes
    ∙ over_at_front all state
    ∙ ap (λ (x : List ℕ). all ++ x) none
    ∙ append-nil all

-- the sizes and parts, as the code has them
pub as_size : (n : ℕ) → n ≡ 266 → n ≡ state_size
as_size n h = h ∙ sym size_is

pub part_editor : (s part : List ℕ) → part ≡ take 261 (drop 0 s) → part ≡ take editor_size s
unfolding editor_size
part_editor s part e = e

pub rest_history : (s rest : List ℕ) → rest ≡ drop 261 s → rest ≡ drop editor_size s
unfolding editor_size
rest_history s rest e = e

-- what is read of the editor, and of the history after it
module _ (s slots : List ℕ) (found : Option Editor) (q : found ≡ restored_editor (take editor_size s)) where
  pub no_editor : found ≡ None → good_saved s slots ≡ false
  unfolding good_saved
  no_editor v = else_is _ _ _ (no_editor_back (take editor_size s) (sym q ∙ v))

  module _ (e : Editor) (v : found ≡ Some e) where
    read : EditorBack e (take editor_size s)
    read = editor_read_back (take editor_size s) e (sym q ∙ v)

    as_history : good_saved s slots ≡ is_history (drop editor_size s) slots
    unfolding good_saved
    as_history = then_is _ _ _ read.is

    pub no_history : (told : Option History) → told ≡ restored_history (drop editor_size s) slots → told ≡ None → good_saved s slots ≡ false
    no_history told p b = as_history ∙ bad_back (drop editor_size s) slots (sym p ∙ b)

    pub both_read : (told : Option History) (h : History) → told ≡ restored_history (drop editor_size s) slots → told ≡ Some h → Read e h s slots
    unfolding editor_in history_in
    both_read told h p g =
        let k = good_back (drop editor_size s) slots h (sym p ∙ g) in record { is = as_history ∙ k.is; editor = read.held; history = k.held }

-- such an editor and such a history are good, and the bytes have a state's length
pub read_good : (e : Editor) (h : History) (s slots : List ℕ) → Read e h s slots → good_state e h slots ≡ true
read_good e h s slots b = same b.editor b.history ∙ (good_saved_parts s slots b.is).1
  where
    same : {e f : Editor} {h k : History} → e ≡ f → h ≡ k → good_state e h slots ≡ good_state f k slots
    same p q = cc

pub read_size : (e : Editor) (h : History) (s slots : List ℕ) → Read e h s slots → length s ≡ state_size
read_size e h s slots b = state_size_lem s (good_saved_parts s slots b.is).0

-- what was saved of a good state is restored
pub restored_saved : (e : Editor) (h : History) (slots : List ℕ) → length e.line ≡ 255 → good_state e h slots ≡ true
    → (restored_editor (take editor_size (saved_of e h)) ≡ Some e) × (restored_history (drop editor_size (saved_of e h)) slots ≡ Some h)
restored_saved e h slots l g =
    let p = state_parts e h slots g in (
      ap restored_editor (front_saved e h l) ∙ editor_restored e l p.0,
      ap (λ (x : List ℕ). restored_history x slots) (rest_saved e h l) ∙ history_restored h slots p.1,
    )
