-- Laws of the keys, one by one: what the code makes of each is what its turn comes to.
use Rattle.std.specs.Prelude.{Some, None, Option, Ok}
use Prim.Native.Nat.{ℕ, ◌+◌, ◌-◌, ◌<◌, ◌≤◌}
use mathlib.Core.Path.{◌≡◌, refl, sym, ap, ◌∙◌}
use mathlib.Core.Bool.{Bool, true, false, cond}
use mathlib.Core.List.{List, []}
use native.Mathlib.Omega.{arith}
use lib.Dec.{eqb, ltb}
use lib.ListN.{length}
use borrow.Author.Tests.{eq-eqb, ne_eqb, lt-ltb, le-ltb, eqb-true, eqb-false, ltb-true, ltb-false}
use Rattle.buffer.proofs.Choices.{then_is, else_is}
use Rattle.history.specs.Journal.{Journal, count, entry_of, at_place, record_of, journal_of, good}
use Rattle.history.specs.Steps.{placed_at, back, onward, recalled_at}
use Rattle.history.specs.declared.stepping.History.{History}
use Rattle.history.specs.declared.stepping.Step.{Step}
use Rattle.history.proofs.Journals.{good_fair, fair_short, count_held, place_held, record_held, record_placed}
use Rattle.screen.specs.Redraw.{redraw}
use Rattle.keys.specs.declared.standing.Profile.{Profile}
use Rattle.keys.specs.declared.standing.Mode.{Mode}
use Rattle.keys.specs.declared.standing.Action.TheVariants.{End}
use Rattle.editor.specs.declared.line.Editor.{Editor}
use Rattle.editor.specs.declared.drawing.KeyAnswer.{KeyAnswer}
use Rattle.editor.specs.declared.drawing.Pressed.TheVariants.{Shown, Dropped}
use Rattle.editor.specs.Line.{limit, holding, line_of, good_line, inserted, erased, content}
use Rattle.editor.specs.Turns.{State, showing, redrawing, with_line, cleared, erase, insert, recalled, up, on_place, down, go_to, delete, right, left, arrow, turn_by}
use Rattle.editor.specs.Answer.{state_of, editor_of, good_state}
use Rattle.editor.specs.Inner.{key_of, Shows, recalled_text, recalling, Recalls, ActsTo, Acts}
use Rattle.editor.proofs.Lines.{editor, good_line_lem, length_of_lem, same_editor}
use Rattle.editor.proofs.States.{good_parts, held_good, holds_history, holds_editor, acts_quiet, acts_dropped, acts_shown, acts_redrawn, acts_as, turn_as, acts_to}

-- a good editor with the cursor elsewhere
pub held_as : (e : Editor) (cursor : ℕ) (mode : Mode) (profile : Profile) → good_line e ≡ true → editor e.line e.length cursor mode profile ≡ holding (line_of e) cursor mode profile
unfolding holding
held_as e cursor mode profile g =
    let k = good_line_lem e g in
    same_editor _ _ _ _ cursor mode profile (sym k.laid) (sym (length_of_lem e k).1)

-- the byte at the cursor is the one before the next place
pub moved_good : (e goes : Editor) (cursor : ℕ) → good_line e ≡ true → cursor ≤ e.length → goes ≡ editor e.line e.length cursor e.mode e.profile
    → good_line goes ≡ true
moved_good e goes cursor g h q =
    let k = good_line_lem e g in
    let n = (length_of_lem e k).1 in
    let s = k.short in
    ap good_line (q ∙ held_as e cursor e.mode e.profile g) ∙ held_good (line_of e) cursor e.mode e.profile (omega arith) (omega arith)

pub next_erased : (e moved goes : Editor) → moved ≡ editor e.line e.length (e.cursor + 1) e.mode e.profile
    → goes ≡ holding (erased (line_of moved) moved.cursor) (moved.cursor - 1) moved.mode moved.profile
    → goes ≡ holding (erased (line_of e) (e.cursor + 1)) e.cursor e.mode e.profile
unfolding line_of
next_erased e moved goes q p =
    let n : e.cursor + 1 - 1 ≡ e.cursor = omega arith in
    p ∙ ap (λ (x : Editor). holding (erased (line_of x) x.cursor) (x.cursor - 1) x.mode x.profile) q
    ∙ ap (λ (i : ℕ). holding (erased (line_of e) (e.cursor + 1)) i e.mode e.profile) n

module _ (e : Editor) (h : History) (slots screen : List ℕ) (g : good_line e ≡ true) where
  s : State
  s = state_of e h slots

  held_line : (line : List ℕ) (cursor : ℕ) → holding line cursor e.mode e.profile ≡ editor_of (with_line s line cursor)
  unfolding editor_of s state_of
  held_line line cursor = refl

  -- nothing is done
  pub quiet : ActsTo e h (showing (state_of e h slots) []) h screen (key_of e h (Ok (Shown 0))) screen
  quiet = acts_quiet e h screen (state_of e h slots) e h (sym (holds_editor e h slots g))

  -- erasing
  pub erase_quiet : (prompt : List ℕ) → e.cursor ≡ 0 → ActsTo e h (erase prompt (state_of e h slots)) h screen (key_of e h (Ok (Shown 0))) screen
  unfolding erase s state_of
  erase_quiet prompt z = acts_as e h screen (showing s []) (erase prompt s) _ _ (sym (then_is _ _ _ (eq-eqb e.cursor 0 z))) quiet

  module _ (k : KeyAnswer) (goes : Editor) (shown : List ℕ) where
    pub erase_shown : (prompt : List ℕ) → (e.cursor ≡ 0 → ⊥) → goes ≡ holding (erased (line_of e) e.cursor) (e.cursor - 1) e.mode e.profile
        → Shows (redraw prompt (content (line_of goes)) goes.cursor) e h goes h screen k shown → ActsTo e h (erase prompt (state_of e h slots)) h screen k shown
    unfolding erase s state_of
    erase_shown prompt n p a =
        let line : List ℕ = erased (line_of e) e.cursor in
        acts_as e h screen (redrawing prompt (with_line s line (e.cursor - 1))) (erase prompt s) k shown (sym (else_is _ _ _ (ne_eqb e.cursor 0 n)))
        (acts_redrawn e h screen prompt (with_line s line (e.cursor - 1)) goes h k shown (p ∙ held_line line (e.cursor - 1)) a)

    -- typing
    pub insert_shown : (prompt : List ℕ) (byte : ℕ) → e.length < limit → goes ≡ holding (inserted (line_of e) e.cursor byte) (e.cursor + 1) e.mode e.profile
        → Shows (redraw prompt (content (line_of goes)) goes.cursor) e h goes h screen k shown → ActsTo e h (insert prompt (state_of e h slots) byte) h screen k shown
    unfolding insert s state_of
    insert_shown prompt byte l p a =
        let line : List ℕ = inserted (line_of e) e.cursor byte in
        let size = (length_of_lem e (good_line_lem e g)).1 in
        acts_as e h screen (redrawing prompt (with_line s line (e.cursor + 1))) (insert prompt s byte) k shown
        (sym (then_is _ _ _ (ap (λ (n : ℕ). ltb n limit) size ∙ lt-ltb e.length limit l)))
        (acts_redrawn e h screen prompt (with_line s line (e.cursor + 1)) goes h k shown (p ∙ held_line line (e.cursor + 1)) a)

  pub insert_dropped : (prompt : List ℕ) (byte : ℕ) → limit ≤ e.length → ActsTo e h (insert prompt (state_of e h slots) byte) h screen (key_of e h (Ok Dropped)) screen
  unfolding insert s state_of
  insert_dropped prompt byte l =
      let size = (length_of_lem e (good_line_lem e g)).1 in
      acts_as e h screen _ (insert prompt s byte) _ _
      (sym (else_is _ _ _ (ap (λ (n : ℕ). ltb n limit) size ∙ le-ltb e.length limit l)))
      (acts_dropped e h screen s e h (sym (holds_editor e h slots g)))

  -- to a place
  pub go_quiet : (prompt : List ℕ) (place : ℕ) → e.cursor ≡ place → ActsTo e h (go_to prompt (state_of e h slots) place) h screen (key_of e h (Ok (Shown 0))) screen
  unfolding go_to s state_of
  go_quiet prompt place q = acts_as e h screen (showing s []) (go_to prompt s place) _ _ (sym (then_is _ _ _ (eq-eqb e.cursor place q))) quiet

  -- to the end of the line, as the editor has its length
  pub go_end : (prompt : List ℕ) (k : KeyAnswer) (shown : List ℕ) → ActsTo e h (go_to prompt (state_of e h slots) e.length) h screen k shown
      → ActsTo e h (turn_by prompt (state_of e h slots) End) h screen k shown
  unfolding state_of
  go_end prompt k shown a =
      let size = (length_of_lem e (good_line_lem e g)).1 in
      acts_as e h screen _ _ k shown (ap (go_to prompt (state_of e h slots)) (sym size)) a

  -- the byte at the cursor
  pub delete_quiet : (prompt : List ℕ) → e.length ≤ e.cursor → ActsTo e h (delete prompt (state_of e h slots)) h screen (key_of e h (Ok (Shown 0))) screen
  unfolding delete s state_of
  delete_quiet prompt l =
      let size = (length_of_lem e (good_line_lem e g)).1 in
      acts_as e h screen (showing s []) (delete prompt s) _ _ (sym (else_is _ _ _ (ap (ltb e.cursor) size ∙ le-ltb e.cursor e.length l))) quiet

  module _ (k : KeyAnswer) (goes : Editor) (shown : List ℕ) where
    pub go_shown : (prompt : List ℕ) (place : ℕ) → (e.cursor ≡ place → ⊥) → goes ≡ editor e.line e.length place e.mode e.profile
        → Shows (redraw prompt (content (line_of goes)) goes.cursor) e h goes h screen k shown → ActsTo e h (go_to prompt (state_of e h slots) place) h screen k shown
    unfolding go_to s state_of
    go_shown prompt place n p a =
        acts_as e h screen (redrawing prompt (with_line s (line_of e) place)) (go_to prompt s place) k shown (sym (else_is _ _ _ (ne_eqb e.cursor place n)))
        (acts_redrawn e h screen prompt (with_line s (line_of e) place) goes h k shown
        (p ∙ held_as e place e.mode e.profile g ∙ held_line (line_of e) place) a)

    pub delete_shown : (prompt : List ℕ) → e.cursor < e.length → goes ≡ holding (erased (line_of e) (e.cursor + 1)) e.cursor e.mode e.profile
        → Shows (redraw prompt (content (line_of goes)) goes.cursor) e h goes h screen k shown → ActsTo e h (delete prompt (state_of e h slots)) h screen k shown
    unfolding delete s state_of
    delete_shown prompt l p a =
        let line : List ℕ = erased (line_of e) (e.cursor + 1) in
        let size = (length_of_lem e (good_line_lem e g)).1 in
        acts_as e h screen (redrawing prompt (with_line s line e.cursor)) (delete prompt s) k shown
        (sym (then_is _ _ _ (ap (ltb e.cursor) size ∙ lt-ltb e.cursor e.length l)))
        (acts_redrawn e h screen prompt (with_line s line e.cursor) goes h k shown (p ∙ held_line line e.cursor) a)

  -- along the line
  pub right_quiet : e.length ≤ e.cursor → ActsTo e h (right (state_of e h slots)) h screen (key_of e h (Ok (Shown 0))) screen
  unfolding right s state_of
  right_quiet l =
      let size = (length_of_lem e (good_line_lem e g)).1 in
      acts_as e h screen (showing s []) (right s) _ _ (sym (else_is _ _ _ (ap (ltb e.cursor) size ∙ le-ltb e.cursor e.length l))) quiet

  pub left_quiet : e.cursor ≡ 0 → ActsTo e h (left (state_of e h slots)) h screen (key_of e h (Ok (Shown 0))) screen
  unfolding left s state_of
  left_quiet z = acts_as e h screen (showing s []) (left s) _ _ (sym (then_is _ _ _ (eq-eqb e.cursor 0 z))) quiet

  module _ (k : KeyAnswer) (goes : Editor) (shown : List ℕ) where
    moved_shown : (cursor final : ℕ) → goes ≡ editor e.line e.length cursor e.mode e.profile → Shows (arrow final) e h goes h screen k shown
        → ActsTo e h (showing (with_line (state_of e h slots) (line_of e) cursor) (arrow final)) h screen k shown
    unfolding s
    moved_shown cursor final p a =
        acts_shown e h screen (with_line s (line_of e) cursor) (arrow final) goes h k shown
        (p ∙ held_as e cursor e.mode e.profile g ∙ held_line (line_of e) cursor) a

    pub right_shown : e.cursor < e.length → goes ≡ editor e.line e.length (e.cursor + 1) e.mode e.profile → Shows (arrow 0x43) e h goes h screen k shown
        → ActsTo e h (right (state_of e h slots)) h screen k shown
    unfolding right state_of
    right_shown l p a =
        let size = (length_of_lem e (good_line_lem e g)).1 in
        acts_as e h screen _ (right (state_of e h slots)) k shown
        (sym (then_is _ _ _ (ap (ltb e.cursor) size ∙ lt-ltb e.cursor e.length l))) (moved_shown (e.cursor + 1) 0x43 p a)

    pub left_shown : (e.cursor ≡ 0 → ⊥) → goes ≡ editor e.line e.length (e.cursor - 1) e.mode e.profile → Shows (arrow 0x44) e h goes h screen k shown
        → ActsTo e h (left (state_of e h slots)) h screen k shown
    unfolding left state_of
    left_shown n p a =
        acts_as e h screen _ (left (state_of e h slots)) k shown
        (sym (else_is _ _ _ (ne_eqb e.cursor 0 n))) (moved_shown (e.cursor - 1) 0x44 p a)

-- a step back through history
pub record Back (h : History) (step : Step) (n : ℕ) : Type 0 where
  pub some : h.place ≡ 0 → ⊥
  pub number : n ≡ h.place - 1
  pub history : step.history ≡ placed_at h n

pub back_none : (h : History) (step : Step) → step ≡ back h → step.recalled ≡ None → h.place ≡ 0
unfolding back
back_none h step e r = by (eqb h.place 0) refl (sym r ∙ ap (λ (x : Step). x.recalled) e)
  where
    by : (t : Bool) → eqb h.place 0 ≡ t
        → None ≡ (cond {A = Step} t (record { history = h; recalled = None }) (record { history = placed_at h (h.place - 1); recalled = Some (h.place - 1) })).recalled → h.place ≡ 0
    by true q z = eqb-true _ _ q
    by false q z = absurd (let y : ◌≡◌ {A = ℕ} 0 1 = cc in omega arith)

pub back_some : (h : History) (step : Step) (n : ℕ) → step ≡ back h → step.recalled ≡ Some n → Back h step n
unfolding back
back_some h step n e r = by (eqb h.place 0) refl e (sym r)
  where
    by : (t : Bool) → eqb h.place 0 ≡ t → step ≡ cond t (record { history = h; recalled = None }) (record { history = placed_at h (h.place - 1); recalled = Some (h.place - 1) })
        → Some n ≡ step.recalled → Back h step n
    by true q z r = absurd (let y : ◌≡◌ {A = ℕ} 0 1 = cc in omega arith)
    by false q z r =
        let m : n ≡ h.place - 1 = cc in
        record { some = eqb-false _ _ q; number = m; history = ap (λ (x : Step). x.history) z ∙ ap (placed_at h) (sym m) }

-- what a step recalls becomes the line: an entry, or nothing
module _ (e : Editor) (j : Journal) (r : Option ℕ) (goes made : Editor) (g : goes ≡ made) where
  pub entry_recalled : (n : ℕ) (text : List ℕ) → r ≡ Some n → text ≡ entry_of j n → made ≡ holding text (length text) e.mode e.profile → goes ≡ recalling e (recalled_text r j)
  entry_recalled n text i p q = g ∙ q ∙ ap (recalling e) (p ∙ sym (ap (λ (x : Option ℕ). recalled_text x j) i))

  pub nothing_recalled : r ≡ None → made ≡ holding [] 0 e.mode e.profile → goes ≡ recalling e (recalled_text r j)
  nothing_recalled i q = g ∙ q ∙ ap (λ (x : Option ℕ). recalling e (recalled_text x j)) (sym i)

pub shows_as : {e goes made : Editor} {h h' : History} {screen shown : List ℕ} {k : KeyAnswer} (prompt : List ℕ) → goes ≡ made
    → Shows (redraw prompt (content (line_of goes)) goes.cursor) e h goes h' screen k shown
    → Shows (redraw prompt (content (line_of made)) made.cursor) e h made h' screen k shown
shows_as prompt q a = rw q at a

-- recalling
module _ (e : Editor) (h : History) (slots screen : List ℕ) (good_state_lem : good_state e h slots ≡ true) where
  is : good h slots ≡ true
  is = (good_parts e h slots good_state_lem).1

  line_good : good_line e ≡ true
  line_good = (good_parts e h slots good_state_lem).0

  placed_as : (place : ℕ) → placed_at h place ≡ record_of (at_place (journal_of h slots) place)
  placed_as place = ap (λ (x : History). placed_at x place) (sym (record_held h slots is)) ∙ sym (record_placed (journal_of h slots) place)

  pub recalled_short : (n : ℕ) (text : List ℕ) → text ≡ entry_of (journal_of h slots) n → length text ≤ 255
  recalled_short n text p = rw p (fair_short (journal_of h slots) n (good_fair h slots is))

  pub text_short : (r : Option ℕ) → length (recalled_text r (journal_of h slots)) ≤ 255
  text_short (Some n) = recalled_short n (entry_of (journal_of h slots) n) refl
  text_short None = omega arith

  module _ (k : KeyAnswer) (goes : Editor) (shown prompt : List ℕ) (n : ℕ) (text : List ℕ) (h' : History) where
    recall_shown : h' ≡ placed_at h n → text ≡ entry_of (journal_of h slots) n → goes ≡ holding text (length text) e.mode e.profile
        → Shows (redraw prompt (content (line_of goes)) goes.cursor) e h goes h' screen k shown
        → Acts e h (redrawing prompt (recalled (state_of e h slots) n)) screen k shown
    unfolding state_of editor_of
    recall_shown q p m a =
        acts_to e h screen (redrawing prompt (recalled (state_of e h slots) n)) h' k shown (q ∙ placed_as n)
        (acts_redrawn e h screen prompt (recalled (state_of e h slots) n) goes h' k shown (m ∙ ap (λ (y : List ℕ). holding y (length y) e.mode e.profile) p) a)

    up_shown : (step : Step) → step ≡ back h → step.recalled ≡ Some n → h' ≡ step.history → text ≡ entry_of (journal_of h slots) n → goes ≡ holding text (length text) e.mode e.profile
        → Shows (redraw prompt (content (line_of goes)) goes.cursor) e h goes h' screen k shown
        → Acts e h (up prompt (state_of e h slots)) screen k shown
    unfolding up state_of
    up_shown step q r j p m a =
        let b = back_some h step n q r in
        let here = place_held h slots in
        turn_as e h screen (redrawing prompt (recalled (state_of e h slots) n)) (up prompt (state_of e h slots)) k shown
        (sym (else_is _ _ _ (ne_eqb (journal_of h slots).place 0 (λ z. b.some (sym here ∙ z)))
        ∙ ap (λ (i : ℕ). redrawing prompt (recalled (state_of e h slots) i)) (ap (λ (i : ℕ). i - 1) here ∙ sym b.number)))
        (recall_shown (j ∙ b.history) p m a)

  pub up_recalls : (k : KeyAnswer) (shown prompt : List ℕ) (n : ℕ) (step : Step) → step ≡ back h → step.recalled ≡ Some n
      → Recalls e h step (journal_of h slots) prompt screen k shown → Acts e h (up prompt (state_of e h slots)) screen k shown
  up_recalls k shown prompt n step q r a =
      let text : List ℕ = recalled_text step.recalled (journal_of h slots) in
      up_shown k (recalling e text) shown prompt n text step.history step q r refl (ap (λ (x : Option ℕ). recalled_text x (journal_of h slots)) r) refl a

  pub up_quiet : (prompt : List ℕ) (step : Step) → step ≡ back h → step.recalled ≡ None → Acts e h (up prompt (state_of e h slots)) screen (key_of e h (Ok (Shown 0))) screen
  unfolding up state_of
  up_quiet prompt step q r =
      turn_as e h screen (showing (state_of e h slots) []) (up prompt (state_of e h slots)) _ _
      (sym (then_is _ _ _ (eq-eqb (journal_of h slots).place 0 (place_held h slots ∙ back_none h step q r)))) (acts_to e h screen (showing (state_of e h slots) []) h _ _ (sym (holds_history e h slots is)) (quiet e h slots screen line_good))

recalled_none : (n p : ℕ) → n ≤ p → recalled_at n p ≡ None
unfolding recalled_at
recalled_none n p h = else_is _ _ _ (le-ltb p n h)

-- where Down arrives, and what it finds there
onward_is : (h : History) (p : ℕ) → p ≡ cond (ltb h.place h.count) (h.place + 1) h.place → onward h ≡ record { history = placed_at h p; recalled = recalled_at h.count p }
unfolding onward
onward_is h p q = by (ltb h.place h.count) refl q
  where
    none_left : h.count ≤ h.place → None ≡ recalled_at h.count h.place
    none_left l = sym (recalled_none h.count h.place l)

    by : (t : Bool) → ltb h.place h.count ≡ t → p ≡ cond t (h.place + 1) h.place
        → cond {A = Step} t (record { history = placed_at h (h.place + 1); recalled = recalled_at h.count (h.place + 1) }) (record { history = h; recalled = None })
        ≡ record { history = placed_at h p; recalled = recalled_at h.count p }
    by true e q = ap (λ (n : ℕ). record { history = placed_at h n; recalled = recalled_at h.count n }) (sym q)
    by false e q =
        ap (λ (r : Option ℕ). record { history = h; recalled = r }) (none_left (ltb-false _ _ e))
        ∙ ap (λ (n : ℕ). record { history = placed_at h n; recalled = recalled_at h.count n }) (sym q)

found : (c p : ℕ) (r : Option ℕ) → r ≡ recalled_at c p → (n : ℕ) → r ≡ Some n → (p < c) × (n ≡ p)
unfolding recalled_at
found c p r e n q = by (ltb p c) refl (sym q ∙ e)
  where
    by : (t : Bool) → ltb p c ≡ t → Some n ≡ cond t (Some p) None → (p < c) × (n ≡ p)
    by true f z = (ltb-true _ _ f, cc)
    by false f z = absurd (let y : ◌≡◌ {A = ℕ} 0 1 = cc in omega arith)

found_none : (c p : ℕ) (r : Option ℕ) → r ≡ recalled_at c p → r ≡ None → ltb p c ≡ false
unfolding recalled_at
found_none c p r e q = by (ltb p c) refl (sym q ∙ e)
  where
    by : (t : Bool) → ltb p c ≡ t → None ≡ cond t (Some p) None → t ≡ false
    by true f z = absurd (let y : ◌≡◌ {A = ℕ} 0 1 = cc in omega arith)
    by false f z = refl

module _ (e : Editor) (h : History) (slots screen : List ℕ) (good_state_lem : good_state e h slots ≡ true) (step : Step) (q : step ≡ onward h) where
  p : ℕ
  p = on_place (journal_of h slots)

  counted : count (journal_of h slots) ≡ h.count
  counted = count_held h slots

  place_is : p ≡ cond (ltb h.place h.count) (h.place + 1) h.place
  unfolding p on_place
  place_is =
      ap (λ (n : ℕ). cond (ltb n (count (journal_of h slots))) (n + 1) n) (place_held h slots)
      ∙ ap (λ (n : ℕ). cond (ltb h.place n) (h.place + 1) h.place) counted

  stepped : step ≡ record { history = placed_at h p; recalled = recalled_at h.count p }
  stepped = q ∙ onward_is h p place_is

  module _ (k : KeyAnswer) (goes : Editor) (shown prompt : List ℕ) (h' : History) where
    down_shown : (n : ℕ) (text : List ℕ) → step.recalled ≡ Some n → h' ≡ step.history → text ≡ entry_of (journal_of h slots) n → goes ≡ holding text (length text) e.mode e.profile
        → Shows (redraw prompt (content (line_of goes)) goes.cursor) e h goes h' screen k shown
        → Acts e h (down prompt (state_of e h slots)) screen k shown
    unfolding down state_of p
    down_shown n text r j x m a =
        let f = found h.count p step.recalled (ap (λ (y : Step). y.recalled) stepped) n r in
        let here : n ≡ p = f.1 in
        turn_as e h screen (redrawing prompt (recalled (state_of e h slots) n)) (down prompt (state_of e h slots)) k shown
        (sym (then_is _ _ _ (ap (ltb p) counted ∙ lt-ltb p h.count f.0) ∙ ap (λ (i : ℕ). redrawing prompt (recalled (state_of e h slots) i)) (sym here)))
        (recall_shown e h slots screen good_state_lem k goes shown prompt n text h' (j ∙ ap (λ (y : Step). y.history) stepped ∙ ap (placed_at h) (sym here)) x m a)

    down_cleared : step.recalled ≡ None → h' ≡ step.history → goes ≡ holding [] 0 e.mode e.profile
        → Shows (redraw prompt (content (line_of goes)) goes.cursor) e h goes h' screen k shown
        → Acts e h (down prompt (state_of e h slots)) screen k shown
    unfolding down state_of p holding editor_of
    down_cleared r j m a =
        let none = found_none h.count p step.recalled (ap (λ (y : Step). y.recalled) stepped) r in
        let s : State = cleared (state_of e h slots) (at_place (journal_of h slots) p) in
        turn_as e h screen (redrawing prompt s) (down prompt (state_of e h slots)) k shown
        (sym (else_is _ _ _ (ap (ltb p) counted ∙ none)))
        (acts_to e h screen (redrawing prompt s) h' k shown (j ∙ ap (λ (y : Step). y.history) stepped ∙ placed_as e h slots screen good_state_lem p)
        (acts_redrawn e h screen prompt s goes h' k shown m a))

  pub down_recalls : (k : KeyAnswer) (shown prompt : List ℕ) → Recalls e h step (journal_of h slots) prompt screen k shown
      → Acts e h (down prompt (state_of e h slots)) screen k shown
  down_recalls k shown prompt a = by step.recalled refl
    where
      text : List ℕ
      text = recalled_text step.recalled (journal_of h slots)

      by : (r : Option ℕ) → step.recalled ≡ r → Acts e h (down prompt (state_of e h slots)) screen k shown
      by (Some n) i = down_shown k (recalling e text) shown prompt step.history n text i refl (ap (λ (x : Option ℕ). recalled_text x (journal_of h slots)) i) refl a
      by None i = down_cleared k (recalling e text) shown prompt step.history i refl (ap (λ (x : Option ℕ). recalling e (recalled_text x (journal_of h slots))) i) a
