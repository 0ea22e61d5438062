-- Laws of a key that is pressed: what the editor answered, and what is printed of it.
use Rattle.std.specs.Prelude.{Ok, Err, Result, ⊤}
use Prim.Native.Nat.{ℕ, suc, ◌+◌, ◌-◌, ◌*◌, ◌≤◌, ◌<◌}
use mathlib.Core.Path.{◌≡◌, refl, sym, ap, ◌∙◌, subst}
use mathlib.Core.Bool.{Bool, true, false, cond}
use mathlib.Core.List.{List, [], ◌∷◌, ◌++◌}
use native.Mathlib.Omega.{arith}
use borrow.Author.Tests.{lt-ltb, le-ltb}
use borrow.Rule.Slice.PartMut.{put_mid}
use lib.Dec.{ltb}
use lib.ListN.{length, take, drop, get_or, set, length-take}
use lib.Seq.{take-append_seam}
use Rattle.buffer.specs.Write.{over, Pushed, over_if_fits}
use Rattle.buffer.proofs.Choices.{then_is, else_is}
use Rattle.buffer.proofs.Lending.{length_over, length_over_at}
use Rattle.buffer.proofs.Writing.{pushed_both, pushed_front}
use Rattle.text.specs.Unicode.{encode, encode_all}
use Rattle.text.specs.Decoding.{table, decode_first, pieces_from, pieces_of, codes_of, codes_in, well_formed_length}
use Rattle.frame.specs.House.{house_line, write_house, HouseWritten}
use Rattle.buffer.specs.declared.show.TooShort.{TooShort}
use Rattle.buffer.specs.Ascii.{ascii}
use Rattle.text.specs.Decoding.{well_formed}
use Rattle.frame.proofs.Lines.{length_house_line}
use Rattle.image.specs.Frames.{Frame}
use Rattle.tree.specs.Images.{frames_of}
use Rattle.tree.specs.Rules.{check_tree}
use Rattle.tree.specs.declared.check.BadFrame.{BadFrame}
use Rattle.history.specs.declared.stepping.History.{History}
use Rattle.editor.specs.declared.line.Editor.{Editor}
use Rattle.editor.specs.declared.drawing.KeyAnswer.{KeyAnswer}
use Rattle.editor.specs.declared.drawing.Pressed.{Pressed}
use Rattle.editor.specs.declared.drawing.KeyRefusal.{KeyRefusal}
use Rattle.editor.specs.declared.drawing.Pressed.TheVariants.{Shown, Entered, Dropped}
use Rattle.editor.specs.declared.drawing.KeyRefusal.TheVariants.{BadState as BadKey}
use Rattle.editor.specs.Line.{limit}
use Rattle.editor.specs.Turns.{Kind, shows, enters, drops, Turn, line_feed}
use Rattle.editor.specs.Answer.{state_of, editor_of, history_of, slots_of, good_state, good_prompt, taken, turn_answer, key_answer, refused, Pressing as KeyPressing}
use Rattle.editor.proofs.Fine.{fine_of}
use Rattle.shell.specs.Lines.{Said, said_of}
use Rattle.session.specs.Prints.{wide, bad_line, frame_of, lines_of, shown, prompt, answered, leaves, turn_prints, key_prints, turn_ends, key_ends}
use Rattle.session.specs.Inner.{Answers, Enters, Within, Tells}
use Rattle.session.specs.Calls.{with_state, with_key, image_of, turn_in, tree_before, printing, Laid, PressingKey, RefusingLine}
use Rattle.session.specs.Sizes.{key_room}
use Rattle.session.specs.declared.running.Printing.{Printing}
use Rattle.session.specs.declared.running.PrintRefusal.{PrintRefusal}
use Rattle.session.specs.declared.running.Printing.TheVariants.{Goes, Ends}
use Rattle.session.specs.declared.running.PrintRefusal.TheVariants.{BadTree, BadState, NoRoom}
use Rattle.session.specs.declared.standing.Session.{Session}
use Rattle.session.proofs.Printings.{line_alone, lines_both, shown_some}
use Rattle.session.proofs.Marks.{lent_size, returned_size, returned_kind, returned_after}
use Rattle.session.proofs.Screens.{screen_short, submitted_short, enters_tested}

-- screen bytes after their kind
module _ (s : List ℕ) (size : ℕ) (h : size ≤ 1023) (k : get_or s 0 0 ≡ 0x22) where
  pub shown_frame : take (size + 1) s ≡ 0x22 ∷ take size (drop 1 s)
  shown_frame = ap (λ (n : ℕ). take n s) (let e : size + 1 ≡ suc size = omega arith in e) ∙ by s k
    where
      by : (x : List ℕ) → get_or x 0 0 ≡ 0x22 → take (suc size) x ≡ 0x22 ∷ take size (drop 1 x)
      by [] e = absurd (omega arith)
      by (a ∷ x) e = ap (λ (b : ℕ). b ∷ take size x) e

  pub shown_ready : (out frame : List ℕ) → key_room ≤ length out → frame ≡ take (size + 1) s → (0 + (2 * length frame + 1) ≤ length out) × (frame ≡ 0x22 ∷ drop 1 frame)
  shown_ready out frame m f =
      let e = f ∙ shown_frame in
      let l = ap length f in
      let n = length-take (size + 1) s in
      (omega arith, e ∙ sym (ap (λ (x : List ℕ). 0x22 ∷ drop 1 x) e))

  pub shown_done : (out frame left : List ℕ) (r : ℕ) → frame ≡ take (size + 1) s → Pushed (lines_of (shown (drop 1 frame))) out 0 r left
      → Pushed (lines_of (shown (take size (drop 1 s)))) out 0 r left
  shown_done out frame left r f p = subst (λ (x : List ℕ). Pushed (lines_of (shown x)) out 0 r left) (ap (λ (x : List ℕ). drop 1 x) (f ∙ shown_frame)) p

-- Enter: the line feed, and what the line says after it
feed_line_lem : lines_of (shown line_feed) ≡ house_line (0x22 ∷ 0x0A ∷ [])
feed_line_lem = shown_some line_feed (omega arith)

module _ (out mid : List ℕ) (p : ℕ) (h : key_room ≤ length out) (w : Pushed (house_line (0x22 ∷ 0x0A ∷ [])) out 0 p mid) where
  fed : 0 + length (house_line (0x22 ∷ 0x0A ∷ [])) ≤ length out
  fed = let l = length_house_line (0x22 ∷ 0x0A ∷ []) in omega arith

  pub feed_room : p + 131096 ≤ length mid
  feed_room =
      let l = length_house_line (0x22 ∷ 0x0A ∷ []) in
      let a = ap length w.bytes ∙ length_over_at (house_line (0x22 ∷ 0x0A ∷ [])) out 0 fed in
      let b = w.place in
      omega arith

  pub entered : (frames : List Frame) (line left : List ℕ) (r : Result Printing PrintRefusal) → Answers (said_of frames line) mid p r left → Enters frames line out r left
  entered frames line left r a =
      let said : Said = said_of frames line in
      let both = pushed_front _ _ _ _ (pushed_both (house_line (0x22 ∷ 0x0A ∷ [])) (lines_of (answered said)) out mid left 0 p (p + length (lines_of (answered said))) fed w (record { place = refl; bytes = a.bytes })) in
      let same : house_line (0x22 ∷ 0x0A ∷ []) ++ lines_of (answered said) ≡ lines_of (shown line_feed ++ answered said) =
      ap (λ (x : List ℕ). x ++ lines_of (answered said)) (sym feed_line_lem) ∙ sym (lines_both (shown line_feed) (answered said)) in
      record {
        answer = a.answer ∙ ap (printing (leaves said)) (both.count ∙ ap length same);
        bytes = both.bytes ∙ ap (λ (x : List ℕ). over x out) same;
      }

-- what each answer of the editor prints
module _ (answer : Result Pressed KeyRefusal) (image line screen out left : List ℕ) where
  pub within_shown : (n : ℕ) → Within image answer → answer ≡ Ok (Shown n) → n ≤ 1023
  within_shown n w e = subst (Within image) e w

  pub within_entered : (n : ℕ) (part : List ℕ) → Within image answer → answer ≡ Ok (Entered n) → part ≡ take n line → (check_tree image ≡ Ok tt) × (length part ≤ 255)
  within_entered n part w e k =
      let both : (check_tree image ≡ Ok tt) × (n ≤ 255) = subst (Within image) e w in
      let short = both.1 in
      let size = ap length k ∙ length-take n line in
      (both.0, omega arith)

  pub tells_shown : (n r : ℕ) → answer ≡ Ok (Shown n) → Pushed (lines_of (shown (take n (drop 1 screen)))) out 0 r left → Tells answer image line screen out (Ok (Goes r)) left
  tells_shown n r e p =
      let w = pushed_front _ _ _ _ p in
      subst (λ (x : Result Pressed KeyRefusal). Tells x image line screen out (Ok (Goes r)) left) (sym e) (record { answer = ap (λ (n : ℕ). Ok (Goes n)) w.count; bytes = w.bytes })

  pub tells_entered : (n : ℕ) (part : List ℕ) (r : Result Printing PrintRefusal) → answer ≡ Ok (Entered n) → part ≡ take n line
      → Enters (frames_of image) part out r left → Tells answer image line screen out r left
  tells_entered n part r e k f =
      subst (λ (x : Result Pressed KeyRefusal). Tells x image line screen out r left) (sym e) (subst (λ (x : List ℕ). Enters (frames_of image) x out r left) k f)

  pub tells_dropped : answer ≡ Ok Dropped → left ≡ out → Tells answer image line screen out (Ok (Goes 0)) left
  unfolding lines_of over
  tells_dropped e k = subst (λ (x : Result Pressed KeyRefusal). Tells x image line screen out (Ok (Goes 0)) left) (sym e) (record { answer = refl; bytes = k })

  pub tells_refused : (refusal : KeyRefusal) → answer ≡ Err refusal → left ≡ out → Tells answer image line screen out (Err BadState) left
  tells_refused refusal e k = subst (λ (x : Result Pressed KeyRefusal). Tells x image line screen out (Err BadState) left) (sym e) (refl, k)

-- the prompt is good
prompt_good : good_prompt prompt ≡ true
unfolding good_prompt prompt ascii well_formed well_formed_length decode_first table pieces_from pieces_of codes_of codes_in encode encode_all
prompt_good = refl

prompt_size : length prompt ≤ 128
unfolding prompt ascii
prompt_size = omega arith

-- a key of the editor, and what came of it
module _ (h : Session) (slots line lent : List ℕ) (byte : ℕ) (k : KeyAnswer) (slots' line' e : List ℕ)
    (p : KeyPressing h.editor h.history slots prompt byte line lent k slots' line' e) (full : length line ≡ 255) (wide : length lent ≡ 1023) where
  abbrev t : Turn
  t = turn_in h slots byte

  abbrev is : Bool
  is = good_state h.editor h.history slots

  in_limit : ltb (length line) limit ≡ false
  unfolding limit
  in_limit = le-ltb (length line) 255 (omega arith)

  screen_fits : is ≡ true → length t.screen ≤ 1023
  screen_fits g = screen_short prompt (state_of h.editor h.history slots) byte (fine_of h.editor h.history slots g) prompt_size

  pub key_good : is ≡ true → k.answer ≡ taken t t.kind
  unfolding key_answer turn_answer
  key_good g =
      let short = screen_fits g in
      p.answer ∙ then_is _ _ _ g ∙ then_is _ _ _ prompt_good ∙ else_is _ _ _ in_limit ∙ else_is _ _ _ (le-ltb (length lent) (length t.screen) (omega arith))

  pub key_bad : is ≡ false → k.answer ≡ Err BadKey
  unfolding key_answer
  key_bad g = p.answer ∙ else_is _ _ _ g

  not_refused : (q : Kind) → refused (taken t q) ≡ false
  not_refused shows = refl
  not_refused enters = refl
  not_refused drops = refl

  -- what holds of each answer holds of this one
  told_by : (P : Result Pressed KeyRefusal → Type 0) → P (Err BadKey) → (is ≡ true → (q : Kind) → t.kind ≡ q → P (taken t q)) → P k.answer
  told_by P bad kinds = by is refl
    where
      by : (b : Bool) → is ≡ b → P k.answer
      by true g = subst P (sym (key_good g)) (kinds g t.kind refl)
      by false g = subst P (sym (key_bad g)) bad

  -- what is shown fits the screen's buffer, which comes back as long as it was; a line is submitted only under a tree that was tested
  pub key_within : (image : List ℕ) → tree_before byte image ≡ Ok tt → Within image k.answer
  key_within image good = told_by (Within image) tt kinds
    where
      kinds : is ≡ true → (q : Kind) → t.kind ≡ q → Within image (taken t q)
      kinds g shows e = screen_fits g
      kinds g enters e = (
        sym (enters_tested prompt (state_of h.editor h.history slots) byte (fine_of h.editor h.history slots g) image e) ∙ good,
        submitted_short prompt (state_of h.editor h.history slots) byte (fine_of h.editor h.history slots g),
      )
      kinds g drops e = tt

  pub key_size : length e ≡ 1023
  key_size = ap length p.shown ∙ told_by (λ x. length (cond (refused x) lent (over t.screen lent)) ≡ length lent) refl kinds ∙ wide
    where
      kinds : is ≡ true → (q : Kind) → t.kind ≡ q → length (cond (refused (taken t q)) lent (over t.screen lent)) ≡ length lent
      kinds g q f = ap length (else_is _ _ _ (not_refused q)) ∙ length_over t.screen lent (let l = screen_fits g in omega arith)

  module _ (g : is ≡ true) where
    unrefused : refused k.answer ≡ false
    unrefused = ap refused (key_good g) ∙ not_refused t.kind

    pub key_session : with_key h k ≡ with_state h t.after
    key_session =
        let a : k.editor ≡ editor_of t.after = p.editor ∙ else_is _ _ _ unrefused in
        let b : k.history ≡ history_of t.after = p.history ∙ else_is _ _ _ unrefused in
        ap (λ (x : Editor). parts x k.history) a ∙ ap (parts (editor_of t.after)) b
      where
        parts : Editor → History → Session
        parts x y = record { editor = x; history = y; walk = h.walk; keyed = h.keyed; lines = h.lines }

    pub key_slots : slots' ≡ slots_of t.after
    key_slots = p.held ∙ else_is _ _ _ unrefused

    pub key_line : take (length t.submitted) line' ≡ t.submitted
    unfolding over
    key_line = ap (λ (x : List ℕ). take (length t.submitted) x) (p.given ∙ else_is _ _ _ unrefused) ∙ take-append_seam t.submitted (drop (length t.submitted) line)

    pub key_screen : take (length t.screen) e ≡ t.screen
    unfolding over
    key_screen = ap (λ (x : List ℕ). take (length t.screen) x) (p.shown ∙ else_is _ _ _ unrefused) ∙ take-append_seam t.screen (drop (length t.screen) lent)

  pub key_kept : is ≡ false → (with_key h k ≡ h) × (slots' ≡ slots)
  key_kept g =
      let r : refused k.answer ≡ true = ap refused (key_bad g) in
      let a : k.editor ≡ h.editor = p.editor ∙ then_is _ _ _ r in
      let b : k.history ≡ h.history = p.history ∙ then_is _ _ _ r in
      (ap (λ (x : Editor). parts x k.history) a ∙ ap (parts h.editor) b, p.held ∙ then_is _ _ _ r)
    where
      parts : Editor → History → Session
      parts x y = record { editor = x; history = y; walk = h.walk; keyed = h.keyed; lines = h.lines }

  -- the call's contract
  module _ (image out left screen : List ℕ) (r : Result Printing PrintRefusal) (beyond : drop 1 screen ≡ e) (good : tree_before byte (image_of h image) ≡ Ok tt) (room : key_room ≤ length out)
      (told : Tells k.answer (image_of h image) line' screen out r left) where
    pub press_told : PressingKey h image slots byte out (record { session = with_key h k; answer = r }) slots' left
    unfolding key_prints key_ends
    press_told =
        record {
          short = λ l. absurd (omega arith);
          bad_tree = λ m n f. absurd (let z : ◌≡◌ {A = ℕ} 0 1 = cc in omega arith);
          bad_state = λ m f g.
              let b = subst (λ (x : Result Pressed KeyRefusal). Tells x (image_of h image) line' screen out r left) (key_bad g) told in
              (b.0, record { session = (key_kept g).0; held = (key_kept g).1; bytes = b.1 });
          pressed = λ m f g. record {
            session = key_session g;
            held = key_slots g;
            lines = by g t.kind (subst (λ (x : Result Pressed KeyRefusal). Tells x (image_of h image) line' screen out r left) (key_good g) told);
          };
        }
      where
        by : is ≡ true → (q : Kind) → Tells (taken t q) (image_of h image) line' screen out r left
            → Laid (turn_prints (frames_of (image_of h image)) t q) (turn_ends (frames_of (image_of h image)) t q) out r left
        by g shows l = subst (λ (x : List ℕ). Laid (shown x) false out r left) (ap (λ (x : List ℕ). take (length t.screen) x) beyond ∙ key_screen g) l
        by g enters l = subst (λ (x : List ℕ). Enters (frames_of (image_of h image)) x out r left) (key_line g) l
        by g drops l = l

-- the buffers that came back from the editor, with the kind of the screen's frame before what is shown
module _ (h : Session) (slots line s : List ℕ) (byte : ℕ) (k : KeyAnswer) (slots' line' e : List ℕ) (full : length line ≡ 255) (wide : length s ≡ 1024)
    (p : KeyPressing h.editor h.history slots prompt byte line (take (length (set s 0 0x22) - 1) (drop 1 (set s 0 0x22))) k slots' line' e) where
  lent : length (take (length (set s 0 0x22) - 1) (drop 1 (set s 0 0x22))) ≡ 1023
  lent = lent_size s e 0 1024 wide (omega arith)

  pub press_back : length (put_mid 1 (length (set s 0 0x22) - 1) (set s 0 0x22) e) ≡ 1024
  press_back = returned_size s e 0 1024 wide (omega arith) (key_size h slots line _ byte k slots' line' e p full lent)

  pub press_ready : (image tree : List ℕ) → tree_before byte (image_of h image) ≡ Ok tt → tree ≡ image_of h image
      → Within tree k.answer × (get_or (put_mid 1 (length (set s 0 0x22) - 1) (set s 0 0x22) e) 0 0 ≡ 0x22)
  press_ready image tree good same =
      (key_within h slots line _ byte k slots' line' e p full lent tree (ap (tree_before byte) same ∙ good), returned_kind s e 0 1024 wide (omega arith))

  pub press_done : (image tree out left : List ℕ) (next : Session) (r : Result Printing PrintRefusal) → tree_before byte (image_of h image) ≡ Ok tt → key_room ≤ length out → tree ≡ image_of h image
      → next ≡ with_key h k → Tells k.answer tree line' (put_mid 1 (length (set s 0 0x22) - 1) (set s 0 0x22) e) out r left
      → PressingKey h image slots byte out (record { session = next; answer = r }) slots' left
  press_done image tree out left next r good room same after told =
      subst (λ (x : Session). PressingKey h image slots byte out (record { session = x; answer = r }) slots' left) (sym after)
      (press_told h slots line _ byte k slots' line' e p full lent image out left _ r (returned_after s e 0 1024 wide (omega arith)) good room
      (subst (λ (x : List ℕ). Tells k.answer x line' (put_mid 1 (length (set s 0 0x22) - 1) (set s 0 0x22) e) out r left) same told))

-- the refusals before a key is pressed: no room, and a bad tree
module _ (h : Session) (image slots : List ℕ) (byte : ℕ) (out : List ℕ) where
  pub press_short : length out < key_room → PressingKey h image slots byte out (record { session = h; answer = Err (NoRoom key_room) }) slots out
  press_short l =
      record {
        short = λ m. (refl, record { session = refl; held = refl; bytes = refl });
        bad_tree = λ m. absurd (omega arith);
        bad_state = λ m. absurd (omega arith);
        pressed = λ m. absurd (omega arith);
      }

  pub press_refused : (tree : List ℕ) → tree ≡ image_of h image → (n : ℕ) (told : Result ⊤ BadFrame) → told ≡ tree_before byte tree → told ≡ Err (record { number = n }) → key_room ≤ length out
      → PressingKey h image slots byte out (record { session = h; answer = Err (BadTree n) }) slots out
  press_refused tree same n told e k room =
      let is : tree_before byte (image_of h image) ≡ Err (record { number = n }) = ap (tree_before byte) (sym same) ∙ sym e ∙ k in
      record {
        short = λ m. absurd (omega arith);
        bad_tree = λ m i f. (let both : ◌≡◌ {A = Result ⊤ BadFrame} (Err (record { number = n })) (Err (record { number = i })) = sym is ∙ f in let one : ◌≡◌ {A = BadFrame} (record { number = n }) (record { number = i }) = cc in ap (λ (b : BadFrame). Err (BadTree b.number)) one, record { session = refl; held = refl; bytes = refl });
        bad_state = λ m f. absurd (let z : ◌≡◌ {A = ℕ} 0 1 = cc in omega arith);
        pressed = λ m f. absurd (let z : ◌≡◌ {A = ℕ} 0 1 = cc in omega arith);
      }

-- the 2F of a line
bad_size : (number : ℕ) → length (house_line (frame_of (bad_line number))) ≡ 7
unfolding frame_of wide
bad_size number = let l = length_house_line (frame_of (bad_line number)) in omega arith

-- what it answers, by what writing its line does
abbrev pub as_last : Result ℕ TooShort → Result Printing PrintRefusal
as_last (Ok n) = Ok (Ends n)
as_last (Err short) = Err (NoRoom short.needed)

pub refusal_told : (number : ℕ) (out left : List ℕ) (r : Result ℕ TooShort) → HouseWritten (frame_of (bad_line number)) out r left → RefusingLine number out (as_last r) left
unfolding write_house over_if_fits
refusal_told number out left r w =
    let size : length (house_line (frame_of (bad_line number))) ≡ 7 = bad_size number in
    let alone = line_alone (bad_line number) in
    record {
      short = λ l.
          let lacks : ltb (length out) (length (house_line (frame_of (bad_line number)))) ≡ true = lt-ltb _ _ (omega arith) in
          (ap as_last (w.answer ∙ then_is _ _ _ lacks) ∙ ap (λ (n : ℕ). Err (NoRoom n)) size, w.bytes ∙ then_is _ _ _ lacks);
      told = λ m.
          let fits : ltb (length out) (length (house_line (frame_of (bad_line number)))) ≡ false = le-ltb _ _ (omega arith) in
          record {
            answer = ap as_last (w.answer ∙ else_is _ _ _ fits) ∙ ap (λ (x : List ℕ). Ok (Ends (length x))) (sym alone);
            bytes = w.bytes ∙ else_is _ _ _ fits ∙ ap (λ (x : List ℕ). over x out) (sym alone);
          };
    }
