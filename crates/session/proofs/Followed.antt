-- A line that is taken: what the calls hold after it is where the definitions say that the session stands. And no second answer satisfies a contract.
use Rattle.std.specs.Prelude.{Ok, Err, Result, ⊤, Some}
use Prim.Native.Nat.{ℕ, ◌+◌, ◌≤◌, ◌<◌}
use mathlib.Core.Path.{◌≡◌, refl, sym, ap, ◌∙◌, subst}
use mathlib.Core.Bool.{Bool, true, false, cond}
use mathlib.Core.List.{List, [], ◌∷◌, ◌++◌}
use native.Mathlib.Omega.{arith}
use borrow.Author.Tests.{ltb-true, ltb-false, eqb-true}
use lib.Dec.{eqb, ltb}
use lib.ListN.{length, take, drop}
use lib.Seq.{take-append_seam}
use Rattle.buffer.specs.Write.{over, over_at}
use Rattle.buffer.proofs.Choices.{then_is, else_is, true_is_not_false}
use Rattle.buffer.specs.Numbers.{Bytes}
use Rattle.frame.specs.Hex.{unhex}
use Rattle.frame.specs.House.{digits_of, read_house, left_by, house_leaves}
use Rattle.frame.specs.declared.house.HouseRefusal.{HouseRefusal}
use Rattle.frame.specs.declared.house.HouseRefusal.TheVariants.{Unended, Empty, TooLong, Odd, NoDigit, Short}
use Rattle.frame.proofs.Digits.{unhex_bytes}
use Rattle.image.specs.Reading.{read_first}
use Rattle.image.specs.Frames.{Frame as TreeFrame}
use Rattle.tree.specs.declared.check.BadFrame.{BadFrame}
use Rattle.tree.specs.Growth.{takes, admits, passed_by}
use Rattle.tree.proofs.Grown.{grows as grows_by, admits_whole}
use Rattle.editor.specs.Turns.{State, Kind, shows, enters, drops, Turn, turn_of}
use Rattle.editor.specs.Answer.{good_state}
use Rattle.editor.proofs.Fine.{Fine}
use Rattle.session.specs.Prints.{prompt, turn_prints, key_prints, turn_ends, key_ends}
use Rattle.session.specs.Lines.{Form, tree, keys, formless, form_of, form_by, line_form, Standing, with_image, with_keys as keyed_now, Taking, grown, pressing, refused, take_form, take_line}
use Rattle.session.specs.Calls.{with_walk, with_keys, refusing, took_by, image_by, TakingLine, image_of, is_enter, tree_before, Kept, PressingKey, RefusingLine}
use Rattle.session.specs.Sizes.{key_room}
use Rattle.session.specs.declared.running.Printing.{Printing}
use Rattle.session.specs.declared.running.PrintRefusal.{PrintRefusal}
use Rattle.session.specs.declared.running.PrintRefusal.TheVariants.{BadTree, BadState, NoRoom}
use Rattle.session.specs.declared.pressing.Pressing.{Pressing}
use Rattle.session.specs.declared.standing.Session.{Session}
use Rattle.session.specs.declared.taking.Taken.TheVariants.{Tree, Keys, BadLine}
use Rattle.session.specs.declared.taking.Took.{Took}
use Rattle.session.proofs.Takings.{house_room, both_wide}
use Rattle.session.proofs.Screens.{enters_byte}
use Rattle.session.specs.Held.{Holds}

-- what a line is by its house line: the frame of a tree line, and the keys after a 20
tree_told : (x : Result ℕ HouseRefusal) (bytes frame : List ℕ) → form_by x bytes ≡ tree frame → frame ≡ bytes
unfolding form_of
tree_told (Ok n) [] frame e = absurd (let z : ◌≡◌ {A = ℕ} 0 1 = cc in omega arith)
tree_told (Ok n) (a ∷ l) frame e = by (eqb a 0x20) e
  where
    by : (b : Bool) → cond b (keys l) (tree (a ∷ l)) ≡ tree frame → frame ≡ a ∷ l
    by true q = absurd (let z : ◌≡◌ {A = ℕ} 0 1 = cc in omega arith)
    by false q = cc
tree_told (Err Unended) bytes frame e = absurd (let z : ◌≡◌ {A = ℕ} 0 1 = cc in omega arith)
tree_told (Err Empty) bytes frame e = absurd (let z : ◌≡◌ {A = ℕ} 0 1 = cc in omega arith)
tree_told (Err TooLong) bytes frame e = absurd (let z : ◌≡◌ {A = ℕ} 0 1 = cc in omega arith)
tree_told (Err Odd) bytes frame e = absurd (let z : ◌≡◌ {A = ℕ} 0 1 = cc in omega arith)
tree_told (Err (NoDigit place)) bytes frame e = absurd (let z : ◌≡◌ {A = ℕ} 0 1 = cc in omega arith)
tree_told (Err (Short needed)) bytes frame e = absurd (let z : ◌≡◌ {A = ℕ} 0 1 = cc in omega arith)

keys_told : (x : Result ℕ HouseRefusal) (bytes pressed out : List ℕ) → form_by x bytes ≡ keys pressed → take (1 + length pressed) (left_by x bytes out) ≡ 0x20 ∷ pressed
unfolding form_of over
keys_told (Ok n) [] pressed out e = absurd (let z : ◌≡◌ {A = ℕ} 0 1 = cc in omega arith)
keys_told (Ok n) (a ∷ l) pressed out e = by (eqb a 0x20) refl e
  where
    by : (b : Bool) → eqb a 0x20 ≡ b → cond b (keys l) (tree (a ∷ l)) ≡ keys pressed → take (1 + length pressed) ((a ∷ l) ++ drop (length (a ∷ l)) out) ≡ 0x20 ∷ pressed
    by true p q =
        let same : l ≡ pressed = cc in
        let first : a ≡ 0x20 = eqb-true a 0x20 p in
        let size : 1 + length pressed ≡ length (a ∷ l) = let k = ap length same in omega arith in
        ap (λ (n : ℕ). take n ((a ∷ l) ++ drop (length (a ∷ l)) out)) size ∙ take-append_seam (a ∷ l) (drop (length (a ∷ l)) out) ∙ ap (λ (x : ℕ). x ∷ l) first ∙ ap (λ (x : List ℕ). 0x20 ∷ x) same
    by false p q = absurd (let z : ◌≡◌ {A = ℕ} 0 1 = cc in omega arith)
keys_told (Err Unended) bytes pressed out e = absurd (let z : ◌≡◌ {A = ℕ} 0 1 = cc in omega arith)
keys_told (Err Empty) bytes pressed out e = absurd (let z : ◌≡◌ {A = ℕ} 0 1 = cc in omega arith)
keys_told (Err TooLong) bytes pressed out e = absurd (let z : ◌≡◌ {A = ℕ} 0 1 = cc in omega arith)
keys_told (Err Odd) bytes pressed out e = absurd (let z : ◌≡◌ {A = ℕ} 0 1 = cc in omega arith)
keys_told (Err (NoDigit place)) bytes pressed out e = absurd (let z : ◌≡◌ {A = ℕ} 0 1 = cc in omega arith)
keys_told (Err (Short needed)) bytes pressed out e = absurd (let z : ◌≡◌ {A = ℕ} 0 1 = cc in omega arith)

-- what a line brings, as the code tells it: a longer image, keys in the buffer for a frame, or the number of a bad line
abbrev pub Brings : Taking → List ℕ → List ℕ → Took → List ℕ → List ℕ → Type 0
Brings (grown after) image slots r image' frame' = (r.answer ≡ Tree) × Holds after r.session image' slots
Brings (pressing bytes after) image slots r image' frame' =
    (r.answer ≡ Keys (1 + length bytes)) × (take (1 + length bytes) frame' ≡ 0x20 ∷ bytes) × (image' ≡ image) × Holds after r.session image' slots
Brings (refused number) image slots r image' frame' = (r.answer ≡ BadLine number) × (image' ≡ image)

module _ (s : Standing) (h : Session) (image slots : List ℕ) (k : Holds s h image slots) (room : 32768 ≤ length image) where
  -- a frame of the tree is taken exactly if the image takes it, and the image has it then
  module _ (frame : List ℕ) (b : Bytes frame) where
    admits_held : admits h.walk frame image ≡ takes s.image frame
    admits_held = admits_whole h.walk frame image k.stands b room ∙ ap (λ (x : List ℕ). takes x frame) k.tree

    grown_held : takes s.image frame ≡ true → Holds (with_image s (s.image ++ frame)) (with_walk h (passed_by h.walk (read_first frame))) (over_at frame image h.walk.at) slots
    grown_held e =
        let a : admits h.walk frame image ≡ true = admits_held ∙ e in
        let g = grows_by h.walk frame image k.stands b (Some (passed_by h.walk (read_first frame))) (over_at frame image h.walk.at) (record { answer = rw a; bytes = rw a }) in
        record {
          editor = k.editor;
          history = k.history;
          held = k.held;
          fine = k.fine;
          stands = g.2;
          tree = g.1 ∙ ap (λ (x : List ℕ). x ++ frame) k.tree;
          keyed = k.keyed;
          lines = ap (λ (n : ℕ). n + 1) k.lines;
        }

  number_held : (r : Took) → r ≡ refusing h → r.answer ≡ BadLine (s.lines + 1)
  number_held r e = ap (λ (x : Took). x.answer) e ∙ ap (λ (n : ℕ). BadLine (n + 1)) k.lines

  keyed_held : Holds (keyed_now s) (with_keys h) image slots
  keyed_held =
      record {
        editor = k.editor;
        history = k.history;
        held = k.held;
        fine = k.fine;
        stands = k.stands;
        tree = k.tree;
        keyed = refl;
        lines = ap (λ (n : ℕ). n + 1) k.lines;
      }

  -- a line is what the definition says, and leads where it says
  pub line_held : (line frame : List ℕ) (r : Took) (image' frame' : List ℕ) → s.lines < 65535 → 512 ≤ length frame → TakingLine h line image frame r image' frame'
      → Brings (take_line s line) image slots r image' frame'
  unfolding take_line take_form took_by image_by line_form house_leaves
  line_held line frame r image' frame' early wide p =
      let goes : h.lines < 65535 = let n = k.lines in omega arith in
      by (line_form line) refl
      (p.answer ∙ both_wide h line image frame goes wide room _ _ _) (p.built ∙ both_wide h line image frame goes wide room _ _ _)
      (p.read ∙ both_wide h line image frame goes wide room _ _ _ ∙ ap (λ (x : Result ℕ HouseRefusal). left_by x (unhex (digits_of line)) frame) (house_room line (length frame) wide))
    where
      by : (f : Form) → line_form line ≡ f → r ≡ took_by h image f → image' ≡ image_by h image f → frame' ≡ left_by (read_house line 512) (unhex (digits_of line)) frame
          → Brings (take_form s f) image slots r image' frame'
      by (tree f) e a b c =
          let bytes : Bytes f = subst Bytes (sym (tree_told (read_house line 512) (unhex (digits_of line)) f e)) (unhex_bytes (digits_of line)) in
          late s.keyed k.keyed (takes s.image f) refl (admits_held f bytes) (grown_held f bytes) a b
        where
          late : (t : Bool) → h.keyed ≡ t → (u : Bool) → takes s.image f ≡ u → admits h.walk f image ≡ takes s.image f
              → (takes s.image f ≡ true → Holds (with_image s (s.image ++ f)) (with_walk h (passed_by h.walk (read_first f))) (over_at f image h.walk.at) slots)
              → r ≡ took_by h image (tree f) → image' ≡ image_by h image (tree f)
              → Brings (cond t (refused (s.lines + 1)) (cond u (grown (with_image s (s.image ++ f))) (refused (s.lines + 1)))) image slots r image' frame'
          late true q u v admitted more a b = (number_held r (a ∙ then_is _ _ _ q), b ∙ then_is _ _ _ q)
          late false q true v admitted more a b =
              let told = a ∙ else_is _ _ _ q ∙ then_is _ _ _ (admitted ∙ v) in
              let left = b ∙ else_is _ _ _ q ∙ then_is _ _ _ (admitted ∙ v) in (
                ap (λ (x : Took). x.answer) told,
                subst (λ (x : Took). Holds (with_image s (s.image ++ f)) x.session image' slots) (sym told)
                    (subst (λ (x : List ℕ). Holds (with_image s (s.image ++ f)) (with_walk h (passed_by h.walk (read_first f))) x slots) (sym left) (more v)),
              )
          late false q false v admitted more a b =
              (number_held r (a ∙ else_is _ _ _ q ∙ else_is _ _ _ (admitted ∙ v)), b ∙ else_is _ _ _ q ∙ else_is _ _ _ (admitted ∙ v))
      by (keys bytes) e a b c = (
        ap (λ (x : Took). x.answer) a,
        ap (λ (x : List ℕ). take (1 + length bytes) x) c ∙ keys_told (read_house line 512) (unhex (digits_of line)) bytes frame e,
        b,
        subst (λ (x : Took). Holds (keyed_now s) x.session image' slots) (sym a) (subst (λ (x : List ℕ). Holds (keyed_now s) (with_keys h) x slots) (sym b) keyed_held),
      )
      by formless e a b c = (number_held r a, b)

-- a byte that is none of Enter's prints the same under every tree
pub treeless : (frames other : List TreeFrame) (s : State) (byte : ℕ) → Fine s → is_enter byte ≡ false
    → (key_prints frames (turn_of prompt s byte) ≡ key_prints other (turn_of prompt s byte)) × (key_ends frames (turn_of prompt s byte) ≡ key_ends other (turn_of prompt s byte))
unfolding key_prints key_ends
treeless frames other s byte f n = by (turn_of prompt s byte).kind refl
  where
    t : Turn
    t = turn_of prompt s byte

    by : (q : Kind) → (turn_of prompt s byte).kind ≡ q → (turn_prints frames t q ≡ turn_prints other t q) × (turn_ends frames t q ≡ turn_ends other t q)
    by shows p = (refl, refl)
    by enters p = absurd (true_is_not_false (sym (enters_byte prompt s byte f p) ∙ n))
    by drops p = (refl, refl)

-- no second answer
pub one_line : (h : Session) (line image frame : List ℕ) (r q : Took) (i f i' f' : List ℕ) → TakingLine h line image frame r i f → TakingLine h line image frame q i' f'
    → (r ≡ q) × (i ≡ i') × (f ≡ f')
one_line h line image frame r q i f i' f' a b = (a.answer ∙ sym b.answer, a.built ∙ sym b.built, a.read ∙ sym b.read)

pub one_refusal : (number : ℕ) (out : List ℕ) (r q : Result Printing PrintRefusal) (o o' : List ℕ) → RefusingLine number out r o → RefusingLine number out q o' → (r ≡ q) × (o ≡ o')
one_refusal number out r q o o' a b = by (ltb (length out) 7) refl
  where
    by : (t : Bool) → ltb (length out) 7 ≡ t → (r ≡ q) × (o ≡ o')
    by true e = let x = a.short (ltb-true _ _ e) in let y = b.short (ltb-true _ _ e) in (x.0 ∙ sym y.0, x.1 ∙ sym y.1)
    by false e = let x = a.told (ltb-false _ _ e) in let y = b.told (ltb-false _ _ e) in (x.answer ∙ sym y.answer, x.bytes ∙ sym y.bytes)

module _ (h : Session) (image slots : List ℕ) (byte : ℕ) (out : List ℕ) (r q : Pressing) (l o l' o' : List ℕ)
    (a : PressingKey h image slots byte out r l o) (b : PressingKey h image slots byte out q l' o') where
  kept : (x : Result Printing PrintRefusal) → (r.answer ≡ x) × Kept h slots out r l o → (q.answer ≡ x) × Kept h slots out q l' o' → (r.answer ≡ q.answer) × (r.session ≡ q.session) × (l ≡ l') × (o ≡ o')
  kept x m n = (m.0 ∙ sym n.0, m.1.session ∙ sym n.1.session, m.1.held ∙ sym n.1.held, m.1.bytes ∙ sym n.1.bytes)

  pub one_press : (r.answer ≡ q.answer) × (r.session ≡ q.session) × (l ≡ l') × (o ≡ o')
  one_press = roomy (ltb (length out) key_room) refl
    where
      state : key_room ≤ length out → tree_before byte (image_of h image) ≡ Ok tt → (t : Bool) → good_state h.editor h.history slots ≡ t
          → (r.answer ≡ q.answer) × (r.session ≡ q.session) × (l ≡ l') × (o ≡ o')
      state m g true e =
          let x = a.pressed m g e in
          let y = b.pressed m g e in
          (x.lines.answer ∙ sym y.lines.answer, x.session ∙ sym y.session, x.held ∙ sym y.held, x.lines.bytes ∙ sym y.lines.bytes)
      state m g false e = kept (Err BadState) (a.bad_state m g e) (b.bad_state m g e)

      tested : key_room ≤ length out → (x : Result ⊤ BadFrame) → tree_before byte (image_of h image) ≡ x → (r.answer ≡ q.answer) × (r.session ≡ q.session) × (l ≡ l') × (o ≡ o')
      tested m (Ok u) e = state m e (good_state h.editor h.history slots) refl
      tested m (Err refusal) e = kept (Err (BadTree refusal.number)) (a.bad_tree m refusal.number e) (b.bad_tree m refusal.number e)

      roomy : (t : Bool) → ltb (length out) key_room ≡ t → (r.answer ≡ q.answer) × (r.session ≡ q.session) × (l ≡ l') × (o ≡ o')
      roomy true e = kept (Err (NoRoom key_room)) (a.short (ltb-true _ _ e)) (b.short (ltb-true _ _ e))
      roomy false e = tested (ltb-false _ _ e) (tree_before byte (image_of h image)) refl
