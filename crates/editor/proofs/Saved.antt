-- Laws of the bytes that are saved of an editor: what was saved is restored, nothing in the bytes is lost, and what is restored is good.
use Rattle.std.specs.Prelude.{Some, None, Option}
use Rattle.std.specs.Result.{result_ok}
use Prim.Native.Nat.{ℕ, ◌+◌, ◌-◌, ◌≤◌}
use mathlib.Core.Path.{◌≡◌, refl, sym, ap, ◌∙◌}
use mathlib.Core.Bool.{Bool, true, false}
use mathlib.Core.List.{List, [], ◌∷◌, ◌++◌, append-nil}
use native.Mathlib.Omega.{arith}
use lib.Dec.{eqb}
use lib.ListN.{length, take, drop, get_or, length-append, length-drop, take-append-drop}
use lib.Seq.{take_at, get_or-append-add, get_or-drop, length-take-le}
use borrow.Author.Tests.{eq-eqb, ne_eqb, eqb-true}
use Rattle.buffer.proofs.Choices.{then_is, else_is}
use Rattle.buffer.proofs.Writing.{pushed_both}
use Rattle.buffer.proofs.Lending.{length_over_at}
use Rattle.buffer.specs.Write.{Pushed}
use Rattle.buffer.specs.Lend.{zeros}
use Rattle.history.proofs.States.{holds}
use Rattle.keys.specs.declared.standing.Profile.{Profile}
use Rattle.keys.specs.declared.standing.Progress.{Progress}
use Rattle.keys.specs.declared.standing.Mode.{Mode}
use Rattle.keys.specs.declared.standing.Mode.TheVariants.{Typing}
use Rattle.keys.specs.Modes.{is_profile, profile_number, profile_of, mode_number, progress_of, is_mode, mode_of, profile_in, mode_in}
use Rattle.keys.proofs.Modes.{profile_read, profile_unread, mode_read, mode_unread, profile_back, profile_is, profile_number_lem, mode_back, mode_is, numbered}
use Rattle.editor.specs.declared.line.Editor.{Editor}
use Rattle.editor.specs.Line.{limit, fresh_editor, good_editor, padded, holding}
use Rattle.editor.specs.Saved.{saved_size, saved_of, progress_in, saved_in, has_keys, has_form, is_saved, restored, Fits}
use Rattle.editor.proofs.Lines.{good_line_lem}
use Rattle.editor.proofs.States.{editor_parts}

-- restoring what was saved gives it back
abbrev tail : Editor → List ℕ
tail e = profile_number e.profile ∷ (progress_of e.mode).read ∷ (progress_of e.mode).parameter ∷ []

pub length_saved : (e : Editor) → length e.line ≡ 255 → length (saved_of e) ≡ 261
unfolding saved_of
length_saved e l = let a = length-append e.line (tail e) in omega arith

-- what stands after the line
after_line_lem : (e : Editor) (n i : ℕ) → length e.line ≡ 255 → n ≡ 258 + i → get_or (saved_of e) n 0 ≡ get_or (tail e) i 0
unfolding saved_of
after_line_lem e n i l q =
    let k : n ≡ 3 + (length e.line + i) = omega arith in
    ap (λ (j : ℕ). get_or (mode_number e.mode ∷ e.length ∷ e.cursor ∷ (e.line ++ tail e)) j 0) k
    ∙ sym (get_or-drop 3 (mode_number e.mode ∷ e.length ∷ e.cursor ∷ (e.line ++ tail e)) (length e.line + i) 0)
    ∙ get_or-append-add e.line (tail e) i 0

fields : {x y : List ℕ} {i j k l : ℕ} {u v : Mode} {p q : Profile} → x ≡ y → i ≡ j → k ≡ l → u ≡ v → p ≡ q
    → ◌≡◌ {A = Editor} (record { line = x; length = i; cursor = k; mode = u; profile = p }) (record { line = y; length = j; cursor = l; mode = v; profile = q })
fields e f g h i = cc

pub progressed : {a b c d : ℕ} → a ≡ c → b ≡ d → ◌≡◌ {A = Progress} (record { read = a; parameter = b }) (record { read = c; parameter = d })
progressed p q = cc

pub saved_progress : (e : Editor) → length e.line ≡ 255 → progress_in (saved_of e) ≡ progress_of e.mode
saved_progress e l = progressed (after_line_lem e 259 1 l (omega arith)) (after_line_lem e 260 2 l (omega arith))

saved_line : (e : Editor) → length e.line ≡ 255 → take 255 (drop 3 (saved_of e)) ≡ e.line
unfolding saved_of
saved_line e l = take_at e.line (tail e) 255 l

saved_head : (e : Editor) → (get_or (saved_of e) 0 0 ≡ mode_number e.mode) × (get_or (saved_of e) 1 0 ≡ e.length) × (get_or (saved_of e) 2 0 ≡ e.cursor)
unfolding saved_of
saved_head e = (refl, refl, refl)

pub saved_in_lem : (e : Editor) → length e.line ≡ 255 → saved_in (saved_of e) ≡ e
unfolding saved_in
saved_in_lem e l =
    let head = saved_head e in
    fields (saved_line e l) head.1 head.2
    (ap (λ (p : Progress). mode_of (get_or (saved_of e) 0 0) p) (saved_progress e l) ∙ ap (λ (n : ℕ). mode_of n (progress_of e.mode)) head.0 ∙ mode_back e.mode)
    (ap profile_of (after_line_lem e 258 0 l (omega arith)) ∙ profile_back e.profile)

-- bytes with the form of an editor are as good as the editor that they hold
saved_mode : (e : Editor) → length e.line ≡ 255 → is_mode (get_or (saved_of e) 0 0) (progress_in (saved_of e)) ≡ true
unfolding saved_of
saved_mode e l = ap (is_mode (mode_number e.mode)) (saved_progress e l) ∙ mode_is e.mode

pub saved_form : (e : Editor) → length e.line ≡ 255 → has_form (saved_of e) ≡ true
unfolding has_form has_keys saved_size
saved_form e l =
    then_is _ _ _ (eq-eqb _ _ (length_saved e l))
    ∙ then_is _ _ _ (ap is_profile (after_line_lem e 258 0 l (omega arith)) ∙ profile_is e.profile)
    ∙ saved_mode e l

pub right_form : (s : List ℕ) → has_form s ≡ true → is_saved s ≡ good_editor (saved_in s)
unfolding is_saved
right_form s h = then_is _ _ _ h

pub saved_is : (e : Editor) → length e.line ≡ 255 → is_saved (saved_of e) ≡ good_editor e
saved_is e l = right_form (saved_of e) (saved_form e l) ∙ ap good_editor (saved_in_lem e l)

-- what is restored saves as it was
record HasForm (bytes : List ℕ) : Type 0 where
  size : length bytes ≡ 261
  profile : is_profile (get_or bytes 258 0) ≡ true
  mode : is_mode (get_or bytes 0 0) (progress_in bytes) ≡ true

form_has : (s : List ℕ) → has_form s ≡ true → HasForm s
unfolding has_form has_keys saved_size
form_has s h =
    let a = holds (eqb (length s) 261) _ h in
    let b = holds (is_profile (get_or s 258 0)) _ a.1 in
    record { size = eqb-true _ _ a.0; profile = b.0; mode = b.1 }

pub record IsSaved (bytes : List ℕ) : Type 0 where
  pub form : has_form bytes ≡ true
  pub is_good_lem : good_editor (saved_in bytes) ≡ true

pub saved_has : (s : List ℕ) → is_saved s ≡ true → IsSaved s
unfolding is_saved
saved_has s h = let a = holds (has_form s) _ h in record { form = a.0; is_good_lem = a.1 }

first_three : (s : List ℕ) → 3 ≤ length s → get_or s 0 0 ∷ get_or s 1 0 ∷ get_or s 2 0 ∷ drop 3 s ≡ s
first_three [] h = absurd (omega arith)
first_three (a ∷ []) h = absurd (omega arith)
first_three (a ∷ b ∷ []) h = absurd (omega arith)
first_three (a ∷ b ∷ d ∷ s) h = refl

three : (t : List ℕ) → length t ≡ 3 → get_or t 0 0 ∷ get_or t 1 0 ∷ get_or t 2 0 ∷ [] ≡ t
three t h =
    let n = length-drop 3 t in
    ap (λ (x : List ℕ). get_or t 0 0 ∷ get_or t 1 0 ∷ get_or t 2 0 ∷ x) (sym (none (drop 3 t) (omega arith))) ∙ first_three t (omega arith)
  where
    none : (x : List ℕ) → length x ≡ 0 → x ≡ []
    none [] q = refl
    none (a ∷ x) q = absurd (omega arith)

-- the bytes after the line
last_at : (s : List ℕ) (n i : ℕ) → n ≡ 258 + i → get_or s n 0 ≡ get_or (drop 255 (drop 3 s)) i 0
last_at s n i q =
    let k : n ≡ 3 + (255 + i) = omega arith in
    ap (λ (j : ℕ). get_or s j 0) k ∙ sym (get_or-drop 3 s (255 + i) 0) ∙ sym (get_or-drop 255 (drop 3 s) i 0)

last_three : (s : List ℕ) → length s ≡ 261 → get_or s 258 0 ∷ get_or s 259 0 ∷ get_or s 260 0 ∷ [] ≡ drop 255 (drop 3 s)
last_three s l =
    let a = length-drop 3 s in
    let b = length-drop 255 (drop 3 s) in
    lists (last_at s 258 0 (omega arith)) (last_at s 259 1 (omega arith)) (last_at s 260 2 (omega arith)) ∙ three (drop 255 (drop 3 s)) (omega arith)
  where
    lists : {a b c x y z : ℕ} → a ≡ x → b ≡ y → c ≡ z → ◌≡◌ {A = List ℕ} (a ∷ b ∷ c ∷ []) (x ∷ y ∷ z ∷ [])
    lists p q r = cc

pub saved_back : (s : List ℕ) → has_form s ≡ true → saved_of (saved_in s) ≡ s
unfolding saved_of saved_in
saved_back s h =
    let k = form_has s h in
    let n = k.size in
    let m = numbered (get_or s 0 0) (progress_in s) k.mode in
    rows m.number (profile_number_lem (get_or s 258 0) k.profile) m.beside
    ∙ ap (λ (x : List ℕ). get_or s 0 0 ∷ get_or s 1 0 ∷ get_or s 2 0 ∷ (take 255 (drop 3 s) ++ x)) (last_three s n)
    ∙ ap (λ (x : List ℕ). get_or s 0 0 ∷ get_or s 1 0 ∷ get_or s 2 0 ∷ x) (take-append-drop 255 (drop 3 s))
    ∙ first_three s (omega arith)
  where
    row : ℕ → ℕ → Progress → List ℕ
    row m p q = m ∷ get_or s 1 0 ∷ get_or s 2 0 ∷ (take 255 (drop 3 s) ++ (p ∷ q.read ∷ q.parameter ∷ []))

    rows : {m m' p p' : ℕ} {q q' : Progress} → m ≡ m' → p ≡ p' → q ≡ q' → row m p q ≡ row m' p' q'
    rows a b d = cc

-- the numbers of a good editor are bytes
pub good_fits : (e : Editor) → good_editor e ≡ true → Fits e
good_fits e g = let l = good_line_lem e (editor_parts e g).1 in let a = l.short in let b = l.within in record { size = a; cursor = omega arith }

-- how the code writes them: three numbers, then the line, then three numbers
pub line_room_lem : (head line out mid : List ℕ) (at p : ℕ) → length head ≡ 3 → length line ≡ 255 → at + saved_size ≤ length out → Pushed head out at p mid
    → p + length line ≤ length mid
unfolding saved_size
line_room_lem head line out mid at p n l r w =
    let a = ap length w.bytes in
    let b = length_over_at head out at (omega arith) in
    let d = w.place in
    omega arith

pub tail_room : (head line out mid mid' : List ℕ) (at p q : ℕ) → length head ≡ 3 → length line ≡ 255 → at + saved_size ≤ length out → Pushed head out at p mid
    → Pushed line mid p q mid' → q + 3 ≤ length mid'
unfolding saved_size
tail_room head line out mid mid' at p q n l r w v =
    let a = ap length w.bytes in
    let b = length_over_at head out at (omega arith) in
    let d = w.place in
    let e = ap length v.bytes in
    let f = length_over_at line mid p (omega arith) in
    let g = v.place in
    omega arith

pub save_written : (e : Editor) (m n : ℕ) (g : Progress) (out mid mid' left : List ℕ) (at p q r : ℕ) → m ≡ mode_number e.mode → n ≡ profile_number e.profile
    → g ≡ progress_of e.mode → length e.line ≡ 255 → at + saved_size ≤ length out
    → Pushed (m ∷ e.length ∷ e.cursor ∷ []) out at p mid → Pushed e.line mid p q mid' → Pushed (n ∷ g.read ∷ g.parameter ∷ []) mid' q r left
    → Pushed (saved_of e) out at r left
unfolding saved_of saved_size
save_written e m n g out mid mid' left at p q r x y z l room a b d =
    let head : List ℕ = m ∷ e.length ∷ e.cursor ∷ [] in
    let last : List ℕ = n ∷ g.read ∷ g.parameter ∷ [] in
    let size = length-append head e.line in
    rw (sym z) (rw (sym y) (rw (sym x) (pushed_both (head ++ e.line) last out mid' left at q r (omega arith) (pushed_both head e.line out mid mid' at p q (omega arith) a b) d)))

-- the tests of bytes, in their order
pub wrong_length : (s : List ℕ) → (length s ≡ 261 → ⊥) → has_form s ≡ false
unfolding has_form saved_size
wrong_length s h = else_is _ _ _ (ne_eqb _ _ h)

pub no_profile : (s : List ℕ) → length s ≡ 261 → is_profile (get_or s 258 0) ≡ false → has_form s ≡ false
unfolding has_form has_keys saved_size
no_profile s h k = then_is _ _ _ (eq-eqb _ _ h) ∙ else_is _ _ _ k

pub with_profile : (s : List ℕ) → length s ≡ 261 → is_profile (get_or s 258 0) ≡ true → is_mode (get_or s 0 0) (progress_in s) ≡ has_form s
unfolding has_form has_keys saved_size
with_profile s h k = sym (then_is _ _ _ (eq-eqb _ _ h) ∙ then_is _ _ _ k)

-- what is restored
pub restored_is : (s : List ℕ) → is_saved s ≡ true → restored s ≡ Some (saved_in s)
unfolding restored
restored_is s h = then_is _ _ _ h

pub restored_not : (s : List ℕ) → is_saved s ≡ false → restored s ≡ None
unfolding restored
restored_not s h = else_is _ _ _ h

-- a good editor that was saved is restored, and what is restored is good
pub restored_saved : (e : Editor) → length e.line ≡ 255 → good_editor e ≡ true → restored (saved_of e) ≡ Some e
restored_saved e l g = restored_is (saved_of e) (saved_is e l ∙ g) ∙ ap Some (saved_in_lem e l)

pub record Back (e : Editor) (s : List ℕ) : Type 0 where
  pub is : is_saved s ≡ true
  pub held : e ≡ saved_in s

pub good_back : (s : List ℕ) (e : Editor) → restored s ≡ Some e → Back e s
good_back s e q = by (is_saved s) refl
  where
    by : (t : Bool) → is_saved s ≡ t → Back e s
    by true p = record { is = p; held = let r = sym q ∙ restored_is s p in cc }
    by false p = absurd (let r = sym q ∙ restored_not s p in let z : ◌≡◌ {A = ℕ} 0 1 = cc in omega arith)

pub bad_back : (s : List ℕ) → restored s ≡ None → is_saved s ≡ false
bad_back s q = by (is_saved s) refl
  where
    by : (t : Bool) → is_saved s ≡ t → t ≡ false
    by true p = absurd (let r = sym (restored_is s p) ∙ q in let z : ◌≡◌ {A = ℕ} 0 1 = cc in omega arith)
    by false p = refl

pub restored_good : (s : List ℕ) (e : Editor) → restored s ≡ Some e → good_editor e ≡ true
restored_good s e q =
    let k = good_back s e q in
    ap good_editor k.held ∙ (saved_has s k.is).is_good_lem

-- the ways through the code
pub no_form : (s : List ℕ) → has_form s ≡ false → None ≡ restored s
unfolding is_saved
no_form s h = sym (restored_not s (else_is _ _ _ h))

pub bad_editor : (s : List ℕ) (e : Editor) → has_form s ≡ true → e ≡ saved_in s → good_editor e ≡ false → None ≡ restored s
bad_editor s e h p g = sym (restored_not s (right_form s h ∙ ap good_editor (sym p) ∙ g))

pub editor_restored : (s : List ℕ) (e : Editor) → has_form s ≡ true → e ≡ saved_in s → good_editor e ≡ true → Some e ≡ restored s
editor_restored s e h p g = ap Some p ∙ sym (restored_is s (right_form s h ∙ ap good_editor (sym p) ∙ g))

-- the parts of an editor, read one after the other
module _ (s : List ℕ) (l : length s ≡ 261) (told : Option Profile) (a : told ≡ result_ok (profile_in (get_or s 258 0))) where
  pub profile_missing : told ≡ None → None ≡ restored s
  profile_missing q = no_form s (no_profile s l (profile_unread (get_or s 258 0) (sym a ∙ q)))

  module _ (p : Profile) (q : told ≡ Some p) (found : Option Mode) (b : found ≡ mode_in (get_or s 0 0) (progress_in s)) where
    known : (is_profile (get_or s 258 0) ≡ true) × (p ≡ profile_of (get_or s 258 0))
    known = profile_read (get_or s 258 0) p (sym a ∙ q)

    pub mode_missing : found ≡ None → None ≡ restored s
    mode_missing d = no_form s (sym (with_profile s l known.0) ∙ mode_unread (get_or s 0 0) (progress_in s) (sym b ∙ d))

    pub parts_read : (m : Mode) → found ≡ Some m → (has_form s ≡ true) × (m ≡ mode_of (get_or s 0 0) (progress_in s)) × (p ≡ profile_of (get_or s 258 0))
    parts_read m d =
        let n = mode_read (get_or s 0 0) (progress_in s) m (sym b ∙ d) in
        (sym (with_profile s l known.0) ∙ n.0, n.1, known.1)

pub form_size : (s : List ℕ) → has_form s ≡ true → length s ≡ saved_size
unfolding saved_size
form_size s h = (form_has s h).size

-- the line of an editor, as it is read
whole_held : (s : List ℕ) (n : ℕ) (m : Mode) (p : Profile) (w : Editor) → length s ≡ 255 → w ≡ holding s n m p → w.line ≡ s
unfolding holding padded limit zeros
whole_held s n m p w l q =
    let z : 255 - length s ≡ 0 = omega arith in
    ap (λ (x : Editor). x.line) q ∙ ap (λ (k : ℕ). s ++ zeros k) z ∙ append-nil s

kept_profile : (s : List ℕ) (n : ℕ) (m : Mode) (p : Profile) (w : Editor) → w ≡ holding s n m p → w.profile ≡ p
unfolding holding
kept_profile s n m p w q = ap (λ (x : Editor). x.profile) q

part_size : (s part : List ℕ) → length s ≡ saved_size → part ≡ take 255 (drop 3 s) → length part ≡ 255
unfolding saved_size
part_size s part l d = let k = length-drop 3 s in ap length d ∙ length-take-le 255 (drop 3 s) (omega arith)

pub editor_read : (s part : List ℕ) (w : Editor) (f m : Mode) (p : Profile) (size cursor : ℕ) → length s ≡ saved_size → part ≡ take 255 (drop 3 s)
    → w ≡ holding part (length part) f p → p ≡ profile_of (get_or s 258 0) → size ≡ get_or s 1 0 → cursor ≡ get_or s 2 0 → m ≡ mode_of (get_or s 0 0) (progress_in s)
    → record { line = w.line; length = size; cursor = cursor; mode = m; profile = w.profile } ≡ saved_in s
unfolding saved_in
editor_read s part w f m p size cursor l d q r a b n =
    fields (whole_held part (length part) f p w (part_size s part l d) q ∙ d) a b n (kept_profile part (length part) f p w q ∙ r)

-- the fresh editor of a profile, holding a text
pub held_by : (e w : Editor) (p : Profile) (text : List ℕ) → e ≡ fresh_editor p → w ≡ holding text (length text) e.mode e.profile
    → w ≡ holding text (length text) Typing p
held_by e w p text q r = r ∙ ap (λ (x : Editor). holding text (length text) x.mode x.profile) q

pub read_mode : (m : Mode) (a b : ℕ) (p q : Progress) → m ≡ mode_of a p → a ≡ b → p ≡ q → m ≡ mode_of b q
read_mode m a b p q x y z = x ∙ ap (λ (n : ℕ). mode_of n p) y ∙ ap (mode_of b) z

pub part_short : (s part : List ℕ) → length s ≡ saved_size → part ≡ take 255 (drop 3 s) → length part ≤ limit
unfolding limit
part_short s part l d = let k = part_size s part l d in omega arith
