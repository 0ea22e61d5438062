-- Laws of a line that is taken: what its bytes are, and what the session makes of them.
use Rattle.std.specs.Prelude.{Ok, Err, Result, Some, None}
use Prim.Native.Nat.{ℕ, ◌+◌, ◌≤◌, ◌<◌, ◌/◌, ◌%◌}
use mathlib.Core.Path.{◌≡◌, refl, sym, ap, ◌∙◌}
use mathlib.Core.Bool.{Bool, true, false, cond}
use mathlib.Core.List.{List, [], ◌∷◌}
use native.Mathlib.Omega.{arith}
use borrow.Author.Tests.{eq-eqb, ne_eqb, lt-ltb, le-ltb, ltb-false}
use lib.Dec.{eqb, ltb}
use lib.ListN.{length, take, drop, get_or}
use lib.Seq.{take-append_seam}
use Rattle.buffer.specs.Write.{over}
use Rattle.buffer.proofs.Choices.{then_is, else_is}
use Rattle.frame.specs.Hex.{unhex, first_bad}
use Rattle.frame.specs.House.{ends_in_lF, digits_of, read_digits, read_house, house_leaves, left_by, HouseRead}
use Rattle.frame.specs.declared.house.HouseRefusal.{HouseRefusal}
use Rattle.frame.specs.declared.house.HouseRefusal.TheVariants.{Unended, Empty, TooLong, Odd, NoDigit, Short}
use Rattle.frame.proofs.Lines.{house_told, line_count}
use Rattle.tree.specs.declared.walk.Walk.{Walk}
use Rattle.tree.proofs.Walks.{none_taken, one_taken}
use Rattle.tree.specs.Growth.{admits, Grows}
use Rattle.session.specs.Lines.{tree, keys, formless, form_of, form_by, line_form}
use Rattle.session.specs.Calls.{with_walk, with_keys, refusing, took_by, image_by, on_line, TakingLine}
use Rattle.session.specs.declared.standing.Session.{Session}
use Rattle.session.specs.declared.taking.Taken.TheVariants.{Tree, Keys, Over, NoRoom}
use Rattle.session.specs.declared.taking.Took.{Took}

-- what the bytes of a frame are by their first
pub form_keys : (bytes : List ℕ) → 0 < length bytes → get_or bytes 0 0 ≡ 0x20 → form_of bytes ≡ keys (drop 1 bytes)
unfolding form_of
form_keys [] h e = absurd (omega arith)
form_keys (b ∷ l) h e = then_is _ _ _ (eq-eqb b 0x20 e)

pub form_tree : (bytes : List ℕ) → 0 < length bytes → (get_or bytes 0 0 ≡ 0x20 → ⊥) → form_of bytes ≡ tree bytes
unfolding form_of
form_tree [] h n = absurd (omega arith)
form_tree (b ∷ l) h n = else_is _ _ _ (ne_eqb b 0x20 n)

drop_one : (bytes : List ℕ) → 0 < length bytes → 1 + length (drop 1 bytes) ≡ length bytes
drop_one [] h = absurd (omega arith)
drop_one (b ∷ l) h = omega arith

-- keys, a frame of the tree after keys, one that the image takes, and one that it does not
abbrev pub Takes : Session → List ℕ → List ℕ → Took → List ℕ → Type 0
Takes h image bytes r left = (r ≡ took_by h image (form_of bytes)) × (left ≡ image_by h image (form_of bytes))

module _ (h : Session) (image bytes : List ℕ) (some : 0 < length bytes) where
  pub takes_keys : (h' : Session) → get_or bytes 0 0 ≡ 0x20 → h' ≡ with_keys h → Takes h image bytes (record { session = h'; answer = Keys (length bytes) }) image
  unfolding took_by image_by
  takes_keys h' e k =
      let n : length bytes ≡ 1 + length (drop 1 bytes) = sym (drop_one bytes some) in
      rw (form_keys bytes some e) (ap (λ (x : Session). told x (length bytes)) k ∙ ap (told (with_keys h)) n, refl)
    where
      told : Session → ℕ → Took
      told x n = record { session = x; answer = Keys n }

  module _ (other : get_or bytes 0 0 ≡ 0x20 → ⊥) where
    pub takes_late : (r : Took) → h.keyed ≡ true → r ≡ refusing h → Takes h image bytes r image
    unfolding took_by image_by
    takes_late r e k = rw (form_tree bytes some other) (k ∙ sym (then_is _ _ _ e), sym (then_is _ _ _ e))

    module _ (early : h.keyed ≡ false) (left : List ℕ) where
      pub takes_refused : (r : Took) → Grows h.walk bytes image None left → r ≡ refusing h → Takes h image bytes r left
      unfolding took_by image_by
      takes_refused r g k =
          let a = none_taken (admits h.walk bytes image) _ g.answer in
          rw (form_tree bytes some other) (k ∙ sym (else_is _ _ _ early ∙ else_is _ _ _ a), g.bytes ∙ else_is _ _ _ a ∙ sym (else_is _ _ _ early ∙ else_is _ _ _ a))

      pub takes_tree : (walk : Walk) (h' : Session) → Grows h.walk bytes image (Some walk) left → h' ≡ with_walk h walk → Takes h image bytes (record { session = h'; answer = Tree }) left
      unfolding took_by image_by
      takes_tree walk h' g k =
          let taken = one_taken (admits h.walk bytes image) _ walk g.answer in
          let a = taken.0 in
          rw (form_tree bytes some other)
          (ap told (k ∙ ap (with_walk h) taken.1) ∙ sym (else_is _ _ _ early ∙ then_is _ _ _ a), g.bytes ∙ then_is _ _ _ a ∙ sym (else_is _ _ _ early ∙ then_is _ _ _ a))
        where
          told : Session → Took
          told x = record { session = x; answer = Tree }

-- with room for 512 bytes a line is what it is with more
module _ (digits : List ℕ) (room : ℕ) (h : 512 ≤ room) where
  narrow : (n : ℕ) → n ≤ 1024 → ltb room (n / 2) ≡ ltb 512 (n / 2)
  narrow n k = le-ltb room (n / 2) (omega arith) ∙ sym (le-ltb 512 (n / 2) (omega arith))

  long : (b : Bool) → ltb 1024 (length digits) ≡ b → (x y z : Result ℕ HouseRefusal)
      → cond b (Err TooLong) (cond (eqb (length digits % 2) 1) (Err Odd) (cond (ltb (first_bad digits) (length digits)) z (cond (ltb room (length digits / 2)) x y)))
      ≡ cond b (Err TooLong) (cond (eqb (length digits % 2) 1) (Err Odd) (cond (ltb (first_bad digits) (length digits)) z (cond (ltb 512 (length digits / 2)) x y)))
  long true e x y z = refl
  long false e x y z = ap (λ (b : Bool). cond (eqb (length digits % 2) 1) (Err Odd) (cond (ltb (first_bad digits) (length digits)) z (cond b x y))) (narrow (length digits) (ltb-false 1024 (length digits) e))

  pub digits_room : read_digits digits room ≡ read_digits digits 512
  unfolding read_digits
  digits_room = ap (λ (x : Result ℕ HouseRefusal). cond (eqb (length digits) 0) (Err Empty) x) (long (ltb 1024 (length digits)) refl _ _ _)

pub house_room : (line : List ℕ) (room : ℕ) → 512 ≤ room → read_house line room ≡ read_house line 512
unfolding read_house
house_room line room h = ap (λ (x : Result ℕ HouseRefusal). cond (ends_in_lF line) x (Err Unended)) (digits_room (digits_of line) room h)

-- what a line is by the answer of its reader
module _ (line frame : List ℕ) (wide : 512 ≤ length frame) (r : Result ℕ HouseRefusal) (left : List ℕ) (g : HouseRead line frame r left) where
  same : r ≡ read_house line 512
  same = g.answer ∙ house_room line (length frame) wide

  pub form_none : ((n : ℕ) → r ≡ Ok n → ⊥) → line_form line ≡ formless
  unfolding line_form
  form_none k = ap (λ (x : Result ℕ HouseRefusal). form_by x (unhex (digits_of line))) (sym same) ∙ by r k
    where
      by : (x : Result ℕ HouseRefusal) → ((n : ℕ) → x ≡ Ok n → ⊥) → form_by x (unhex (digits_of line)) ≡ formless
      by (Ok n) l = absurd (l n refl)
      by (Err Unended) l = refl
      by (Err Empty) l = refl
      by (Err TooLong) l = refl
      by (Err Odd) l = refl
      by (Err (NoDigit place)) l = refl
      by (Err (Short needed)) l = refl

  module _ (n : ℕ) (e : r ≡ Ok n) where
    count : n ≡ length (unhex (digits_of line))
    count = line_count line (length frame) n (sym g.answer ∙ e)

    pub read_bytes : take n left ≡ unhex (digits_of line)
    unfolding house_leaves over
    read_bytes =
        ap (λ (x : List ℕ). take n x) (g.bytes ∙ ap (λ (x : Result ℕ HouseRefusal). left_by x (unhex (digits_of line)) frame) (sym g.answer ∙ e))
        ∙ ap (λ (i : ℕ). take i (over (unhex (digits_of line)) frame)) count
        ∙ take-append_seam (unhex (digits_of line)) (drop (length (unhex (digits_of line))) frame)

    pub read_form : line_form line ≡ form_of (take n left)
    unfolding line_form
    read_form = ap (λ (x : Result ℕ HouseRefusal). form_by x (unhex (digits_of line))) (sym same ∙ e) ∙ ap form_of (sym read_bytes)

    pub read_some : 0 < length (take n left)
    read_some =
        let f = (house_told line (length frame) n (sym g.answer ∙ e)).1 in
        let a = f.some in let b = f.even in let c = f.count in
        let d = ap length read_bytes in let m = count in omega arith

-- the call's contract
module _ (h : Session) (line image frame : List ℕ) where
  pub line_late : 65535 ≤ h.lines → TakingLine h line image frame (record { session = h; answer = Over }) image frame
  unfolding on_line
  line_late l =
      let e = le-ltb h.lines 65535 l in
      record { answer = sym (else_is _ _ _ e); built = sym (else_is _ _ _ e); read = sym (else_is _ _ _ e) }

  module _ (early : h.lines < 65535) where
    -- a choice by the session and its buffers: no room for a frame, no room for an image, or room for both
    pub frame_narrow : length frame < 512 → {A : Type 0} (late : A) (narrow : ℕ → A) (read : A) → on_line h image frame late narrow read ≡ narrow 512
    unfolding on_line
    frame_narrow l late narrow read = then_is _ _ _ (lt-ltb h.lines 65535 early) ∙ then_is _ _ _ (lt-ltb (length frame) 512 l)

    module _ (wide : 512 ≤ length frame) where
      pub image_narrow : length image < 32768 → {A : Type 0} (late : A) (narrow : ℕ → A) (read : A) → on_line h image frame late narrow read ≡ narrow 32768
      unfolding on_line
      image_narrow l late narrow read =
          then_is _ _ _ (lt-ltb h.lines 65535 early) ∙ else_is _ _ _ (le-ltb (length frame) 512 wide) ∙ then_is _ _ _ (lt-ltb (length image) 32768 l)

      pub both_wide : 32768 ≤ length image → {A : Type 0} (late : A) (narrow : ℕ → A) (read : A) → on_line h image frame late narrow read ≡ read
      unfolding on_line
      both_wide l late narrow read =
          then_is _ _ _ (lt-ltb h.lines 65535 early) ∙ else_is _ _ _ (le-ltb (length frame) 512 wide) ∙ else_is _ _ _ (le-ltb (length image) 32768 l)

    pub line_narrow : length frame < 512 → TakingLine h line image frame (record { session = h; answer = NoRoom 512 }) image frame
    line_narrow l = record { answer = sym (frame_narrow l _ _ _); built = sym (frame_narrow l _ _ _); read = sym (frame_narrow l _ _ _) }

    pub line_small : 512 ≤ length frame → length image < 32768 → TakingLine h line image frame (record { session = h; answer = NoRoom 32768 }) image frame
    line_small w l = record { answer = sym (image_narrow w l _ _ _); built = sym (image_narrow w l _ _ _); read = sym (image_narrow w l _ _ _) }

    pub line_taken : 512 ≤ length frame → 32768 ≤ length image → (x : Result ℕ HouseRefusal) (left : List ℕ) → HouseRead line frame x left → (r : Took) (image' : List ℕ)
        → (r ≡ took_by h image (line_form line)) × (image' ≡ image_by h image (line_form line)) → TakingLine h line image frame r image' left
    line_taken w l x left g r image' t =
        record { answer = t.0 ∙ sym (both_wide w l _ _ _); built = t.1 ∙ sym (both_wide w l _ _ _); read = g.bytes ∙ sym (both_wide w l _ _ _) }

    pub line_refused : 512 ≤ length frame → 32768 ≤ length image → (x : Result ℕ HouseRefusal) (left : List ℕ) → HouseRead line frame x left → (r : Took) → line_form line ≡ formless
        → r ≡ refusing h → TakingLine h line image frame r image left
    unfolding took_by image_by
    line_refused w l x left g r f k = line_taken w l x left g r image (rw f (k, refl))
