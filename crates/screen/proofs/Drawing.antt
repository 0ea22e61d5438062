-- Laws of a redraw: its length, its parts written one after the other, each answer, and that there is no second one.
use Rattle.std.specs.Prelude.{Ok, Err, Result}
use Prim.Native.Nat.{ℕ, zero, suc, ◌+◌, ◌-◌, ◌^◌, ◌≤◌, ◌<◌, min}
use mathlib.Core.Path.{◌≡◌, refl, sym, ap, ◌∙◌}
use mathlib.Core.List.{List, [], ◌∷◌, ◌++◌, append_assoc}
use native.Mathlib.Omega.{arith}
use lib.ListN.{length, length-append}
use borrow.Author.Tests.{lt-ltb, le-ltb}
use Rattle.buffer.specs.Write.{over, over_if_fits, Pushed}
use Rattle.buffer.proofs.Choices.{then_is, else_is}
use Rattle.buffer.proofs.Lending.{over_at_nothing}
use Rattle.buffer.proofs.Writing.{pushed_both, pushed_front}
use Rattle.screen.specs.Decimal.{decimal}
use Rattle.screen.specs.Redraw.{clear_line, move_back, redraw, greatest_number, room_answer, Redraw}
use Rattle.buffer.specs.declared.show.TooShort.{TooShort}
use Rattle.screen.proofs.Numerals.{decimal_most}

-- the move by no place, and by some
pub move_none : (n : ℕ) → n ≡ 0 → move_back n ≡ []
unfolding move_back
move_none n e = rw e

pub move_some : (n : ℕ) → (n ≡ 0 → ⊥) → move_back n ≡ (0x1B ∷ 0x5B ∷ []) ++ (decimal n ++ (0x44 ∷ []))
unfolding move_back
move_some zero h = absurd (h refl)
move_some (suc n) h = refl

pub move_length : (n : ℕ) → (n ≡ 0 → ⊥) → length (move_back n) ≡ length (decimal n) + 3
move_length n h = let l = length-append (decimal n) (0x44 ∷ []) in let m = ap length (move_some n h) in omega arith

-- with 64 bits for n the move is short
pub move_few : (n : ℕ) → n < 2 ^ 64 → length (move_back n) ≤ 23
move_few zero h = let l = ap length (move_none 0 refl) in omega arith
move_few (suc n) h =
    let m = decimal_most 19 (suc n) (omega arith) in
    let l = move_length (suc n) (λ e. absurd (omega arith)) in
    omega arith

-- the three parts of a move
pub pushed_none : (n : ℕ) (out : List ℕ) (at : ℕ) → n ≡ 0 → Pushed (move_back n) out at at out
pushed_none n out at e = rw (move_none n e) (record { place = omega arith; bytes = sym (over_at_nothing out at) })

pub pushed_move : (n : ℕ) (out mid more left : List ℕ) (at p q r : ℕ) → (n ≡ 0 → ⊥) → at + length (move_back n) ≤ length out
    → Pushed (0x1B ∷ 0x5B ∷ []) out at p mid → Pushed (decimal n) mid p q more → Pushed (0x44 ∷ []) more q r left → Pushed (move_back n) out at r left
pushed_move n out mid more left at p q r h room a b d =
    let l = move_length n h in
    let two = pushed_both (0x1B ∷ 0x5B ∷ []) (decimal n) out mid more at p q (omega arith) a b in
    let k = length-append (0x1B ∷ 0x5B ∷ []) (decimal n) in
    rw (move_some n h, ← append_assoc (0x1B ∷ 0x5B ∷ []) (decimal n) (0x44 ∷ []))
    (pushed_both ((0x1B ∷ 0x5B ∷ []) ++ decimal n) (0x44 ∷ []) out more left at q r (omega arith) two d)

module _ (prompt content : List ℕ) (cursor : ℕ) where
  pub redraw_length : length (redraw prompt content cursor) ≡ length prompt + length content + (length (move_back (length content - cursor)) + 5)
  unfolding redraw
  redraw_length =
      let m : List ℕ = move_back (length content - cursor) in
      let a = length-append content m in
      let b = length-append prompt (content ++ m) in
      omega arith

  -- the four parts of a redraw
  pub pushed_redraw : (out a b d left : List ℕ) (i j k n r : ℕ) → n ≡ length content - cursor → length (redraw prompt content cursor) ≤ length out
      → Pushed clear_line out 0 i a → Pushed prompt a i j b → Pushed content b j k d → Pushed (move_back n) d k r left → left ≡ over (redraw prompt content cursor) out
  unfolding redraw
  pushed_redraw out a b d left i j k n r e room p q s t =
      let l = redraw_length in
      let m : List ℕ = move_back (length content - cursor) in
      let la = length-append clear_line prompt in
      let lb = length-append (clear_line ++ prompt) content in
      let two = pushed_both clear_line prompt out a b 0 i j (omega arith) p q in
      let three = pushed_both (clear_line ++ prompt) content out b d 0 j k (omega arith) two s in
      let last : Pushed m d k r left = rw e at t in
      let four = pushed_both ((clear_line ++ prompt) ++ content) m out d left 0 k r (omega arith) three last in
      (pushed_front _ out left r four).bytes ∙ ap (λ (x : List ℕ). over x out) (append_assoc (clear_line ++ prompt) content m ∙ append_assoc clear_line prompt (content ++ m))

  -- each answer, with what it leaves
  module _ (out : List ℕ) (n : ℕ) (e : n ≡ min (length (redraw prompt content cursor)) greatest_number) where
    pub no_room : length out < n → Redraw prompt content cursor out (Err (record { needed = n })) out
    unfolding room_answer over_if_fits
    no_room h =
        let l : length out < length (redraw prompt content cursor) = omega arith in
        record { answer = sym (then_is _ _ _ (lt-ltb _ _ l) ∙ ap (λ (n : ℕ). Err (record { needed = n })) (sym e)); bytes = sym (then_is _ _ _ (lt-ltb _ _ l)) }

    -- a buffer has fewer than 2^63 bytes, so a length that it has is not one past the range
    pub enough : length out < 2 ^ 63 → n ≤ length out → n ≡ length (redraw prompt content cursor)
    enough h k = omega arith

    pub room : length out < 2 ^ 63 → n ≤ length out → length prompt + length content + (length (move_back (length content - cursor)) + 5) ≤ length out
    room h k = let m = enough h k in let l = redraw_length in omega arith

    pub shown : (left : List ℕ) → length out < 2 ^ 63 → n ≤ length out → left ≡ over (redraw prompt content cursor) out → Redraw prompt content cursor out (Ok n) left
    unfolding room_answer over_if_fits
    shown left h l w =
        let m = enough h l in
        let f : length (redraw prompt content cursor) ≤ length out = omega arith in
        record { answer = sym (else_is _ _ _ (le-ltb _ _ f) ∙ ap Ok (sym m)); bytes = w ∙ sym (else_is _ _ _ (le-ltb _ _ f)) }

  -- the length needed is exact where the texts and a move fit 64 bits, as all that the editor holds do
  pub needed_exact : length prompt + length content ≤ 2 ^ 63 → min (length (redraw prompt content cursor)) greatest_number ≡ length (redraw prompt content cursor)
  needed_exact h = let m = move_few (length content - cursor) (omega arith) in let l = redraw_length in omega arith

-- no second answer satisfies the contract
pub one_answer : (prompt content : List ℕ) (cursor : ℕ) (out left other : List ℕ) (r q : Result ℕ TooShort)
    → Redraw prompt content cursor out r left → Redraw prompt content cursor out q other → (r ≡ q) × (left ≡ other)
one_answer prompt content cursor out left other r q a b = (a.answer ∙ sym b.answer, a.bytes ∙ sym b.bytes)
