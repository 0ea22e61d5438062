-- How far bytes reach: up to the end of a line, or all of them; and the definition of a step, line by line.
use Prim.Native.Nat.{ℕ, suc, ◌+◌, ◌-◌, ◌≤◌, ◌<◌}
use mathlib.Core.Path.{◌≡◌, refl, sym, ap, ◌∙◌}
use mathlib.Core.Bool.{Bool, true, false, cond}
use mathlib.Core.List.{List, [], ◌∷◌, ◌++◌, append_assoc, append-nil}
use native.Mathlib.Omega.{arith}
use lib.Dec.{leb, eqb}
use lib.ListN.{length, take, drop, get_or, length-append}
use lib.Seq.{get_or-append-add}
use borrow.Author.Tests.{le-ltb, leb-false, eqb-true}
use Rattle.buffer.proofs.Choices.{else_is, true_is_not_false}
use Rattle.frame.specs.House.{LF, ends_in_lF}
use Rattle.session.specs.Lines.{Standing}
use Rattle.session.specs.Sizes.{key_room}
use Rattle.stream.specs.Bytes.{line_room, closes}
use Rattle.stream.specs.Moves.{reads, Move, size, line_move, Went, stays, printed, take_some}
use Rattle.stream.specs.Inner.{reach, is_closed, line_of}

-- how far bytes reach
pub go_on : (held byte : ℕ) → closes held byte ≡ false → (byte ≡ LF → ⊥) × (held + 1 < line_room)
unfolding closes
go_on held byte e = by (eqb byte LF) refl e
  where
    by : (b : Bool) → eqb byte LF ≡ b → cond b true (leb line_room (held + 1)) ≡ false → (byte ≡ LF → ⊥) × (held + 1 < line_room)
    by true p q = absurd (true_is_not_false q)
    by false p q = (λ f. true_is_not_false (sym (ap (λ (x : ℕ). eqb x LF) f) ∙ p), leb-false line_room (held + 1) q)

pub reach_within : (held : ℕ) (bytes : List ℕ) → reach held bytes ≤ length bytes
unfolding reach
reach_within held [] = omega arith
reach_within held (byte ∷ bytes) = by (closes held byte) (reach_within (held + 1) bytes)
  where
    by : (b : Bool) → reach (held + 1) bytes ≤ length bytes → cond b 1 (suc (reach (held + 1) bytes)) ≤ length (byte ∷ bytes)
    by true k = omega arith
    by false k = omega arith

pub reach_some : (held : ℕ) (bytes : List ℕ) → 0 < length bytes → 0 < reach held bytes
unfolding reach
reach_some held [] h = absurd (omega arith)
reach_some held (byte ∷ bytes) h = by (closes held byte)
  where
    by : (b : Bool) → 0 < cond b 1 (suc (reach (held + 1) bytes))
    by true = omega arith
    by false = omega arith

pub reach_room : (held : ℕ) (bytes : List ℕ) → held < line_room → held + reach held bytes ≤ line_room
unfolding reach
reach_room held [] h = omega arith
reach_room held (byte ∷ bytes) h = by (closes held byte) refl (reach_room (held + 1) bytes)
  where
    by : (b : Bool) → closes held byte ≡ b → (held + 1 < line_room → held + 1 + reach (held + 1) bytes ≤ line_room) → held + cond b 1 (suc (reach (held + 1) bytes)) ≤ line_room
    by true e k = omega arith
    by false e k = let l = k (go_on held byte e).1 in omega arith

-- bytes that end no line are all held, and there is room after them
pub open_all : (held : ℕ) (bytes : List ℕ) → is_closed held bytes ≡ false → held < line_room → (reach held bytes ≡ length bytes) × (held + length bytes < line_room)
unfolding reach is_closed
open_all held [] e h = (refl, omega arith)
open_all held (byte ∷ bytes) e h = by (closes held byte) refl e (open_all (held + 1) bytes)
  where
    by : (b : Bool) → closes held byte ≡ b → cond b true (is_closed (held + 1) bytes) ≡ false
        → (is_closed (held + 1) bytes ≡ false → held + 1 < line_room → (reach (held + 1) bytes ≡ length bytes) × (held + 1 + length bytes < line_room))
        → (cond b 1 (suc (reach (held + 1) bytes)) ≡ length (byte ∷ bytes)) × (held + length (byte ∷ bytes) < line_room)
    by true p q f = absurd (true_is_not_false q)
    by false p q f = let k = f q (go_on held byte p).1 in (ap suc k.0, let l = k.1 in omega arith)

pub ended_snoc : (l : List ℕ) (b : ℕ) → ends_in_lF (l ++ (b ∷ [])) ≡ eqb b LF
unfolding ends_in_lF
ended_snoc l b =
    let n : length (l ++ (b ∷ [])) - 1 ≡ length l + 0 = simp length-append (omega arith) in
    ap (λ (i : ℕ). eqb (get_or (l ++ (b ∷ [])) i 0) LF) n ∙ ap (λ (x : ℕ). eqb x LF) (get_or-append-add l (b ∷ []) 0 0)

pub open_unended : (held bytes : List ℕ) → ends_in_lF held ≡ false → is_closed (length held) bytes ≡ false → ends_in_lF (held ++ bytes) ≡ false
unfolding is_closed
open_unended held [] e c = ap ends_in_lF (append-nil held) ∙ e
open_unended held (byte ∷ bytes) e c = by (closes (length held) byte) refl c (open_unended (held ++ (byte ∷ [])) bytes)
  where
    no_lf : (b : Bool) → eqb byte LF ≡ b → (byte ≡ LF → ⊥) → b ≡ false
    no_lf true f k = absurd (k (eqb-true byte LF f))
    no_lf false f k = refl

    by : (b : Bool) → closes (length held) byte ≡ b → cond b true (is_closed (length held + 1) bytes) ≡ false
        → (ends_in_lF (held ++ (byte ∷ [])) ≡ false → is_closed (length (held ++ (byte ∷ []))) bytes ≡ false → ends_in_lF ((held ++ (byte ∷ [])) ++ bytes) ≡ false)
        → ends_in_lF (held ++ (byte ∷ bytes)) ≡ false
    by true p q f = absurd (true_is_not_false q)
    by false p q f =
        let n : length held + 1 ≡ length (held ++ (byte ∷ [])) = simp length-append in
        let other : eqb byte LF ≡ false = no_lf (eqb byte LF) refl (go_on (length held) byte p).0 in
        ap ends_in_lF (sym (append_assoc held (byte ∷ []) bytes))
        ∙ f (ended_snoc held byte ∙ other) (ap (λ (m : ℕ). is_closed m bytes) (sym n) ∙ q)

-- the definition, line by line
module _ (room : ℕ) (roomy : key_room ≤ room) (at : Standing) where
  -- a line that is at its end, or bytes that are held, and the bytes after them
  abbrev goes : Bool → List ℕ → List ℕ → List ℕ → Went
  goes b text all left =
      let move : Move = cond b (line_move room at text) (record { prints = []; after = reads at all }) in
      printed move.prints (take_some (room - size move.prints) move.after left)

  by_line : (held bytes : List ℕ)
      → take_some room (reads at held) bytes ≡ goes (is_closed (length held) bytes) (held ++ take (reach (length held) bytes) bytes) (held ++ bytes) (drop (reach (length held) bytes) bytes)
  unfolding take_some reach is_closed
  by_line held [] = ap (λ (l : List ℕ). stays (reads at l) []) (sym (append-nil held))
  by_line held (byte ∷ bytes) = else_is _ _ _ (le-ltb room key_room roomy) ∙ by (closes (length held) byte) refl (by_line (held ++ (byte ∷ [])) bytes)
    where
      by : (b : Bool) → closes (length held) byte ≡ b
          → take_some room (reads at (held ++ (byte ∷ []))) bytes
          ≡ goes (is_closed (length (held ++ (byte ∷ []))) bytes) ((held ++ (byte ∷ [])) ++ take (reach (length (held ++ (byte ∷ []))) bytes) bytes) ((held ++ (byte ∷ [])) ++ bytes)
          (drop (reach (length (held ++ (byte ∷ []))) bytes) bytes)
          → cond b
          (printed (line_move room at (held ++ (byte ∷ []))).prints (take_some (room - size (line_move room at (held ++ (byte ∷ []))).prints) (line_move room at (held ++ (byte ∷ []))).after bytes))
          (take_some room (reads at (held ++ (byte ∷ []))) bytes)
          ≡ goes (cond b true (is_closed (length held + 1) bytes)) (held ++ take (cond b 1 (suc (reach (length held + 1) bytes))) (byte ∷ bytes)) (held ++ (byte ∷ bytes))
          (drop (cond b 1 (suc (reach (length held + 1) bytes))) (byte ∷ bytes))
      by true e k = refl
      by false e k =
          let n : length (held ++ (byte ∷ [])) ≡ length held + 1 = simp length-append in
          k
          ∙ ap (λ (m : ℕ). goes (is_closed m bytes) ((held ++ (byte ∷ [])) ++ take (reach m bytes) bytes) ((held ++ (byte ∷ [])) ++ bytes) (drop (reach m bytes) bytes)) n
          ∙ ap (λ (l : List ℕ). goes (is_closed (length held + 1) bytes) l ((held ++ (byte ∷ [])) ++ bytes) (drop (reach (length held + 1) bytes) bytes))
          (append_assoc held (byte ∷ []) (take (reach (length held + 1) bytes) bytes))
          ∙ ap (λ (l : List ℕ). goes (is_closed (length held + 1) bytes) (held ++ (byte ∷ take (reach (length held + 1) bytes) bytes)) l (drop (reach (length held + 1) bytes) bytes))
          (append_assoc held (byte ∷ []) bytes)

  pub line_next : (held bytes : List ℕ)
      → take_some room (reads at held) bytes
      ≡ printed (line_of room at held bytes).prints (take_some (room - size (line_of room at held bytes).prints) (line_of room at held bytes).after (drop (reach (length held) bytes) bytes))
  unfolding line_of
  line_next held bytes = by_line held bytes
