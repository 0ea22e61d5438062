-- Bytes put after those that are held: a turn of the loop, and its three ends.
use Prim.Native.Nat.{ℕ, suc, ◌+◌, ◌≤◌, ◌<◌}
use mathlib.Core.Path.{◌≡◌, refl, sym, ap, ◌∙◌}
use mathlib.Core.Bool.{Bool, true, false, cond}
use mathlib.Core.List.{List, [], ◌∷◌}
use native.Mathlib.Omega.{arith}
use native.Mathlib.Numerals.{add-one}
use lib.Dec.{eqb, leb}
use lib.ListN.{length, take, drop, set, get_or}
use lib.Seq.{take-suc, drop-length, length-take-le}
use borrow.Author.Tests.{eq-eqb, ne_eqb, le-leb, lt-leb}
use Rattle.buffer.specs.Write.{over_at}
use Rattle.buffer.proofs.Lists.{drop_step}
use Rattle.buffer.proofs.Choices.{then_is, else_is}
use Rattle.buffer.proofs.Lending.{over_at_byte, over_at_both, over_at_nothing}
use Rattle.frame.specs.House.{LF}
use Rattle.stream.specs.Bytes.{line_room, closes}
use Rattle.stream.specs.Inner.{reach, is_closed, Holding}

-- one byte more: it ends the line, or the line goes on after it
module _ (held byte : ℕ) (bytes : List ℕ) where
  pub closes_lf : byte ≡ LF → closes held byte ≡ true
  unfolding closes
  closes_lf e = then_is _ _ _ (eq-eqb byte LF e)

  pub closes_full : line_room ≤ held + 1 → closes held byte ≡ true
  unfolding closes
  closes_full h = by (eqb byte LF)
    where
      by : (b : Bool) → cond b true (leb line_room (held + 1)) ≡ true
      by true = refl
      by false = le-leb line_room (held + 1) h

  pub closes_not : (byte ≡ LF → ⊥) → held + 1 < line_room → closes held byte ≡ false
  unfolding closes
  closes_not n h = else_is _ _ _ (ne_eqb byte LF n) ∙ lt-leb line_room (held + 1) h

  pub reach_ends : closes held byte ≡ true → (reach held (byte ∷ bytes) ≡ 1) × (is_closed held (byte ∷ bytes) ≡ true)
  unfolding reach is_closed
  reach_ends e = (then_is _ _ _ e, then_is _ _ _ e)

  pub reach_goes : closes held byte ≡ false → (reach held (byte ∷ bytes) ≡ suc (reach (held + 1) bytes)) × (is_closed held (byte ∷ bytes) ≡ is_closed (held + 1) bytes)
  unfolding reach is_closed
  reach_goes e = (else_is _ _ _ e, else_is _ _ _ e)

-- after i bytes none of them has ended the line
pub record Passing (line₀ : List ℕ) (held : ℕ) (bytes line : List ℕ) (count i : ℕ) : Type 0 where
  pub place : count ≡ held + i
  pub within : i ≤ length bytes
  pub short : count < line_room
  pub room : length line ≡ line_room
  pub first : length line₀ ≡ line_room
  pub left : line ≡ over_at (take i bytes) line₀ held
  pub reaches : reach held bytes ≡ i + reach count (drop i bytes)
  pub closing : is_closed held bytes ≡ is_closed count (drop i bytes)

pub hold_begins : (line : List ℕ) (held : ℕ) (bytes : List ℕ) → length line ≡ line_room → held < line_room → Passing line held bytes line held 0
hold_begins line held bytes e h =
    record { place = omega arith; within = omega arith; short = h; room = e; first = e; left = sym (over_at_nothing line held); reaches = omega arith; closing = refl }

module _ (line₀ : List ℕ) (held : ℕ) (bytes line : List ℕ) (count i : ℕ) (p : Passing line₀ held bytes line count i) where
  module _ (more : i < length bytes) where
    byte : ℕ
    byte = get_or bytes i 0

    stored : set line count (get_or bytes i 0) ≡ over_at (take (i + 1) bytes) line₀ held
    stored =
        let n : length (take i bytes) ≡ i = length-take-le i bytes p.within in
        let at : count ≡ held + length (take i bytes) = let q = p.place in omega arith in
        let fits : held + length (take i bytes) ≤ length line₀ = let q = p.place in let s = p.short in let f = p.first in omega arith in
        over_at_byte line count (get_or bytes i 0) (let s = p.short in let r = p.room in omega arith)
        ∙ ap (λ (l : List ℕ). over_at (get_or bytes i 0 ∷ []) l count) p.left
        ∙ ap (over_at (get_or bytes i 0 ∷ []) (over_at (take i bytes) line₀ held)) at
        ∙ over_at_both (take i bytes) (get_or bytes i 0 ∷ []) line₀ held fits
        ∙ ap (λ (l : List ℕ). over_at l line₀ held) (sym (take-suc bytes i 0 more) ∙ ap (λ (m : ℕ). take m bytes) (sym (add-one i)))

    here : drop i bytes ≡ get_or bytes i 0 ∷ drop (i + 1) bytes
    here = drop_step bytes i 0 more

    ends_here : closes count (get_or bytes i 0) ≡ true → Holding line₀ held bytes (count + 1) true (set line count (get_or bytes i 0))
    ends_here e =
        let told = reach_ends count (get_or bytes i 0) (drop (i + 1) bytes) e in
        let n : reach held bytes ≡ i + 1 = p.reaches ∙ ap (λ (l : List ℕ). i + reach count l) here ∙ ap (λ (m : ℕ). i + m) told.0 in
        record {
          counts = let q = p.place in omega (arith, n);
          closes = sym (p.closing ∙ ap (is_closed count) here ∙ told.1);
          left = stored ∙ ap (λ (m : ℕ). over_at (take m bytes) line₀ held) (sym n);
        }

    pub hold_lf : get_or bytes i 0 ≡ LF → Holding line₀ held bytes (count + 1) true (set line count (get_or bytes i 0))
    hold_lf e = ends_here (closes_lf count (get_or bytes i 0) [] e)

    pub hold_full : line_room ≤ count + 1 → Holding line₀ held bytes (count + 1) true (set line count (get_or bytes i 0))
    hold_full h = ends_here (closes_full count (get_or bytes i 0) [] h)

    pub hold_goes : (get_or bytes i 0 ≡ LF → ⊥) → count + 1 < line_room → length (set line count (get_or bytes i 0)) ≡ line_room
        → Passing line₀ held bytes (set line count (get_or bytes i 0)) (count + 1) (i + 1)
    hold_goes n h size =
        let told = reach_goes count (get_or bytes i 0) (drop (i + 1) bytes) (closes_not count (get_or bytes i 0) [] n h) in
        record {
          place = let q = p.place in omega arith;
          within = omega arith;
          short = h;
          room = size;
          first = p.first;
          left = stored;
          reaches = let e : reach held bytes ≡ i + suc (reach (count + 1) (drop (i + 1) bytes)) = p.reaches ∙ ap (λ (l : List ℕ). i + reach count l) here ∙ ap (λ (m : ℕ). i + m) told.0 in omega (arith, e);
          closing = p.closing ∙ ap (is_closed count) here ∙ told.1;
        }

  pub hold_ends : length bytes ≤ i → Holding line₀ held bytes (held + length bytes) false line
  unfolding reach is_closed
  hold_ends h =
      let n : i ≡ length bytes = let w = p.within in omega arith in
      let none : drop i bytes ≡ [] = ap (λ (m : ℕ). drop m bytes) n ∙ drop-length bytes in
      let r : reach held bytes ≡ i = p.reaches ∙ ap (λ (l : List ℕ). i + reach count l) none ∙ (omega arith) in
      record {
        counts = omega (arith, r);
        closes = sym (p.closing ∙ ap (is_closed count) none);
        left = p.left ∙ ap (λ (m : ℕ). over_at (take m bytes) line₀ held) (sym r);
      }
