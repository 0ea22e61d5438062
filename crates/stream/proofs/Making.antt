-- Moves made one after the other: each prints after the one before, and together they are one move.
use Prim.Native.Nat.{ℕ, ◌+◌, ◌≤◌}
use mathlib.Core.Path.{◌≡◌, refl, sym, ap, ◌∙◌}
use mathlib.Core.List.{List, [], ◌++◌}
use native.Mathlib.Omega.{arith}
use lib.ListN.{length, length-append, length-take, length-drop}
use Rattle.buffer.specs.Write.{over, over_at}
use Rattle.buffer.proofs.Lending.{over_at_both, over_at_nothing}
use Rattle.session.specs.Prints.{Printed, lines_of}
use Rattle.session.proofs.Printings.{lines_both}
use Rattle.stream.specs.Moves.{Stand, Move, printing, size}
use Rattle.stream.specs.Inner.{Makes}

pub size_both : (a b : List Printed) → size (a ++ b) ≡ size a + size b
size_both a b = ap length (lines_both a b) ∙ length-append (lines_of a) (lines_of b)

pub size_none : size [] ≡ 0
unfolding lines_of
size_none = refl

-- a move made at a place of a buffer comes to the same as another made at another place before: where the stream stands, the place after, and the bytes
pub record Same (m : Move) (out : List ℕ) (at : ℕ) (m₀ : Move) (out₀ : List ℕ) (at₀ : ℕ) : Type 0 where
  pub after : m.after ≡ m₀.after
  pub place : at + size m.prints ≡ at₀ + size m₀.prints
  pub bytes : over_at (lines_of m.prints) out at ≡ over_at (lines_of m₀.prints) out₀ at₀

pub same_self : (m : Move) (out : List ℕ) (at : ℕ) → Same m out at m out at
same_self m out at = record { after = refl; place = refl; bytes = refl }

-- another move that is equal
pub same_as : (m n : Move) (out : List ℕ) (at : ℕ) (m₀ : Move) (out₀ : List ℕ) (at₀ : ℕ) → n ≡ m → Same m out at m₀ out₀ at₀ → Same n out at m₀ out₀ at₀
same_as m n out at m₀ out₀ at₀ e s = rw e s

-- what is printed first stands in the buffer, and the rest is made after it
pub same_on : (before : List Printed) (m : Move) (out : List ℕ) (at : ℕ) (m₀ : Move) (out₀ : List ℕ) (at₀ : ℕ) → Same (printing before m) out at m₀ out₀ at₀ → at + size before ≤ length out
    → Same m (over_at (lines_of before) out at) (at + size before) m₀ out₀ at₀
same_on before m out at m₀ out₀ at₀ s fits =
    record {
      after = s.after;
      place = let e = s.place in let k = size_both before m.prints in omega arith;
      bytes =
          over_at_both (lines_of before) (lines_of m.prints) out at fits
          ∙ ap (λ (l : List ℕ). over_at l out at) (sym (lines_both before m.prints))
          ∙ s.bytes;
    }

-- a move that prints nothing more is made
pub same_made : (s : Stand) (out : List ℕ) (at : ℕ) (m₀ : Move) (out₀ : List ℕ) (at₀ : ℕ) → Same (record { prints = []; after = s }) out at m₀ out₀ at₀ → Makes m₀ out₀ at₀ s at out
unfolding lines_of
same_made s out at m₀ out₀ at₀ k =
    record { after = k.after; place = let e = k.place in omega (arith, e); bytes = sym (over_at_nothing out at) ∙ k.bytes }

-- whatever makes the one makes the other
pub same_then : (m : Move) (out : List ℕ) (at : ℕ) (m₀ : Move) (out₀ : List ℕ) (at₀ : ℕ) (s : Stand) (p : ℕ) (left : List ℕ) → Same m out at m₀ out₀ at₀ → Makes m out at s p left
    → Makes m₀ out₀ at₀ s p left
same_then m out at m₀ out₀ at₀ s p left k d =
    record { after = d.after ∙ k.after; place = d.place ∙ k.place; bytes = d.bytes ∙ k.bytes }

-- a text that was written in a buffer of the same length fits it
pub written_fits : (x d e : List ℕ) (o : ℕ) → o ≤ length d → e ≡ over_at x d o → length e ≡ length d → o + length x ≤ length d
unfolding over_at over
written_fits x d e o h w k =
    let n : length (over_at x d o) ≡ length d = sym (ap length w) ∙ k in
    let m = simp (length-append, length-take, length-drop) at n in omega (arith, m)
