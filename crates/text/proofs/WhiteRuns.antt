-- A text as white space goes: what is seen at a place, and how far white space, a word and the last solid piece reach.
use Prim.Native.Nat.{ℕ, zero, suc, ◌+◌, ◌<◌, ◌≤◌}
use mathlib.Core.Path.{◌≡◌, refl, sym, ap, ◌∙◌}
use mathlib.Core.Bool.{Bool, true, false, beq}
use mathlib.Core.List.{List, [], ◌∷◌, ◌++◌}
use native.Mathlib.Omega.{arith}
use lib.ListN.{length, drop, length-append, length-drop}
use lib.Seq.{drop-drop}
use Rattle.buffer.proofs.Choices.{then_is, else_is}
use Rattle.text.specs.declared.utf8.Decoded.{Decoded}
use Rattle.text.specs.declared.utf8.Decoded.TheVariants.{Character, IllFormed}
use Rattle.text.specs.Space.{is_white_space}
use Rattle.text.proofs.Encoding.{decode_sound}
use Rattle.text.specs.Decoding.{decode_first, Piece, pieces_of, bytes_of, bytes_all}
use Rattle.text.specs.declared.apart.Seen.{Seen}
use Rattle.std.proofs.Common.{Option, None, Some}
use Rattle.text.specs.Apart.{white, run_of, trim_end, before_end}
use Rattle.text.specs.Inner.{seen_first}
use Rattle.text.proofs.Pieces.{Front, nothing, first, front, piece_some, pieces_none, pieces_character, pieces_stray, begins}

-- a piece of n bytes begins the text, white space or not
pub record Sees (t : List ℕ) (is : Bool) (n : ℕ) : Type 0 where
  pub piece : Piece
  pub told : white piece ≡ is
  pub size : n ≡ length (bytes_of piece)
  pub pieces : pieces_of t ≡ piece ∷ pieces_of (drop n t)
  pub fits : n ≤ length t
  pub some : 0 < n

abbrev pub SeesOf : List ℕ → Option Seen → Type 0
SeesOf t (Some seen) = Sees t seen.white seen.length
SeesOf t None = t ≡ []

first_fits : (t : List ℕ) (p : Piece) → t ≡ bytes_of p ++ drop (length (bytes_of p)) t → length (bytes_of p) ≤ length t
first_fits t p e =
    let size : length t ≡ length (bytes_of p) + length (drop (length (bytes_of p)) t) =
    ap length e ∙ length-append (bytes_of p) (drop (length (bytes_of p)) t)
    in
    omega arith

by_front : (t : List ℕ) (ps : List Piece) → pieces_of t ≡ ps → Front t ps → SeesOf t (seen_first ps)
by_front t _ e (nothing q) = q
by_front t _ e (first {p = p} f q) =
    record { piece = p; told = refl; size = refl; pieces = e; fits = first_fits t p q; some = piece_some p }

seen_is : (t : List ℕ) → SeesOf t (seen_first (pieces_of t))
seen_is t = by_front t (pieces_of t) refl (front t)

pub seen_here : (t : List ℕ) (seen : Seen) → seen_first (pieces_of t) ≡ Some seen → Sees t seen.white seen.length
seen_here t seen e = rw e at (seen_is t)

pub seen_end : (t : List ℕ) → seen_first (pieces_of t) ≡ None → t ≡ []
seen_end t e = rw e at (seen_is t)

-- what is seen, by what the decoder answers
pub see_character : (t : List ℕ) (code n : ℕ) → decode_first t ≡ Character code n → seen_first (pieces_of t) ≡ Some (record { white = is_white_space code; length = n })
see_character t code n e = rw (pieces_character t code n e, (begins t code n e).size)

pub see_stray : (t : List ℕ) → decode_first t ≡ IllFormed → seen_first (pieces_of t) ≡ Some (record { white = false; length = 1 })
see_stray t e = rw (pieces_stray t e)

pub see_end : (t : List ℕ) → decode_first t ≡ Decoded.End → seen_first (pieces_of t) ≡ None
see_end t e =
    let is : t ≡ [] = rw e at (decode_sound t) in
    rw (is, pieces_none)

-- the run at a place goes on by a piece of its kind, and ends at another or with the text
pub run_turn : (s : List ℕ) (at n : ℕ) (w is : Bool) (total : ℕ) → Sees (drop at s) w n → beq w is ≡ true
    → at + length (bytes_all (run_of is (pieces_of (drop at s)))) ≡ total → at + n + length (bytes_all (run_of is (pieces_of (drop (at + n) s)))) ≡ total
unfolding run_of bytes_all
run_turn s at n w is total h e q =
    let p : Piece = h.piece in
    let rest : List Piece = run_of is (pieces_of (drop n (drop at s))) in
    let b : beq (white p) is ≡ true = ap (λ (x : Bool). beq x is) h.told ∙ e in
    let step : length (bytes_all (run_of is (pieces_of (drop at s)))) ≡ n + length (bytes_all rest) =
    ap (λ (l : List Piece). length (bytes_all (run_of is l))) h.pieces
    ∙ ap (λ (l : List Piece). length (bytes_all l)) (then_is (beq (white p) is) (p ∷ rest) [] b)
    ∙ length-append (bytes_of p) (bytes_all rest)
    ∙ ap (λ (k : ℕ). k + length (bytes_all rest)) (sym h.size)
    in
    let place : length (bytes_all rest) ≡ length (bytes_all (run_of is (pieces_of (drop (at + n) s)))) =
    ap (λ (l : List ℕ). length (bytes_all (run_of is (pieces_of l)))) (drop-drop n at s)
    in
    omega arith

pub run_stop : (t : List ℕ) (w is : Bool) (n : ℕ) → Sees t w n → beq w is ≡ false → length (bytes_all (run_of is (pieces_of t))) ≡ 0
unfolding run_of bytes_all
run_stop t w is n h e =
    ap (λ (l : List Piece). length (bytes_all (run_of is l))) h.pieces
    ∙ ap (λ (l : List Piece). length (bytes_all l)) (else_is _ _ _ (ap (λ (x : Bool). beq x is) h.told ∙ e))

pub run_none : (t : List ℕ) (is : Bool) → t ≡ [] → length (bytes_all (run_of is (pieces_of t))) ≡ 0
unfolding run_of bytes_all
run_none t is e = rw (e, pieces_none)

pub sees_fits : (s : List ℕ) (at n : ℕ) (w : Bool) → Sees (drop at s) w n → (0 < n) × (at + n ≤ length s)
sees_fits s at n w h = let k = h.fits in let l = h.some in (l, omega (arith, length-drop at s))

-- the last solid piece: after it if one is left, else where the last one found ends
abbrev pub reach : ℕ → ℕ → ℕ → ℕ
reach end at zero = end
reach end at (suc n) = at + suc n

reach_some : (end at n : ℕ) → 0 < n → reach end at n ≡ at + n
reach_some end at zero h = absurd (omega arith)
reach_some end at (suc n) h = refl

pub reach_here : (at n : ℕ) → reach at at n ≡ at + n
reach_here at zero = omega arith
reach_here at (suc n) = refl

pub some_bytes : (p : Piece) (ps : List Piece) → 0 < length (bytes_all (p ∷ ps))
unfolding bytes_all
some_bytes p ps = let h = piece_some p in omega (arith, length-append (bytes_of p) (bytes_all ps))

pub length_bytes : (p : Piece) (ps : List Piece) → length (bytes_all (p ∷ ps)) ≡ length (bytes_of p) + length (bytes_all ps)
unfolding bytes_all
length_bytes p ps = length-append (bytes_of p) (bytes_all ps)

end_solid : (p : Piece) (ps : List Piece) → white p ≡ false → before_end p ps ≡ p ∷ ps
end_solid p [] e = else_is _ _ _ e
end_solid p (q ∷ ps) e = refl

end_white : (p : Piece) (ps : List Piece) (end at : ℕ) → white p ≡ true
    → reach end (at + length (bytes_of p)) (length (bytes_all ps)) ≡ reach end at (length (bytes_all (before_end p ps)))
unfolding bytes_all
end_white p [] end at e = rw e
end_white p (q ∷ ps) end at e =
    let h = some_bytes q ps in
    let k = some_bytes p (q ∷ ps) in
    let l = length_bytes p (q ∷ ps) in
    let m = reach_some end (at + length (bytes_of p)) (length (bytes_all (q ∷ ps))) h in
    let n = reach_some end at (length (bytes_all (p ∷ q ∷ ps))) k in
    omega arith

-- how far a text reaches without its white space at the end
unfoldable pub solid_length : List ℕ → ℕ
solid_length t = length (bytes_all (trim_end (pieces_of t)))

solid_step : (s : List ℕ) (at n : ℕ) (w : Bool) (h : Sees (drop at s) w n)
    → solid_length (drop at s) ≡ length (bytes_all (before_end h.piece (trim_end (pieces_of (drop (at + n) s)))))
unfolding solid_length trim_end
solid_step s at n w h =
    ap (λ (l : List Piece). length (bytes_all (trim_end l))) h.pieces
    ∙ ap (λ (l : List ℕ). length (bytes_all (before_end h.piece (trim_end (pieces_of l))))) (drop-drop n at s)

pub solid_turn : (s : List ℕ) (end at n : ℕ) (w : Bool) (total : ℕ) → Sees (drop at s) w n → w ≡ false
    → reach end at (solid_length (drop at s)) ≡ total → reach (at + n) (at + n) (solid_length (drop (at + n) s)) ≡ total
unfolding solid_length
solid_turn s end at n w total h q e =
    let rest : List Piece = trim_end (pieces_of (drop (at + n) s)) in
    let is : solid_length (drop at s) ≡ length (bytes_all (h.piece ∷ rest)) =
    solid_step s at n w h ∙ ap (λ (l : List Piece). length (bytes_all l)) (end_solid h.piece rest (h.told ∙ q))
    in
    let a = reach_here (at + n) (length (bytes_all rest)) in
    let b = reach_some end at (solid_length (drop at s)) (rw is (some_bytes h.piece rest)) in
    let l = length_bytes h.piece rest in
    let m = h.size in
    omega arith

pub white_turn : (s : List ℕ) (end at n : ℕ) (w : Bool) (total : ℕ) → Sees (drop at s) w n → w ≡ true
    → reach end at (solid_length (drop at s)) ≡ total → reach end (at + n) (solid_length (drop (at + n) s)) ≡ total
unfolding solid_length
white_turn s end at n w total h q e =
    let rest : List Piece = trim_end (pieces_of (drop (at + n) s)) in
    ap (λ (k : ℕ). reach end (at + k) (length (bytes_all rest))) h.size
    ∙ end_white h.piece rest end at (h.told ∙ q)
    ∙ ap (λ (k : ℕ). reach end at k) (sym (solid_step s at n w h))
    ∙ e

pub solid_none : (t : List ℕ) → t ≡ [] → solid_length t ≡ 0
unfolding solid_length trim_end bytes_all
solid_none t e = rw (e, pieces_none)
