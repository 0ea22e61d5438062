-- A text as pieces: how its first piece is found, and that the pieces are the text, no more and no less.
use Prim.Native.Nat.{ℕ, zero, suc, pred, ◌+◌, ◌<◌, ◌≤◌}
use mathlib.Core.Path.{◌≡◌, refl, sym, ap, ◌∙◌}
use mathlib.Core.Bool.{Bool, true, false, cond}
use mathlib.Core.List.{List, [], ◌∷◌, ◌++◌}
use native.Mathlib.Omega.{arith}
use lib.Dec.{ltb}
use lib.ListN.{take, length, drop, get_or, length-append, length-drop}
use lib.Seq.{drop-nil, take_at}
use Rattle.text.specs.Unicode.{Scalar, encode}
use Rattle.text.specs.declared.utf8.Decoded.{Decoded}
use Rattle.text.specs.declared.utf8.Decoded.TheVariants.{Character, IllFormed, End}
use Rattle.text.specs.Decoding.{decode_first, Piece, character, stray, on_decoded, pieces_from, pieces_of, bytes_of, bytes_all}
use Rattle.text.proofs.Encoding.{Begins, decode_sound}

-- an encoding has at least one byte
some_byte : (p q r : Bool) (w x y z : List ℕ) → 0 < length w → 0 < length x → 0 < length y → 0 < length z
    → 0 < length (cond p w (cond q x (cond r y z)))
some_byte true q r w x y z h k l m = h
some_byte false true r w x y z h k l m = k
some_byte false false true w x y z h k l m = l
some_byte false false false w x y z h k l m = m

pub encode_some : (n : ℕ) → 0 < length (encode n)
unfolding encode
encode_some n = some_byte (ltb n 0x80) (ltb n 0x800) (ltb n 0x10000) _ _ _ _ (omega arith) (omega arith) (omega arith) (omega arith)

pub piece_some : (p : Piece) → 0 < length (bytes_of p)
piece_some (character code) = encode_some code
piece_some (stray b) = omega arith

-- bytes that are read already are passed over
pub skip : (s : List ℕ) (j : ℕ) → pieces_from s j ≡ pieces_of (drop j s)
unfolding pieces_from pieces_of
skip [] j = rw (drop-nil {A = ℕ} j)
skip (a ∷ s) zero = refl
skip (a ∷ s) (suc j) = skip s j

drop_pred : (a : ℕ) (s : List ℕ) (n : ℕ) → 0 < n → drop (pred n) s ≡ drop n (a ∷ s)
drop_pred a s zero h = absurd (omega arith)
drop_pred a s (suc n) h = refl

-- where the decoder answers a character of n bytes, the text has them
pub begins : (s : List ℕ) (code n : ℕ) → decode_first s ≡ Character code n → Begins s code n
begins s code n e = rw e at (decode_sound s)

pub character_some : (s : List ℕ) (code n : ℕ) → decode_first s ≡ Character code n → 0 < n
character_some s code n e = omega (arith, (begins s code n e).size, encode_some code)

pub character_fits : (s : List ℕ) (at code n : ℕ) → decode_first (drop at s) ≡ Character code n → at + n ≤ length s
character_fits s at code n e =
    let b = begins (drop at s) code n e in
    let some = character_some (drop at s) code n e in
    let size : length (drop at s) ≡ length (encode code) + length (drop n (drop at s)) =
    ap length b.bytes ∙ length-append (encode code) (drop n (drop at s))
    in
    omega (arith, b.size, length-drop at s)

-- the bytes of that character
pub character_bytes : (s : List ℕ) (code n : ℕ) → decode_first s ≡ Character code n → take n s ≡ encode code
character_bytes s code n e =
    let b = begins s code n e in
    ap (take n) b.bytes ∙ take_at (encode code) (drop n s) n (sym b.size)

-- the pieces of a text by what the decoder answers at its beginning
pub pieces_character : (s : List ℕ) (code n : ℕ) → decode_first s ≡ Character code n → pieces_of s ≡ character code ∷ pieces_of (drop n s)
unfolding pieces_from pieces_of decode_first
pieces_character [] code n e = cc
pieces_character (a ∷ s) code n e =
    let some = character_some (a ∷ s) code n e in
    ap (λ (d : Decoded). on_decoded d (λ x k. character x ∷ pieces_from s (pred k)) (stray a ∷ pieces_from s 0)) e
    ∙ ap (λ (l : List Piece). character code ∷ l) (skip s (pred n) ∙ ap pieces_of (drop_pred a s n some))

pub pieces_stray : (s : List ℕ) → decode_first s ≡ IllFormed → pieces_of s ≡ stray (get_or s 0 0) ∷ pieces_of (drop 1 s)
unfolding pieces_from pieces_of decode_first
pieces_stray [] e = cc
pieces_stray (a ∷ s) e = ap (λ (d : Decoded). on_decoded d (λ x k. character x ∷ pieces_from s (pred k)) (stray a ∷ pieces_from s 0)) e

pub pieces_none : pieces_of [] ≡ []
unfolding pieces_from pieces_of
pieces_none = refl

-- a character is a scalar value
abbrev pub Fair : Piece → Type 0
Fair (character code) = Scalar code
Fair (stray b) = Unit {0}

-- the first piece of a text, with the bytes that it stands for and the rest
pub data Front (s : List ℕ) : List Piece → Type 0 where
  nothing : s ≡ [] → Front s []
  first : {p : Piece} → Fair p → s ≡ bytes_of p ++ drop (length (bytes_of p)) s → Front s (p ∷ pieces_of (drop (length (bytes_of p)) s))

by_stray : (s : List ℕ) → decode_first s ≡ IllFormed → Front s (pieces_of s)
unfolding decode_first
by_stray [] e = absurd (let z : ◌≡◌ {A = ℕ} 0 1 = cc in omega arith)
by_stray (a ∷ s) e = rw (pieces_stray (a ∷ s) e) (first {p = stray a} tt refl)

by_answer : (s : List ℕ) (d : Decoded) → decode_first s ≡ d → Front s (pieces_of s)
by_answer s (Character code n) e =
    let b = begins s code n e in
    rw (pieces_character s code n e, b.size) (first {p = character code} b.scalar (b.bytes ∙ ap (λ (k : ℕ). encode code ++ drop k s) b.size))
by_answer s IllFormed e = by_stray s e
by_answer s End e =
    let is : s ≡ [] = rw e at (decode_sound s) in
    rw is (rw pieces_none (nothing refl))

pub front : (s : List ℕ) → Front s (pieces_of s)
front s = by_answer s (decode_first s) refl

-- the rest is shorter
rest_shorter : (s : List ℕ) (p : Piece) → s ≡ bytes_of p ++ drop (length (bytes_of p)) s → length (drop (length (bytes_of p)) s) < length s
rest_shorter s p e =
    let some = piece_some p in
    let size : length s ≡ length (bytes_of p) + length (drop (length (bytes_of p)) s) =
    ap length e ∙ length-append (bytes_of p) (drop (length (bytes_of p)) s)
    in
    omega arith

-- what holds of the empty text, and of a text if it holds after its first piece, holds of every text with its pieces
module _ (P : List ℕ → List Piece → Type 0) (empty : P [] [])
    (more : (p : Piece) (s : List ℕ) → Fair p → s ≡ bytes_of p ++ drop (length (bytes_of p)) s
    → P (drop (length (bytes_of p)) s) (pieces_of (drop (length (bytes_of p)) s)) → P s (p ∷ pieces_of (drop (length (bytes_of p)) s))) where
  within_size : (k : ℕ) (s : List ℕ) (ps : List Piece) → Front s ps → length s < k → P s ps
  within_size zero s ps f h = absurd (omega arith)
  within_size (suc k) s _ (nothing e) h = rw e empty
  within_size (suc k) s _ (first {p = p} f e) h =
      let l = rest_shorter s p e in
      more p s f e (within_size k (drop (length (bytes_of p)) s) (pieces_of (drop (length (bytes_of p)) s)) (front (drop (length (bytes_of p)) s)) (omega arith))

  pub by_pieces : (s : List ℕ) → P s (pieces_of s)
  by_pieces s = within_size (suc (length s)) s (pieces_of s) (front s) (omega arith)

-- the pieces are the text
pub pieces_bytes : (s : List ℕ) → bytes_all (pieces_of s) ≡ s
unfolding bytes_all
pieces_bytes =
    by_pieces (λ s ps. bytes_all ps ≡ s) refl
    (λ p s f e h. ap (λ (l : List ℕ). bytes_of p ++ l) h ∙ sym e)
