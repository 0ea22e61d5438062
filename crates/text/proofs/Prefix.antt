-- Well-formed text: it splits into characters in one way only, and the decoder finds the longest well-formed prefix.
use Prim.Native.Nat.{ℕ, ◌+◌, ◌<◌, ◌≤◌}
use mathlib.Core.Path.{◌≡◌, refl, sym, ap, ◌∙◌}
use mathlib.Core.List.{List, [], ◌∷◌, ◌++◌, append_assoc, append-nil}
use native.Mathlib.Omega.{arith}
use lib.ListN.{length, take, drop, length-append, take-append-drop}
use Rattle.buffer.proofs.Lists.{drop_end}
use lib.Seq.{drop-drop, drop_at, take_at, take-length, length-take-le}
use native.Mathlib.Nat.{le_refl}
use borrow.Author.Tests.{lt-ltb}
use types.Run.{OneOf, hit, miss}
use denote.Enum.Declared.{tag_of}
use Rattle.text.specs.contracts.utf8.Decoded.{the_type}
use Rattle.buffer.specs.Greatest.{greatest}
use Rattle.text.specs.Unicode.{low, Scalars, none, more, encode, encode_all, WellFormed}
use Rattle.text.specs.declared.utf8.Decoded.{Decoded}
use Rattle.text.specs.declared.utf8.Decoded.TheVariants.{Character, IllFormed, End}
use Rattle.text.specs.Decoding.{decode_first, Piece, character, stray, pieces_of, bytes_of, codes_of, codes_in, well_formed_length}
use Rattle.text.proofs.Encoding.{decode_sound, decode_complete}
use Rattle.text.proofs.Pieces.{begins, pieces_character, pieces_stray, pieces_none, by_pieces, Fair}

-- a text by its codes: a character more, and none
pub codes_step : (s : List ℕ) (code n : ℕ) → decode_first s ≡ Character code n → codes_in s ≡ code ∷ codes_in (drop n s)
unfolding codes_in codes_of
codes_step s code n e = rw (pieces_character s code n e)

pub codes_none : codes_in [] ≡ []
unfolding codes_in codes_of
codes_none = rw pieces_none

pub codes_end : (s : List ℕ) (at : ℕ) → length s ≤ at → codes_in (drop at s) ≡ []
codes_end s at h = rw (drop_end s at h) codes_none

-- what is no character has one of the other two tags
pub no_character : (d : Decoded) → ((code n : ℕ) → d ≡ Character code n → ⊥) → OneOf (1 ∷ 2 ∷ []) (tag_of the_type d)
no_character (Character code n) h = absurd (h code n refl)
no_character IllFormed h = hit (1 ∷ 2 ∷ []) 1 tt
no_character End h = hit (1 ∷ 2 ∷ []) 2 tt

-- where the decoder answers no character
pub codes_stop : (s : List ℕ) (d : Decoded) → decode_first s ≡ d → OneOf (1 ∷ 2 ∷ []) (tag_of the_type d) → codes_in s ≡ []
unfolding codes_in codes_of
codes_stop s (Character code n) e k = absurd (miss (1 ∷ 2 ∷ []) 0 tt k)
codes_stop s IllFormed e k = rw (pieces_stray s e)
codes_stop s End e k =
    let is : s ≡ [] = rw e at (decode_sound s) in
    rw (is, pieces_none)

-- encodings at the beginning of a text are its first characters
pub codes_of_text : (codes t : List ℕ) → Scalars codes → codes_in (encode_all codes ++ t) ≡ codes ++ codes_in t
unfolding encode_all
codes_of_text [] t none = refl
codes_of_text (n ∷ codes) t (more h hs) =
    let rest : List ℕ = encode_all codes ++ t in
    ap codes_in (append_assoc (encode n) (encode_all codes) t)
    ∙ codes_step (encode n ++ rest) n (length (encode n)) (decode_complete n rest h)
    ∙ ap (λ (l : List ℕ). n ∷ codes_in l) (drop_at (encode n) rest (length (encode n)) refl)
    ∙ ap (λ (l : List ℕ). n ∷ l) (codes_of_text codes t hs)

pub codes_are : (codes : List ℕ) → Scalars codes → codes_in (encode_all codes) ≡ codes
codes_are codes h =
    ap codes_in (sym (append-nil (encode_all codes))) ∙ codes_of_text codes [] h ∙ ap (λ (l : List ℕ). codes ++ l) codes_none ∙ append-nil codes

-- a text splits into characters in one way only
pub one_way : (codes others : List ℕ) → Scalars codes → Scalars others → encode_all codes ≡ encode_all others → codes ≡ others
one_way codes others h k e = sym (codes_are codes h) ∙ ap codes_in e ∙ codes_are others k

-- what the decoder reads as characters are scalar values, and their encodings begin the text
record Prefix (s : List ℕ) (ps : List Piece) : Type 0 where
  scalars : Scalars (codes_of ps)
  rest : List ℕ
  split : s ≡ encode_all (codes_of ps) ++ rest

prefix_empty : Prefix [] []
unfolding codes_of encode_all
prefix_empty = record { scalars = none; rest = []; split = refl }

prefix_more : (p : Piece) (s : List ℕ) → Fair p → s ≡ bytes_of p ++ drop (length (bytes_of p)) s
    → Prefix (drop (length (bytes_of p)) s) (pieces_of (drop (length (bytes_of p)) s)) → Prefix s (p ∷ pieces_of (drop (length (bytes_of p)) s))
unfolding codes_of encode_all
prefix_more (character n) s f e h =
    record {
      scalars = more f h.scalars;
      rest = h.rest;
      split = e ∙ ap (λ (l : List ℕ). encode n ++ l) h.split ∙ sym (append_assoc (encode n) _ h.rest);
    }
prefix_more (stray b) s f e h = record { scalars = none; rest = s; split = refl }

prefix : (s : List ℕ) → Prefix s (pieces_of s)
prefix = by_pieces Prefix prefix_empty prefix_more

pub codes_scalars : (s : List ℕ) → Scalars (codes_in s)
unfolding codes_in
codes_scalars s = (prefix s).scalars

codes_split : (s : List ℕ) → s ≡ encode_all (codes_in s) ++ (prefix s).rest
unfolding codes_in
codes_split s = (prefix s).split

-- the well-formed prefix is well-formed
pub prefix_is : (s : List ℕ) → take (well_formed_length s) s ≡ encode_all (codes_in s)
unfolding well_formed_length
prefix_is s =
    ap (λ (l : List ℕ). take (length (encode_all (codes_in s))) l) (codes_split s)
    ∙ take_at (encode_all (codes_in s)) (prefix s).rest (length (encode_all (codes_in s))) refl

pub prefix_fits : (s : List ℕ) → well_formed_length s ≤ length s
unfolding well_formed_length
prefix_fits s =
    let size : length s ≡ length (encode_all (codes_in s)) + length (prefix s).rest =
    ap length (codes_split s) ∙ length-append (encode_all (codes_in s)) (prefix s).rest
    in
    omega arith

pub prefix_well_formed : (s : List ℕ) → WellFormed (take (well_formed_length s) s)
prefix_well_formed s = record { codes = codes_in s; scalars = codes_scalars s; encoded = prefix_is s }

-- a well-formed beginning counts in full, so no longer prefix is well-formed
pub encode_append : (codes others : List ℕ) → encode_all (codes ++ others) ≡ encode_all codes ++ encode_all others
unfolding encode_all
encode_append [] others = refl
encode_append (n ∷ codes) others =
    ap (λ (l : List ℕ). encode n ++ l) (encode_append codes others) ∙ sym (append_assoc (encode n) (encode_all codes) (encode_all others))

pub well_formed_then : (codes t : List ℕ) → Scalars codes → well_formed_length (encode_all codes ++ t) ≡ length (encode_all codes) + well_formed_length t
unfolding well_formed_length
well_formed_then codes t h =
    ap (λ (l : List ℕ). length (encode_all l)) (codes_of_text codes t h)
    ∙ ap length (encode_append codes (codes_in t))
    ∙ length-append (encode_all codes) (encode_all (codes_in t))

pub prefix_longest : (s : List ℕ) (n : ℕ) → n ≤ length s → WellFormed (take n s) → n ≤ well_formed_length s
prefix_longest s n h w =
    let is : s ≡ encode_all w.codes ++ drop n s = sym (take-append-drop n s) ∙ ap (λ (l : List ℕ). l ++ drop n s) w.encoded in
    let size : length (encode_all w.codes) ≡ n = ap length (sym w.encoded) ∙ length-take-le n s h in
    let all : well_formed_length s ≡ length (encode_all w.codes) + well_formed_length (drop n s) =
    ap well_formed_length is ∙ well_formed_then w.codes (drop n s) w.scalars
    in
    omega arith

-- a text is well-formed exactly if its well-formed prefix is all of it
pub whole_is : (s : List ℕ) → WellFormed s → well_formed_length s ≡ length s
whole_is s w =
    let l = prefix_longest s (length s) (le_refl (length s)) (rw (take-length s) w) in
    let m = prefix_fits s in
    omega arith

pub is_whole : (s : List ℕ) → well_formed_length s ≡ length s → WellFormed s
is_whole s e = rw (e, take-length s) at (prefix_well_formed s)

-- and then its characters are all of it
pub codes_whole : (s : List ℕ) → well_formed_length s ≡ length s → encode_all (codes_in s) ≡ s
codes_whole s e = sym (prefix_is s) ∙ ap (λ (n : ℕ). take n s) e ∙ take-length s

-- a character more
pub prefix_step : (s : List ℕ) (code n : ℕ) → decode_first s ≡ Character code n → well_formed_length s ≡ n + well_formed_length (drop n s)
unfolding well_formed_length encode_all
prefix_step s code n e =
    let b = begins s code n e in
    ap (λ (l : List ℕ). length (encode_all l)) (codes_step s code n e)
    ∙ length-append (encode code) (encode_all (codes_in (drop n s)))
    ∙ ap (λ (k : ℕ). k + length (encode_all (codes_in (drop n s)))) (sym b.size)

pub prefix_turn : (s : List ℕ) (at code n total : ℕ) → decode_first (drop at s) ≡ Character code n
    → at + well_formed_length (drop at s) ≡ total → at + n + well_formed_length (drop (at + n) s) ≡ total
prefix_turn s at code n total e h =
    let k = prefix_step (drop at s) code n e in
    let l : well_formed_length (drop n (drop at s)) ≡ well_formed_length (drop (at + n) s) = ap well_formed_length (drop-drop n at s) in
    omega arith

-- no character more
pub prefix_none : (s : List ℕ) → codes_in s ≡ [] → well_formed_length s ≡ 0
unfolding well_formed_length encode_all
prefix_none s e = rw e

-- ASCII is well-formed
ascii_codes : (s : List ℕ) → greatest s < 0x80 → Scalars s × (s ≡ encode_all s)
unfolding greatest encode_all encode
ascii_codes [] h = (none, refl)
ascii_codes (a ∷ s) h =
    let l : a < 0x80 = omega arith in
    let k = ascii_codes s (omega arith) in
    (more (low {n = a} (omega arith)) k.0, rw (lt-ltb a 0x80 l) (ap (λ (t : List ℕ). a ∷ t) k.1))

pub ascii_well_formed : (s : List ℕ) → greatest s < 0x80 → WellFormed s
ascii_well_formed s h = let k = ascii_codes s h in record { codes = s; scalars = k.0; encoded = k.1 }

pub ascii_whole : (s : List ℕ) (r : ℕ) → r ≡ greatest s → r < 0x80 → length s ≡ well_formed_length s
ascii_whole s r e h = sym (whole_is s (ascii_well_formed s (omega arith)))
