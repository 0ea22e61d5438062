-- White space as Rust's std has it, in words that neither side uses: White_Space as Unicode's PropList.txt lists it (version 17.0.0), row by row, and the words between white space.
use Prim.Native.Nat.{ℕ, suc, ◌+◌, ◌-◌, ◌≤◌}
use mathlib.Core.Path.{◌≡◌, refl, sym, ap, ◌∙◌}
use mathlib.Core.Bool.{Bool, true, false, cond}
use mathlib.Core.List.{List, [], ◌∷◌, ◌++◌, map, append_assoc, append-nil}
use mathlib.Core.Logic.{◌⊎◌, inl, inr}
use native.Mathlib.Omega.{arith}
use lib.Dec.{eqb, leb}
use borrow.Author.Tests.{eqb-true, leb-true}
use Rattle.text.specs.Decoding.{Piece, pieces_of, bytes_all}
use Rattle.text.specs.Space.{white_space, among, is_white_space}
use Rattle.text.specs.Apart.{white, unless_empty, words_after, words_between}
use Rattle.text.proofs.Spaces.{all_of, all_below, below_passes}

-- a row of the list: its first and its last code point
abbrev pub Row : Type 0
Row = ℕ × ℕ

-- 0009..000D, 0020, 0085, 00A0, 1680, 2000..200A, 2028, 2029, 202F, 205F, 3000
abbrev pub prop_list : List Row
prop_list =
    (0x0009, 0x000D) ∷ (0x0020, 0x0020) ∷ (0x0085, 0x0085) ∷ (0x00A0, 0x00A0) ∷ (0x1680, 0x1680) ∷ (0x2000, 0x200A) ∷ (0x2028, 0x2028) ∷ (0x2029, 0x2029)
    ∷ (0x202F, 0x202F) ∷ (0x205F, 0x205F) ∷ (0x3000, 0x3000) ∷ []

-- a code point that stands in one of several rows
abbrev pub Listed : ℕ → List Row → Type 0
Listed n [] = ⊥
Listed n (row ∷ rows) = ((row.0 ≤ n) × (n ≤ row.1)) ⊎ Listed n rows

-- the same as a test
listed : ℕ → List Row → Bool
listed n [] = false
listed n (row ∷ rows) = cond (cond (leb row.0 n) (leb n row.1) false) true (listed n rows)

listed_is : (n : ℕ) (rows : List Row) → listed n rows ≡ true → Listed n rows
unfolding listed
listed_is n [] e = let z : ◌≡◌ {A = ℕ} 0 1 = cc in omega arith
listed_is n (row ∷ rows) e = by (leb row.0 n) (leb n row.1) refl refl (listed_is n rows) e
  where
    by : (a b : Bool) → leb row.0 n ≡ a → leb n row.1 ≡ b → (listed n rows ≡ true → Listed n rows) → cond (cond a b false) true (listed n rows) ≡ true → Listed n (row ∷ rows)
    by true true p q more k = inl (leb-true _ _ p, leb-true _ _ q)
    by true false p q more k = inr (more k)
    by false b p q more k = inr (more k)

-- a test that every number of a list passes, a number in it passes
among_passes : (f : ℕ → Bool) (n : ℕ) (list : List ℕ) → all_of f list ≡ true → among n list ≡ true → f n ≡ true
unfolding among
among_passes f n [] h e = cc
among_passes f n (m ∷ list) h e = by (f m) (eqb m n) refl refl (among_passes f n list) h e
  where
    by : (a b : Bool) → f m ≡ a → eqb m n ≡ b → (all_of f list ≡ true → among n list ≡ true → f n ≡ true) → cond a (all_of f list) false ≡ true → cond b true (among n list) ≡ true → f n ≡ true
    by true true p q more h k = ap f (sym (eqb-true m n q)) ∙ p
    by true false p q more h k = more h k
    by false b p q more h k = cc

-- a test that every code point of some rows passes, a code point in one of them passes
row_passes : (ℕ → Bool) → Row → Bool
row_passes f row = all_below (λ i. f (row.0 + i)) (suc row.1 - row.0)

rows_pass : (ℕ → Bool) → List Row → Bool
rows_pass f [] = true
rows_pass f (row ∷ rows) = cond (row_passes f row) (rows_pass f rows) false

row_passes_lem : (f : ℕ → Bool) (row : Row) (n : ℕ) → row_passes f row ≡ true → row.0 ≤ n → n ≤ row.1 → f n ≡ true
unfolding row_passes
row_passes_lem f row n h l m =
    let same : n ≡ row.0 + (n - row.0) = omega arith in ap f same ∙ below_passes (λ i. f (row.0 + i)) (suc row.1 - row.0) (n - row.0) h (omega arith)

rows_pass_lem : (f : ℕ → Bool) (n : ℕ) (rows : List Row) → rows_pass f rows ≡ true → Listed n rows → f n ≡ true
unfolding rows_pass
rows_pass_lem f n [] h k = absurd k
rows_pass_lem f n (row ∷ rows) h k = by (row_passes f row) refl (rows_pass_lem f n rows) h k
  where
    by : (t : Bool) → row_passes f row ≡ t → (rows_pass f rows ≡ true → Listed n rows → f n ≡ true) → cond t (rows_pass f rows) false ≡ true → ((row.0 ≤ n) × (n ≤ row.1)) ⊎ Listed n rows → f n ≡ true
    by true p more h (inl l) = row_passes_lem f row n p l.0 l.1
    by true p more h (inr l) = more h l
    by false p more h l = cc

-- code point by code point
pub white_is_listed : (n : ℕ) → is_white_space n ≡ true → Listed n prop_list
unfolding is_white_space white_space listed
white_is_listed n e = listed_is n prop_list (among_passes (λ m. listed m prop_list) n white_space refl e)

pub listed_is_white : (n : ℕ) → Listed n prop_list → is_white_space n ≡ true
unfolding is_white_space white_space among row_passes rows_pass
listed_is_white n k = rows_pass_lem is_white_space n prop_list refl k

-- a word: pieces of which none is white space
abbrev pub Solid : List Piece → Type 0
Solid [] = Unit {0}
Solid (p ∷ ps) = (white p ≡ false) × Solid ps

-- the words of a text: white space is passed over, and a word, which is not empty, goes on up to the next white space or the end
pub data WordsIn : List Piece → List (List Piece) → Type 0 where
  done : WordsIn [] []
  space : {p : Piece} {ps : List Piece} {words : List (List Piece)} → white p ≡ true → WordsIn ps words → WordsIn (p ∷ ps) words
  last : (p : Piece) (more : List Piece) → Solid (p ∷ more) → WordsIn (p ∷ more) ((p ∷ more) ∷ [])
  word : (p : Piece) (more : List Piece) (q : Piece) {ps : List Piece} {words : List (List Piece)} → Solid (p ∷ more) → white q ≡ true → WordsIn ps words
      → WordsIn ((p ∷ more) ++ (q ∷ ps)) ((p ∷ more) ∷ words)

solid_on : (ps : List Piece) (p : Piece) → Solid ps → white p ≡ false → Solid (ps ++ (p ∷ []))
solid_on [] p h e = (e, tt)
solid_on (q ∷ ps) p h e = (h.0, solid_on ps p h.1 e)

words_end : (begun : List Piece) → Solid begun → WordsIn (begun ++ []) (unless_empty begun [])
words_end [] h = done
words_end (p ∷ begun) h = rw (append-nil begun) (last p begun h)

words_then : (begun : List Piece) (q : Piece) (ps : List Piece) (words : List (List Piece)) → Solid begun → white q ≡ true → WordsIn ps words → WordsIn (begun ++ (q ∷ ps)) (unless_empty begun words)
words_then [] q ps words h e w = space e w
words_then (p ∷ begun) q ps words h e w = word p begun q h e w

words_in : (begun ps : List Piece) → Solid begun → WordsIn (begun ++ ps) (words_after begun ps)
unfolding words_after
words_in begun [] h = words_end begun h
words_in begun (p ∷ ps) h = by (white p) refl (words_in [] ps tt) (words_in (begun ++ (p ∷ [])) ps)
  where
    by : (t : Bool) → white p ≡ t → WordsIn ps (words_after [] ps) → (Solid (begun ++ (p ∷ [])) → WordsIn ((begun ++ (p ∷ [])) ++ ps) (words_after (begun ++ (p ∷ [])) ps))
        → WordsIn (begun ++ (p ∷ ps)) (cond t (unless_empty begun (words_after [] ps)) (words_after (begun ++ (p ∷ [])) ps))
    by true e fresh on = words_then begun p ps (words_after [] ps) h e fresh
    by false e fresh on = rw append_assoc at (on (solid_on begun p h e))

pub record Splitting (s : List ℕ) : Type 0 where
  pub words : List (List Piece)
  pub split : WordsIn (pieces_of s) words
  pub bytes : words_between s ≡ map bytes_all words

pub splitting : (s : List ℕ) → Splitting s
unfolding words_between
splitting s = record { words = words_after [] (pieces_of s); split = words_in [] (pieces_of s) tt; bytes = refl }
