-- Laws of the map that a table holds: what stands at a place, and what a store and an opened place make of it.
use Prim.Native.Nat.{ℕ, zero, suc, ◌+◌, ◌≤◌, ◌<◌, min}
use mathlib.Core.Path.{◌≡◌, refl, sym, ap, ◌∙◌}
use mathlib.Core.Bool.{Bool, true, false, cond, ◌||◌}
use mathlib.Core.List.{List, [], ◌∷◌, ◌++◌, map, map-append}
use native.Mathlib.Omega.{arith}
use native.Mathlib.Numerals.{add-one}
use lib.ListN.{length, take, drop, set, get_or, length-map, length-take, get_or-map}
use lib.Seq.{get_or-take, take-set-lt, length-take-le, take-length}
use Rattle.std.specs.List.{list_any}
use Rattle.std.proofs.lemmas.List.{take_min}
use Rattle.buffer.specs.Compare.{order, same_bytes}
use Rattle.std.specs.declared.cmp.Ordering.{Ordering}
use Rattle.buffer.proofs.Lists.{drop_step, drop_end}
use Rattle.table.specs.Map.{on_order, has}
use Rattle.table.specs.Inner.{seek_from, opened, key_of, value_of, entries, map_of, tabled, size_of}
use Rattle.table.specs.declared.sorted.Table.{Table}
use Rattle.std.specs.Prelude.{Ok, Err}

-- the array of a table has 64 elements, as its type says it in the logic
pub whole : (l : List ℕ) → length (map (λ (x : ℕ). x) l) ≡ 64 → length l ≡ 64
whole l h = sym (length-map l (λ (x : ℕ). x)) ∙ h

pub size_is : (t : Table) → length t.at ≡ 64 → size_of t ≡ min t.count 64
unfolding size_of
size_is t l = rw (sym l) (length-take t.count t.at)

pub size_tabled : (n : ℕ) (at : List ℕ) → n ≤ length at → size_of (tabled n at) ≡ n
unfolding size_of
size_tabled n at h = length-take-le n at h

-- what is done to each element is done to the list
module _ {A B : Type 0} (f : A → B) where
  map_set : (l : List A) (i : ℕ) (a : A) → map f (set l i a) ≡ set (map f l) i (f a)
  map_set [] i a = refl
  map_set (x ∷ l) zero a = refl
  map_set (x ∷ l) (suc i) a = ap (λ (t : List B). f x ∷ t) (map_set l i a)

  map_take : (l : List A) (i : ℕ) → map f (take i l) ≡ take i (map f l)
  map_take [] zero = refl
  map_take [] (suc i) = refl
  map_take (x ∷ l) zero = refl
  map_take (x ∷ l) (suc i) = ap (λ (t : List B). f x ∷ t) (map_take l i)

  map_drop : (l : List A) (i : ℕ) → map f (drop i l) ≡ drop i (map f l)
  map_drop [] zero = refl
  map_drop [] (suc i) = refl
  map_drop (x ∷ l) zero = refl
  map_drop (x ∷ l) (suc i) = map_drop l i

  map_opened : (place : ℕ) (e : A) (l : List A) → map f (opened place e l) ≡ opened place (f e) (map f l)
  map_opened place e l =
      map-append f (take place l) (e ∷ drop place l)
      ∙ ap (λ (t : List B). t ++ f e ∷ map f (drop place l)) (map_take l place)
      ∙ ap (λ (t : List B). take place (map f l) ++ f e ∷ t) (map_drop l place)

module _ (words image : List ℕ) where
  -- a key with its value, as an entry has them
  abbrev pub pair : ℕ → List ℕ × List ℕ
  pair e = (key_of words image e, value_of words e)

  entry_at : (n : ℕ) (at : List ℕ) (i : ℕ) → i < n → get_or (entries words image n at) i (pair 0) ≡ pair (get_or at i 0)
  unfolding entries
  entry_at n at i h = get_or-map pair (take n at) i 0 ∙ ap pair (get_or-take n at i 0 h)

  pub entries_set : (n : ℕ) (at : List ℕ) (i e : ℕ) → i < n → entries words image n (set at i e) ≡ set (entries words image n at) i (pair e)
  unfolding entries
  entries_set n at i e h = ap (map pair) (take-set-lt n at i e h) ∙ map_set pair (take n at) i e

  pub entries_opened : (n m : ℕ) (at other : List ℕ) (place e : ℕ) → take m other ≡ opened place e (take n at) → entries words image m other ≡ opened place (pair e) (entries words image n at)
  unfolding entries
  entries_opened n m at other place e h = ap (map pair) h ∙ map_opened pair place e (take n at)

  -- the entries that count are the whole of a table of their own
  pub map_cut : (n : ℕ) (at : List ℕ) → map_of words image (tabled (length (take n at)) (take n at)) ≡ map_of words image (tabled n at)
  unfolding map_of entries
  map_cut n at = ap (map pair) (take-length (take n at))

  has_any : (k : List ℕ) (l : List ℕ) → has k (map pair l) ≡ list_any (λ e. same_bytes k (key_of words image e)) l
  unfolding has
  has_any k [] = refl
  has_any k (e ∷ l) = by (same_bytes k (key_of words image e)) (has_any k l)
    where
      by : (t : Bool) → has k (map pair l) ≡ list_any (λ e. same_bytes k (key_of words image e)) l
          → cond t true (has k (map pair l)) ≡ (t || list_any (λ e. same_bytes k (key_of words image e)) l)
      by true h = refl
      by false h = h

  -- the same of a table
  module _ (t : Table) where
    -- whether an entry that counts has the key
    pub has_some : (k : List ℕ) (n : ℕ) → n ≡ size_of t → list_any (λ e. same_bytes k (key_of words image e)) (take n t.at) ≡ has k (map_of words image t)
    unfolding map_of size_of entries
    has_some k n h =
        let cut : take n t.at ≡ take t.count t.at = ap (λ (j : ℕ). take j t.at) (h ∙ length-take t.count t.at) ∙ take_min t.count t.at in
        ap (list_any (λ e. same_bytes k (key_of words image e))) cut ∙ sym (has_any k (take t.count t.at))

    pub map_size : length (map_of words image t) ≡ size_of t
    unfolding map_of size_of entries
    map_size = length-map (take t.count t.at) pair

    pub at_place : (i : ℕ) → i < size_of t → drop i (map_of words image t) ≡ pair (get_or t.at i 0) ∷ drop (i + 1) (map_of words image t)
    unfolding map_of size_of
    at_place i h =
        let size = map_size in
        let cut = length-take t.count t.at in
        drop_step (map_of words image t) i (pair 0) (omega arith)
        ∙ ap (λ (e : List ℕ × List ℕ). e ∷ drop (i + 1) (map_of words image t)) (entry_at t.count t.at i (omega arith))

    pub at_end : (i : ℕ) → size_of t ≤ i → drop i (map_of words image t) ≡ []
    at_end i h = let size = map_size in drop_end (map_of words image t) i (omega arith)

    -- a search for a key, turn by turn
    module _ (k : List ℕ) (i : ℕ) where
      pub seek_end : size_of t ≤ i → (n : ℕ) → i ≡ n → seek_from i k (drop i (map_of words image t)) ≡ Err n
      unfolding seek_from
      seek_end h n e = ap (seek_from i k) (at_end i h) ∙ ap (λ (j : ℕ). seek_from j k []) e

      pub seek_turn : (x : List ℕ) → i < size_of t → x ≡ key_of words image (get_or t.at i 0) → (o : Ordering) → order k x ≡ o
          → seek_from i k (drop i (map_of words image t)) ≡ on_order o (Err i) (Ok i) (seek_from (i + 1) k (drop (i + 1) (map_of words image t)))
      unfolding seek_from
      seek_turn x h p o s =
          ap (seek_from i k) (at_place i h)
          ∙ ap (λ (q : Ordering). on_order q (Err i) (Ok i) (seek_from (suc i) k (drop (i + 1) (map_of words image t)))) (ap (order k) (sym p) ∙ s)
          ∙ ap (λ (n : ℕ). on_order o (Err i) (Ok i) (seek_from n k (drop (i + 1) (map_of words image t)))) (sym (add-one i))
