-- Laws of the place of a key: how the search finds it, and what `put` does there.
use Prim.Native.Nat.{ℕ, suc, ◌+◌, ◌≤◌, ◌<◌}
use mathlib.Core.Path.{◌≡◌, refl, ap, ◌∙◌}
use mathlib.Core.List.{List, [], ◌∷◌}
use native.Mathlib.Omega.{arith}
use lib.ListN.{length, set}
use Rattle.buffer.specs.Compare.{order}
use Rattle.std.specs.declared.cmp.Ordering.{Ordering}
use Rattle.std.specs.declared.cmp.Ordering.TheVariants.{Less, Equal, Greater}
use Rattle.table.specs.Map.{Map, on_order, put}
use Rattle.table.specs.Inner.{seek_from, opened}
use Rattle.std.specs.Prelude.{Result, Ok, Err}
use Rattle.table.proofs.Maps.{put_none, put_less, put_equal, put_greater}

-- where `put` goes in a map that i keys precede: it replaces at a place, or opens one
pub record Replaced (k v : List ℕ) (m : Map) (i j : ℕ) : Type 0 where
  pub depth : ℕ
  pub place : j ≡ i + depth
  pub within : depth < length m
  pub is : put k v m ≡ set m depth (k, v)

pub record Opened (k v : List ℕ) (m : Map) (i j : ℕ) : Type 0 where
  pub depth : ℕ
  pub place : j ≡ i + depth
  pub within : depth ≤ length m
  pub is : put k v m ≡ opened depth (k, v) m

abbrev pub PutAt : List ℕ → List ℕ → Map → ℕ → Result ℕ ℕ → Type 0
PutAt k v m i (Ok j) = Replaced k v m i j
PutAt k v m i (Err j) = Opened k v m i j

module _ (k v : List ℕ) where
  deeper : (e : List ℕ × List ℕ) (m : Map) (i : ℕ) (s : Result ℕ ℕ) → order k e.0 ≡ Greater → PutAt k v m (suc i) s → PutAt k v (e ∷ m) i s
  deeper e m i (Ok j) q p =
      record {
        depth = suc p.depth;
        place = let h = p.place in omega arith;
        within = let h = p.within in omega arith;
        is = put_greater k v e m q ∙ ap (λ (l : Map). e ∷ l) p.is;
      }
  deeper e m i (Err j) q p =
      record {
        depth = suc p.depth;
        place = let h = p.place in omega arith;
        within = let h = p.within in omega arith;
        is = put_greater k v e m q ∙ ap (λ (l : Map). e ∷ l) p.is;
      }

  pub put_at : (i : ℕ) (m : Map) → PutAt k v m i (seek_from i k m)
  unfolding seek_from
  put_at i [] = record { depth = 0; place = omega arith; within = omega arith; is = put_none k v }
  put_at i (e ∷ m) = by (order k e.0) refl (put_at (suc i) m)
    where
      by : (o : Ordering) → order k e.0 ≡ o → PutAt k v m (suc i) (seek_from (suc i) k m)
          → PutAt k v (e ∷ m) i (on_order o (Err i) (Ok i) (seek_from (suc i) k m))
      by Less q again = record { depth = 0; place = omega arith; within = omega arith; is = put_less k v e m q }
      by Equal q again = record { depth = 0; place = omega arith; within = omega arith; is = put_equal k v e m q }
      by Greater q again = deeper e m i (seek_from (suc i) k m) q again
