-- The Rust's maps of options and of flags are ours: the same insert, and a flag's `true` is our empty value.
use Rattle.std.proofs.Common.{◌≡◌, ℕ, Bool, true, cond, List, [], ◌∷◌, refl, ap}
use Rattle.buffer.specs.Compare.{order, same_bytes}
use Rattle.std.specs.declared.cmp.Ordering.{Ordering}
use Rattle.std.specs.declared.cmp.Ordering.TheVariants.{Less, Equal, Greater}
use Rattle.table.specs.Map.{Map, on_order, put, has}
use Rattle.rust.specs.Parser.{BTreeMap, insert, contains_key}
use Rattle.rust.specs.Same.{flags_for}

pub insert_is : (k v : List ℕ) (m : Map) → insert k v m ≡ put k v m
unfolding insert put
insert_is k v [] = refl
insert_is k v (e ∷ m) = ap (λ (l : Map). on_order (order k e.0) ((k, v) ∷ e ∷ m) ((k, v) ∷ m) (e ∷ l)) (insert_is k v m)

pub contains_is : (k : List ℕ) (m : Map) → contains_key k m ≡ has k m
unfolding contains_key has
contains_is k [] = refl
contains_is k (e ∷ m) = ap (cond (same_bytes k e.0) true) (contains_is k m)

pub flag_is : (k : List ℕ) (m : Map) → insert k true (flags_for m) ≡ flags_for (put k [] m)
unfolding insert put flags_for
flag_is k [] = refl
flag_is k (e ∷ m) = by (order k e.0) (flag_is k m)
  where
    by : (o : Ordering) → insert k true (flags_for m) ≡ flags_for (put k [] m)
        → on_order o ((k, true) ∷ (e.0, true) ∷ flags_for m) ((k, true) ∷ flags_for m) ((e.0, true) ∷ insert k true (flags_for m))
        ≡ flags_for (on_order o ((k, []) ∷ e ∷ m) ((k, []) ∷ m) (e ∷ put k [] m))
    by Less more = refl
    by Equal more = refl
    by Greater more = ap (λ (l : BTreeMap Bool). (e.0, true) ∷ l) more
