-- The map of keys and values (STANDARD 7: options and flags by key bytes, a later value replaces an earlier one), as the Rust's
-- BTreeMap<String, String> has it: an association list whose keys rise strictly by bytes. Flags are such a map with empty values.
use Rattle.std.specs.Prelude.{ℕ, ◌≡◌, Bool, true, false, cond, List, [], ◌∷◌, ltb, length}
use Rattle.std.proofs.Math.Option.{Option, none, some}
use Rattle.buffer.specs.Compare.{order, same_bytes}
use Rattle.std.specs.declared.cmp.Ordering.{Ordering}
use Rattle.std.specs.declared.cmp.Ordering.TheVariants.{Less, Equal, Greater}

-- keys with their values
abbrev pub Map : Type 0
Map = List (List ℕ × List ℕ)

abbrev pub on_order : {A : Type 0} → Ordering → A → A → A → A
on_order Less less equal greater = less
on_order Equal less equal greater = equal
on_order Greater less equal greater = greater

-- BTreeMap::insert: a key goes before the first that is greater, and takes the place of its equal (7.12, 8.5)
unfoldable pub put : List ℕ → List ℕ → Map → Map
put k v [] = (k, v) ∷ []
put k v (e ∷ m) = on_order (order k e.0) ((k, v) ∷ e ∷ m) ((k, v) ∷ m) (e ∷ put k v m)

-- BTreeMap::get
unfoldable pub look : List ℕ → Map → Option (List ℕ)
look k [] = none
look k (e ∷ m) = cond (same_bytes k e.0) (some e.1) (look k m)

-- BTreeMap::contains_key (7.13)
unfoldable pub has : List ℕ → Map → Bool
has k [] = false
has k (e ∷ m) = cond (same_bytes k e.0) true (has k m)

-- its keys rise strictly: each is less than the next
abbrev pub Above : List ℕ → Map → Type 0
Above k [] = Unit
Above k (e ∷ m) = order k e.0 ≡ Less

-- (8.5)
abbrev pub Rising : Map → Type 0
Rising [] = Unit
Rising (e ∷ m) = Above e.0 m × Rising m

-- whether a key is one of these
unfoldable pub among : List ℕ → List (List ℕ) → Bool
among k [] = false
among k (j ∷ names) = cond (same_bytes k j) true (among k names)

-- BTreeMap::insert in a table for `most` keys: a new key that finds no room leaves the map as it is
unfoldable pub put_within : ℕ → List ℕ → List ℕ → Map → Map
put_within most k v m = cond (ltb most (length (put k v m))) m (put k v m)
