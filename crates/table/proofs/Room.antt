-- Why a table has room: its keys are among the names and longs of one node, each once. No pigeons are counted: with each key that is new
-- one name fewer is missing.
use Prim.Native.Nat.{ℕ, suc, ◌+◌, ◌≤◌}
use mathlib.Core.Path.{◌≡◌, refl, sym, ap, ◌∙◌}
use mathlib.Core.Bool.{Bool, true, false, cond}
use mathlib.Core.List.{List, [], ◌∷◌}
use native.Mathlib.Omega.{arith}
use lib.ListN.{length}
use Rattle.buffer.specs.Compare.{same_bytes}
use Rattle.buffer.proofs.Choices.{then_is, else_is, true_is_not_false}
use Rattle.buffer.proofs.Ordering.{same_is}
use Rattle.table.specs.Map.{Map, put, has, Rising, among, put_within}
use Rattle.table.proofs.Putting.{within_room}
use Rattle.table.proofs.Maps.{has_put, put_in, put_rises, put_length}

-- how many of the names are no key of the map
unfoldable pub missing : List (List ℕ) → Map → ℕ
missing [] m = 0
missing (j ∷ names) m = cond (has j m) (missing names m) (suc (missing names m))

pub missing_all : (names : List (List ℕ)) → missing names [] ≡ length names
unfolding missing has
missing_all [] = refl
missing_all (j ∷ names) = ap suc (missing_all names)

-- putting a key makes no name missing; what d of them fewer are missing of the rest, d fewer are missing of all
fewer : (d : ℕ) (t u : Bool) (a b : ℕ) → d + a ≤ b → (u ≡ true → t ≡ true) → d + cond t a (suc a) ≤ cond u b (suc b)
fewer d true true a b h i = h
fewer d true false a b h i = omega arith
fewer d false true a b h i = absurd (true_is_not_false (sym (i refl)))
fewer d false false a b h i = omega arith

stays : (j k v : List ℕ) (m : Map) → has j m ≡ true → has j (put k v m) ≡ true
stays j k v m e = has_put j k v m ∙ by (same_bytes j k)
  where
    by : (t : Bool) → cond t true (has j m) ≡ true
    by true = refl
    by false = e

pub missing_put : (names : List (List ℕ)) (k v : List ℕ) (m : Map) → 0 + missing names (put k v m) ≤ missing names m
unfolding missing
missing_put [] k v m = omega arith
missing_put (j ∷ names) k v m =
    fewer 0 (has j (put k v m)) (has j m) (missing names (put k v m)) (missing names m) (missing_put names k v m) (stays j k v m)

-- a name that was missing is not any more
pub missing_new : (names : List (List ℕ)) (k v : List ℕ) (m : Map) → among k names ≡ true → has k m ≡ false
    → 1 + missing names (put k v m) ≤ missing names m
unfolding missing among
missing_new [] k v m a n = absurd (true_is_not_false (sym a))
missing_new (j ∷ names) k v m a n = by (same_bytes k j) refl a (missing_put names k v m) (missing_new names k v m)
  where
    by : (t : Bool) → same_bytes k j ≡ t → cond t true (among k names) ≡ true → 0 + missing names (put k v m) ≤ missing names m
        → (among k names ≡ true → has k m ≡ false → 1 + missing names (put k v m) ≤ missing names m)
        → 1 + missing (j ∷ names) (put k v m) ≤ missing (j ∷ names) m
    by true e b h again =
        let same : k ≡ j = same_is k j e in
        let now : has j (put k v m) ≡ true = rw (sym same) (put_in k v m) in
        let old : has j m ≡ false = rw (sym same) n in
        let x : missing (j ∷ names) (put k v m) ≡ missing names (put k v m) = then_is _ _ _ now in
        let y : missing (j ∷ names) m ≡ suc (missing names m) = else_is _ _ _ old in
        omega arith
    by false e b h again =
        fewer 1 (has j (put k v m)) (has j m) (missing names (put k v m)) (missing names m) (again b n) (stays j k v m)

-- what holds of every map whose keys are all among the names: it has at most as many
pub record Bounded (names : List (List ℕ)) (m : Map) : Type 0 where
  pub rising : Rising m
  pub few : length m + missing names m ≤ length names

pub bounded_empty : (names : List (List ℕ)) → Bounded names []
bounded_empty names = record { rising = tt; few = let h = missing_all names in omega arith }

potential : (names : List (List ℕ)) (k v : List ℕ) (m : Map) → Rising m → among k names ≡ true
    → length (put k v m) + missing names (put k v m) ≤ length m + missing names m
potential names k v m r a = by (has k m) refl (put_length k v m r)
  where
    by : (t : Bool) → has k m ≡ t → length (put k v m) ≡ cond t (length m) (suc (length m)) → length (put k v m) + missing names (put k v m) ≤ length m + missing names m
    by true e l = let h = missing_put names k v m in omega arith
    by false e l = let h = missing_new names k v m a e in omega arith

pub bounded_put : (names : List (List ℕ)) (k v : List ℕ) (m : Map) → among k names ≡ true → Bounded names m → Bounded names (put k v m)
bounded_put names k v m a b =
    record { rising = put_rises k v m b.rising; few = let p = potential names k v m b.rising a in let h = b.few in omega arith }

-- ROOM: a table for as many keys as there are names never refuses one of them
pub put_fits : (most : ℕ) (names : List (List ℕ)) (k v : List ℕ) (m : Map) → length names ≤ most → among k names ≡ true → Bounded names m
    → put_within most k v m ≡ put k v m
put_fits most names k v m h a b = let p = (bounded_put names k v m a b).few in within_room most k v m (omega arith)
