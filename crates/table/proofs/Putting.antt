-- What `put` leaves, by what the search found: the key's place, a gap with room, or a gap in a full table.
use Prim.Native.Nat.{ℕ, ◌+◌, ◌≤◌, ◌<◌, min}
use mathlib.Core.Path.{◌≡◌, sym, ap, ◌∙◌}
use mathlib.Core.Bool.{Bool, true, false, cond}
use mathlib.Core.List.{List}
use lib.Dec.{ltb}
use native.Mathlib.Omega.{arith}
use lib.ListN.{length, take, set, length-set}
use borrow.Author.Tests.{lt-ltb, le-ltb}
use Rattle.buffer.proofs.Choices.{then_is, else_is}
use Rattle.table.specs.Map.{Map, put, Rising, put_within}
use Rattle.table.specs.Inner.{seek_from, opened, key_of, value_of, entries, map_of, tabled, capacity}
use Rattle.table.specs.declared.sorted.Table.{Table}
use Rattle.std.specs.Prelude.{Result, Ok, Err}
use Rattle.table.proofs.Maps.{put_rises}
use Rattle.table.proofs.TableMaps.{map_size, map_cut, size_is, entries_set, entries_opened}
use Rattle.table.proofs.Shifting.{length_opened}
use Rattle.table.proofs.Seeking.{Replaced, Opened, PutAt, put_at}

-- what has room is put, and what has none is not
pub within_room : (most : ℕ) (k v : List ℕ) (m : Map) → length (put k v m) ≤ most → put_within most k v m ≡ put k v m
unfolding put_within
within_room most k v m h = else_is _ _ _ (le-ltb most (length (put k v m)) h)

pub within_full : (most : ℕ) (k v : List ℕ) (m : Map) → most < length (put k v m) → put_within most k v m ≡ m
unfolding put_within
within_full most k v m h = then_is _ _ _ (lt-ltb most (length (put k v m)) h)

pub within_rises : (most : ℕ) (k v : List ℕ) (m : Map) → Rising m → Rising (put_within most k v m)
unfolding put_within
within_rises most k v m r = by (ltb most (length (put k v m)))
  where
    by : (t : Bool) → Rising (cond t m (put k v m))
    by true = r
    by false = put_rises k v m r

-- what the search among the entries that count answered for a key that was lent back
pub found_at : (words image : List ℕ) (t : Table) (k x : List ℕ) (q s : Result ℕ ℕ) → x ≡ k
    → q ≡ seek_from 0 x (map_of words image (tabled (length (take t.count t.at)) (take t.count t.at))) → q ≡ s → seek_from 0 k (map_of words image t) ≡ s
found_at words image t k x q s e r h =
    ap (λ (y : List ℕ). seek_from 0 y (map_of words image t)) (sym e)
    ∙ ap (seek_from 0 x) (sym (map_cut words image t.count t.at))
    ∙ sym r
    ∙ h

-- where `put` goes then
spotted : (k v : List ℕ) (m : Map) (s : Result ℕ ℕ) → seek_from 0 k m ≡ s → PutAt k v m 0 s
spotted k v m s e = rw e at (put_at k v 0 m)

module _ (words image : List ℕ) (t : Table) (l : length t.at ≡ 64) (e j : ℕ) where
  module _ (found : seek_from 0 (key_of words image e) (map_of words image t) ≡ Ok j) where
    replaced : Replaced (key_of words image e) (value_of words e) (map_of words image t) 0 j
    replaced = spotted _ _ _ (Ok j) found

    pub here_below : j < min t.count 64
    here_below = let p = replaced in let w = p.within in let d = p.place in let n = map_size words image t ∙ size_is t l in omega arith

    pub here_put : (r : Table) → r.count ≡ t.count → r.at ≡ set t.at j e
        → map_of words image r ≡ put_within capacity (key_of words image e) (value_of words e) (map_of words image t)
    unfolding map_of
    here_put r c b =
        let m : Map = map_of words image t in
        let k : List ℕ = key_of words image e in
        let v : List ℕ = value_of words e in
        let p = replaced in
        let d : p.depth ≡ j = let q = p.place in omega arith in
        let same : put k v m ≡ set m j (k, v) = p.is ∙ ap (λ (i : ℕ). set m i (k, v)) d in
        let n = map_size words image t ∙ size_is t l in
        let size : length (put k v m) ≡ length m = ap length same ∙ length-set m j (k, v) in
        let h = here_below in
        ap (λ (i : ℕ). entries words image i r.at) c
        ∙ ap (entries words image t.count) b
        ∙ entries_set words image t.count t.at j e (omega arith)
        ∙ sym same
        ∙ sym (within_room capacity k v m (omega arith))

  module _ (found : seek_from 0 (key_of words image e) (map_of words image t) ≡ Err j) where
    gap : Opened (key_of words image e) (value_of words e) (map_of words image t) 0 j
    gap = spotted _ _ _ (Err j) found

    pub gap_low : j ≤ min t.count 64
    gap_low = let p = gap in let w = p.within in let d = p.place in let n = map_size words image t ∙ size_is t l in omega arith

    same : put (key_of words image e) (value_of words e) (map_of words image t) ≡ opened j (key_of words image e, value_of words e) (map_of words image t)
    same =
        let p = gap in
        let d : p.depth ≡ j = let q = p.place in omega arith in
        p.is ∙ ap (λ (i : ℕ). opened i (key_of words image e, value_of words e) (map_of words image t)) d

    size : length (put (key_of words image e) (value_of words e) (map_of words image t)) ≡ min t.count 64 + 1
    size =
        let n = map_size words image t ∙ size_is t l in
        let h = gap_low in
        ap length same ∙ length_opened j (key_of words image e, value_of words e) (map_of words image t) (omega arith) ∙ ap (λ (i : ℕ). i + 1) n

    pub gap_put : t.count < 64 → (r : Table) → r.count ≡ t.count + 1 → take (t.count + 1) r.at ≡ opened j e (take t.count t.at)
        → map_of words image r ≡ put_within capacity (key_of words image e) (value_of words e) (map_of words image t)
    unfolding map_of
    gap_put h r n b =
        let s = size in
        ap (λ (i : ℕ). entries words image i r.at) n
        ∙ entries_opened words image t.count (t.count + 1) t.at r.at j e b
        ∙ sym same
        ∙ sym (within_room capacity (key_of words image e) (value_of words e) (map_of words image t) (omega arith))

    pub gap_full : 64 ≤ t.count → map_of words image t ≡ put_within capacity (key_of words image e) (value_of words e) (map_of words image t)
    gap_full h = let s = size in sym (within_full capacity (key_of words image e) (value_of words e) (map_of words image t) (omega arith))
