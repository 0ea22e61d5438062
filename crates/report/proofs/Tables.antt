-- The options and the flags of a table, one by one: what a turn of each loop takes and leaves, and how much they can come to.
use Prim.Native.Nat.{ℕ, ◌+◌, ◌-◌, ◌*◌, ◌^◌, ◌≤◌, ◌<◌}
use mathlib.Core.Path.{◌≡◌, refl}
use mathlib.Core.List.{List, [], ◌∷◌, ◌++◌, map}
use native.Mathlib.Omega.{arith}
use lib.ListN.{length, take, drop, get_or, length-append, length-take}
use lib.Seq.{get_or-take}
use borrow.Rule.Slice.PartMut.{put_mid}
use Rattle.buffer.specs.Write.{Written, Pushed}
use Rattle.buffer.proofs.Writing.{pushed_front}
use Rattle.frame.specs.Text.{text_of}
use Rattle.frame.specs.Framed.{frame_of}
use Rattle.frame.proofs.Frames.{length_frame_of}
use Rattle.frame.specs.Series.{runs}
use Rattle.table.specs.Inner.{key_of, value_of, entries, map_of, size_of}
use Rattle.table.specs.declared.sorted.Table.{Table}
use Rattle.table.proofs.TableMaps.{at_place, at_end}
use Rattle.report.specs.Report.{option_frame, flag_frame}
use Rattle.report.specs.Pairs.{Short}
use Rattle.report.proofs.Ahead.{Ahead, ahead_room, ahead_lent, ahead_turn, ahead_first, runs_more, runs_none, count_turn}

-- the kind of an option's frame is written, and its texts are ahead
pub option_kind : (k v out : List ℕ) (r : ℕ) (left : List ℕ) → length (option_frame (k, v)) ≤ length out → Pushed (0x12 ∷ []) out 0 r left
    → Ahead (option_frame (k, v)) out (text_of 2 k ++ text_of 2 v) r left
unfolding option_frame
option_kind k v out r left fits p =
    ahead_first (option_frame (k, v)) out fits (0x12 ∷ []) (text_of 2 k ++ text_of 2 v) r left refl (pushed_front (0x12 ∷ []) out left r p)

length_flag : (k v : List ℕ) → length (flag_frame (k, v)) ≡ 3 + length k
unfolding flag_frame
length_flag k v = length_frame_of 0x13 k

-- a flag's frame has its key alone, and is as long for any kind
pub flag_any : (k v out : List ℕ) → length (flag_frame (k, v)) ≤ length out → (kind : ℕ) → length (frame_of kind k) ≤ length out
flag_any k v out h kind = let l = length_flag k v in let m = length_frame_of kind k in omega arith

-- an entry has 16 bits for the length of its key and 13 for that of its value
module _ (words image : List ℕ) (e : ℕ) where
  key_short : length (key_of words image e) < 256 ^ 2
  unfolding key_of
  key_short = rw length-take (omega arith)

  value_short : length (value_of words e) < 0x2000
  unfolding value_of
  value_short = rw length-take (omega arith)

  pub pair_short : (k v : List ℕ) → k ≡ key_of words image e → v ≡ value_of words e → (length k < 256 ^ 2) × (length v < 256 ^ 2)
  pair_short k v p q = let s = value_short in (rw p key_short, rw q (omega arith))

-- frames of at most 131,072 bytes each
runs_most : {A : Type 0} (f : A → List ℕ) (g : ℕ → A) (l : List ℕ) → ((e : ℕ) → length (f (g e)) ≤ 0x20000) → length (runs f (map g l)) ≤ 0x20000 * length l
unfolding runs
runs_most f g [] h = omega arith
runs_most f g (e ∷ l) h =
    let s = length-append (f (g e)) (runs f (map g l)) in
    let k = h e in
    let more = runs_most f g l h in
    omega arith

pub pairs_most : (f : List ℕ × List ℕ → List ℕ) → Short f → (words image : List ℕ) (t : Table) → length (runs f (map_of words image t)) ≤ 0x20000 * size_of t
unfolding map_of size_of entries
pairs_most f short words image t =
    runs_most f (λ e. (key_of words image e, value_of words e)) (take t.count t.at)
    (λ e. short (key_of words image e) (value_of words e) (key_short words image e) (value_short words image e))

module _ (f : List ℕ × List ℕ → List ℕ) (words image : List ℕ) (t : Table) where
  -- the frames of the pairs from a place on
  abbrev pub pairs_at : ℕ → List ℕ
  pairs_at i = runs f (drop i (map_of words image t))

  pub pairs_end : (i : ℕ) → size_of t ≤ i → pairs_at i ≡ []
  pairs_end i h = runs_none f (drop i (map_of words image t)) (at_end words image t i h)

  -- a writing of pairs in progress
  abbrev pub AheadPairs : List ℕ → ℕ → ℕ → List ℕ → Type 0
  AheadPairs out₀ i o out = Ahead (runs f (map_of words image t)) out₀ (pairs_at i) o out

  -- a pair more, as the code finds its key and its value among the entries that count
  module _ (n i : ℕ) (m : n ≡ size_of t) (h : i < length (take n t.at)) (k v : List ℕ) (p : k ≡ key_of words image (get_or (take n t.at) i 0))
      (q : v ≡ value_of words (get_or (take n t.at) i 0)) where
    within : i < n
    within = let l = length-take {A = ℕ} n t.at in omega arith

    pair_next : pairs_at i ≡ f (k, v) ++ pairs_at (i + 1)
    pair_next =
        let g : get_or (take n t.at) i 0 ≡ get_or t.at i 0 = get_or-take n t.at i 0 within in
        rw (p, q, g) (runs_more f _ _ _ (at_place words image t i (omega (arith, m, within))))

    -- a turn of the count
    pub pair_counted : (size n whole : ℕ) → n ≡ length (f (k, v)) → size + length (pairs_at i) ≡ whole → size + n + length (pairs_at (i + 1)) ≡ whole
    pair_counted size n whole e c = count_turn size n whole _ (f (k, v)) (pairs_at (i + 1)) pair_next e c

    -- a turn of the writing
    module _ (out₀ : List ℕ) (o : ℕ) (out : List ℕ) (a : AheadPairs out₀ i o out) (fits : length (runs f (map_of words image t)) ≤ length out₀) where
      pub pair_room : o + length (f (k, v)) ≤ length out
      pair_room = ahead_room _ _ _ (f (k, v)) (pairs_at (i + 1)) o out a pair_next fits

      pub pair_lent : length (f (k, v)) ≤ length (take (length out - o) (drop o out))
      pair_lent = ahead_lent _ _ _ (f (k, v)) (pairs_at (i + 1)) o out a pair_next fits

      pub pair_written : (r : ℕ) (left : List ℕ) → Written (f (k, v)) (take (length out - o) (drop o out)) r left
          → AheadPairs out₀ (i + 1) (o + r) (put_mid o (length out - o) out left)
      pair_written r left w = ahead_turn _ _ _ (f (k, v)) (pairs_at (i + 1)) o out a pair_next fits r left w
