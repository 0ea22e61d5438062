-- Laws of where a scan stands: what each of its moves makes of it.
use Prim.Native.Nat.{ℕ, ◌+◌, ◌<◌, ◌≤◌}
use mathlib.Core.Path.{◌≡◌, refl, sym, ap, ◌∙◌}
use mathlib.Core.List.{List, [], ◌++◌, append_assoc}
use native.Mathlib.Omega.{arith}
use lib.ListN.{length, take, drop, length-append}
use lib.Seq.{take-append_seam, length-take-le}
use Rattle.buffer.specs.Write.{over, over_at, Pushed}
use Rattle.buffer.proofs.Lending.{length_over_at}
use Rattle.frame.proofs.Series.{all_none}
use Rattle.frame.specs.Series.{texts_from, texts_in, Whole}
use Rattle.table.specs.Map.{Map, put_within}
use Rattle.table.specs.Inner.{part_of, bit_of, source_of, packed, key_of, value_of, entries, map_of, tabled, capacity, Fit, put_entry}
use Rattle.table.specs.declared.packing.Source.{Source}
use Rattle.table.specs.declared.sorted.Table.{Table}
use Rattle.table.proofs.PackedPlaces.{entry_key, entry_value}
use Rattle.arguments.specs.Arguments.{none_found, go, with_option, with_flag}
use Rattle.arguments.specs.Inner.{stored, found_of, stand_by, stand_of, fresh, held, KeySmall, Apt, Moved, Kept}
use Rattle.arguments.specs.declared.standing.Progress.{Progress}
use Rattle.arguments.specs.declared.standing.Progress.TheVariants.{Going}
use Rattle.arguments.specs.declared.standing.Scan.{Scan}
use Rattle.arguments.specs.declared.standing.Stage.{Stage}

-- the start
module _ (words image rest : List ℕ) (o f : Table) where
  pub stand_starts : map_of words image o ≡ [] → map_of words image f ≡ []
      → stand_of words image rest (record { options = o; flags = f; kept = 0; progress = Going }) ≡ go none_found
  unfolding stand_of found_of texts_in texts_from
  stand_starts a b =
      ap (λ (m : Map). go (record { options = m; flags = map_of words image f; positionals = [] })) a
      ∙ ap (λ (m : Map). go (record { options = []; flags = m; positionals = [] })) b

  pub apt_starts : Apt rest (record { options = o; flags = f; kept = 0; progress = Going })
  unfolding Whole texts_in texts_from
  apt_starts = record { small = tt; whole = λ more. refl; frames = all_none }

-- the same with lent tables
none_held : (words image o : List ℕ) → map_of words image (tabled 0 o) ≡ []
unfolding map_of entries
none_held words image o = refl

module _ (words image rest o f : List ℕ) (s : Stage) (e : s ≡ fresh) where
  pub stage_starts : stand_of words image rest (held o f s) ≡ go none_found
  stage_starts = ap (λ (x : Stage). stand_of words image rest (held o f x)) e ∙ stand_starts words image rest (tabled 0 o) (tabled 0 f) (none_held words image o) (none_held words image f)

  pub stage_apt : Apt rest (held o f s)
  stage_apt = rw e (apt_starts words image rest (tabled 0 o) (tabled 0 f))

-- a table with as many entries
pub fit_as : (n m : ℕ) (t : List ℕ) → n ≡ m → Fit m t → Fit n t
fit_as n m t e x = rw e x

-- another progress
pub moved_on : (words image : List ℕ) (s : Scan) (p : Progress) → KeySmall p
    → Moved words image s (record { options = s.options; flags = s.flags; kept = s.kept; progress = p }) (λ rest. stand_by words image (found_of words image rest s) p)
unfolding stand_of found_of
moved_on words image s p k = record { stand = λ rest. refl; kept = refl; small = k }

-- what an entry puts into a map
put_by_lem : (words image : List ℕ) (e : ℕ) (k v : List ℕ) (o : Table) → key_of words image e ≡ k → value_of words e ≡ v → put_entry words image e o ≡ put_within capacity k v (map_of words image o)
put_by_lem words image e k v o a b =
    ap (λ (x : List ℕ). put_within capacity x (value_of words e) (map_of words image o)) a ∙ ap (λ (x : List ℕ). put_within capacity k x (map_of words image o)) b

module _ (words image : List ℕ) (source : Source) (key size value len e : ℕ) (s : Scan) (t : Table) where
  -- an option more
  pub option_moved : key < 0x10000 → size < 0x10000 → value < 0x2000 → len < 0x2000 → e ≡ packed (bit_of source) key size value len
      → map_of words image t ≡ put_entry words image e s.options
      → Moved words image s (record { options = t; flags = s.flags; kept = s.kept; progress = Going })
      (λ rest. go (with_option stored (found_of words image rest s) (part_of (source_of words image source) key size) (part_of words value len)))
  unfolding stand_of found_of with_option
  option_moved a b d f q m =
      let k = ap (key_of words image) q ∙ entry_key source key size value len a b d f words image in
      let v = ap (value_of words) q ∙ entry_value source key size value len a b d f words in
      let w = m ∙ put_by_lem words image e _ _ s.options k v in
      record {
        stand = λ rest. ap (λ (n : Map). go (record { options = n; flags = map_of words image s.flags; positionals = texts_in (take s.kept rest) })) w;
        kept = refl;
        small = tt;
      }

  -- a flag more
  pub flag_moved : key < 0x10000 → size < 0x10000 → e ≡ packed (bit_of source) key size 0 0
      → map_of words image t ≡ put_entry words image e s.flags
      → Moved words image s (record { options = s.options; flags = t; kept = s.kept; progress = Going })
      (λ rest. go (with_flag stored (found_of words image rest s) (part_of (source_of words image source) key size)))
  unfolding stand_of found_of with_flag
  flag_moved a b q m =
      let z : 0 < 0x2000 = omega arith in
      let k = ap (key_of words image) q ∙ entry_key source key size 0 0 a b z z words image in
      let v : value_of words e ≡ [] = ap (value_of words) q ∙ entry_value source key size 0 0 a b z z words in
      let w = m ∙ put_by_lem words image e _ _ s.flags k v in
      record {
        stand = λ rest. ap (λ (n : Map). go (record { options = map_of words image s.options; flags = n; positionals = texts_in (take s.kept rest) })) w;
        kept = refl;
        small = tt;
      }

-- a frame kept
pub kept_after : (frame rest left : List ℕ) (s : Scan) (r : ℕ) → s.kept + length frame ≤ length rest → Pushed frame rest s.kept r left
    → Kept frame rest left s (record { options = s.options; flags = s.flags; kept = r; progress = s.progress })
unfolding over_at over
kept_after frame rest left s r h p =
    record {
      options = refl;
      flags = refl;
      progress = refl;
      kept = p.place;
      room = ap length p.bytes ∙ length_over_at frame rest s.kept h;
      bytes = front;
    }
  where
    k : length (take s.kept rest ++ frame) ≡ r
    k = rw length-append (let l = length-take-le s.kept rest (omega arith) in let q = p.place in omega arith)

    front : take r left ≡ take s.kept rest ++ frame
    front = ap (take r) p.bytes ∙ front₂
      where
        front₂ : take r (take s.kept rest ++ (frame ++ drop (length frame) (drop s.kept rest))) ≡ take s.kept rest ++ frame
        front₂ =
            ap (take r) (sym (append_assoc (take s.kept rest) frame (drop (length frame) (drop s.kept rest))))
            ∙ ap (λ (n : ℕ). take n ((take s.kept rest ++ frame) ++ drop (length frame) (drop s.kept rest))) (sym k)
            ∙ take-append_seam (take s.kept rest ++ frame) (drop (length frame) (drop s.kept rest))
