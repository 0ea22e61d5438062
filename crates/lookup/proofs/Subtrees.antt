-- Where the code finds a subtree, its bytes are those of the subtree among the frames.
use Rattle.std.specs.Prelude.{Some, None, Option}
use Prim.Native.Nat.{ℕ, ◌+◌, ◌-◌}
use mathlib.Core.Path.{◌≡◌, refl, sym, ap, ◌∙◌}
use mathlib.Core.Bool.{Bool, true, false, cond}
use mathlib.Core.List.{List, [], ◌∷◌, ◌++◌, append-nil}
use native.Mathlib.Omega.{arith}
use lib.ListN.{length, take, drop, length-append}
use lib.Seq.{append_snoc, drop-append_seam, take-append_seam}
use Rattle.image.specs.Frames.{Frame, node, option, flag, encode_frame}
use Rattle.image.specs.Reading.{read, read_first}
use Rattle.image.proofs.Encoding.{frame_read}
use Rattle.tree.specs.Images.{frames_of, flat}
use Rattle.tree.proofs.WellFormedImages.{AllFit, flat_append, frames_flat}
use Rattle.tree.proofs.CommandNodes.{on_first}
use Rattle.tree.specs.Subtrees.{up_to, on_from, rooted, subtree}
use Rattle.lookup.specs.Spots.{shifted, place_of, spot}
use Rattle.lookup.specs.Searches.{wanted}
use Rattle.lookup.specs.Nodes.{or_end, end_after, subtree_end, part_at, find_node}
use Rattle.lookup.specs.Subtrees.{PartHolds}
use Rattle.lookup.specs.declared.look.Sought.TheVariants.{Node, Upper}

fit_append : (a b : List Frame) → AllFit (a ++ b) → AllFit b
fit_append [] b k = k
fit_append (f ∷ a) b k = fit_append a b k.1

pub up_on : (test : Frame → Bool) (fs : List Frame) → up_to test fs ++ on_from test fs ≡ fs
unfolding up_to on_from
up_on test [] = refl
up_on test (f ∷ l) = by (test f) (up_on test l)
  where
    by : (t : Bool) → up_to test l ++ on_from test l ≡ l → cond t [] (f ∷ up_to test l) ++ cond t (f ∷ l) (on_from test l) ≡ f ∷ l
    by true e = refl
    by false e = ap (λ (m : List Frame). f ∷ m) e

later_none : (x : Option ℕ) → shifted 0 x ≡ x
later_none (Some k) = ap Some (omega arith)
later_none None = refl

-- the place of the first frame that passes is after those before it
abbrev placed : List Frame → List Frame → Option ℕ
placed before [] = None
placed before (f ∷ l) = Some (length (flat before))

abbrev never : Frame → Bool
never f = false

placed_later : (f : Frame) (before rest : List Frame) → shifted (length (encode_frame f)) (placed before rest) ≡ placed (f ∷ before) rest
unfolding flat
placed_later f before [] = refl
placed_later f before (g ∷ l) = ap Some (sym (length-append (encode_frame f) (flat before)))

place_up : (test : Frame → Bool) (fs : List Frame) → place_of test never fs ≡ placed (up_to test fs) (on_from test fs)
unfolding place_of up_to on_from flat
place_up test [] = refl
place_up test (f ∷ l) = by (test f) (place_up test l)
  where
    by : (t : Bool) → place_of test never l ≡ placed (up_to test l) (on_from test l)
        → cond t (Some 0) (shifted (length (encode_frame f)) (place_of test never l)) ≡ placed (cond t [] (f ∷ up_to test l)) (cond t (f ∷ l) (on_from test l))
    by true e = refl
    by false e = rw e (placed_later f (up_to test l) (on_from test l))

-- the frames of what stands after frames
module _ (a b : List Frame) (fit : AllFit (a ++ b)) where
  later : drop (length (flat a)) (flat (a ++ b)) ≡ flat b
  later = rw (flat_append a b) (drop-append_seam (flat a) (flat b))

  frames_after : frames_of (drop (length (flat a)) (flat (a ++ b))) ≡ b
  frames_after = ap frames_of later ∙ frames_flat b (fit_append a b fit)

-- a search in joined frames, from after some of them
pub spot_after : (test ends : Frame → Bool) (a b : List Frame) → AllFit (a ++ b) → spot test ends (flat (a ++ b)) (length (flat a)) ≡ shifted (length (flat a)) (place_of test ends b)
unfolding spot
spot_after test ends a b fit = rw (frames_after a b fit)

spot_flat : (test : Frame → Bool) (a b : List Frame) → AllFit (a ++ b) → spot test never (flat (a ++ b)) (length (flat a)) ≡ shifted (length (flat a)) (placed (up_to test b) (on_from test b))
spot_flat test a b fit = spot_after test never a b fit ∙ rw (place_up test b)

-- the end of a subtree
or_end_lem : (image : List ℕ) (k : ℕ) (up on : List Frame) → length image ≡ k + length (flat (up ++ on)) → or_end image (shifted k (placed up on)) ≡ k + length (flat up)
or_end_lem image k up [] e = rw (append-nil up) at e
or_end_lem image k up (g ∷ m) e = refl

length_snoc : (before : List Frame) (f : Frame) → length (flat (before ++ f ∷ [])) ≡ length (flat before) + length (encode_frame f)
unfolding flat
length_snoc before f = ap length (flat_append before (f ∷ [])) ∙ length-append (flat before) (encode_frame f ++ []) ∙ rw (append-nil (encode_frame f))

length_joined : (a b : List Frame) → length (flat (a ++ b)) ≡ length (flat a) + length (flat b)
length_joined a b = ap length (flat_append a b) ∙ length-append (flat a) (flat b)

module _ (d : ℕ) (before : List Frame) (f : Frame) (l : List Frame) (fit : AllFit (before ++ f ∷ l)) where
  upper_spot : spot (wanted (Upper d) []) never (flat (before ++ f ∷ l)) (length (flat before) + length (encode_frame f))
      ≡ shifted (length (flat before) + length (encode_frame f)) (placed (up_to (wanted (Upper d) []) l) (on_from (wanted (Upper d) []) l))
  upper_spot =
      let fit₂ : AllFit ((before ++ f ∷ []) ++ l) = rw (append_snoc before f l) fit in
      rw (append_snoc before f l, length_snoc before f) at (spot_flat (wanted (Upper d) []) (before ++ f ∷ []) l fit₂)

  upper_end : or_end (flat (before ++ f ∷ l)) (spot (wanted (Upper d) []) never (flat (before ++ f ∷ l)) (length (flat before) + length (encode_frame f)))
      ≡ length (flat before) + length (flat (f ∷ up_to (wanted (Upper d) []) l))
  unfolding flat
  upper_end =
      let size : length (flat (before ++ f ∷ l)) ≡ length (flat before) + length (encode_frame f) + length (flat (up_to (wanted (Upper d) []) l ++ on_from (wanted (Upper d) []) l)) =
      length_joined before (f ∷ l) ∙ rw (length-append (encode_frame f) (flat l), up_on (wanted (Upper d) []) l) (omega arith)
      in
      let two : length (encode_frame f ++ flat (up_to (wanted (Upper d) []) l)) ≡ length (encode_frame f) + length (flat (up_to (wanted (Upper d) []) l)) = length-append (encode_frame f) (flat (up_to (wanted (Upper d) []) l)) in
      rw upper_spot (or_end_lem (flat (before ++ f ∷ l)) (length (flat before) + length (encode_frame f)) (up_to (wanted (Upper d) []) l) (on_from (wanted (Upper d) []) l) size ∙ omega arith)

  first_there : read_first (drop (length (flat before)) (flat (before ++ f ∷ l))) ≡ read f (length (encode_frame f))
  unfolding flat
  first_there = ap read_first (later before (f ∷ l) fit) ∙ frame_read f (flat l) (fit_append before (f ∷ l) fit).0

  end_flat : (name : List ℕ) → wanted (Node d) name f ≡ true → subtree_end (flat (before ++ f ∷ l)) (length (flat before)) d ≡ length (flat before) + length (flat (f ∷ up_to (wanted (Upper d) []) l))
  unfolding subtree_end
  end_flat name w = rw first_there (by f w upper_end)
    where
      by : (g : Frame) → wanted (Node d) name g ≡ true
          → or_end (flat (before ++ f ∷ l)) (spot (wanted (Upper d) []) never (flat (before ++ f ∷ l)) (length (flat before) + length (encode_frame f))) ≡ length (flat before) + length (flat (f ∷ up_to (wanted (Upper d) []) l))
          → end_after (flat (before ++ f ∷ l)) (length (flat before) + length (encode_frame f)) d g ≡ length (flat before) + length (flat (f ∷ up_to (wanted (Upper d) []) l))
      by (node e h n ds u) q r = r
      by (option a c n x ds) q r = absurd (let z : ◌≡◌ {A = ℕ} 0 1 = cc in omega arith)
      by (flag c n x ds) q r = absurd (let z : ◌≡◌ {A = ℕ} 0 1 = cc in omega arith)

-- a part between two places holds the frames that stand there
part_holds : (before mid later : List Frame) → take (length (flat before) + length (flat mid) - length (flat before)) (drop (length (flat before)) (flat (before ++ (mid ++ later)))) ≡ flat mid
part_holds before mid later =
    let n : length (flat before) + length (flat mid) - length (flat before) ≡ length (flat mid) = omega arith in
    rw (n, flat_append before (mid ++ later), flat_append mid later, drop-append_seam (flat before) (flat mid ++ flat later)) (take-append_seam (flat mid) (flat later))

-- the part that is found holds the subtree
found_holds : (d : ℕ) (name : List ℕ) (before on : List Frame) → AllFit (before ++ on) → ((f : Frame) (l : List Frame) → on ≡ f ∷ l → wanted (Node d) name f ≡ true)
    → PartHolds (flat (before ++ on)) (rooted d on) (part_at (flat (before ++ on)) d (placed before on))
found_holds d name before [] fit w = refl
found_holds d name before (f ∷ l) fit w =
    let test : Frame → Bool = wanted (Upper d) [] in
    let end = end_flat d before f l fit name (w f l refl) in
    let all : before ++ f ∷ l ≡ before ++ ((f ∷ up_to test l) ++ on_from test l) = ap (λ (m : List Frame). before ++ f ∷ m) (sym (up_on test l)) in
    let size : length (flat (before ++ f ∷ l)) ≡ length (flat before) + length (flat (f ∷ up_to test l)) + length (flat (on_from test l)) =
    ap (λ (m : List Frame). length (flat m)) all ∙ length_joined before ((f ∷ up_to test l) ++ on_from test l) ∙ rw (length_joined (f ∷ up_to test l) (on_from test l)) (omega arith)
    in
    (rw end (omega arith), rw end (omega arith), rw (end, all) (part_holds before (f ∷ up_to test l) (on_from test l)))

pub find_holds : (d : ℕ) (name : List ℕ) (fs : List Frame) → AllFit fs → PartHolds (flat fs) (subtree d name fs) (find_node (flat fs) d name)
unfolding subtree find_node spot
find_holds d name fs fit =
    let test : Frame → Bool = wanted (Node d) name in
    let whole = up_on test fs in
    let fit₂ : AllFit (up_to test fs ++ on_from test fs) = rw whole fit in
    rw (frames_flat fs fit, place_up test fs, later_none (placed (up_to test fs) (on_from test fs)))
    (rw whole at (found_holds d name (up_to test fs) (on_from test fs) fit₂ (λ f l e. on_first test fs f l e)))
