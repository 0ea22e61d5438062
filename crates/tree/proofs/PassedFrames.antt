-- What an answer of `frame_at` tells of the first frame of bytes, and what a walk after that frame knows.
use Rattle.std.specs.Prelude.{Option, None}
use Prim.Native.Nat.{ℕ, ◌+◌, ◌≤◌}
use mathlib.Core.Path.{◌≡◌, refl, sym, ap, ◌∙◌}
use mathlib.Core.Bool.{Bool, true, false}
use mathlib.Core.List.{List, [], ◌∷◌}
use native.Mathlib.Omega.{arith}
use lib.Dec.{leb, ltb}
use lib.ListN.{length, take, drop}
use lib.Seq.{get_or-drop, drop-drop}
use borrow.Author.Tests.{leb-true}
use types.Run.{OneOf, miss}
use denote.Enum.Declared.{tag_of}
use Rattle.image.specs.contracts.head.Head.{the_type}
use Rattle.image.specs.Frames.{Perhaps, Frame, node, option, flag}
use Rattle.image.specs.Limits.{fair}
use Rattle.image.specs.Reading.{node_lengths, head_first, strict_first, Read, read, broken, ended, read_by, read_first, node_in, option_in, flag_in}
use Rattle.image.specs.declared.head.Lengths.{Lengths}
use Rattle.image.specs.declared.head.Head.{Head}
use Rattle.image.specs.declared.head.Head.TheVariants.{Node, Option as OptionHead, Flag, Bad, End}
use Rattle.image.proofs.Fields.{both_first, both_second}
use Rattle.image.proofs.HeadBytes.{view, strict_head}
use Rattle.image.proofs.Encoding.{read_within, read_fairly, strict_told, fairly}
use Rattle.tree.specs.Rules.{Seen, follows, obeys}
use Rattle.tree.specs.Steps.{name_at, text_first, seen_by, Sound, after_node, after_option, after_flag, passed, step_if, step_by}
use Rattle.tree.specs.declared.walk.Walk.{Walk}
use Rattle.tree.proofs.Walks.{KnownAfter, path_length, after_node_lem, after_option_lem, after_flag_lem}

-- a frame that is there, whole and within the limits
pub record FrameTold (s : List ℕ) (f : Frame) (size : ℕ) : Type 0 where
  pub found : read_first s ≡ read f size
  pub good : fair f ≡ true
  pub fits : size ≤ length s

pub frame_told : (s : List ℕ) (head : Head) (f : Frame) (size : ℕ) → head ≡ strict_first s → read_by s head ≡ read f size → FrameTold s f size
frame_told s head f size e r =
    let told = strict_told s head f size e r in
    record { found = told.0; good = told.1; fits = (read_within s f size told.0).1 }

-- a node's depth is within its limit
pub fair_depth : (d h : ℕ) (n ds : List ℕ) (u : Perhaps) → fair (node d h n ds u) ≡ true → d ≤ 7
unfolding fair
fair_depth d h n ds u e = leb-true d 7 (both_first (leb d 7) _ (both_second (ltb h 65536) _ e))

module _ (s : List ℕ) (d h : ℕ) (t : Lengths) (e : Node d h t ≡ strict_first s) where
  pub node_least : 7 ≤ t.size
  unfolding node_lengths
  node_least =
      let v = view s (Node d h t) (sym (strict_head s (Node d h t) e (λ k. let z : ◌≡◌ {A = ℕ} 0 1 = cc in omega arith))) in
      rw v.texts (omega arith)

  pub node_depth : d ≤ 7
  unfolding node_in
  node_depth = fair_depth d h _ _ _ (frame_told s (Node d h t) _ _ e refl).good

-- a node's name is the text four bytes after the place where it is read
module _ (image : List ℕ) (at : ℕ) where
  name_lies : (t : Lengths) → t ≡ node_lengths (drop at image) → take t.name (drop 5 (drop at image)) ≡ name_at image (at + 4)
  unfolding node_lengths text_first
  name_lies t e =
      let zero_more : at + 4 + 0 ≡ at + 4 = omega arith in
      let one_more : at + 5 ≡ at + 4 + 1 = omega arith in
      rw (e, get_or-drop at image 4 0, drop-drop 5 at image, get_or-drop (at + 4) image 0 0, drop-drop 1 (at + 4) image, zero_more, one_more)

  name_read : (d h : ℕ) (n ds : List ℕ) (u : Perhaps) (size : ℕ) → read_first (drop at image) ≡ read (node d h n ds u) size → n ≡ name_at image (at + 4)
  unfolding read_first node_in option_in flag_in
  name_read d h n ds u size e = by (head_first (drop at image)) refl e
    where
      by : (x : Head) → head_first (drop at image) ≡ x → read_by (drop at image) x ≡ read (node d h n ds u) size → n ≡ name_at image (at + 4)
      by (Node g i t) q r = let k : take t.name (drop 5 (drop at image)) ≡ n = cc in sym k ∙ name_lies t (view (drop at image) _ q).texts
      by (OptionHead a c t) q r = cc
      by (Flag c t) q r = cc
      by Bad q r = cc
      by End q r = cc

-- the same of a head that was read
pub head_name : (image : List ℕ) (at d h : ℕ) (t : Lengths) → Node d h t ≡ head_first (drop at image) → take t.name (drop 5 (drop at image)) ≡ name_at image (at + 4)
head_name image at d h t e = name_lies image at t (view (drop at image) (Node d h t) (sym e)).texts

-- the walk after a frame that lies at its place and obeys
pub passes : (image : List ℕ) (walk : Walk) → Sound walk → (f : Frame) (size : ℕ) → read_first (drop walk.at image) ≡ read f size
    → obeys (seen_by image walk) f ≡ true → KnownAfter image walk f size (passed walk f size)
unfolding obeys follows
passes image walk sound (node d h n ds u) size e o =
    let fits = fair_depth d h n ds u (both_first (fair (node d h n ds u)) _ o) in
    let below = leb-true d _ (both_first (leb d (length (seen_by image walk).path)) _ (both_second (fair (node d h n ds u)) _ o)) in
    after_node_lem image walk sound d h n ds u size fits (rw (path_length image walk sound) at below) (name_read image walk.at d h n ds u size e)
passes image walk sound (option q c n l ds) size e o = after_option_lem image walk sound q c n l ds size
passes image walk sound (flag c n l ds) size e o = after_flag_lem image walk sound c n l ds size

-- a frame that keeps its own limits obeys if it follows
pub obeys_fair : (seen : Seen) (f : Frame) → fair f ≡ true → follows seen f ≡ obeys seen f
unfolding obeys
obeys_fair seen f e = rw e

-- how a step of each kind is one of the first frame
module _ (seen : Seen) (walk : Walk) (s : List ℕ) (r : Option Walk) where
  by_read : (f : Frame) (size : ℕ) → FrameTold s f size → r ≡ step_if (follows seen f) (passed walk f size) → r ≡ step_by seen walk (read_first s)
  unfolding step_by
  by_read f size told e = rw (told.found, ← obeys_fair seen f told.good) e

  pub by_node : (d h : ℕ) (t : Lengths) → Node d h t ≡ strict_first s → (name : List ℕ) → name ≡ take t.name (drop 5 s)
      → ((h : ℕ) (ds : List ℕ) (u : Perhaps) → r ≡ step_if (follows seen (node d h name ds u)) (after_node walk d t.size))
      → r ≡ step_by seen walk (read_first s)
  unfolding node_in
  by_node d h t e name l k = by_read _ _ (frame_told s (Node d h t) _ _ e refl) (rw (← l) (k h _ _))

  pub by_option : (q c : ℕ) (t : Lengths) → OptionHead q c t ≡ strict_first s
      → ((n : List ℕ) (l : Perhaps) (ds : List ℕ) → r ≡ step_if (follows seen (option q c n l ds)) (after_option walk t.size))
      → r ≡ step_by seen walk (read_first s)
  unfolding option_in
  by_option q c t e k = by_read _ _ (frame_told s (OptionHead q c t) _ _ e refl) (k _ _ _)

  pub by_flag : (c : ℕ) (t : Lengths) → Flag c t ≡ strict_first s
      → ((n : List ℕ) (l : Perhaps) (ds : List ℕ) → r ≡ step_if (follows seen (flag c n l ds)) (after_flag walk t.size))
      → r ≡ step_by seen walk (read_first s)
  unfolding flag_in
  by_flag c t e k = by_read _ _ (frame_told s (Flag c t) _ _ e refl) (k _ _ _)

  -- where there is no frame that keeps its limits
  unread : (x : Read) → ((f : Frame) (n : ℕ) → fairly x ≡ read f n → ⊥) → r ≡ None → r ≡ step_by seen walk x
  unfolding step_by obeys
  unread (read f n) no-frame k = by (fair f) refl
    where
      by : (g : Bool) → fair f ≡ g → r ≡ step_if (obeys seen f) (passed walk f n)
      by true e = absurd (no-frame f n (rw e))
      by false e = k ∙ rw e
  unread broken no-frame k = k
  unread ended no-frame k = k

  pub by_nothing : (head : Head) → head ≡ strict_first s → OneOf (3 ∷ 4 ∷ []) (tag_of the_type head) → r ≡ None → r ≡ step_by seen walk (read_first s)
  by_nothing (Node d h t) e o k = absurd (miss (3 ∷ 4 ∷ []) 0 tt o)
  by_nothing (OptionHead q c t) e o k = absurd (miss (3 ∷ 4 ∷ []) 1 tt o)
  by_nothing (Flag c t) e o k = absurd (miss (3 ∷ 4 ∷ []) 2 tt o)
  by_nothing Bad e o k = unread (read_first s) (λ f n q. let p = read_fairly s in let z : ◌≡◌ {A = ℕ} 0 1 = cc (ap (read_by s) e) in omega arith) k
  by_nothing End e o k = unread (read_first s) (λ f n q. let p = read_fairly s in let z : ◌≡◌ {A = ℕ} 0 1 = cc (ap (read_by s) e) in omega arith) k
