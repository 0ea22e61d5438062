-- What only contracts of inner functions cite: one frame of each kind passed, and how words are followed while the frames of the image are passed.
use Rattle.tree.specs.declared.command.Place.{Place}
use Rattle.std.specs.Prelude.{ℕ, zero, suc, ◌+◌, ◌-◌, ◌<◌, ◌≤◌, ◌≡◌, List, [], ◌∷◌, ◌++◌, Bool, true, false, cond, eqb, ltb, length, take, drop, get_or, Option, Some, None}
use Rattle.frame.specs.Limits.{frames_limit}
use Rattle.image.specs.Frames.{Perhaps, node, option, flag, Frame}
use Rattle.tree.specs.Rules.{follows, image_limit}
use Rattle.tree.specs.declared.walk.Walk.{Walk}
use Rattle.tree.specs.Steps.{seen_by, after_node, after_option, after_flag, step_if}
use Rattle.frame.specs.Framed.{frame_first}
use Rattle.frame.specs.Series.{texts_in, Whole}
use Rattle.frame.specs.declared.framed.Framed.{Framed}
use Rattle.frame.specs.declared.framed.Framed.TheVariants.{Frame as Text, Broken, End as Ended}
use Rattle.image.specs.Reading.{read, read_first}
use Rattle.image.specs.Limits.{both, fair}
use Rattle.tree.specs.Images.{frames_of, flat}
use Rattle.tree.specs.Subtrees.{is_named, is_upper, up_to, on_from}
use Rattle.tree.specs.Commands.{descend, reached_by}
use Rattle.tree.specs.declared.command.Trail.{Trail}
use Rattle.tree.specs.Trails.{Leads}

-- one frame passed, of each kind, of which only what the rules ask counts
abbrev pub NodeStepped : List ℕ → Walk → ℕ → List ℕ → ℕ → Option Walk → Type 0
NodeStepped image walk depth name size r =
    (h : ℕ) (ds : List ℕ) (u : Perhaps) → r ≡ step_if (follows (seen_by image walk) (node depth h name ds u)) (after_node walk depth size)

abbrev pub OptionStepped : List ℕ → Walk → ℕ → Option Walk → Type 0
OptionStepped image walk size r =
    (q c : ℕ) (n : List ℕ) (l : Perhaps) (ds : List ℕ) → r ≡ step_if (follows (seen_by image walk) (option q c n l ds)) (after_option walk size)

abbrev pub FlagStepped : List ℕ → Walk → ℕ → Option Walk → Type 0
FlagStepped image walk size r =
    (c : ℕ) (n : List ℕ) (l : Perhaps) (ds : List ℕ) → r ≡ step_if (follows (seen_by image walk) (flag c n l ds)) (after_flag walk size)

-- so many options, or flags, of the last node and one more, if there is a node and it may have that many
unfoldable pub one_more : Walk → ℕ → Option ℕ
one_more walk listed = cond (both (ltb 0 walk.deep) (ltb listed 32)) (Some (listed + 1)) None

-- frames within their limits
unfoldable pub all_fair : List Frame → Bool
all_fair [] = true
all_fair (f ∷ l) = both (fair f) (all_fair l)

-- the length of the next word
abbrev pub next_in : Framed → Option ℕ
next_in (Text kind n) = Some n
next_in Broken = None
next_in Ended = None

abbrev pub Ahead : List ℕ → Trail → Type 0
Ahead words t = t.next ≡ next_in (frame_first (drop t.place.at words))

-- a frame of the image is to be passed, and the next word is known
abbrev pub AtFrame : List ℕ → List ℕ → ℕ → Trail → Type 0
AtFrame words image at t = (length words ≤ frames_limit) × (length image ≤ image_limit) × (at < length image) × Ahead words t

-- and it is a child of the node that the words have led to
abbrev pub AtChild : List ℕ → ℕ → Trail → Type 0
AtChild image at t = (get_or image at 0 ≡ 1) × (get_or image (at + 1) 0 ≡ t.depth) × (length image ≤ t.place.end) × (t.depth < 256)

-- what a trail has found when all frames are passed: at depth 0 no command
abbrev pub found_by : Trail → Option Place
found_by t = cond (eqb t.depth 0) None (Some t.place)

-- no frame is passed
abbrev pub start_trail : List ℕ → List ℕ → Trail
start_trail words image = record { place = record { start = 0; end = length image; at = 0 }; depth = 0; next = next_in (frame_first words) }

-- a node above those of a depth
abbrev pub is_above : ℕ → Frame → Bool
is_above zero f = false
is_above (suc d) f = is_upper d f

-- the words have led to a node of whose subtree these frames are passed, the rest is still ahead, and no child among them has the next word's name
pub record Inside (words image : List ℕ) (at : ℕ) (t : Trail) (passed : List Frame) : Type 0 where
  pub start : t.place.start ≤ at
  pub within : at ≤ length image
  pub end : t.place.end ≡ length image
  pub ahead : t.place.at ≤ length words
  pub whole : Whole (take t.place.at words)
  pub top : t.depth ≡ 0 → texts_in (take t.place.at words) ≡ []
  pub none : texts_in (take t.place.at words) ≡ [] → t.depth ≡ 0
  pub bytes : take (at - t.place.start) (drop t.place.start image) ≡ flat passed
  pub fair : all_fair passed ≡ true
  pub free : (w : List ℕ) (l : List (List ℕ)) → texts_in (drop t.place.at words) ≡ w ∷ l → on_from (is_named t.depth w) passed ≡ []
  pub steps : descend t.depth (passed ++ up_to (is_above t.depth) (frames_of (drop at image))) (texts_in (take t.place.at words)) (texts_in (drop t.place.at words))
      ≡ reached_by image words

-- what is known when the bytes before a place are passed: the place is inside the subtree of the last node named, or beyond it, and nothing more is named
pub data Trailed (words image : List ℕ) (at : ℕ) (t : Trail) : Type 0 where
  inside : (passed : List Frame) → Inside words image at t passed → Trailed words image at t
  beyond : t.place.end < length image → (t.depth ≡ 0 → ⊥) → Leads words image (Some t.place) (reached_by image words) → Trailed words image at t

-- one frame more, which keeps its limits
abbrev pub Passing : List ℕ → List ℕ → ℕ → Trail → Trail → Type 0
Passing words image at t r = (f : Frame) (n : ℕ) → read_first (drop at image) ≡ read f n → fair f ≡ true → Trailed words image at t → Trailed words image (at + n) r
