-- The command that words lead to begins with its node.
use Prim.Native.Nat.{ℕ, suc}
use mathlib.Core.Path.{◌≡◌, refl}
use mathlib.Core.Bool.{Bool, true, false, cond}
use mathlib.Core.List.{List, [], ◌∷◌, ◌++◌}
use native.Mathlib.Omega.{arith}
use Rattle.frame.specs.Series.{texts_in}
use Rattle.image.specs.Frames.{Frame, node, option, flag}
use Rattle.tree.specs.Images.{frames_of}
use Rattle.tree.specs.Subtrees.{is_named, on_from, rooted, subtree}
use Rattle.tree.specs.Commands.{on_subtree, descend, reached_by, NodeFirst}

-- the first of those from a test on passes it
pub on_first : (test : Frame → Bool) (fs : List Frame) (f : Frame) (l : List Frame) → on_from test fs ≡ f ∷ l → test f ≡ true
unfolding on_from
on_first test [] f l e = absurd (let z : ◌≡◌ {A = ℕ} 0 1 = cc in omega arith)
on_first test (g ∷ m) f l e = by (test g) refl e (on_first test m f l)
  where
    by : (t : Bool) → test g ≡ t → cond t (g ∷ m) (on_from test m) ≡ f ∷ l → (on_from test m ≡ f ∷ l → test f ≡ true) → test f ≡ true
    by true q r more = let k : g ≡ f = cc in rw k at q
    by false q r more = more r

named_first : (d : ℕ) (name : List ℕ) (f : Frame) (l : List Frame) → is_named d name f ≡ true → NodeFirst (f ∷ l)
named_first d name (node e h n ds u) l k = tt
named_first d name (option r c n x ds) l k = let z : ◌≡◌ {A = ℕ} 0 1 = cc in omega arith
named_first d name (flag c n x ds) l k = let z : ◌≡◌ {A = ℕ} 0 1 = cc in omega arith

subtree_first : (d : ℕ) (name : List ℕ) (fs : List Frame) (f : Frame) (l : List Frame) → subtree d name fs ≡ f ∷ l → NodeFirst (f ∷ l)
unfolding subtree
subtree_first d name fs f l e = by (on_from (is_named d name) fs) refl e
  where
    by : (on : List Frame) → on_from (is_named d name) fs ≡ on → rooted d on ≡ f ∷ l → NodeFirst (f ∷ l)
    by [] q r = absurd (let z : ◌≡◌ {A = ℕ} 0 1 = cc in omega arith)
    by (g ∷ m) q r = let k : g ≡ f = cc in named_first d name f l (rw k at (on_first (is_named d name) fs g m q))

-- a word more leads on to a child, or stays
descend_first : (words : List (List ℕ)) (d : ℕ) (frames : List Frame) (path : List (List ℕ)) → NodeFirst frames → NodeFirst (descend d frames path words).frames
unfolding descend
descend_first [] d frames path k = k
descend_first (w ∷ words) d frames path k = by (subtree d w frames) refl (λ child q. descend_first words (suc d) child (path ++ (w ∷ [])) q)
  where
    by : (sub : List Frame) → subtree d w frames ≡ sub → ((child : List Frame) → NodeFirst child → NodeFirst (descend (suc d) child (path ++ (w ∷ [])) words).frames)
        → NodeFirst (on_subtree sub (record { path = path; words = w ∷ words; frames = frames }) (λ child. descend (suc d) child (path ++ (w ∷ [])) words)).frames
    by [] e more = k
    by (f ∷ l) e more = more (f ∷ l) (subtree_first d w frames f l e)

pub reached_first : (image words : List ℕ) → ((reached_by image words).path ≡ [] → ⊥) → NodeFirst (reached_by image words).frames
unfolding reached_by descend
reached_first image words named = by (texts_in words) named
  where
    by : (l : List (List ℕ)) → ((descend 0 (frames_of image) [] l).path ≡ [] → ⊥) → NodeFirst (descend 0 (frames_of image) [] l).frames
    by [] k = absurd (k refl)
    by (w ∷ l) k = on (subtree 0 w (frames_of image)) refl k
      where
        on : (sub : List Frame) → subtree 0 w (frames_of image) ≡ sub
            → ((on_subtree sub (record { path = []; words = w ∷ l; frames = frames_of image }) (λ child. descend 1 child (w ∷ []) l)).path ≡ [] → ⊥)
            → NodeFirst (on_subtree sub (record { path = []; words = w ∷ l; frames = frames_of image }) (λ child. descend 1 child (w ∷ []) l)).frames
        on [] e k = absurd (k refl)
        on (f ∷ m) e k = descend_first l 1 (f ∷ m) (w ∷ []) (subtree_first 0 w (frames_of image) f m e)
