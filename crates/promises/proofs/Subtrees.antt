-- A command and its complete subtree in the words of the standard: a node of depth 0 and all frames before the next node of its depth or less. What the definitions look
-- up (`subtree`) is that; in a well-formed tree no two commands have one name, so it does not matter which is looked up.
use Rattle.std.specs.Prelude.{Ok, Err}
use Prim.Native.Nat.{ℕ, zero, suc}
use mathlib.Core.Path.{◌≡◌, refl, sym, ap, ◌∙◌}
use mathlib.Core.Bool.{Bool, true, false, cond}
use mathlib.Core.List.{List, [], ◌∷◌, ◌++◌, append-nil}
use mathlib.Core.Logic.{◌⊎◌, inl, inr}
use native.Mathlib.Omega.{arith}
use lib.Dec.{ltb, leb, eqb}
use lib.ListN.{length, take}
use borrow.Author.Tests.{lt-leb, ne_eqb, eqb-true}
use Rattle.buffer.specs.Compare.{order}
use Rattle.std.specs.declared.cmp.Ordering.{Ordering}
use Rattle.std.specs.declared.cmp.Ordering.TheVariants.{Less, Equal, Greater}
use Rattle.buffer.proofs.Ordering.{order_trans, same_self, same_is}
use Rattle.table.proofs.Maps.{less_unequal}
use Rattle.image.specs.Frames.{Perhaps, Frame, node, option, flag}
use Rattle.image.specs.Limits.{fair}
use Rattle.image.proofs.Fields.{both_first, both_second}
use Rattle.tree.specs.Images.{items, frames_of}
use Rattle.tree.specs.Rules.{Seen, start, is_less, rises, follows, obeys, after, judge_items, obey_all, check_tree}
use Rattle.tree.specs.Subtrees.{is_named, is_upper, up_to, on_from, rooted, subtree}
use Rattle.tree.proofs.WellFormedImages.{good_judged}
use Rattle.lookup.proofs.Lookups.{NoneOf, on_skip, up_skip}
use Rattle.lookup.proofs.Subtrees.{up_on}

-- ABSENT: no node of depth 0 has the name
abbrev pub Absent : List ℕ → List Frame → Type 0
Absent name frames = NoneOf (is_named 0 name) frames

-- nothing follows, or a node of depth 0 or less
abbrev pub Ends : List Frame → Type 0
Ends [] = Unit
Ends (f ∷ frames) = is_upper 0 f ≡ true

-- PRESENT, with its complete subtree: a node of depth 0 of that name, and after it frames that are no such node up to one that is, or to the end
pub record Present (name : List ℕ) (command frames : List Frame) : Type 0 where
  pub before : List Frame
  pub handler : ℕ
  pub description : List ℕ
  pub usage : Perhaps
  pub below : List Frame
  pub beyond : List Frame
  pub stands : frames ≡ before ++ (command ++ beyond)
  pub begins : command ≡ node 0 handler name description usage ∷ below
  pub within : NoneOf (is_upper 0) below
  pub ends : Ends beyond

-- what is absent is not found
pub absent_none : (name : List ℕ) (frames : List Frame) → Absent name frames → subtree 0 name frames ≡ []
unfolding subtree on_from
absent_none name frames a =
    ap (λ (l : List Frame). rooted 0 (on_from (is_named 0 name) l)) (sym (append-nil frames)) ∙ ap (rooted 0) (on_skip (is_named 0 name) frames [] a)

-- NO TWO COMMANDS have one name: after a node of depth 0 those of depth 0 have greater names
less_is : (o : Ordering) → is_less o ≡ true → o ≡ Less
less_is Less e = refl
less_is Equal e = cc
less_is Greater e = cc

-- a frame that obeys, and those after it
module _ (seen : Seen) (f : Frame) (l : List Frame) (o : obey_all seen (f ∷ l) ≡ true) where
  obeys_first : follows seen f ≡ true
  unfolding obey_all obeys
  obeys_first = both_second (fair f) _ (both_first (obeys seen f) _ o)

  obeys_later : obey_all (after seen f) l ≡ true
  unfolding obey_all
  obeys_later = both_second (obeys seen f) _ o

risen : (seen : Seen) (p : List ℕ) (path : List (List ℕ)) (h : ℕ) (n ds : List ℕ) (u : Perhaps) → seen.path ≡ p ∷ path → follows seen (node 0 h n ds u) ≡ true → order p n ≡ Less
unfolding follows rises
risen seen p path h n ds u e o =
    less_is (order p n)
    (let r : rises seen.path 0 n ≡ true = both_second (ltb seen.nodes 256) _ (both_second (leb 0 (length seen.path)) _ o) in
    let q : rises (p ∷ path) 0 n ≡ true = rw e at r in
    rw (lt-leb (length (p ∷ path)) 0 (omega arith)) at q)

module _ (h : ℕ) (n ds : List ℕ) (u : Perhaps) (l : List Frame) where
  rises_on : (before : List Frame) (seen : Seen) (p : List ℕ) (path : List (List ℕ)) → seen.path ≡ p ∷ path → obey_all seen (before ++ (node 0 h n ds u ∷ l)) ≡ true → order p n ≡ Less
  unfolding after
  rises_on [] seen p path e o = risen seen p path h n ds u e (obeys_first seen (node 0 h n ds u) l o)
  rises_on (node zero k m es v ∷ before) seen p path e o =
      let f : Frame = node 0 k m es v in
      order_trans p m n (risen seen p path k m es v e (obeys_first seen f (before ++ (node 0 h n ds u ∷ l)) o))
      (rises_on before (after seen f) m [] refl (obeys_later seen f (before ++ (node 0 h n ds u ∷ l)) o))
  rises_on (node (suc d) k m es v ∷ before) seen p path e o =
      let f : Frame = node (suc d) k m es v in
      rises_on before (after seen f) p (take d path ++ m ∷ []) (ap (λ (q : List (List ℕ)). take (suc d) q ++ m ∷ []) e) (obeys_later seen f (before ++ (node 0 h n ds u ∷ l)) o)
  rises_on (option r c m x es ∷ before) seen p path e o =
      let f : Frame = option r c m x es in rises_on before (after seen f) p path e (obeys_later seen f (before ++ (node 0 h n ds u ∷ l)) o)
  rises_on (flag c m x es ∷ before) seen p path e o =
      let f : Frame = flag c m x es in rises_on before (after seen f) p path e (obeys_later seen f (before ++ (node 0 h n ds u ∷ l)) o)

  none_before : (before : List Frame) (seen : Seen) → obey_all seen (before ++ (node 0 h n ds u ∷ l)) ≡ true → Absent n before
  unfolding after
  none_before [] seen o = tt
  none_before (node zero k m es v ∷ before) seen o =
      let more = obeys_later seen (node 0 k m es v) (before ++ (node 0 h n ds u ∷ l)) o in
      (less_unequal m n (rises_on before (after seen (node 0 k m es v)) m [] refl more), none_before before (after seen (node 0 k m es v)) more)
  none_before (node (suc d) k m es v ∷ before) seen o =
      let deeper : suc d ≡ 0 → ⊥ = λ z. omega arith in
      (rw (ne_eqb (suc d) 0 deeper), none_before before _ (obeys_later seen (node (suc d) k m es v) (before ++ (node 0 h n ds u ∷ l)) o))
  none_before (option r c m x es ∷ before) seen o = (refl, none_before before _ (obeys_later seen (option r c m x es) (before ++ (node 0 h n ds u ∷ l)) o))
  none_before (flag c m x es ∷ before) seen o = (refl, none_before before _ (obeys_later seen (flag c m x es) (before ++ (node 0 h n ds u ∷ l)) o))

-- what is present is found, whole
good_obeys : (image : List ℕ) → check_tree image ≡ Ok tt → obey_all start (frames_of image) ≡ true
unfolding check_tree frames_of
good_obeys image e = by (ltb 32768 (length image)) e
  where
    by : (t : Bool) → cond t (Err (record { number = 0 })) (judge_items start 0 (items image)) ≡ Ok tt → obey_all start (frames_of image) ≡ true
    by true q = absurd (let z : ◌≡◌ {A = ℕ} 0 1 = cc in omega arith)
    by false q = (good_judged (items image) start 0 q).obey

ended : (frames : List Frame) → Ends frames → up_to (is_upper 0) frames ≡ []
unfolding up_to
ended [] e = refl
ended (f ∷ frames) e = rw e

found_here : (h : ℕ) (n ds : List ℕ) (u : Perhaps) (l : List Frame) → on_from (is_named 0 n) (node 0 h n ds u ∷ l) ≡ node 0 h n ds u ∷ l
unfolding on_from
found_here h n ds u l = rw (same_self n)

pub present_found : (image name : List ℕ) (command : List Frame) → check_tree image ≡ Ok tt → Present name command (frames_of image) → subtree 0 name (frames_of image) ≡ command
unfolding subtree
present_found image name command good p =
    let first : Frame = node 0 p.handler name p.description p.usage in
    let whole : frames_of image ≡ p.before ++ (first ∷ (p.below ++ p.beyond)) = p.stands ∙ ap (λ (c : List Frame). p.before ++ (c ++ p.beyond)) p.begins in
    let none = none_before p.handler name p.description p.usage (p.below ++ p.beyond) p.before start (rw whole at (good_obeys image good)) in
    ap (subtree 0 name) whole
    ∙ ap (rooted 0) (on_skip (is_named 0 name) p.before (first ∷ (p.below ++ p.beyond)) none ∙ found_here p.handler name p.description p.usage (p.below ++ p.beyond))
    ∙ ap (λ (l : List Frame). first ∷ l) (up_skip (is_upper 0) p.below p.beyond p.within ∙ ap (λ (l : List Frame). p.below ++ l) (ended p.beyond p.ends) ∙ append-nil p.below)
    ∙ sym p.begins

-- ONE OF THE TWO: of every name a tree's frames say that it is absent, or present with its subtree
none_up : (test : Frame → Bool) (l : List Frame) → NoneOf test (up_to test l)
unfolding up_to
none_up test [] = tt
none_up test (f ∷ l) = by (test f) refl (none_up test l)
  where
    by : (t : Bool) → test f ≡ t → NoneOf test (up_to test l) → NoneOf test (cond t [] (f ∷ up_to test l))
    by true e more = tt
    by false e more = (e, more)

ends_on : (l : List Frame) → Ends (on_from (is_upper 0) l)
unfolding on_from
ends_on [] = tt
ends_on (f ∷ l) = by (is_upper 0 f) refl (ends_on l)
  where
    by : (t : Bool) → is_upper 0 f ≡ t → Ends (on_from (is_upper 0) l) → Ends (cond t (f ∷ l) (on_from (is_upper 0) l))
    by true e more = e
    by false e more = more

named_node : (name : List ℕ) (f : Frame) (l : List Frame) → is_named 0 name f ≡ true → Present name (rooted 0 (f ∷ l)) (f ∷ l)
named_node name (node d h n ds u) l e =
    let depth : d ≡ 0 = eqb-true d 0 (both_first (eqb d 0) _ e) in
    let same : n ≡ name = same_is n name (both_second (eqb d 0) _ e) in
    record {
      before = [];
      handler = h;
      description = ds;
      usage = u;
      below = up_to (is_upper 0) l;
      beyond = on_from (is_upper 0) l;
      stands = ap (λ (m : List Frame). node d h n ds u ∷ m) (sym (up_on (is_upper 0) l));
      begins = rw (depth, same);
      within = none_up (is_upper 0) l;
      ends = ends_on l;
    }
named_node name (option r c n x ds) l e = absurd (let z : ◌≡◌ {A = ℕ} 0 1 = cc in omega arith)
named_node name (flag c n x ds) l e = absurd (let z : ◌≡◌ {A = ℕ} 0 1 = cc in omega arith)

after_one : (name : List ℕ) (command : List Frame) (f : Frame) (l : List Frame) → Present name command l → Present name command (f ∷ l)
after_one name command f l p =
    record {
      before = f ∷ p.before;
      handler = p.handler;
      description = p.description;
      usage = p.usage;
      below = p.below;
      beyond = p.beyond;
      stands = ap (λ (m : List Frame). f ∷ m) p.stands;
      begins = p.begins;
      within = p.within;
      ends = p.ends;
    }

pub absent_or_present : (name : List ℕ) (frames : List Frame) → Absent name frames ⊎ ((command : List Frame) × Present name command frames)
absent_or_present name [] = inl tt
absent_or_present name (f ∷ l) = by (is_named 0 name f) refl (absent_or_present name l)
  where
    by : (t : Bool) → is_named 0 name f ≡ t → Absent name l ⊎ ((command : List Frame) × Present name command l) → Absent name (f ∷ l) ⊎ ((command : List Frame) × Present name command (f ∷ l))
    by true e more = inr (rooted 0 (f ∷ l), named_node name f l e)
    by false e (inl a) = inl (e, a)
    by false e (inr p) = inr (p.0, after_one name p.0 f l p.1)
