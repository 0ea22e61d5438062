-- Frames that obey every rule are the flattening of an orderly forest: built from the last frame to the first.
use Prim.Native.Nat.{ℕ, zero, suc, ◌+◌, ◌<◌, ◌≤◌}
use mathlib.Core.Path.{◌≡◌, refl, sym, ap, ◌∙◌}
use mathlib.Core.Bool.{Bool, true, false, cond}
use mathlib.Core.List.{List, [], ◌∷◌, ◌++◌, append_assoc}
use native.Mathlib.Omega.{arith}
use lib.Dec.{leb, ltb, eqb}
use lib.ListN.{length, get_or, take, get_or-eq_default, get_or-append}
use lib.Seq.{length-take-le, get_or-take}
use borrow.Author.Tests.{le-leb, lt-ltb, le-ltb, leb-true, leb-false, ltb-true, ltb-false, eq-eqb, ne_eqb, eqb-true, eqb-false}
use Rattle.buffer.specs.Compare.{order}
use Rattle.image.specs.Frames.{Perhaps, Frame, node, option, flag}
use Rattle.image.specs.Limits.{is_name, fair}
use Rattle.image.proofs.Fields.{both_first, both_second, both_true}
use Rattle.tree.specs.Rules.{Seen, start, is_less, rises, follows, obeys, after, obey_all}
use Rattle.tree.specs.Forest.{Forest, bare, grown, flatten, nodes_in, options_in, flags_in, definitions_only, modest, orderly}
use Rattle.tree.proofs.Flattening.{put_length, put_at, put_below}

-- what a list of frames plants: the definitions before its first node, and for each depth the siblings before the first node above them
record Planted : Type 0 where
  loose : List Frame
  at : ℕ → Forest

put : ℕ → ℕ → List ℕ → List ℕ → Perhaps → Planted → Planted
put d h n ds u p =
    record {
      loose = [];
      at = λ e. cond (ltb e d) (p.at e) (cond (eqb e d) (grown h n ds u p.loose (p.at (suc d)) (p.at d)) bare);
    }

plant : List Frame → Planted
plant [] = record { loose = []; at = λ e. bare }
plant (node d h n ds u ∷ l) = put d h n ds u (plant l)
plant (option r c n x ds ∷ l) = record { loose = option r c n x ds ∷ (plant l).loose; at = (plant l).at }
plant (flag c n x ds ∷ l) = record { loose = flag c n x ds ∷ (plant l).loose; at = (plant l).at }

-- the siblings of each depth, the deepest first
layers : ℕ → (ℕ → Forest) → List Frame
layers zero at = flatten 0 (at 0)
layers (suc k) at = flatten (suc k) (at (suc k)) ++ layers k at

layers_same : (k : ℕ) (f g : ℕ → Forest) → ((e : ℕ) → e ≤ k → f e ≡ g e) → layers k f ≡ layers k g
unfolding layers
layers_same zero f g h = rw (h 0 (omega arith))
layers_same (suc k) f g h = rw (h (suc k) (omega arith), layers_same k f g (λ e l. h e (omega arith)))

-- layers with nothing on them
layers_cut : (k d : ℕ) (f : ℕ → Forest) → d ≤ k → ((e : ℕ) → d < e → f e ≡ bare) → layers k f ≡ layers d f
unfolding layers flatten
layers_cut zero d f h b = let z : d ≡ 0 = omega arith in rw z
layers_cut (suc k) d f h b = by (leb d k) refl (layers_cut k d f)
  where
    by : (t : Bool) → leb d k ≡ t → (d ≤ k → ((e : ℕ) → d < e → f e ≡ bare) → layers k f ≡ layers d f) → layers (suc k) f ≡ layers d f
    by true q more = let l = leb-true d k q in rw (b (suc k) (omega arith)) (more l b)
    by false q more = let l = leb-false d k q in let z : d ≡ suc k = omega arith in rw z

module _ (d h : ℕ) (n ds : List ℕ) (u : Perhaps) (p : Planted) where
  put_less : (e : ℕ) → e < d → (put d h n ds u p).at e ≡ p.at e
  unfolding put
  put_less e l = rw (lt-ltb e d)

  put_here : (put d h n ds u p).at d ≡ grown h n ds u p.loose (p.at (suc d)) (p.at d)
  unfolding put
  put_here = rw (le-ltb d d (omega arith), eq-eqb d d refl)

  put_more : (e : ℕ) → d < e → (put d h n ds u p).at e ≡ bare
  unfolding put
  put_more e l = let k : e ≡ d → ⊥ = λ z. omega arith in rw (le-ltb e d (omega arith), ne_eqb e d k)

regroup : (a b c r : List Frame) → (a ++ (b ++ c)) ++ r ≡ a ++ (b ++ (c ++ r))
regroup a b c r = simp append_assoc

-- a node takes the definitions and the two layers after it
layers_put : (d h : ℕ) (n ds : List ℕ) (u : Perhaps) (p : Planted) → layers d (put d h n ds u p).at ≡ node d h n ds u ∷ (p.loose ++ layers (suc d) p.at)
unfolding layers flatten
layers_put zero h n ds u p = rw (put_here 0 h n ds u p)
layers_put (suc k) h n ds u p =
    let same = layers_same k (put (suc k) h n ds u p).at p.at (λ e l. put_less (suc k) h n ds u p e (omega arith)) in
    rw (put_here (suc k) h n ds u p, same)
    (ap (λ (l : List Frame). node (suc k) h n ds u ∷ l) (regroup p.loose (flatten (suc (suc k)) (p.at (suc (suc k)))) (flatten (suc k) (p.at (suc k))) (layers k p.at)))

layers_bare : (k : ℕ) → layers k (λ e. bare) ≡ []
unfolding layers flatten
layers_bare zero = refl
layers_bare (suc k) = layers_bare k

-- what frames that obey have planted
record Held (seen : Seen) (fs : List Frame) (p : Planted) : Type 0 where
  split : fs ≡ p.loose ++ layers (length seen.path) p.at
  above : (e : ℕ) → length seen.path < e → p.at e ≡ bare
  ordered : (e : ℕ) → e ≤ length seen.path → orderly (get_or seen.path e []) e (p.at e) ≡ true
  only : definitions_only p.loose ≡ true
  options : seen.options + options_in p.loose ≤ 32
  flags : seen.flags + flags_in p.loose ≤ 32
  orphan : length seen.path ≡ 0 → p.loose ≡ []

record Few (seen : Seen) : Type 0 where
  options : seen.options ≤ 32
  flags : seen.flags ≤ 32

held_none : (seen : Seen) → Few seen → Held seen [] (plant [])
unfolding plant definitions_only options_in flags_in orderly
held_none seen few =
    record {
      split = sym (layers_bare (length seen.path));
      above = λ e l. refl;
      ordered = λ e l. refl;
      only = refl;
      options = let k = few.options in omega arith;
      flags = let k = few.flags in omega arith;
      orphan = λ z. refl;
    }

-- the first sibling comes after the empty name
first_rises : (n : List ℕ) → is_name n ≡ true → is_less (order [] n) ≡ true
unfolding is_name order
first_rises [] e = e
first_rises (b ∷ n) e = refl

rises_told : (path : List (List ℕ)) (d : ℕ) (n : List ℕ) → is_name n ≡ true → rises path d n ≡ true → is_less (order (get_or path d []) n) ≡ true
unfolding rises
rises_told path d n name e = by (leb (length path) d) refl e
  where
    by : (t : Bool) → leb (length path) d ≡ t → cond t true (is_less (order (get_or path d []) n)) ≡ true → is_less (order (get_or path d []) n) ≡ true
    by true q r = rw (get_or-eq_default path [] (leb-true (length path) d q)) (first_rises n name)
    by false q r = r

put_other : (path : List (List ℕ)) (d e : ℕ) (n : List ℕ) → d ≤ length path → e < d → get_or (take d path ++ n ∷ []) e [] ≡ get_or path e []
put_other path d e n h l =
    let k = length-take-le d path h in
    get_or-append (take d path) (n ∷ []) [] e (omega arith) ∙ get_or-take d path e [] l

-- what the rules tell of a node
record NodeObeys (seen : Seen) (d h : ℕ) (n ds : List ℕ) (u : Perhaps) : Type 0 where
  good : fair (node d h n ds u) ≡ true
  deep : d ≤ length seen.path
  room : seen.nodes < 256
  rising : is_less (order (get_or seen.path d []) n) ≡ true

node_obeys : (seen : Seen) (d h : ℕ) (n ds : List ℕ) (u : Perhaps) → obeys seen (node d h n ds u) ≡ true → NodeObeys seen d h n ds u
unfolding obeys follows fair
node_obeys seen d h n ds u e =
    let g = both_first (fair (node d h n ds u)) _ e in
    let f = both_second (fair (node d h n ds u)) _ e in
    let f₁ = both_second (leb d (length seen.path)) _ f in
    let named = both_first (is_name n) _ (both_second (leb d 7) _ (both_second (ltb h 65536) _ g)) in
    record {
      good = g;
      deep = leb-true d (length seen.path) (both_first (leb d (length seen.path)) _ f);
      room = ltb-true seen.nodes 256 (both_first (ltb seen.nodes 256) _ f₁);
      rising = rises_told seen.path d n named (both_second (ltb seen.nodes 256) _ f₁);
    }

strictly_less : (d e : ℕ) → d ≤ e → (e ≡ d → ⊥) → d < e
strictly_less d e h n = by (ltb d e) refl
  where
    by : (t : Bool) → ltb d e ≡ t → d < e
    by true q = ltb-true d e q
    by false q = absurd (n (let k = ltb-false d e q in omega arith))

-- the tree that a node roots keeps the rules
rooted : (before : List ℕ) (d h : ℕ) (n ds : List ℕ) (u : Perhaps) (defs : List Frame) (below next : Forest) → is_less (order before n) ≡ true → fair (node d h n ds u) ≡ true
    → definitions_only defs ≡ true → options_in defs ≤ 32 → flags_in defs ≤ 32 → orderly [] (suc d) below ≡ true → orderly n d next ≡ true
    → orderly before d (grown h n ds u defs below next) ≡ true
unfolding orderly
rooted before d h n ds u defs below next a b c o f x y =
    both_true _ _ a (both_true _ _ b (both_true _ _ (both_true _ _ c (both_true _ _ (le-leb (options_in defs) 32 o) (le-leb (flags_in defs) 32 f))) (both_true _ _ x y)))

module _ (d h : ℕ) (n ds : List ℕ) (u : Perhaps) (l : List Frame) (seen : Seen) (p : Planted) (few : Few seen) (k : NodeObeys seen d h n ds u) (held : Held (after seen (node d h n ds u)) l p) where
  deeper : length (after seen (node d h n ds u)).path ≡ suc d
  unfolding after
  deeper = put_length seen.path d n k.deep

  node_split : node d h n ds u ∷ l ≡ layers (length seen.path) (put d h n ds u p).at
  node_split =
      ap (λ (m : List Frame). node d h n ds u ∷ m) (held.split ∙ rw deeper)
      ∙ sym (layers_put d h n ds u p)
      ∙ sym (layers_cut (length seen.path) d (put d h n ds u p).at k.deep (put_more d h n ds u p))

  node_ordered : (e : ℕ) → e ≤ length seen.path → orderly (get_or seen.path e []) e ((put d h n ds u p).at e) ≡ true
  unfolding after orderly
  node_ordered e b = by (ltb e d) refl (eqb e d) refl
    where
      here : orderly (get_or seen.path d []) d (grown h n ds u p.loose (p.at (suc d)) (p.at d)) ≡ true
      here =
          let size = deeper in
          let below : orderly [] (suc d) (p.at (suc d)) ≡ true = rw (put_below seen.path d n k.deep) at (held.ordered (suc d) (omega arith)) in
          let next : orderly n d (p.at d) ≡ true = rw (put_at seen.path d n k.deep) at (held.ordered d (omega arith)) in
          let o = held.options in
          let f = held.flags in
          rooted (get_or seen.path d []) d h n ds u p.loose (p.at (suc d)) (p.at d) k.rising k.good held.only (omega arith) (omega arith) below next

      by : (t : Bool) → ltb e d ≡ t → (v : Bool) → eqb e d ≡ v → orderly (get_or seen.path e []) e ((put d h n ds u p).at e) ≡ true
      by true q v r =
          let less = ltb-true e d q in
          let size = deeper in
          rw (put_less d h n ds u p e less, ← put_other seen.path d e n k.deep less) (held.ordered e (omega arith))
      by false q true r = let z = eqb-true e d r in rw (z, put_here d h n ds u p) here
      by false q false r =
          let more = ltb-false e d q in
          let other = eqb-false e d r in
          let less : d < e = strictly_less d e more other in
          rw (put_more d h n ds u p e less)

  held_node : Held seen (node d h n ds u ∷ l) (put d h n ds u p)
  unfolding put definitions_only options_in flags_in
  held_node =
      record {
        split = node_split;
        above = λ e b. put_more d h n ds u p e (let z = k.deep in omega arith);
        ordered = node_ordered;
        only = refl;
        options = let z = few.options in omega arith;
        flags = let z = few.flags in omega arith;
        orphan = λ z. refl;
      }

-- an option and a flag are loose until a node comes before them
module _ (seen : Seen) (l : List Frame) (p : Planted) where
  held_option : (r c : ℕ) (n : List ℕ) (x : Perhaps) (ds : List ℕ) → obeys seen (option r c n x ds) ≡ true → Held (after seen (option r c n x ds)) l p
      → Held seen (option r c n x ds ∷ l) (record { loose = option r c n x ds ∷ p.loose; at = p.at })
  unfolding after obeys follows definitions_only options_in flags_in
  held_option r c n x ds e held =
      let g = both_first (fair (option r c n x ds)) _ e in
      let some = ltb-true 0 (length seen.path) (both_first (ltb 0 (length seen.path)) _ (both_second (fair (option r c n x ds)) _ e)) in
      record {
        split = ap (λ (m : List Frame). option r c n x ds ∷ m) held.split;
        above = held.above;
        ordered = held.ordered;
        only = both_true _ _ g held.only;
        options = let o = held.options in omega arith;
        flags = held.flags;
        orphan = λ z. absurd (omega arith);
      }

  held_flag : (c : ℕ) (n : List ℕ) (x : Perhaps) (ds : List ℕ) → obeys seen (flag c n x ds) ≡ true → Held (after seen (flag c n x ds)) l p
      → Held seen (flag c n x ds ∷ l) (record { loose = flag c n x ds ∷ p.loose; at = p.at })
  unfolding after obeys follows definitions_only options_in flags_in
  held_flag c n x ds e held =
      let g = both_first (fair (flag c n x ds)) _ e in
      let some = ltb-true 0 (length seen.path) (both_first (ltb 0 (length seen.path)) _ (both_second (fair (flag c n x ds)) _ e)) in
      record {
        split = ap (λ (m : List Frame). flag c n x ds ∷ m) held.split;
        above = held.above;
        ordered = held.ordered;
        only = both_true _ _ g held.only;
        options = held.options;
        flags = let o = held.flags in omega arith;
        orphan = λ z. absurd (omega arith);
      }

few_after : (seen : Seen) (f : Frame) → Few seen → obeys seen f ≡ true → Few (after seen f)
unfolding after obeys follows
few_after seen (node d h n ds u) few e = record { options = omega arith; flags = omega arith }
few_after seen (option r c n x ds) few e =
    let k = ltb-true seen.options 32 (both_second (ltb 0 (length seen.path)) _ (both_second (fair (option r c n x ds)) _ e)) in
    record { options = omega arith; flags = few.flags }
few_after seen (flag c n x ds) few e =
    let k = ltb-true seen.flags 32 (both_second (ltb 0 (length seen.path)) _ (both_second (fair (flag c n x ds)) _ e)) in
    record { options = few.options; flags = omega arith }

held_all : (fs : List Frame) (seen : Seen) → Few seen → obey_all seen fs ≡ true → Held seen fs (plant fs)
unfolding obey_all plant
held_all [] seen few e = held_none seen few
held_all (node d h n ds u ∷ l) seen few e =
    let ok = both_first (obeys seen (node d h n ds u)) _ e in
    let more = held_all l (after seen (node d h n ds u)) (few_after seen (node d h n ds u) few ok) (both_second (obeys seen (node d h n ds u)) _ e) in
    held_node d h n ds u l seen (plant l) few (node_obeys seen d h n ds u ok) more
held_all (option r c n x ds ∷ l) seen few e =
    let ok = both_first (obeys seen (option r c n x ds)) _ e in
    held_option seen l (plant l) r c n x ds ok (held_all l (after seen (option r c n x ds)) (few_after seen (option r c n x ds) few ok) (both_second (obeys seen (option r c n x ds)) _ e))
held_all (flag c n x ds ∷ l) seen few e =
    let ok = both_first (obeys seen (flag c n x ds)) _ e in
    held_flag seen l (plant l) c n x ds ok (held_all l (after seen (flag c n x ds)) (few_after seen (flag c n x ds) few ok) (both_second (obeys seen (flag c n x ds)) _ e))

-- the nodes of a list, and of a forest
count : List Frame → ℕ
count [] = 0
count (node d h n ds u ∷ l) = 1 + count l
count (option r c n x ds ∷ l) = count l
count (flag c n x ds ∷ l) = count l

count_append : (a b : List Frame) → count (a ++ b) ≡ count a + count b
unfolding count
count_append [] b = omega arith
count_append (node d h n ds u ∷ l) b = let k = count_append l b in omega arith
count_append (option r c n x ds ∷ l) b = count_append l b
count_append (flag c n x ds ∷ l) b = count_append l b

count_definitions : (l : List Frame) → definitions_only l ≡ true → count l ≡ 0
unfolding count definitions_only
count_definitions [] e = refl
count_definitions (node d h n ds u ∷ l) e = cc
count_definitions (option r c n x ds ∷ l) e = count_definitions l (both_second (fair (option r c n x ds)) _ e)
count_definitions (flag c n x ds ∷ l) e = count_definitions l (both_second (fair (flag c n x ds)) _ e)

count_forest : (f : Forest) (before : List ℕ) (d : ℕ) → orderly before d f ≡ true → count (flatten d f) ≡ nodes_in f
unfolding count flatten nodes_in orderly
count_forest bare before d e = refl
count_forest (grown h n ds u defs below next) before d e =
    let e₂ = both_second (fair (node d h n ds u)) _ (both_second (is_less (order before n)) _ e) in
    let e₃ = both_second (modest defs) _ e₂ in
    let a = count_definitions defs (both_first (definitions_only defs) _ (both_first (modest defs) _ e₂)) in
    let b = count_forest below [] (suc d) (both_first (orderly [] (suc d) below) _ e₃) in
    let c = count_forest next n d (both_second (orderly [] (suc d) below) _ e₃) in
    let x = count_append defs (flatten (suc d) below ++ flatten d next) in
    let y = count_append (flatten (suc d) below) (flatten d next) in
    omega arith

count_obeys : (fs : List Frame) (seen : Seen) → seen.nodes ≤ 256 → obey_all seen fs ≡ true → seen.nodes + count fs ≤ 256
unfolding count obey_all after
count_obeys [] seen h e = omega arith
count_obeys (node d g n ds u ∷ l) seen h e =
    let k = node_obeys seen d g n ds u (both_first (obeys seen (node d g n ds u)) _ e) in
    let room = k.room in
    let more = count_obeys l (after seen (node d g n ds u)) (omega arith) (both_second (obeys seen (node d g n ds u)) _ e) in
    omega arith
count_obeys (option r c n x ds ∷ l) seen h e = count_obeys l (after seen (option r c n x ds)) h (both_second (obeys seen (option r c n x ds)) _ e)
count_obeys (flag c n x ds ∷ l) seen h e = count_obeys l (after seen (flag c n x ds)) h (both_second (obeys seen (flag c n x ds)) _ e)

-- frames that obey are an orderly forest of at most 256 nodes, flattened
pub record ForestOf (fs : List Frame) : Type 0 where
  pub forest : Forest
  pub flattened : fs ≡ flatten 0 forest
  pub rising : orderly [] 0 forest ≡ true
  pub nodes : nodes_in forest ≤ 256

pub obeys_forest : (fs : List Frame) → obey_all start fs ≡ true → ForestOf fs
unfolding layers
obeys_forest fs e =
    let held = held_all fs start (record { options = omega arith; flags = omega arith }) e in
    let is : fs ≡ flatten 0 ((plant fs).at 0) = held.split ∙ rw (held.orphan refl) in
    let orderly-is = held.ordered 0 (omega arith) in
    let sum = count_obeys fs start (omega arith) e in
    let all = ap count is ∙ count_forest ((plant fs).at 0) [] 0 orderly-is in
    record { forest = (plant fs).at 0; flattened = is; rising = orderly-is; nodes = omega arith }
