-- The flattening of an orderly forest obeys every rule.
use Prim.Native.Nat.{ℕ, suc, ◌+◌, ◌<◌, ◌≤◌}
use mathlib.Core.Path.{◌≡◌, refl, sym, ap, ◌∙◌}
use mathlib.Core.Bool.{Bool, true, false, cond}
use mathlib.Core.List.{List, [], ◌∷◌, ◌++◌, append_assoc, append-nil}
use native.Mathlib.Omega.{arith}
use lib.Dec.{leb}
use lib.ListN.{length, get_or, take, length-append, length-take, get_or-eq_default}
use lib.Seq.{take_all, take-take, take-append-le, length-take-le, get_or-take, get_or_at}
use borrow.Author.Tests.{le-leb, lt-ltb, leb-true}
use Rattle.buffer.specs.Compare.{order}
use Rattle.image.specs.Frames.{Perhaps, Frame, node, option, flag}
use Rattle.image.specs.Limits.{fair}
use Rattle.image.proofs.Fields.{both_first, both_second}
use Rattle.tree.specs.Rules.{Seen, start, is_less, rises, follows, obeys, after, obey_all}
use Rattle.tree.specs.Forest.{Forest, bare, grown, flatten, nodes_in, options_in, flags_in, definitions_only, modest, orderly}

-- a frame that obeys is passed
obey_on : (seen : Seen) (f : Frame) (l : List Frame) → obeys seen f ≡ true → obey_all seen (f ∷ l) ≡ obey_all (after seen f) l
unfolding obey_all
obey_on seen f l e = rw e

-- the definitions of a node are passed, and counted
counted : Seen → ℕ → ℕ → Seen
counted seen o g = record { path = seen.path; nodes = seen.nodes; options = seen.options + o; flags = seen.flags + g }

seen_same : (p : List (List ℕ)) (n a b c e : ℕ) → a ≡ c → b ≡ e → ◌≡◌ {A = Seen} (record { path = p; nodes = n; options = a; flags = b }) (record { path = p; nodes = n; options = c; flags = e })
seen_same p n a b c e x y = cc

definitions_pass : (defs rest : List Frame) (seen : Seen) → definitions_only defs ≡ true → 0 < length seen.path → seen.options + options_in defs ≤ 32 → seen.flags + flags_in defs ≤ 32
    → obey_all seen (defs ++ rest) ≡ obey_all (counted seen (options_in defs) (flags_in defs)) rest
unfolding definitions_only options_in flags_in obeys follows after counted
definitions_pass [] rest seen e k o g = ap (λ (s : Seen). obey_all s rest) (seen_same _ _ _ _ _ _ (omega arith) (omega arith))
definitions_pass (node d h n ds u ∷ l) rest seen e k o g = absurd (let z : ◌≡◌ {A = ℕ} 0 1 = cc in omega arith)
definitions_pass (option r c n x ds ∷ l) rest seen e k o g =
    let ok : obeys seen (option r c n x ds) ≡ true = rw (both_first (fair (option r c n x ds)) _ e, lt-ltb 0 (length seen.path) k, lt-ltb seen.options 32 (omega arith)) in
    obey_on seen (option r c n x ds) (l ++ rest) ok
    ∙ definitions_pass l rest (after seen (option r c n x ds)) (both_second (fair (option r c n x ds)) _ e) k (omega arith) g
    ∙ ap (λ (s : Seen). obey_all s rest) (seen_same _ _ _ _ _ _ (omega arith) refl)
definitions_pass (flag c n x ds ∷ l) rest seen e k o g =
    let ok : obeys seen (flag c n x ds) ≡ true = rw (both_first (fair (flag c n x ds)) _ e, lt-ltb 0 (length seen.path) k, lt-ltb seen.flags 32 (omega arith)) in
    obey_on seen (flag c n x ds) (l ++ rest) ok
    ∙ definitions_pass l rest (after seen (flag c n x ds)) (both_second (fair (flag c n x ds)) _ e) k o (omega arith)
    ∙ ap (λ (s : Seen). obey_all s rest) (seen_same _ _ _ _ _ _ refl (omega arith))

-- a path with a name put at depth d
module _ (path : List (List ℕ)) (d : ℕ) (n : List ℕ) (h : d ≤ length path) where
  pub put_length : length (take d path ++ n ∷ []) ≡ suc d
  put_length = length-append (take d path) (n ∷ []) ∙ (let k = length-take-le d path h in omega arith)

  pub put_at : get_or (take d path ++ n ∷ []) d [] ≡ n
  put_at = get_or_at (take d path) n [] [] d (length-take-le d path h)

  pub put_below : get_or (take d path ++ n ∷ []) (suc d) [] ≡ []
  put_below = get_or-eq_default (take d path ++ n ∷ []) [] (let k = put_length in omega arith)

  pub put_take : take d (take d path ++ n ∷ []) ≡ take d path
  put_take =
      let k = length-take-le d path h in
      let l : d ≤ length (take d path) = omega arith in
      take-append-le d (take d path) (n ∷ []) l ∙ take_all d (take d path) (omega arith)

-- siblings are passed, and the path above them stays
record Grown (seen : Seen) (d : ℕ) (f : Forest) (rest : List Frame) : Type 0 where
  out : Seen
  same : obey_all seen (flatten d f ++ rest) ≡ obey_all out rest
  path : take d out.path ≡ take d seen.path
  nodes : out.nodes ≡ seen.nodes + nodes_in f

rises_by : (path : List (List ℕ)) (d : ℕ) (n : List ℕ) → is_less (order (get_or path d []) n) ≡ true → rises path d n ≡ true
unfolding rises
rises_by path d n e = by (leb (length path) d)
  where
    by : (t : Bool) → cond t true (is_less (order (get_or path d []) n)) ≡ true
    by true = refl
    by false = e

deep_enough : (d : ℕ) (p q : List (List ℕ)) → take d p ≡ take d q → d ≤ length q → d ≤ length p
deep_enough d p q e h =
    let a = length-take d p in
    let b = length-take d q in
    let c = ap length e in
    omega arith

-- a node and its definitions are passed
record Entered (d hd : ℕ) (n ds : List ℕ) (u : Perhaps) (defs : List Frame) (below next : Forest) (seen : Seen) (rest : List Frame) : Type 0 where
  into : Seen
  same : obey_all seen (flatten d (grown hd n ds u defs below next) ++ rest) ≡ obey_all into (flatten (suc d) below ++ (flatten d next ++ rest))
  path : into.path ≡ take d seen.path ++ n ∷ []
  nodes : into.nodes ≡ seen.nodes + 1
  o_below : orderly [] (suc d) below ≡ true
  o_next : orderly n d next ≡ true

module _ (d hd : ℕ) (n ds : List ℕ) (u : Perhaps) (defs : List Frame) (below next : Forest) (seen : Seen) (rest : List Frame) where
  enters : (x y : List Frame) → flatten (suc d) below ≡ x → flatten d next ≡ y → obeys seen (node d hd n ds u) ≡ true → modest defs ≡ true → d ≤ length seen.path
      → orderly [] (suc d) below ≡ true → orderly n d next ≡ true → Entered d hd n ds u defs below next seen rest
  unfolding flatten after counted
  enters x y ex ey ok few h ob on =
      let only = both_first (definitions_only defs) _ few in
      let few-options = leb-true (options_in defs) 32 (both_first (leb (options_in defs) 32) _ (both_second (definitions_only defs) _ few)) in
      let few-flags = leb-true (flags_in defs) 32 (both_second (leb (options_in defs) 32) _ (both_second (definitions_only defs) _ few)) in
      let long = put_length seen.path d n h in
      let pass = definitions_pass defs (x ++ (y ++ rest)) (after seen (node d hd n ds u)) only (omega arith) (omega arith) (omega arith) in
      let join : (defs ++ (x ++ y)) ++ rest ≡ defs ++ (x ++ (y ++ rest)) = simp append_assoc in
      record {
        into = counted (after seen (node d hd n ds u)) (options_in defs) (flags_in defs);
        same = rw (ex, ey) (obey_on seen (node d hd n ds u) ((defs ++ (x ++ y)) ++ rest) ok ∙ ap (obey_all (after seen (node d hd n ds u))) join ∙ pass);
        path = refl;
        nodes = refl;
        o_below = ob;
        o_next = on;
      }

  entered : orderly (get_or seen.path d []) d (grown hd n ds u defs below next) ≡ true → d ≤ length seen.path → seen.nodes < 256 → Entered d hd n ds u defs below next seen rest
  unfolding orderly obeys follows
  entered o h m =
      let rising = both_first (is_less (order (get_or seen.path d []) n)) _ o in
      let o₁ = both_second (is_less (order (get_or seen.path d []) n)) _ o in
      let fine = both_first (fair (node d hd n ds u)) _ o₁ in
      let o₂ = both_second (fair (node d hd n ds u)) _ o₁ in
      let few = both_first (modest defs) _ o₂ in
      let o₃ = both_second (modest defs) _ o₂ in
      let ok : obeys seen (node d hd n ds u) ≡ true = rw (fine, le-leb d (length seen.path) h, lt-ltb seen.nodes 256 m, rises_by seen.path d n rising) in
      enters _ _ refl refl ok few h (both_first (orderly [] (suc d) below) _ o₃) (both_second (orderly [] (suc d) below) _ o₃)

-- what is to be shown of every forest
abbrev Grows : Forest → ℕ → Type 0
Grows f d =
    (seen : Seen) (rest : List Frame) → orderly (get_or seen.path d []) d f ≡ true → d ≤ length seen.path → seen.nodes + nodes_in f ≤ 256 → Grown seen d f rest

-- the path below a node and the path after it
module _ (d : ℕ) (n : List ℕ) (path q : List (List ℕ)) (h : d ≤ length path) (e : take (suc d) q ≡ take (suc d) (take d path ++ n ∷ [])) where
  whole_path : take (suc d) q ≡ take d path ++ n ∷ []
  whole_path = e ∙ take_all (suc d) (take d path ++ n ∷ []) (let k = put_length path d n h in omega arith)

  name_there : get_or q d [] ≡ n
  name_there = sym (get_or-take (suc d) q d [] (omega arith)) ∙ ap (λ (p : List (List ℕ)). get_or p d []) whole_path ∙ put_at path d n h

  above_stays : take d q ≡ take d path
  above_stays = sym (take-take d (suc d) q (omega arith)) ∙ ap (take d) whole_path ∙ put_take path d n h

  deep_there : d ≤ length q
  deep_there = deep_enough d q path above_stays h

grow_node : (d hd : ℕ) (n ds : List ℕ) (u : Perhaps) (defs : List Frame) (below next : Forest) → Grows below (suc d) → Grows next d → Grows (grown hd n ds u defs below next) d
unfolding nodes_in
grow_node d hd n ds u defs below next grow-below grow-next seen rest o h m =
    let e = entered d hd n ds u defs below next seen rest o h (omega arith) in
    let count = e.nodes in
    let inner : orderly (get_or e.into.path (suc d) []) (suc d) below ≡ true = rw (e.path, put_below seen.path d n h) e.o_below in
    let deep : suc d ≤ length e.into.path = rw (e.path, put_length seen.path d n h) (omega arith) in
    let g = grow-below e.into (flatten d next ++ rest) inner deep (omega arith) in
    let count₂ = g.nodes in
    let q : take (suc d) g.out.path ≡ take (suc d) (take d seen.path ++ n ∷ []) = g.path ∙ ap (take (suc d)) e.path in
    let beyond : orderly (get_or g.out.path d []) d next ≡ true = rw (name_there d n seen.path g.out.path h q) e.o_next in
    let k = grow-next g.out rest beyond (deep_there d n seen.path g.out.path h q) (omega arith) in
    let count₃ = k.nodes in
    record {
      out = k.out;
      same = e.same ∙ g.same ∙ k.same;
      path = k.path ∙ above_stays d n seen.path g.out.path h q;
      nodes = omega arith;
    }

grow_none : (d : ℕ) → Grows bare d
unfolding flatten nodes_in
grow_none d seen rest o h m = record { out = seen; same = refl; path = refl; nodes = omega arith }

grow : (f : Forest) (d : ℕ) → Grows f d
grow bare d = grow_none d
grow (grown hd n ds u defs below next) d = grow_node d hd n ds u defs below next (grow below (suc d)) (grow next d)

-- an orderly forest of at most 256 nodes, flattened, obeys
pub forest_obeys : (f : Forest) → orderly [] 0 f ≡ true → nodes_in f ≤ 256 → obey_all start (flatten 0 f) ≡ true
unfolding obey_all
forest_obeys f o m =
    let g = grow f 0 start [] o (omega arith) (omega arith) in
    ap (obey_all start) (sym (append-nil (flatten 0 f))) ∙ g.same
