-- How many frames a well-formed tree has, nodes in all, and options and flags of each node, and how long their texts are; a subtree has no more.
use Prim.Native.Nat.{ℕ, ◌-◌, ◌<◌, ◌≤◌}
use mathlib.Core.Path.{◌≡◌}
use mathlib.Core.Bool.{Bool, true, false, cond}
use mathlib.Core.List.{List, [], ◌∷◌}
use native.Mathlib.Omega.{arith}
use lib.Dec.{ltb, leb}
use lib.ListN.{length}
use borrow.Author.Tests.{ltb-true, leb-true}
use Rattle.image.specs.Frames.{Perhaps, Frame, node, option, flag}
use Rattle.image.specs.Limits.{is_name, is_note, is_short, optionally, definable, fair}
use Rattle.image.proofs.Fields.{both_first, both_second}
use Rattle.tree.specs.Rules.{Seen, follows, obeys, after, obey_all}
use Rattle.tree.specs.Subtrees.{up_to, on_from, rooted, subtree}
use Rattle.lookup.specs.Searches.{wanted}
use Rattle.lookup.specs.declared.look.Sought.TheVariants.{Node, Upper}

-- the texts of a frame within its limits
pub name_short : (t : List ℕ) → is_name t ≡ true → length t ≤ 32
unfolding is_name
name_short t e = leb-true (length t) 32 (both_first (leb (length t) 32) _ (both_second (leb 1 (length t)) _ e))

pub note_short : (t : List ℕ) → is_note t ≡ true → length t ≤ 96
unfolding is_note
note_short t e = leb-true (length t) 96 (both_first (leb (length t) 96) _ e)

pub node_short : (d h : ℕ) (n ds : List ℕ) (u : Perhaps) → fair (node d h n ds u) ≡ true → (length n ≤ 32) × (length ds ≤ 96) × (optionally is_note u ≡ true)
unfolding fair
node_short d h n ds u e =
    let k = both_second (leb d 7) _ (both_second (ltb h 65536) _ e) in
    let l = both_second (is_name n) _ k in
    (name_short n (both_first (is_name n) _ k), note_short ds (both_first (is_note ds) _ l), both_second (is_note ds) _ l)

definable_short : (c : ℕ) (n : List ℕ) (x : Perhaps) (ds : List ℕ) → definable c n x ds ≡ true → (length n ≤ 32) × (optionally is_name x ≡ true) × (length ds ≤ 96)
unfolding definable
definable_short c n x ds e =
    let k = both_second (is_short c) _ e in
    let l = both_second (is_name n) _ k in
    (name_short n (both_first (is_name n) _ k), both_first (optionally is_name x) _ l, note_short ds (both_second (optionally is_name x) _ l))

pub option_short : (r c : ℕ) (n : List ℕ) (x : Perhaps) (ds : List ℕ) → fair (option r c n x ds) ≡ true → (length n ≤ 32) × (optionally is_name x ≡ true) × (length ds ≤ 96)
unfolding fair
option_short r c n x ds e = definable_short c n x ds (both_second (leb r 1) _ e)

pub flag_short : (c : ℕ) (n : List ℕ) (x : Perhaps) (ds : List ℕ) → fair (flag c n x ds) ≡ true → (length n ≤ 32) × (optionally is_name x ≡ true) × (length ds ≤ 96)
unfolding fair
flag_short c n x ds e = definable_short c n x ds e

-- frames within their limits: at most n nodes, o options and g flags before the first node, and 32 of each after a node
abbrev pub Few : ℕ → ℕ → ℕ → List Frame → Type 0
Few n o g [] = Unit
Few n o g (node d h name ds u ∷ l) = (fair (node d h name ds u) ≡ true) × (0 < n) × Few (n - 1) 32 32 l
Few n o g (option r c name x ds ∷ l) = (fair (option r c name x ds) ≡ true) × (0 < o) × Few n (o - 1) g l
Few n o g (flag c name x ds ∷ l) = (fair (flag c name x ds) ≡ true) × (0 < g) × Few n o (g - 1) l

-- frames that obey are few
pub obey_few : (fs : List Frame) (seen : Seen) (n o g : ℕ) → n ≡ 256 - seen.nodes → o ≡ 32 - seen.options → g ≡ 32 - seen.flags → obey_all seen fs ≡ true → Few n o g fs
unfolding obey_all obeys follows after
obey_few [] seen n o g p q r e = tt
obey_few (node d h name ds u ∷ l) seen n o g p q r e =
    let rule = both_first (obeys seen (node d h name ds u)) _ e in
    let more = ltb-true seen.nodes 256 (both_first (ltb seen.nodes 256) _ (both_second (leb d (length seen.path)) _ (both_second (fair (node d h name ds u)) _ rule))) in
    (both_first (fair (node d h name ds u)) _ rule, omega arith, obey_few l (after seen (node d h name ds u)) (n - 1) 32 32 (omega arith) (omega arith) (omega arith) (both_second (obeys seen (node d h name ds u)) _ e))
obey_few (option a c name x ds ∷ l) seen n o g p q r e =
    let rule = both_first (obeys seen (option a c name x ds)) _ e in
    let more = ltb-true seen.options 32 (both_second (ltb 0 (length seen.path)) _ (both_second (fair (option a c name x ds)) _ rule)) in
    (both_first (fair (option a c name x ds)) _ rule, omega arith, obey_few l (after seen (option a c name x ds)) n (o - 1) g p (omega arith) r (both_second (obeys seen (option a c name x ds)) _ e))
obey_few (flag c name x ds ∷ l) seen n o g p q r e =
    let rule = both_first (obeys seen (flag c name x ds)) _ e in
    let more = ltb-true seen.flags 32 (both_second (ltb 0 (length seen.path)) _ (both_second (fair (flag c name x ds)) _ rule)) in
    (both_first (fair (flag c name x ds)) _ rule, omega arith, obey_few l (after seen (flag c name x ds)) n o (g - 1) p q (omega arith) (both_second (obeys seen (flag c name x ds)) _ e))

-- fewer are few, and so are those before a frame and those from a frame on
few_more : (fs : List Frame) (n m o p g h : ℕ) → n ≤ m → o ≤ p → g ≤ h → Few n o g fs → Few m p h fs
few_more [] n m o p g h a b c k = tt
few_more (node d e name ds u ∷ l) n m o p g h a b c k = let q = k.1 in (k.0, omega arith, few_more l (n - 1) (m - 1) 32 32 32 32 (omega arith) (omega arith) (omega arith) k.2)
few_more (option r e name x ds ∷ l) n m o p g h a b c k = let q = k.1 in (k.0, omega arith, few_more l n m (o - 1) (p - 1) g h a (omega arith) c k.2)
few_more (flag e name x ds ∷ l) n m o p g h a b c k = let q = k.1 in (k.0, omega arith, few_more l n m o p (g - 1) (h - 1) a b (omega arith) k.2)

pub few_up : (test : Frame → Bool) (fs : List Frame) (n o g : ℕ) → Few n o g fs → Few n o g (up_to test fs)
unfolding up_to
few_up test [] n o g k = tt
few_up test (f ∷ l) n o g k = by (test f) f k (few_up test l)
  where
    by : (t : Bool) (f : Frame) → Few n o g (f ∷ l) → ((n o g : ℕ) → Few n o g l → Few n o g (up_to test l)) → Few n o g (cond t [] (f ∷ up_to test l))
    by true f k more = tt
    by false (node d h name ds u) k more = (k.0, k.1, more (n - 1) 32 32 k.2)
    by false (option r c name x ds) k more = (k.0, k.1, more n (o - 1) g k.2)
    by false (flag c name x ds) k more = (k.0, k.1, more n o (g - 1) k.2)

few_on : (test : Frame → Bool) (fs : List Frame) (n o g : ℕ) → o ≤ 32 → g ≤ 32 → Few n o g fs → Few n 32 32 (on_from test fs)
unfolding on_from
few_on test [] n o g a b k = tt
few_on test (f ∷ l) n o g a b k = by (test f) f k (few_on test l)
  where
    by : (t : Bool) (f : Frame) → Few n o g (f ∷ l) → ((n o g : ℕ) → o ≤ 32 → g ≤ 32 → Few n o g l → Few n 32 32 (on_from test l))
        → Few n 32 32 (cond t (f ∷ l) (on_from test l))
    by true f k more = few_more (f ∷ l) n n o 32 g 32 (omega arith) a b k
    by false (node d h name ds u) k more =
        few_more (on_from test l) (n - 1) n 32 32 32 32 (omega arith) (omega arith) (omega arith) (more (n - 1) 32 32 (omega arith) (omega arith) k.2)
    by false (option r c name x ds) k more = more n (o - 1) g (omega arith) b k.2
    by false (flag c name x ds) k more = more n o (g - 1) a (omega arith) k.2

few_rooted : (d : ℕ) (fs : List Frame) (n o g : ℕ) → Few n o g fs → Few n o g (rooted d fs)
few_rooted d [] n o g k = tt
few_rooted d (node e h name ds u ∷ l) n o g k = (k.0, k.1, few_up (wanted (Upper d) []) l (n - 1) 32 32 k.2)
few_rooted d (option r c name x ds ∷ l) n o g k = (k.0, k.1, few_up (wanted (Upper d) []) l n (o - 1) g k.2)
few_rooted d (flag c name x ds ∷ l) n o g k = (k.0, k.1, few_up (wanted (Upper d) []) l n o (g - 1) k.2)

pub few_subtree : (d : ℕ) (name : List ℕ) (fs : List Frame) (n : ℕ) → Few n 32 32 fs → Few n 32 32 (subtree d name fs)
unfolding subtree
few_subtree d name fs n k =
    few_rooted d (on_from (wanted (Node d) name) fs) n 32 32 (few_on (wanted (Node d) name) fs n 32 32 (omega arith) (omega arith) k)
