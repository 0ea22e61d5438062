-- Laws of a walk: what its places say of the path, and how each frame's tests decide.
use Prim.Native.Nat.{ℕ, zero, suc, ◌+◌, ◌<◌, ◌≤◌}
use mathlib.Core.Path.{◌≡◌, refl, sym, ap, ◌∙◌}
use mathlib.Core.Bool.{Bool, true, false, cond}
use mathlib.Core.List.{List, [], ◌∷◌, ◌++◌, map}
use native.Mathlib.Omega.{arith}
use native.Mathlib.Numerals.{add-one}
use lib.Dec.{ltb}
use lib.ListN.{length, get_or, take, drop, set, length-set, length-map}
use lib.Seq.{length-take-le, get_or-take, take-take, take-suc-set}
use borrow.Author.Tests.{le-leb, lt-leb, lt-ltb, le-ltb}
use Rattle.buffer.specs.Compare.{order}
use Rattle.std.specs.Ordering.{is_lt}
use Rattle.std.specs.declared.cmp.Ordering.{Ordering}
use Rattle.std.specs.declared.cmp.Ordering.TheVariants.{Less, Equal, Greater}
use Rattle.image.specs.Frames.{Perhaps, Frame, node, option, flag}
use Rattle.tree.specs.Rules.{is_less, rises, follows, after}
use Rattle.std.specs.Prelude.{Some, None}
use Rattle.image.specs.Limits.{both}
use Rattle.tree.specs.Inner.{one_more}
use Rattle.tree.specs.Steps.{name_at, text_first, seen_by, Sound, after_node, after_option, after_flag, passed, step_if}
use Rattle.tree.specs.declared.walk.Walk.{Walk}

-- a walk that has passed a frame of that size
pub record KnownAfter (image : List ℕ) (walk : Walk) (f : Frame) (size : ℕ) (next : Walk) : Type 0 where
  pub seen : seen_by image next ≡ after (seen_by image walk) f
  pub sound : Sound next
  pub place : next.at ≡ walk.at + size

module _ {A B : Type 0} (f : A → B) where
  get_d_mapped : (l : List A) (i : ℕ) (x : B) (y : A) → i < length l → get_or (map f l) i x ≡ f (get_or l i y)
  get_d_mapped [] i x y h = absurd (omega arith)
  get_d_mapped (a ∷ l) zero x y h = refl
  get_d_mapped (a ∷ l) (suc i) x y h = get_d_mapped l i x y (omega arith)

  take_mapped : (n : ℕ) (l : List A) → take n (map f l) ≡ map f (take n l)
  take_mapped zero l = refl
  take_mapped (suc n) [] = refl
  take_mapped (suc n) (a ∷ l) = ap (λ (m : List B). f a ∷ m) (take_mapped n l)

  map_joined : (l m : List A) → map f (l ++ m) ≡ map f l ++ map f m
  map_joined [] m = refl
  map_joined (a ∷ l) m = ap (λ (k : List B). f a ∷ k) (map_joined l m)

-- the path that places say
module _ (image : List ℕ) (walk : Walk) (sound : Sound walk) where
  pub path_length : length (seen_by image walk).path ≡ walk.deep
  unfolding seen_by
  path_length =
      length-map (take walk.deep walk.names) (name_at image)
      ∙ length-take-le walk.deep walk.names (let h = sound.deep in let k = sound.names in omega arith)

  pub path_at : (d : ℕ) → d < walk.deep → get_or (seen_by image walk).path d [] ≡ name_at image (get_or walk.names d 0)
  unfolding seen_by
  path_at d h =
      let k : d < length (take walk.deep walk.names) =
      let z = length-take-le walk.deep walk.names (let a = sound.deep in let b = sound.names in omega arith) in omega arith
      in
      get_d_mapped (name_at image) (take walk.deep walk.names) d [] 0 k ∙ ap (name_at image) (get_or-take walk.deep walk.names d 0 h)

  pub rises_first : (d : ℕ) (n : List ℕ) → walk.deep ≤ d → true ≡ rises (seen_by image walk).path d n
  unfolding rises
  rises_first d n h = rw (path_length, le-leb walk.deep d)

  pub rises_after : (d : ℕ) (n : List ℕ) → d < walk.deep → is_less (order (name_at image (get_or walk.names d 0)) n) ≡ rises (seen_by image walk).path d n
  unfolding rises
  rises_after d n h = rw (path_length, lt-leb walk.deep d, path_at d h)

  -- how the tests of a node decide
  module _ (d h : ℕ) (n ds : List ℕ) (u : Perhaps) where
    pub too_deep : walk.deep < d → follows (seen_by image walk) (node d h n ds u) ≡ false
    unfolding follows
    too_deep k = rw (path_length, lt-leb d walk.deep)

    pub too_many : d ≤ walk.deep → 256 ≤ walk.nodes → follows (seen_by image walk) (node d h n ds u) ≡ false
    unfolding follows seen_by
    too_many k l = rw (path_length, le-leb d walk.deep, le-ltb walk.nodes 256)

    pub node_decides : d ≤ walk.deep → walk.nodes < 256 → (t : Bool) → t ≡ rises (seen_by image walk).path d n
        → follows (seen_by image walk) (node d h n ds u) ≡ t
    unfolding follows seen_by
    node_decides k l t r = rw (path_length, le-leb d walk.deep, lt-ltb walk.nodes 256) (sym r)

  -- the walk after a frame of each kind
  pub after_node_lem : (d h : ℕ) (n ds : List ℕ) (u : Perhaps) (size : ℕ) → d ≤ 7 → d ≤ walk.deep → n ≡ name_at image (walk.at + 4)
      → KnownAfter image walk (node d h n ds u) size (after_node walk d size)
  unfolding seen_by after_node after
  after_node_lem d h n ds u size k l e =
      let names : List ℕ = walk.names in
      let inside : d < length names = let z = sound.names in omega arith in
      let front : take (d + 1) (set names d (walk.at + 4)) ≡ take d names ++ (walk.at + 4) ∷ [] =
      ap (λ (m : ℕ). take m (set names d (walk.at + 4))) (add-one d) ∙ take-suc-set names d (walk.at + 4) inside
      in
      let path : map (name_at image) (take (d + 1) (set names d (walk.at + 4))) ≡ take d (map (name_at image) (take walk.deep names)) ++ n ∷ [] =
      ap (map (name_at image)) front
      ∙ map_joined (name_at image) (take d names) ((walk.at + 4) ∷ [])
      ∙ rw (e, take_mapped (name_at image) d (take walk.deep names), take-take d walk.deep names l)
      in
      record {
        seen = ap (λ (p : List (List ℕ)). record { path = p; nodes = walk.nodes + 1; options = 0; flags = 0 }) path;
        sound = record { deep = omega arith; names = length-set names d (walk.at + 4) ∙ sound.names };
        place = refl;
      }

  pub after_option_lem : (q c : ℕ) (n : List ℕ) (l : Perhaps) (ds : List ℕ) (size : ℕ) → KnownAfter image walk (option q c n l ds) size (after_option walk size)
  unfolding seen_by after_option after
  after_option_lem q c n l ds size = record { seen = refl; sound = record { deep = sound.deep; names = sound.names }; place = refl }

  pub after_flag_lem : (c : ℕ) (n : List ℕ) (l : Perhaps) (ds : List ℕ) (size : ℕ) → KnownAfter image walk (flag c n l ds) size (after_flag walk size)
  unfolding seen_by after_flag after
  after_flag_lem c n l ds size = record { seen = refl; sound = record { deep = sound.deep; names = sound.names }; place = refl }

  -- options and flags: a node must stand before them, and there is a limit of each
  module _ (q c : ℕ) (n : List ℕ) (l : Perhaps) (ds : List ℕ) where
    pub option_rule : follows (seen_by image walk) (option q c n l ds) ≡ both (ltb 0 walk.deep) (ltb walk.options 32)
    unfolding follows seen_by
    option_rule = rw path_length

  module _ (c : ℕ) (n : List ℕ) (l : Perhaps) (ds : List ℕ) where
    pub flag_rule : follows (seen_by image walk) (flag c n l ds) ≡ both (ltb 0 walk.deep) (ltb walk.flags 32)
    unfolding follows seen_by
    flag_rule = rw path_length

-- one more of them, or none
module _ (walk : Walk) (listed : ℕ) where
  pub none_more : None ≡ one_more walk listed → both (ltb 0 walk.deep) (ltb listed 32) ≡ false
  unfolding one_more
  none_more e = by (both (ltb 0 walk.deep) (ltb listed 32)) e
    where
      by : (t : Bool) → None ≡ cond t (Some (listed + 1)) None → t ≡ false
      by true q = cc
      by false q = refl

  pub some_more : (n : ℕ) → Some n ≡ one_more walk listed → (both (ltb 0 walk.deep) (ltb listed 32) ≡ true) × (n ≡ listed + 1)
  unfolding one_more
  some_more n e = by (both (ltb 0 walk.deep) (ltb listed 32)) e
    where
      by : (t : Bool) → Some n ≡ cond t (Some (listed + 1)) None → (t ≡ true) × (n ≡ listed + 1)
      by true q = (refl, cc)
      by false q = (cc, cc)

pub option_more : (walk : Walk) (size n : ℕ) → n ≡ walk.options + 1
    → ◌≡◌ {A = Walk} (record { at = walk.at + size; names = walk.names; deep = walk.deep; nodes = walk.nodes; options = n; flags = walk.flags }) (after_option walk size)
unfolding after_option
option_more walk size n e = rw e

pub flag_more : (walk : Walk) (size n : ℕ) → n ≡ walk.flags + 1
    → ◌≡◌ {A = Walk} (record { at = walk.at + size; names = walk.names; deep = walk.deep; nodes = walk.nodes; options = walk.options; flags = n }) (after_flag walk size)
unfolding after_flag
flag_more walk size n e = rw e

-- a step that is refused, and one that is taken
module _ (rule : Bool) (next : Walk) where
  pub step_refused : rule ≡ false → None ≡ step_if rule next
  step_refused k = rw k

  pub step_taken : (after : Walk) → after ≡ next → rule ≡ true → Some after ≡ step_if rule next
  step_taken after e k = rw (k, e)

-- and what each tells
pub none_taken : (rule : Bool) (next : Walk) → None ≡ step_if rule next → rule ≡ false
none_taken true next e = cc
none_taken false next e = refl

pub one_taken : (rule : Bool) (next after : Walk) → Some after ≡ step_if rule next → (rule ≡ true) × (after ≡ next)
one_taken true next after e = (refl, cc)
one_taken false next after e = (cc, cc)

-- a text that was lent in three steps: the rest of the image, its first byte, and as many bytes after that
pub name_lent : (image tail r : List ℕ) (p n : ℕ) → tail ≡ drop p image → n ≡ get_or tail 0 0 → r ≡ take n (drop 1 tail) → r ≡ name_at image p
unfolding text_first
name_lent image tail r p n a b d = d ∙ rw (b, a)

-- the test of the library for less is ours
less : (o : Ordering) → is_lt o ≡ is_less o
less Less = refl
less Equal = refl
less Greater = refl

-- a lent name compared
pub compared : (r : Bool) (o : Ordering) (x y a : List ℕ) → r ≡ is_lt o → o ≡ order x y → x ≡ a → r ≡ is_less (order a y)
compared r o x y a e f g = let l = less o in cc

-- where the walk after a frame stands
pub passed_at : (walk : Walk) (f : Frame) (n : ℕ) → (passed walk f n).at ≡ walk.at + n
unfolding after_node after_option after_flag
passed_at walk (node d h name description usage) n = refl
passed_at walk (option r c name long description) n = refl
passed_at walk (flag c name long description) n = refl
