-- Within the limits of a node a table's insert is BTreeMap's: each key that is stored is a name or a long of a definition, and there is room for those.
use Prim.Native.Nat.{ℕ, ◌+◌, ◌*◌, ◌≤◌}
use mathlib.Core.Path.{◌≡◌, refl, sym, ap, ◌∙◌}
use mathlib.Core.Bool.{Bool, true, false, cond}
use mathlib.Core.List.{List, [], ◌∷◌, ◌++◌}
use mathlib.Core.Option.{Option, none, some}
use native.Mathlib.Omega.{arith}
use lib.ListN.{length}
use Rattle.buffer.specs.Compare.{order, same_bytes}
use Rattle.std.specs.declared.cmp.Ordering.{Ordering}
use Rattle.std.specs.declared.cmp.Ordering.TheVariants.{Less, Equal, Greater}
use Rattle.buffer.proofs.Choices.{then_is, true_is_not_false}
use Rattle.buffer.proofs.Ordering.{same_is, is_same}
use Rattle.image.specs.Frames.{Perhaps, absent, present, Frame, node, option, flag}
use Rattle.tree.specs.Forest.{options_in, flags_in}
use Rattle.lookup.specs.Searches.{keyed, is_node}
use Rattle.lookup.specs.Definitions.{has_key, has_short, flag_with, option_with}
use Rattle.table.specs.Map.{Map, on_order, put, among}
use Rattle.table.proofs.Room.{Bounded, bounded_empty, bounded_put, put_fits}
use Rattle.text.specs.Unicode.{encode}
use Rattle.text.specs.Decoding.{codes_in}
use Rattle.arguments.specs.Meanings.{name_of, first_name, Means, a_flag, an_option, nothing, flag_else, meaning, on_means, is_some, is_option}
use Rattle.arguments.specs.Forms.{Form, valued, long as long_only, shorts, positional, form_of, dash}
use Rattle.arguments.specs.Arguments.{Found, none_found, Stand, go, wait, unknown_option, missing_value, with_option, with_flag, with_positional, short_step, short_steps, form_step, word_step, args}
use Rattle.arguments.specs.Inner.{stored}

-- the name and the long of a definition
abbrev pub names_of : List ℕ → Perhaps → List (List ℕ)
names_of name absent = name ∷ []
names_of name (present t) = name ∷ t ∷ []

abbrev pub names_in : Frame → List (List ℕ)
names_in (node d h name ds u) = []
names_in (option r c name x ds) = names_of name x
names_in (flag c name x ds) = names_of name x

-- all names and longs of the definitions that pass a test
unfoldable pub keys_with : (Frame → Bool) → List Frame → List (List ℕ)
keys_with is [] = []
keys_with is (f ∷ l) = cond (is f) (names_in f ++ keys_with is l) (keys_with is l)

-- of a node's options, and of its flags: the keys that a line can store
abbrev pub any : Frame → Bool
any f = true

abbrev pub option_keys : List Frame → List (List ℕ)
option_keys defs = keys_with (option_with any) defs

abbrev pub flag_keys : List Frame → List (List ℕ)
flag_keys defs = keys_with (flag_with any) defs

names_few : (name : List ℕ) (x : Perhaps) (l : List (List ℕ)) → length (names_of name x ++ l) ≤ 2 + length l
names_few name absent l = omega arith
names_few name (present t) l = omega arith

pub options_few : (defs : List Frame) → length (option_keys defs) ≤ 2 * options_in defs
unfolding keys_with options_in
options_few [] = omega arith
options_few (node d h name ds u ∷ l) = options_few l
options_few (option r c name x ds ∷ l) = let a = names_few name x (option_keys l) in let b = options_few l in omega arith
options_few (flag c name x ds ∷ l) = options_few l

pub flags_few : (defs : List Frame) → length (flag_keys defs) ≤ 2 * flags_in defs
unfolding keys_with flags_in
flags_few [] = omega arith
flags_few (node d h name ds u ∷ l) = flags_few l
flags_few (option r c name x ds ∷ l) = flags_few l
flags_few (flag c name x ds ∷ l) = let a = names_few name x (flag_keys l) in let b = flags_few l in omega arith

-- a key among these or after them
among_front : (k : List ℕ) (a b : List (List ℕ)) → among k a ≡ true → among k (a ++ b) ≡ true
unfolding among
among_front k [] b e = absurd (true_is_not_false (sym e))
among_front k (j ∷ a) b e = by (same_bytes k j) e (among_front k a b)
  where
    by : (t : Bool) → cond t true (among k a) ≡ true → (among k a ≡ true → among k (a ++ b) ≡ true) → cond t true (among k (a ++ b)) ≡ true
    by true q more = refl
    by false q more = more q

among_after : (k : List ℕ) (a b : List (List ℕ)) → among k b ≡ true → among k (a ++ b) ≡ true
unfolding among
among_after k [] b e = e
among_after k (j ∷ a) b e = by (same_bytes k j) (among_after k a b e)
  where
    by : (t : Bool) → among k (a ++ b) ≡ true → cond t true (among k (a ++ b)) ≡ true
    by true more = refl
    by false more = more

-- what has a key has it among its names; and so has a name
keyed_among : (k name : List ℕ) (long : Perhaps) → keyed k name long ≡ true → among k (names_of name long) ≡ true
unfolding keyed among
keyed_among k name absent e = by (same_bytes name k) refl e
  where
    by : (t : Bool) → same_bytes name k ≡ t → cond t true false ≡ true → cond (same_bytes k name) true false ≡ true
    by true q r = then_is _ _ _ (is_same k name (sym (same_is name k q)))
    by false q r = absurd (true_is_not_false (sym r))
keyed_among k name (present t) e = by (same_bytes name k) refl (same_bytes t k) refl e
  where
    by : (a : Bool) → same_bytes name k ≡ a → (b : Bool) → same_bytes t k ≡ b → cond a true b ≡ true → cond (same_bytes k name) true (cond (same_bytes k t) true false) ≡ true
    by true q b r s = then_is _ _ _ (is_same k name (sym (same_is name k q)))
    by false q true r s = rw (is_same k t (sym (same_is t k r))) (both (same_bytes k name))
      where
        both : (x : Bool) → cond x true true ≡ true
        both true = refl
        both false = refl
    by false q false r s = absurd (true_is_not_false (sym s))

name_among : (name : List ℕ) (long : Perhaps) → among name (names_of name long) ≡ true
unfolding among
name_among name absent = then_is _ _ _ (is_same name name refl)
name_among name (present t) = then_is _ _ _ (is_same name name refl)

-- A KEY IS ALWAYS A NAME OR A LONG of a definition, and a short is stored under a name
abbrev Among : List (List ℕ) → List ℕ → Type 0
Among keys k = among k keys ≡ true

-- the definition that was found first: its names are among the keys of all that pass a wider test
record FirstIn (test : Frame → Bool) (keys : List (List ℕ)) (x : List ℕ) : Type 0 where
  frame : Frame
  passes : test frame ≡ true
  named : x ≡ name_of frame
  within : (k : List ℕ) → Among (names_in frame) k → Among keys k

first_in : (test is : Frame → Bool) → ((f : Frame) → test f ≡ true → is f ≡ true) → (defs : List Frame) (x : List ℕ) → first_name test defs ≡ some x → FirstIn test (keys_with is defs) x
unfolding first_name keys_with
first_in test is wide [] x e = absurd (let z : ◌≡◌ {A = ℕ} 0 1 = cc in omega arith)
first_in test is wide (f ∷ l) x e = by (test f) refl (is f) refl e (first_in test is wide l x)
  where
    by : (t : Bool) → test f ≡ t → (u : Bool) → is f ≡ u → cond t (some (name_of f)) (first_name test l) ≡ some x → (first_name test l ≡ some x → FirstIn test (keys_with is l) x)
        → FirstIn test (cond u (names_in f ++ keys_with is l) (keys_with is l)) x
    by true p true q s more = record { frame = f; passes = p; named = cc; within = λ k a. among_front k (names_in f) (keys_with is l) a }
    by true p false q s more = absurd (true_is_not_false (sym (wide f p) ∙ q))
    by false p true q s more =
        let m = more s in
        record { frame = m.frame; passes = m.passes; named = m.named; within = λ k a. among_after k (names_in f) (keys_with is l) (m.within k a) }
    by false p false q s more = more s

-- what the two kinds ask of a frame
option_wide : (has : Frame → Bool) (f : Frame) → option_with has f ≡ true → option_with any f ≡ true
option_wide has (node d h name ds u) e = e
option_wide has (option r c name x ds) e = refl
option_wide has (flag c name x ds) e = e

flag_wide : (has : Frame → Bool) (f : Frame) → flag_with has f ≡ true → flag_with any f ≡ true
flag_wide has (node d h name ds u) e = e
flag_wide has (option r c name x ds) e = e
flag_wide has (flag c name x ds) e = refl

-- a definition with a key has it among its names, and so has it its own name
option_among : (k : List ℕ) (f : Frame) → option_with (has_key k) f ≡ true → Among (names_in f) k
option_among k (node d h name ds u) e = absurd (true_is_not_false (sym e))
option_among k (option r c name x ds) e = keyed_among k name x e
option_among k (flag c name x ds) e = absurd (true_is_not_false (sym e))

flag_among : (k : List ℕ) (f : Frame) → flag_with (has_key k) f ≡ true → Among (names_in f) k
flag_among k (node d h name ds u) e = absurd (true_is_not_false (sym e))
flag_among k (option r c name x ds) e = absurd (true_is_not_false (sym e))
flag_among k (flag c name x ds) e = keyed_among k name x e

own_name : (f : Frame) → is_node f ≡ false → Among (names_in f) (name_of f)
own_name (node d h name ds u) e = absurd (true_is_not_false e)
own_name (option r c name x ds) e = name_among name x
own_name (flag c name x ds) e = name_among name x

option_node : (has : Frame → Bool) (f : Frame) → option_with has f ≡ true → is_node f ≡ false
option_node has (node d h name ds u) e = absurd (true_is_not_false (sym e))
option_node has (option r c name x ds) e = refl
option_node has (flag c name x ds) e = refl

flag_node : (has : Frame → Bool) (f : Frame) → flag_with has f ≡ true → is_node f ≡ false
flag_node has (node d h name ds u) e = absurd (true_is_not_false (sym e))
flag_node has (option r c name x ds) e = refl
flag_node has (flag c name x ds) e = refl

option_key : (k : List ℕ) (defs : List Frame) (x : List ℕ) → first_name (option_with (has_key k)) defs ≡ some x → Among (option_keys defs) k
option_key k defs x e = let f = first_in (option_with (has_key k)) (option_with any) (option_wide (has_key k)) defs x e in f.within k (option_among k f.frame f.passes)

flag_key : (k : List ℕ) (defs : List Frame) (x : List ℕ) → first_name (flag_with (has_key k)) defs ≡ some x → Among (flag_keys defs) k
flag_key k defs x e = let f = first_in (flag_with (has_key k)) (flag_with any) (flag_wide (has_key k)) defs x e in f.within k (flag_among k f.frame f.passes)

option_name : (has : Frame → Bool) (defs : List Frame) (x : List ℕ) → first_name (option_with has) defs ≡ some x → Among (option_keys defs) x
option_name has defs x e =
    let f = first_in (option_with has) (option_with any) (option_wide has) defs x e in
    rw f.named (f.within (name_of f.frame) (own_name f.frame (option_node has f.frame f.passes)))

flag_name : (has : Frame → Bool) (defs : List Frame) (x : List ℕ) → first_name (flag_with has) defs ≡ some x → Among (flag_keys defs) x
flag_name has defs x e =
    let f = first_in (flag_with has) (flag_with any) (flag_wide has) defs x e in
    rw f.named (f.within (name_of f.frame) (own_name f.frame (flag_node has f.frame f.passes)))

-- what a meaning tells of the two searches
abbrev MeansIn : (Frame → Bool) → List Frame → Means → Type 0
MeansIn has defs (a_flag x) = first_name (flag_with has) defs ≡ some x
MeansIn has defs (an_option x) = first_name (option_with has) defs ≡ some x
MeansIn has defs nothing = Unit

means_in : (has : Frame → Bool) (defs : List Frame) → MeansIn has defs (meaning has defs)
unfolding meaning
means_in has defs = by (first_name (flag_with has) defs) refl (first_name (option_with has) defs) refl
  where
    by : (x : Option (List ℕ)) → first_name (flag_with has) defs ≡ x → (y : Option (List ℕ)) → first_name (option_with has) defs ≡ y → MeansIn has defs (flag_else x y)
    by (some x) p y q = p
    by none p (some y) q = q
    by none p none q = tt

-- a map whose keys are all among these
abbrev pub KeysIn : List (List ℕ) → Map → Type 0
KeysIn keys [] = Unit
KeysIn keys (e ∷ m) = Among keys e.0 × KeysIn keys m

put_keys : (keys : List (List ℕ)) (k v : List ℕ) (m : Map) → Among keys k → KeysIn keys m → KeysIn keys (put k v m)
unfolding put
put_keys keys k v [] a x = (a, tt)
put_keys keys k v (e ∷ m) a x = by (order k e.0) (put_keys keys k v m a x.1)
  where
    by : (o : Ordering) → KeysIn keys (put k v m) → KeysIn keys (on_order o ((k, v) ∷ e ∷ m) ((k, v) ∷ m) (e ∷ put k v m))
    by Less more = (a, x)
    by Equal more = (a, x.1)
    by Greater more = (x.0, more)

-- WHAT A LINE HAS FOUND is within the keys of the node
pub record Roomy (defs : List Frame) (f : Found) : Type 0 where
  pub options : Bounded (option_keys defs) f.options
  pub flags : Bounded (flag_keys defs) f.flags
  pub option_keys_lem : KeysIn (option_keys defs) f.options
  pub flag_keys_lem : KeysIn (flag_keys defs) f.flags

abbrev pub RoomyAt : List Frame → Stand → Type 0
RoomyAt defs (go f) = Roomy defs f
RoomyAt defs (wait f key told) = Roomy defs f × Among (option_keys defs) key
RoomyAt defs (unknown_option told) = Unit
RoomyAt defs (missing_value told) = Unit

-- a step that is the same with both inserts, and keeps what was found within
pub record SameStep (defs : List Frame) (a b : Stand) : Type 0 where
  pub same : a ≡ b
  pub roomy : RoomyAt defs a

module _ (defs : List Frame) (fo : length (option_keys defs) ≤ 64) (ff : length (flag_keys defs) ≤ 64) where
  option_same : (f : Found) (k v : List ℕ) → Roomy defs f → Among (option_keys defs) k → SameStep defs (go (with_option put f k v)) (go (with_option stored f k v))
  unfolding with_option
  option_same f k v r a =
      record {
        same = ap (λ (m : Map). go (record { options = m; flags = f.flags; positionals = f.positionals })) (sym (put_fits 64 (option_keys defs) k v f.options fo a r.options));
        roomy = record { options = bounded_put (option_keys defs) k v f.options a r.options; flags = r.flags; option_keys_lem = put_keys (option_keys defs) k v f.options a r.option_keys_lem; flag_keys_lem = r.flag_keys_lem };
      }

  flag_same : (f : Found) (k : List ℕ) → Roomy defs f → Among (flag_keys defs) k → SameStep defs (go (with_flag put f k)) (go (with_flag stored f k))
  unfolding with_flag
  flag_same f k r a =
      record {
        same = ap (λ (m : Map). go (record { options = f.options; flags = m; positionals = f.positionals })) (sym (put_fits 64 (flag_keys defs) k [] f.flags ff a r.flags));
        roomy = record { options = r.options; flags = bounded_put (flag_keys defs) k [] f.flags a r.flags; option_keys_lem = r.option_keys_lem; flag_keys_lem = put_keys (flag_keys defs) k [] f.flags a r.flag_keys_lem };
      }

  short_same : (a : Stand) (c : ℕ) → RoomyAt defs a → SameStep defs (short_step put defs a c) (short_step stored defs a c)
  short_same (go f) c r = by (meaning (has_short c) defs) (means_in (has_short c) defs)
    where
      by : (x : Means) → MeansIn (has_short c) defs x
          → SameStep defs (on_means x (λ name. go (with_flag put f name)) (λ name. wait f name (dash ∷ encode c)) (unknown_option (dash ∷ encode c)))
          (on_means x (λ name. go (with_flag stored f name)) (λ name. wait f name (dash ∷ encode c)) (unknown_option (dash ∷ encode c)))
      by (a_flag x) m = flag_same f x r (flag_name (has_short c) defs x m)
      by (an_option x) m = record { same = refl; roomy = (r, option_name (has_short c) defs x m) }
      by nothing m = record { same = refl; roomy = tt }
  short_same (wait f key told) c r = record { same = refl; roomy = tt }
  short_same (unknown_option told) c r = record { same = refl; roomy = tt }
  short_same (missing_value told) c r = record { same = refl; roomy = tt }

  shorts_same : (codes : List ℕ) (a : Stand) → RoomyAt defs a → SameStep defs (short_steps put defs a codes) (short_steps stored defs a codes)
  unfolding short_steps
  shorts_same [] a r = record { same = refl; roomy = r }
  shorts_same (c ∷ codes) a r =
      let s = short_same a c r in
      let t = shorts_same codes (short_step put defs a c) s.roomy in
      record { same = t.same ∙ ap (λ (x : Stand). short_steps stored defs x codes) s.same; roomy = t.roomy }

  form_same : (f : Found) (w : List ℕ) (form : Form) → Roomy defs f → SameStep defs (form_step put defs f w form) (form_step stored defs f w form)
  unfolding is_option with_positional
  form_same f w (valued k v) r = by (first_name (option_with (has_key k)) defs) refl
    where
      by : (x : Option (List ℕ)) → first_name (option_with (has_key k)) defs ≡ x
          → SameStep defs (cond (is_some x) (go (with_option put f k v)) (unknown_option (dash ∷ dash ∷ k))) (cond (is_some x) (go (with_option stored f k v)) (unknown_option (dash ∷ dash ∷ k)))
      by (some x) e = option_same f k v r (option_key k defs x e)
      by none e = record { same = refl; roomy = tt }
  form_same f w (long_only k) r = by (meaning (has_key k) defs) (means_in (has_key k) defs)
    where
      by : (x : Means) → MeansIn (has_key k) defs x
          → SameStep defs (on_means x (λ name. go (with_flag put f k)) (λ name. wait f k (dash ∷ dash ∷ k)) (unknown_option (dash ∷ dash ∷ k)))
          (on_means x (λ name. go (with_flag stored f k)) (λ name. wait f k (dash ∷ dash ∷ k)) (unknown_option (dash ∷ dash ∷ k)))
      by (a_flag x) m = flag_same f k r (flag_key k defs x m)
      by (an_option x) m = record { same = refl; roomy = (r, option_key k defs x m) }
      by nothing m = record { same = refl; roomy = tt }
  form_same f w (shorts letters) r = shorts_same (codes_in letters) (go f) r
  form_same f w positional r = record { same = refl; roomy = record { options = r.options; flags = r.flags; option_keys_lem = r.option_keys_lem; flag_keys_lem = r.flag_keys_lem } }

  word_same : (a : Stand) (w : List ℕ) → RoomyAt defs a → SameStep defs (word_step put defs a w) (word_step stored defs a w)
  word_same (go f) w r = form_same f w (form_of w) r
  word_same (wait f key told) w r = option_same f key w r.0 r.1
  word_same (unknown_option told) w r = record { same = refl; roomy = tt }
  word_same (missing_value told) w r = record { same = refl; roomy = tt }

  words_same : (l : List (List ℕ)) (a : Stand) → RoomyAt defs a → SameStep defs (args put defs a l) (args stored defs a l)
  unfolding args
  words_same [] a r = record { same = refl; roomy = r }
  words_same (w ∷ l) a r =
      let s = word_same a w r in
      let t = words_same l (word_step put defs a w) s.roomy in
      record { same = t.same ∙ ap (λ (x : Stand). args stored defs x l) s.same; roomy = t.roomy }

  -- THE TABLE HOLDS WHAT THE MAP HOLDS
  pub args_same : (l : List (List ℕ)) → SameStep defs (args put defs (go none_found) l) (args stored defs (go none_found) l)
  args_same l = words_same l (go none_found) (record { options = bounded_empty (option_keys defs); flags = bounded_empty (flag_keys defs); option_keys_lem = tt; flag_keys_lem = tt })
