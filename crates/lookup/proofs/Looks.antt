-- Laws of one frame of a search, as the code tests it.
use Rattle.std.specs.Prelude.{Option as Maybe, Some, None}
use Prim.Native.Nat.{ℕ}
use mathlib.Core.Path.{◌≡◌, refl, ◌∙◌}
use mathlib.Core.Bool.{Bool, true, false, cond}
use mathlib.Core.List.{List, [], ◌∷◌}
use lib.Dec.{leb}
use lib.ListN.{take}
use borrow.Author.Tests.{eq-eqb, ne_eqb}
use types.Run.{OneOf, miss}
use denote.Enum.Declared.{tag_of}
use Rattle.lookup.specs.contracts.look.Sought.{the_type}
use Rattle.image.specs.contracts.head.Head.{the_type as head_type}
use Rattle.buffer.specs.Compare.{same_bytes}
use Rattle.image.specs.Frames.{Perhaps, Frame, node, option, flag}
use Rattle.image.specs.Reading.{perhaps_in, head_first, read, read_by, read_first, option_in, flag_in}
use Rattle.image.specs.declared.head.Lengths.{Lengths}
use Rattle.image.specs.declared.head.Head.{Head}
use Rattle.image.specs.declared.head.Head.TheVariants.{Node as NodeHead, Option as OptionHead, Flag as FlagHead, Bad, End}
use Rattle.lookup.specs.Searches.{keyed}
use Rattle.lookup.specs.Inner.{hit_or, look_at, look_by}
use Rattle.lookup.specs.declared.look.Sought.{Sought}
use Rattle.lookup.specs.declared.look.Sought.TheVariants.{Node, Upper, OptionKeyed}
use Rattle.lookup.specs.declared.look.Look.{Look}
use Rattle.lookup.specs.declared.look.Look.TheVariants.{Pass, Stop}

-- a part that was lent and compared, seen as what it holds
pub same_part : (x y key : List ℕ) (r t : Bool) → r ≡ same_bytes x key → x ≡ y → r ≡ t → same_bytes y key ≡ t
same_part x y key r t e p q = cc

module _ (key name : List ℕ) where
  pub keyed_name : (l : Perhaps) → same_bytes name key ≡ true → true ≡ keyed key name l
  unfolding keyed
  keyed_name l e = rw e

  pub keyed_none : (o : Maybe ℕ) (s : List ℕ) → same_bytes name key ≡ false → o ≡ None → false ≡ keyed key name (perhaps_in o s)
  unfolding keyed perhaps_in
  keyed_none o s e k = rw (e, k)

  pub keyed_long : (o : Maybe ℕ) (n : ℕ) (s : List ℕ) → same_bytes name key ≡ false → o ≡ Some n → same_bytes (take n s) key ≡ keyed key name (perhaps_in o s)
  unfolding keyed perhaps_in
  keyed_long o n s e k = rw (e, k)

module _ (sought : Sought) (key : List ℕ) (size : ℕ) where
  -- a node
  module _ (e h : ℕ) (n ds : List ℕ) (u : Perhaps) where
    pub node_other : (d : ℕ) → sought ≡ Node d → (e ≡ d → ⊥) → Pass size ≡ look_at sought key (node e h n ds u) size
    node_other d q k = rw (q, ne_eqb e d k)

    pub node_named : (d : ℕ) (r : Look) (t : Bool) (x : List ℕ) → sought ≡ Node d → e ≡ d → r ≡ hit_or t size → t ≡ same_bytes x key → x ≡ n
        → r ≡ look_at sought key (node e h n ds u) size
    node_named d r t x q k a b c = rw (q, eq-eqb e d k) (a ∙ rw (b, c))

    pub node_upper : (d : ℕ) (r : Look) → sought ≡ Upper d → r ≡ hit_or (leb e d) size → r ≡ look_at sought key (node e h n ds u) size
    node_upper d r q a = rw q a

    pub node_ends : sought ≡ OptionKeyed → Stop ≡ look_at sought key (node e h n ds u) size
    node_ends q = rw q

  -- an option
  module _ (q c : ℕ) (n : List ℕ) (l : Perhaps) (ds : List ℕ) where
    pub option_keyed : (r : Look) (t : Bool) → sought ≡ OptionKeyed → r ≡ hit_or t size → t ≡ keyed key n l → r ≡ look_at sought key (option q c n l ds) size
    option_keyed r t e a b = rw e (a ∙ rw b)

    option_passed : OneOf (0 ∷ 1 ∷ []) (tag_of the_type sought) → Pass size ≡ look_at sought key (option q c n l ds) size
    option_passed o = by sought o
      where
        by : (x : Sought) → OneOf (0 ∷ 1 ∷ []) (tag_of the_type x) → Pass size ≡ look_at x key (option q c n l ds) size
        by (Node d) k = refl
        by (Upper d) k = refl
        by OptionKeyed k = absurd (miss (0 ∷ 1 ∷ []) 2 tt k)

  -- a flag, which no search wants
  flag_passed : (c : ℕ) (n : List ℕ) (l : Perhaps) (ds : List ℕ) → Pass size ≡ look_at sought key (flag c n l ds) size
  flag_passed c n l ds = by sought
    where
      by : (x : Sought) → Pass size ≡ look_at x key (flag c n l ds) size
      by (Node d) = refl
      by (Upper d) = refl
      by OptionKeyed = refl

  -- the same for frames that a head says
  module _ (s : List ℕ) (t : Lengths) where
    pub option_passed_in : (q c : ℕ) → OneOf (0 ∷ 1 ∷ []) (tag_of the_type sought) → Pass size ≡ look_at sought key (option_in s q c t) size
    unfolding option_in
    option_passed_in q c = option_passed q c _ _ _

    pub flag_passed_in : (c : ℕ) → Pass size ≡ look_at sought key (flag_in s c t) size
    unfolding flag_in
    flag_passed_in c = flag_passed c _ _ _

-- a head that is known, seen by a search
module _ (want ends : Frame → Bool) (s : List ℕ) where
  pub looked : (head : Head) (f : Frame) (n : ℕ) (r : Look) → head ≡ head_first s → read_by s head ≡ read f n → r ≡ cond (ends f) Stop (hit_or (want f) n)
      → r ≡ look_by want ends (read_first s)
  unfolding read_first
  looked head f n r e k a = a ∙ rw (← e, k)

  pub looked_none : (head : Head) → head ≡ head_first s → OneOf (3 ∷ 4 ∷ []) (tag_of head_type head) → Stop ≡ look_by want ends (read_first s)
  unfolding read_first
  looked_none (NodeHead d h t) e k = absurd (miss (3 ∷ 4 ∷ []) 0 tt k)
  looked_none (OptionHead q c t) e k = absurd (miss (3 ∷ 4 ∷ []) 1 tt k)
  looked_none (FlagHead c t) e k = absurd (miss (3 ∷ 4 ∷ []) 2 tt k)
  looked_none Bad e k = rw (← e)
  looked_none End e k = rw (← e)
