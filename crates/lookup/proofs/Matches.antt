-- Laws of the pass over a node's definitions, for any test of a definition: one frame, then the pass from the place after it.
use Rattle.std.specs.Prelude.{Some, None, Option}
use Prim.Native.Nat.{ℕ, ◌+◌, ◌<◌, ◌≤◌}
use mathlib.Core.Path.{◌≡◌, refl, sym, ◌∙◌}
use mathlib.Core.Bool.{Bool, true, false, cond}
use mathlib.Core.List.{List, [], ◌∷◌}
use lib.ListN.{length, drop}
use types.Run.{OneOf, miss}
use denote.Enum.Declared.{tag_of}
use Rattle.image.specs.contracts.head.Head.{the_type}
use Rattle.buffer.specs.Numbers.{Bytes}
use Rattle.image.specs.Frames.{Frame, node, option, flag}
use Rattle.image.specs.Reading.{head_first, Read, read, broken, ended, read_first, name_in, long_in, node_in, option_in, flag_in}
use Rattle.image.specs.declared.head.Lengths.{Lengths}
use Rattle.image.specs.declared.head.Head.{Head}
use Rattle.image.specs.declared.head.Head.TheVariants.{Node as NodeHead, Option as OptionHead, Flag as FlagHead, Bad, End}
use Rattle.lookup.specs.Spots.{spot}
use Rattle.lookup.specs.Searches.{is_node}
use Rattle.lookup.specs.Inner.{hit_or, look_by, or_else, match_by, asked_in, has_asked}
use Rattle.lookup.specs.Definitions.{flag_with, option_with, flag_or, defined}
use Rattle.lookup.specs.declared.look.Look.{Look}
use Rattle.lookup.specs.declared.look.Look.TheVariants.{Hit, Pass as PassLook, Stop as StopLook}
use Rattle.lookup.specs.declared.definition.Defined.{Defined}
use Rattle.lookup.specs.declared.definition.Defined.TheVariants.{Flag}
use Rattle.lookup.specs.declared.definition.Asked.{Asked}
use Rattle.lookup.specs.declared.definition.Asked.TheVariants.{Key, Short}
use Rattle.lookup.specs.declared.definition.Match.{Match}
use Rattle.lookup.specs.declared.definition.Match.TheVariants.{FlagHit, OptionHit, Pass, Stop}
use Rattle.lookup.proofs.Seeks.{spot_end, spot_hit, spot_stop, spot_pass}

module _ (has : Frame → Bool) where
  -- a head that is known, seen by the pass
  module _ (s : List ℕ) where
    pub matched_option : (q c : ℕ) (t : Lengths) → OptionHead q c t ≡ head_first s → (g : Bool) → g ≡ has (option_in s q c t)
        → cond g (OptionHit t.size) (Pass t.size) ≡ match_by has (read_first s)
    unfolding read_first option_in
    matched_option q c t e g k = rw (k, ← e)

    pub matched_flag : (c : ℕ) (t : Lengths) → FlagHead c t ≡ head_first s → (g : Bool) → g ≡ has (flag_in s c t)
        → cond g FlagHit (Pass t.size) ≡ match_by has (read_first s)
    unfolding read_first flag_in
    matched_flag c t e g k = rw (k, ← e)

    pub matched_none : (head : Head) → head ≡ head_first s → OneOf (0 ∷ 3 ∷ 4 ∷ []) (tag_of the_type head) → Stop ≡ match_by has (read_first s)
    unfolding read_first node_in
    matched_none (NodeHead d h t) e k = rw (← e)
    matched_none (OptionHead q c t) e k = absurd (miss (0 ∷ 3 ∷ 4 ∷ []) 1 tt k)
    matched_none (FlagHead c t) e k = absurd (miss (0 ∷ 3 ∷ 4 ∷ []) 2 tt k)
    matched_none Bad e k = rw (← e)
    matched_none End e k = rw (← e)

  -- what a frame is to the pass, it is to the two searches that the pass joins
  abbrev flag_look : Match → Look
  flag_look FlagHit = Hit
  flag_look (OptionHit n) = PassLook n
  flag_look (Pass n) = PassLook n
  flag_look Stop = StopLook

  flag_look_lem : (x : Read) → look_by (flag_with has) is_node x ≡ flag_look (match_by has x)
  flag_look_lem (read (node d h n ds u) m) = refl
  flag_look_lem (read (option q c n l ds) m) = by (has (option q c n l ds))
    where
      by : (t : Bool) → PassLook m ≡ flag_look (cond t (OptionHit m) (Pass m))
      by true = refl
      by false = refl
  flag_look_lem (read (flag c n l ds) m) = by (has (flag c n l ds))
    where
      by : (t : Bool) → hit_or t m ≡ flag_look (cond t FlagHit (Pass m))
      by true = refl
      by false = refl
  flag_look_lem broken = refl
  flag_look_lem ended = refl

  -- for an option a flag that was asked for is never passed
  abbrev option_look : Match → Look → Look
  option_look FlagHit r = r
  option_look (OptionHit n) r = Hit
  option_look (Pass n) r = PassLook n
  option_look Stop r = StopLook

  option_look_lem : (x : Read) → look_by (option_with has) is_node x ≡ option_look (match_by has x) (look_by (option_with has) is_node x)
  option_look_lem (read (node d h n ds u) m) = refl
  option_look_lem (read (option q c n l ds) m) = by (has (option q c n l ds))
    where
      by : (t : Bool) → hit_or t m ≡ option_look (cond t (OptionHit m) (Pass m)) (hit_or t m)
      by true = refl
      by false = refl
  option_look_lem (read (flag c n l ds) m) = by (has (flag c n l ds))
    where
      by : (t : Bool) → PassLook m ≡ option_look (cond t FlagHit (Pass m)) (PassLook m)
      by true = refl
      by false = refl
  option_look_lem broken = refl
  option_look_lem ended = refl

  else_nothing : (x : Option ℕ) → or_else x None ≡ x
  else_nothing (Some p) = refl
  else_nothing None = refl

  else_found : (x y : Option ℕ) (p : ℕ) → or_else (or_else x (Some p)) y ≡ or_else x (Some p)
  else_found (Some q) y p = refl
  else_found None y p = refl

  module _ (image : List ℕ) where
    -- the answer from a place on, with the option that was found before
    unfoldable pub answer_at : Option ℕ → ℕ → Option Defined
    answer_at before at = flag_or (spot (flag_with has) is_node image at) (or_else before (spot (option_with has) is_node image at))

    pub answer_starts : (at : ℕ) → answer_at None at ≡ defined has image at
    unfolding answer_at defined
    answer_starts at = refl

    module _ (before : Option ℕ) (at : ℕ) where
      pub answer_flag : match_by has (read_first (drop at image)) ≡ FlagHit → Some (Flag at) ≡ answer_at before at
      unfolding answer_at
      answer_flag e =
          let hit = spot_hit (flag_with has) is_node image at (flag_look_lem (read_first (drop at image)) ∙ rw e) in
          rw (← hit)

      none : (o : Option Defined) → o ≡ flag_or None before → None ≡ spot (flag_with has) is_node image at → None ≡ spot (option_with has) is_node image at → o ≡ answer_at before at
      unfolding answer_at
      none o e f g = e ∙ rw (← f, ← g, else_nothing before)

      pub answer_stop : (o : Option Defined) → o ≡ flag_or None before → match_by has (read_first (drop at image)) ≡ Stop → o ≡ answer_at before at
      answer_stop o k e =
          none o k (spot_stop (flag_with has) is_node image at (flag_look_lem (read_first (drop at image)) ∙ rw e))
          (spot_stop (option_with has) is_node image at (option_look_lem (read_first (drop at image)) ∙ rw e))

      pub answer_end : (o : Option Defined) → o ≡ flag_or None before → length image ≤ at → o ≡ answer_at before at
      answer_end o k h = none o k (spot_end (flag_with has) is_node image at h) (spot_end (option_with has) is_node image at h)

      -- a turn of the pass
      pub record Turn (n : ℕ) (after : Option ℕ) : Type 0 where
        pub some : 0 < n
        pub within : at ≤ length image → at + n ≤ length image
        pub same : answer_at after (at + n) ≡ answer_at before at

      pub answer_option : (n : ℕ) (after : Option ℕ) → Bytes image → match_by has (read_first (drop at image)) ≡ OptionHit n → after ≡ or_else before (Some at) → Turn n after
      unfolding answer_at
      answer_option n after b e k =
          let p = spot_pass (flag_with has) is_node image at n b (flag_look_lem (read_first (drop at image)) ∙ rw e) in
          let hit = spot_hit (option_with has) is_node image at (option_look_lem (read_first (drop at image)) ∙ rw e) in
          record {
            some = p.some;
            within = p.within;
            same = rw (k, else_found before, p.same, ← hit);
          }

      pub answer_pass : (n : ℕ) → Bytes image → match_by has (read_first (drop at image)) ≡ Pass n → Turn n before
      unfolding answer_at
      answer_pass n b e =
          let p = spot_pass (flag_with has) is_node image at n b (flag_look_lem (read_first (drop at image)) ∙ rw e) in
          let q = spot_pass (option_with has) is_node image at n b (option_look_lem (read_first (drop at image)) ∙ rw e) in
          record {
            some = p.some;
            within = p.within;
            same = rw (p.same, q.same);
          }

-- what is asked for of an option's parts is asked for of the option, and so of a flag
module _ (s : List ℕ) (c : ℕ) (t : Lengths) where
  pub asked_option : (a : Asked) (q : ℕ) → asked_in a c (name_in s 3 t) (long_in s 3 t) ≡ has_asked a (option_in s q c t)
  unfolding option_in
  asked_option (Key key) q = refl
  asked_option (Short code) q = refl

  pub asked_flag : (a : Asked) → asked_in a c (name_in s 2 t) (long_in s 2 t) ≡ has_asked a (flag_in s c t)
  unfolding flag_in
  asked_flag (Key key) = refl
  asked_flag (Short code) = refl

-- the rest of an image that was lent and matched
pub rest_matched : (has : Frame → Bool) (x y : List ℕ) (r told : Match) → x ≡ y → r ≡ match_by has (read_first x) → r ≡ told → match_by has (read_first y) ≡ told
rest_matched has x y r told e k t = rw (← e) (sym k ∙ t)
