-- What a lookup tells of a meaning: the definition that was found is the first, and its name is read from its head.
use Rattle.std.specs.Prelude.{Some, None, Option}
use Prim.Native.Nat.{ℕ, ◌+◌, ◌<◌, ◌≤◌}
use mathlib.Core.Path.{◌≡◌, refl, sym, ap, ◌∙◌}
use mathlib.Core.Bool.{Bool, true, false, cond}
use mathlib.Core.List.{List, [], ◌∷◌}
use mathlib.Core.Option.{Option as Maybe, none, some}
use native.Mathlib.Omega.{arith}
use types.Run.{OneOf, miss}
use denote.Enum.Declared.{tag_of}
use lib.ListN.{length, take, drop, length-drop}
use lib.Seq.{drop-drop}
use Rattle.buffer.specs.Numbers.{Bytes}
use Rattle.buffer.proofs.Numbers.{bytes_drop}
use Rattle.table.specs.Inner.{part_of}
use Rattle.image.specs.Frames.{Frame, node, option, flag}
use Rattle.image.specs.Reading.{Read, read, broken, ended, head_first, read_by, read_first, definition_lengths, node_in, option_in, flag_in}
use Rattle.image.specs.declared.head.Lengths.{Lengths}
use Rattle.image.specs.declared.head.Head.{Head}
use Rattle.image.specs.declared.head.Head.TheVariants.{Node as HeadNode, Option as HeadOption, Flag as HeadFlag, Bad, End}
use Rattle.image.specs.contracts.head.Head.{the_type}
use Rattle.image.proofs.HeadBytes.{view, definition_small}
use Rattle.tree.specs.Images.{frames_of}
use Rattle.tree.specs.Subtrees.{up_to}
use Rattle.lookup.specs.Spots.{first_of, spot}
use Rattle.lookup.specs.Searches.{is_node, wanted, ended_by}
use Rattle.lookup.specs.Definitions.{has_key, flag_with, option_with, flag_or, defined}
use Rattle.lookup.specs.declared.look.Sought.TheVariants.{OptionKeyed}
use Rattle.lookup.specs.declared.definition.Defined.TheVariants.{Flag, Option as Opt}
use Rattle.lookup.proofs.FoundFrames.{FrameAt, spot_first, spot_none}
use Rattle.arguments.specs.Meanings.{name_of, first_name, Means, a_flag, an_option, nothing, flag_else, meaning, is_some, is_option}
use Rattle.arguments.specs.Inner.{definitions_at}

-- the name of a frame, if there is one
abbrev named : Maybe Frame → Maybe (List ℕ)
named none = none
named (some f) = some (name_of f)

-- what is first before the next node is first among the definitions
first_named : (test : Frame → Bool) (fs : List Frame) → first_name test (up_to is_node fs) ≡ named (first_of test is_node fs)
unfolding first_name first_of up_to
first_named test [] = refl
first_named test (f ∷ l) = by (is_node f) (test f) refl (first_named test l)
  where
    by : (t u : Bool) → test f ≡ u → first_name test (up_to is_node l) ≡ named (first_of test is_node l)
        → first_name test (cond t [] (f ∷ up_to is_node l)) ≡ named (cond t none (cond u (some f) (first_of test is_node l)))
    by true u e more = refl
    by false true e more = rw e refl
    by false false e more = rw e more

module _ (test : Frame → Bool) (image : List ℕ) (at : ℕ) where
  spot_named : (p : ℕ) → Bytes image → spot test is_node image at ≡ Some p → (x : FrameAt test image p) × (first_name test (definitions_at image at) ≡ some (name_of x.frame))
  unfolding definitions_at
  spot_named p b e =
      let f = spot_first test is_node image at p b e in
      (f.told.frame_at, first_named test (frames_of (drop at image)) ∙ ap named f.first)

  spot_nameless : spot test is_node image at ≡ None → first_name test (definitions_at image at) ≡ none
  unfolding definitions_at
  spot_nameless e = first_named test (frames_of (drop at image)) ∙ ap named (spot_none test is_node image at e)

-- the two searches for a definition
flag_found : (x y : Option ℕ) (p : ℕ) → flag_or x y ≡ Some (Flag p) → x ≡ Some p
flag_found (Some q) y p e = cc
flag_found None (Some q) p e = absurd (let z : ◌≡◌ {A = ℕ} 0 1 = cc in omega arith)
flag_found None None p e = absurd (let z : ◌≡◌ {A = ℕ} 0 1 = cc in omega arith)

option_found : (x y : Option ℕ) (p : ℕ) → flag_or x y ≡ Some (Opt p) → (x ≡ None) × (y ≡ Some p)
option_found (Some q) y p e = absurd (let z : ◌≡◌ {A = ℕ} 0 1 = cc in omega arith)
option_found None (Some q) p e = (refl, cc)
option_found None None p e = absurd (let z : ◌≡◌ {A = ℕ} 0 1 = cc in omega arith)

none_found_lem : (x y : Option ℕ) → flag_or x y ≡ None → (x ≡ None) × (y ≡ None)
none_found_lem (Some q) y e = absurd (let z : ◌≡◌ {A = ℕ} 0 1 = cc in omega arith)
none_found_lem None (Some q) e = absurd (let z : ◌≡◌ {A = ℕ} 0 1 = cc in omega arith)
none_found_lem None None e = (refl, refl)

-- a flag or an option that was found: the frame there gives the meaning its name
pub record Meant (image : List ℕ) (p : ℕ) (isIt : Frame → Bool) (m : List ℕ → Means) (means : Means) : Type 0 where
  pub frame_at : FrameAt isIt image p
  pub is : means ≡ m (name_of frame_at.frame)

module _ (has : Frame → Bool) (image : List ℕ) (at : ℕ) where
  pub flag_meant : (p : ℕ) → Bytes image → defined has image at ≡ Some (Flag p) → Meant image p (flag_with has) a_flag (meaning has (definitions_at image at))
  unfolding defined meaning
  flag_meant p b e =
      let x = spot_named (flag_with has) image at p b (flag_found _ _ p e) in
      record { frame_at = x.0; is = ap (λ (n : Maybe (List ℕ)). flag_else n (first_name (option_with has) (definitions_at image at))) x.1 }

  pub option_meant : (p : ℕ) → Bytes image → defined has image at ≡ Some (Opt p) → Meant image p (option_with has) an_option (meaning has (definitions_at image at))
  unfolding defined meaning
  option_meant p b e =
      let f = option_found _ _ p e in
      let x = spot_named (option_with has) image at p b f.1 in
      record {
        frame_at = x.0;
        is =
            ap (λ (n : Maybe (List ℕ)). flag_else n (first_name (option_with has) (definitions_at image at))) (spot_nameless (flag_with has) image at f.0)
            ∙ ap (λ (n : Maybe (List ℕ)). flag_else none n) x.1;
      }

  pub nothing_meant : defined has image at ≡ None → meaning has (definitions_at image at) ≡ nothing
  unfolding defined meaning
  nothing_meant e =
      let f = none_found_lem _ _ e in
      ap (λ (n : Maybe (List ℕ)). flag_else n (first_name (option_with has) (definitions_at image at))) (spot_nameless (flag_with has) image at f.0)
      ∙ ap (λ (n : Maybe (List ℕ)). flag_else none n) (spot_nameless (option_with has) image at f.1)

-- what was read, by the order of the variants of a head
abbrev kind_of : Read → ℕ
kind_of (read (node d h name ds u) n) = 0
kind_of (read (option r c name long ds) n) = 1
kind_of (read (flag c name long ds) n) = 2
kind_of broken = 3
kind_of ended = 4

flag_kind : (has : Frame → Bool) (f : Frame) (n : ℕ) → flag_with has f ≡ true → kind_of (read f n) ≡ 2
flag_kind has (node d h name ds u) n w = absurd (let z : ◌≡◌ {A = ℕ} 0 1 = cc in omega arith)
flag_kind has (option r c name long ds) n w = absurd (let z : ◌≡◌ {A = ℕ} 0 1 = cc in omega arith)
flag_kind has (flag c name long ds) n w = refl

option_kind : (has : Frame → Bool) (f : Frame) (n : ℕ) → option_with has f ≡ true → kind_of (read f n) ≡ 1
option_kind has (node d h name ds u) n w = absurd (let z : ◌≡◌ {A = ℕ} 0 1 = cc in omega arith)
option_kind has (option r c name long ds) n w = refl
option_kind has (flag c name long ds) n w = absurd (let z : ◌≡◌ {A = ℕ} 0 1 = cc in omega arith)

head_kind : (s : List ℕ) (head : Head) → kind_of (read_by s head) ≡ tag_of the_type head
unfolding node_in option_in flag_in
head_kind s (HeadNode d h t) = refl
head_kind s (HeadOption r c t) = refl
head_kind s (HeadFlag c t) = refl
head_kind s Bad = refl
head_kind s End = refl

-- what stands where a flag or an option was found is one, so the tag of any other head is none of its tags
module _ (has : Frame → Bool) (image : List ℕ) (p : ℕ) (which : Means) (head : Head) (e : head_first (drop p image) ≡ head) where
  tag_of_lem : (f : Frame) (n : ℕ) → read_first (drop p image) ≡ read f n → tag_of the_type head ≡ kind_of (read f n)
  unfolding read_first
  tag_of_lem f n q = sym (head_kind (drop p image) head) ∙ ap kind_of (sym (ap (read_by (drop p image)) e) ∙ q)

  pub flag_sure : Meant image p (flag_with has) a_flag which → OneOf (0 ∷ 1 ∷ 3 ∷ 4 ∷ []) (tag_of the_type head) → ⊥
  flag_sure m k =
      let t = tag_of_lem m.frame_at.frame m.frame_at.size m.frame_at.found ∙ flag_kind has m.frame_at.frame m.frame_at.size m.frame_at.was_wanted in
      miss (0 ∷ 1 ∷ 3 ∷ 4 ∷ []) 2 tt (rw t at k)

  pub option_sure : Meant image p (option_with has) an_option which → OneOf (0 ∷ 2 ∷ 3 ∷ 4 ∷ []) (tag_of the_type head) → ⊥
  option_sure m k =
      let t = tag_of_lem m.frame_at.frame m.frame_at.size m.frame_at.found ∙ option_kind has m.frame_at.frame m.frame_at.size m.frame_at.was_wanted in
      miss (0 ∷ 2 ∷ 3 ∷ 4 ∷ []) 1 tt (rw t at k)

-- the frame that was read, as a head tells it
same_frame : (f g : Frame) (m n : ℕ) → read f m ≡ read g n → f ≡ g
same_frame f g m n e = cc

name_place : (image : List ℕ) (p k n : ℕ) → take n (drop k (drop p image)) ≡ part_of image (p + k) n
name_place image p k n = ap (take n) (drop-drop k p image)

module _ (has : Frame → Bool) (image : List ℕ) (p : ℕ) (which : Means) (texts : Lengths) where
  pub flag_name : (c : ℕ) → head_first (drop p image) ≡ HeadFlag c texts → Meant image p (flag_with has) a_flag which → a_flag (part_of image (p + 3) texts.name) ≡ which
  unfolding read_first flag_in
  flag_name c e m =
      let q = same_frame _ _ _ _ (sym m.frame_at.found ∙ ap (read_by (drop p image)) e) in
      ap a_flag (sym (name_place image p 3 texts.name) ∙ sym (ap name_of q)) ∙ sym m.is

  pub option_name : (r c : ℕ) → head_first (drop p image) ≡ HeadOption r c texts → Meant image p (option_with has) an_option which → an_option (part_of image (p + 4) texts.name) ≡ which
  unfolding read_first option_in
  option_name r c e m =
      let q = same_frame _ _ _ _ (sym m.frame_at.found ∙ ap (read_by (drop p image)) e) in
      ap an_option (sym (name_place image p 4 texts.name) ∙ sym (ap name_of q)) ∙ sym m.is

-- the place of a name is small
module _ (image : List ℕ) (p : ℕ) (b : Bytes image) (h : length image ≤ 32768) (texts : Lengths) where
  pub flag_small : (c : ℕ) → head_first (drop p image) ≡ HeadFlag c texts → (p + 3 < 0x10000) × (texts.name < 0x10000)
  unfolding definition_lengths
  flag_small c e =
      let v = view (drop p image) (HeadFlag c texts) e in
      let s = (definition_small 2 (drop p image) texts (bytes_drop p image b) v.texts).name in
      let f = v.fits in
      let k = ap (λ (t : Lengths). t.size) v.texts in
      let l = length-drop p image in
      (omega arith, omega arith)

  pub option_small : (r c : ℕ) → head_first (drop p image) ≡ HeadOption r c texts → (p + 4 < 0x10000) × (texts.name < 0x10000)
  unfolding definition_lengths
  option_small r c e =
      let v = view (drop p image) (HeadOption r c texts) e in
      let s = (definition_small 3 (drop p image) texts (bytes_drop p image b) v.texts).name in
      let f = v.fits in
      let k = ap (λ (t : Lengths). t.size) v.texts in
      let l = length-drop p image in
      (omega arith, omega arith)

-- an option by its key: the search for it and the definition
wanted_same : (key : List ℕ) (f : Frame) → wanted OptionKeyed key f ≡ option_with (has_key key) f
wanted_same key (node d h name ds u) = refl
wanted_same key (option r c name long ds) = refl
wanted_same key (flag c name long ds) = refl

first_same : (a b : Frame → Bool) → ((f : Frame) → a f ≡ b f) → (fs : List Frame) → first_name a fs ≡ first_name b fs
unfolding first_name
first_same a b s [] = refl
first_same a b s (f ∷ l) = rw (s f) (ap (λ (n : Maybe (List ℕ)). cond (b f) (some (name_of f)) n) (first_same a b s l))

module _ (key image : List ℕ) (at : ℕ) where
  keyed_by : is_option key (definitions_at image at) ≡ is_some (first_name (wanted OptionKeyed key) (definitions_at image at))
  unfolding is_option
  keyed_by = ap is_some (sym (first_same (wanted OptionKeyed key) (option_with (has_key key)) (wanted_same key) (definitions_at image at)))

  pub is_option_lem : (p : ℕ) → Bytes image → spot (wanted OptionKeyed key) (ended_by OptionKeyed) image at ≡ Some p → is_option key (definitions_at image at) ≡ true
  is_option_lem p b e = keyed_by ∙ ap is_some (spot_named (wanted OptionKeyed key) image at p b e).1

  pub no_option : spot (wanted OptionKeyed key) (ended_by OptionKeyed) image at ≡ None → is_option key (definitions_at image at) ≡ false
  no_option e = keyed_by ∙ ap is_some (spot_nameless (wanted OptionKeyed key) image at e)
