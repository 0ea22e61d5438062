-- The definitions from a place on, one after the other, and the first that is required and missing.
use Prim.Native.Nat.{ℕ, ◌+◌, ◌<◌, ◌≤◌}
use mathlib.Core.Path.{◌≡◌, refl, sym, ap, ◌∙◌}
use mathlib.Core.Bool.{Bool, true, false, cond}
use mathlib.Core.List.{List, [], ◌∷◌}
use mathlib.Core.Option.{none, some}
use native.Mathlib.Omega.{arith}
use types.Run.{OneOf, hit, miss}
use denote.Enum.Declared.{tag_of}
use lib.ListN.{length, take, drop, length-drop}
use lib.Seq.{drop-drop}
use Rattle.buffer.proofs.Choices.{then_is, else_is}
use Rattle.table.specs.Map.{Map}
use Rattle.table.specs.Inner.{part_of}
use Rattle.image.specs.Frames.{Frame}
use Rattle.image.specs.Reading.{read, head_first, read_by, read_first, node_in, option_in, flag_in}
use Rattle.image.specs.declared.head.Lengths.{Lengths}
use Rattle.image.specs.declared.head.Head.{Head}
use Rattle.image.specs.declared.head.Head.TheVariants.{Node as HeadNode, Option as HeadOption, Flag as HeadFlag, Bad, End}
use Rattle.image.specs.contracts.head.Head.{the_type}
use Rattle.image.proofs.Encoding.{read_within, read_ended}
use Rattle.tree.specs.Images.{items, frames_in, frames_of}
use Rattle.tree.proofs.Items.{items_broken, items_none, frames_read, frames_end}
use Rattle.tree.specs.Subtrees.{up_to}
use Rattle.tree.specs.Commands.{NodeFirst}
use Rattle.lookup.specs.Searches.{is_node}
use Rattle.arguments.specs.Meanings.{definitions_of}
use Rattle.arguments.specs.Inner.{definitions_at}
use Rattle.parse.specs.Commands.{lacking, is_missing, missing_required}

-- the frames of bytes, by what they begin with
pub frames_none : (s : List ℕ) (head : Head) → head_first s ≡ head → OneOf (3 ∷ 4 ∷ []) (tag_of the_type head) → frames_of s ≡ []
unfolding frames_of frames_in read_first
frames_none s (HeadNode d h t) e k = absurd (miss (3 ∷ 4 ∷ []) 0 tt k)
frames_none s (HeadOption r c t) e k = absurd (miss (3 ∷ 4 ∷ []) 1 tt k)
frames_none s (HeadFlag c t) e k = absurd (miss (3 ∷ 4 ∷ []) 2 tt k)
frames_none s Bad e k = ap frames_in (items_broken s (ap (read_by s) e))
frames_none s End e k = ap (λ (l : List ℕ). frames_in (items l)) (read_ended s (ap (read_by s) e)) ∙ ap frames_in items_none

module _ (image : List ℕ) (at : ℕ) where
  -- a definition, and those after it
  pub definitions_more : (f : Frame) (n : ℕ) → read_first (drop at image) ≡ read f n → is_node f ≡ false → definitions_at image at ≡ f ∷ definitions_at image (at + n)
  unfolding definitions_at up_to
  definitions_more f n e k =
      ap (up_to is_node) (frames_read (drop at image) f n e) ∙ else_is _ _ _ k ∙ ap (λ (l : List ℕ). f ∷ up_to is_node (frames_of l)) (drop-drop n at image)

  pub definitions_stop : (head : Head) → head_first (drop at image) ≡ head → OneOf (0 ∷ 3 ∷ 4 ∷ []) (tag_of the_type head) → definitions_at image at ≡ []
  unfolding definitions_at up_to node_in read_first
  definitions_stop (HeadNode d h t) e k = ap (up_to is_node) (frames_read (drop at image) _ _ (ap (read_by (drop at image)) e))
  definitions_stop (HeadOption r c t) e k = absurd (miss (0 ∷ 3 ∷ 4 ∷ []) 1 tt k)
  definitions_stop (HeadFlag c t) e k = absurd (miss (0 ∷ 3 ∷ 4 ∷ []) 2 tt k)
  definitions_stop Bad e k = ap (up_to is_node) (frames_none (drop at image) Bad e (hit (3 ∷ 4 ∷ []) 3 tt))
  definitions_stop End e k = ap (up_to is_node) (frames_none (drop at image) End e (hit (3 ∷ 4 ∷ []) 4 tt))

  pub definitions_end : length image ≤ at → definitions_at image at ≡ []
  unfolding definitions_at up_to
  definitions_end h = ap (up_to is_node) (frames_end image at h)

-- a frame at a place lies within
pub record Step (image : List ℕ) (at size : ℕ) : Type 0 where
  pub some : 0 < size
  pub within : at + size ≤ length image

step_by_lem : (image : List ℕ) (at : ℕ) (f : Frame) (n : ℕ) → at < length image → read_first (drop at image) ≡ read f n → Step image at n
step_by_lem image at f n h e =
    let w = read_within (drop at image) f n e in
    let w₀ = w.0 in
    let w₁ = w.1 in
    let l = length-drop at image in
    record { some = w₀; within = omega arith }

-- ONE DEFINITION of the search for what is missing
module _ (node : List ℕ) (at : ℕ) (options : Map) (texts : Lengths) where
  option_read : (r c : ℕ) → head_first (drop at node) ≡ HeadOption r c texts → read_first (drop at node) ≡ read (option_in (drop at node) r c texts) texts.size
  unfolding read_first
  option_read r c e = ap (read_by (drop at node)) e

  flag_read : (c : ℕ) → head_first (drop at node) ≡ HeadFlag c texts → read_first (drop at node) ≡ read (flag_in (drop at node) c texts) texts.size
  unfolding read_first
  flag_read c e = ap (read_by (drop at node)) e

  pub option_step : (r c : ℕ) → at < length node → head_first (drop at node) ≡ HeadOption r c texts → Step node at texts.size
  option_step r c h e = step_by_lem node at _ _ h (option_read r c e)

  pub flag_step : (c : ℕ) → at < length node → head_first (drop at node) ≡ HeadFlag c texts → Step node at texts.size
  flag_step c h e = step_by_lem node at _ _ h (flag_read c e)

  name_there : take texts.name (drop 4 (drop at node)) ≡ part_of node (at + 4) texts.name
  name_there = ap (take texts.name) (drop-drop 4 at node)

  -- it is the option here, or it is sought further on
  option_next : (r c : ℕ) → head_first (drop at node) ≡ HeadOption r c texts
      → missing_required (definitions_at node at) options ≡ cond (lacking r (part_of node (at + 4) texts.name) options) (some (part_of node (at + 4) texts.name)) (missing_required (definitions_at node (at + texts.size)) options)
  unfolding missing_required is_missing option_in
  option_next r c e =
      ap (λ (l : List Frame). missing_required l options) (definitions_more node at _ _ (option_read r c e) refl)
      ∙ ap (λ (name : List ℕ). cond (lacking r name options) (some name) (missing_required (definitions_at node (at + texts.size)) options)) name_there

  pub option_missing : (r c : ℕ) (name : List ℕ) (t : Bool) → head_first (drop at node) ≡ HeadOption r c texts → name ≡ part_of node (at + 4) texts.name → t ≡ lacking r name options → t ≡ true
      → missing_required (definitions_at node at) options ≡ some (part_of node (at + 4) texts.name)
  option_missing r c name t e n q k = option_next r c e ∙ then_is _ _ _ (sym (q ∙ ap (λ (l : List ℕ). lacking r l options) n) ∙ k)

  pub option_there : (r c : ℕ) (name : List ℕ) (t : Bool) → head_first (drop at node) ≡ HeadOption r c texts → name ≡ part_of node (at + 4) texts.name → t ≡ lacking r name options → t ≡ false
      → missing_required (definitions_at node at) options ≡ missing_required (definitions_at node (at + texts.size)) options
  option_there r c name t e n q k = option_next r c e ∙ else_is _ _ _ (sym (q ∙ ap (λ (l : List ℕ). lacking r l options) n) ∙ k)

  pub flag_passed : (c : ℕ) → head_first (drop at node) ≡ HeadFlag c texts → missing_required (definitions_at node at) options ≡ missing_required (definitions_at node (at + texts.size)) options
  unfolding missing_required is_missing flag_in
  flag_passed c e = ap (λ (l : List Frame). missing_required l options) (definitions_more node at _ _ (flag_read c e) refl)

pub none_missing : (options : Map) → missing_required [] options ≡ none
unfolding missing_required
none_missing options = refl

-- THE SEARCH: what is missing from the place reached is what is missing from the beginning
abbrev pub Searched : List ℕ → Map → ℕ → ℕ → Type 0
Searched node options start at = missing_required (definitions_at node at) options ≡ missing_required (definitions_at node start) options

-- no definition stands at a place: nothing is missing
pub searched_stop : (node : List ℕ) (options : Map) (start at : ℕ) → Searched node options start at → definitions_at node at ≡ [] → none ≡ missing_required (definitions_at node start) options
searched_stop node options start at s e = sym (none_missing options) ∙ ap (λ (l : List Frame). missing_required l options) (sym e) ∙ s

-- where the definitions of a node begin
module _ (node : List ℕ) where
  pub start_after : (d h : ℕ) (texts : Lengths) → head_first node ≡ HeadNode d h texts → definitions_at node texts.size ≡ definitions_of (frames_of node)
  unfolding definitions_at definitions_of node_in read_first
  start_after d h texts e = sym (ap definitions_of (frames_read node _ _ (ap (read_by node) e)))

  -- bytes that do not begin with a node
  pub no_node_first : (head : Head) → head_first node ≡ head → OneOf (1 ∷ 2 ∷ 3 ∷ 4 ∷ []) (tag_of the_type head) → NodeFirst (frames_of node) → ⊥
  unfolding option_in flag_in read_first
  no_node_first (HeadNode d h t) e k n = absurd (miss (1 ∷ 2 ∷ 3 ∷ 4 ∷ []) 0 tt k)
  no_node_first (HeadOption r c t) e k n = rw (frames_read node _ _ (ap (read_by node) e)) at n
  no_node_first (HeadFlag c t) e k n = rw (frames_read node _ _ (ap (read_by node) e)) at n
  no_node_first Bad e k n = rw (frames_none node Bad e (hit (3 ∷ 4 ∷ []) 3 tt)) at n
  no_node_first End e k n = rw (frames_none node End e (hit (3 ∷ 4 ∷ []) 4 tt)) at n
