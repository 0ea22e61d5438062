-- Laws of the handler: that of the node which bytes begin with, and that of the command which words lead to.
use Prim.Native.Nat.{ℕ}
use mathlib.Core.Path.{◌≡◌, refl, sym, ap, ◌∙◌}
use mathlib.Core.List.{List, [], ◌∷◌}
use types.Run.{OneOf, miss, hit}
use denote.Enum.Declared.{tag_of}
use borrow.Author.Tests.{ne_eqb}
use Rattle.buffer.proofs.Choices.{else_is}
use Rattle.image.specs.Frames.{Frame}
use Rattle.image.specs.Reading.{read_by, read_first, head_first, node_in, option_in, flag_in}
use Rattle.image.specs.declared.head.Lengths.{Lengths}
use Rattle.image.specs.declared.head.Head.{Head}
use Rattle.image.specs.declared.head.Head.TheVariants.{Node, Option, Flag, Bad, End}
use Rattle.image.specs.contracts.head.Head.{the_type}
use Rattle.tree.specs.Images.{frames_of}
use Rattle.tree.specs.Subtrees.{subtree}
use Rattle.tree.specs.Commands.{on_subtree, Reached, descend}
use Rattle.tree.proofs.Items.{frames_read}
use Rattle.parse.specs.Commands.{fault, parse_in, parse_words}
use Rattle.parse.proofs.Definitions.{frames_none}
use Rattle.shell.specs.Lines.{handler_of, carried, execute_in, execute}
use Rattle.shell.specs.Inner.{handler_by}
use Rattle.std.specs.Prelude.{Some, None}

-- THE HANDLER of the node that bytes begin with
module _ (s : List ℕ) where
  handler_is : (d h : ℕ) (t : Lengths) → head_first s ≡ Node d h t → h ≡ handler_of (frames_of s)
  unfolding handler_of read_first node_in
  handler_is d h t e = sym (ap handler_of (frames_read s (node_in s d h t) t.size (ap (read_by s) e)))

  no_node : (head : Head) → head_first s ≡ head → OneOf (1 ∷ 2 ∷ 3 ∷ 4 ∷ []) (tag_of the_type head) → 0 ≡ handler_of (frames_of s)
  unfolding handler_of read_first option_in flag_in
  no_node (Node d h t) e k = absurd (miss (1 ∷ 2 ∷ 3 ∷ 4 ∷ []) 0 tt k)
  no_node (Option r c t) e k = sym (ap handler_of (frames_read s (option_in s r c t) t.size (ap (read_by s) e)))
  no_node (Flag c t) e k = sym (ap handler_of (frames_read s (flag_in s c t) t.size (ap (read_by s) e)))
  no_node Bad e k = sym (ap handler_of (frames_none s Bad e (hit (3 ∷ 4 ∷ []) 3 tt)))
  no_node End e k = sym (ap handler_of (frames_none s End e (hit (3 ∷ 4 ∷ []) 4 tt)))

  -- by its number, which 0 is not
  pub handler_there : (d h : ℕ) (t : Lengths) → head_first s ≡ Node d h t → (h ≡ 0 → ⊥) → Some h ≡ handler_by (handler_of (frames_of s))
  handler_there d h t e k = sym (else_is _ _ _ (ne_eqb h 0 k)) ∙ ap handler_by (handler_is d h t e)

  pub handler_lacking : (d h : ℕ) (t : Lengths) → head_first s ≡ Node d h t → h ≡ 0 → None ≡ handler_by (handler_of (frames_of s))
  handler_lacking d h t e k = ap handler_by (sym k ∙ handler_is d h t e)

  pub handler_none : (head : Head) → head_first s ≡ head → OneOf (1 ∷ 2 ∷ 3 ∷ 4 ∷ []) (tag_of the_type head) → None ≡ handler_by (handler_of (frames_of s))
  handler_none head e k = ap handler_by (no_node head e k)

-- WHAT IS CARRIED OUT: the descent from the top leads where that from the subtree of the first word leads, and a fault asks for no handler
carried_fault : (h k number : ℕ) (told : List ℕ) → carried h (fault number told) ≡ carried k (fault number told)
unfolding carried
carried_fault h k number told = refl

pub execute_top : (frames : List Frame) (words : List (List ℕ)) → carried (handler_of (descend 0 frames [] words).frames) (parse_words frames words) ≡ execute frames words
unfolding execute execute_in parse_words parse_in descend
execute_top frames [] = carried_fault _ _ _ _
execute_top frames (w ∷ words) = by (subtree 0 w frames)
  where
    stay : Reached
    stay = record { path = []; words = w ∷ words; frames = frames }

    by : (sub : List Frame) → carried (handler_of (on_subtree sub stay (λ child. descend 1 child (w ∷ []) words)).frames) (parse_in sub w words) ≡ carried (handler_of (descend 1 sub (w ∷ []) words).frames) (parse_in sub w words)
    by [] = carried_fault _ _ _ _
    by (f ∷ l) = refl
