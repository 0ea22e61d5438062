-- Laws of the help of a node: its own lines, then its lists.
use Rattle.std.specs.Prelude.{Option as Maybe, Some, None}
use Prim.Native.Nat.{ℕ, ◌<◌, ◌≤◌}
use mathlib.Core.Path.{◌≡◌, ap, ◌∙◌}
use mathlib.Core.List.{List, [], ◌∷◌, ◌++◌, append_assoc, append-nil}
use native.Mathlib.Omega.{arith}
use lib.ListN.{length, take, drop, length-take, length-drop}
use types.Run.{OneOf, miss}
use denote.Enum.Declared.{tag_of}
use Rattle.buffer.specs.Numbers.{Bytes}
use Rattle.image.specs.Frames.{Perhaps}
use Rattle.image.specs.Reading.{span, perhaps_in, head_first, read_first, node_in, option_in, flag_in}
use Rattle.image.specs.declared.head.Lengths.{Lengths}
use Rattle.image.specs.declared.head.Head.{Head}
use Rattle.image.specs.declared.head.Head.TheVariants.{Node, Option, Flag, Bad, End}
use Rattle.image.specs.contracts.head.Head.{the_type}
use Rattle.image.proofs.HeadBytes.{view}
use Rattle.tree.specs.Images.{frames_of}
use Rattle.tree.proofs.Items.{frames_read}
use Rattle.lookup.proofs.Seeks.{frames_broken, frames_ended}
use Rattle.buffer.specs.Ascii.{ascii}
use Rattle.buffer.specs.Inks.{Inked}
use Rattle.help.specs.Texts.{spaced, usage_line, about, lists, help_text}
use Rattle.help.specs.Inner.{about_in}
use Rattle.buffer.proofs.Inking.{inked_both, inked_three}

pub take_most : (n : ℕ) (t l : List ℕ) → t ≡ take n l → length t ≤ n
take_most n t l e = let k = ap length e ∙ length-take n l in omega arith

pub drop_most : (n : ℕ) (t l : List ℕ) → t ≡ drop n l → length t ≤ length l
drop_most n t l e = let k = ap length e ∙ length-drop n l in omega arith

-- the line of a usage, if there is one
pub usage_none : (o : Maybe ℕ) (s : List ℕ) → o ≡ None → [] ≡ usage_line (perhaps_in o s)
unfolding perhaps_in
usage_none o s e = rw e

pub usage_some : (o : Maybe ℕ) (n : ℕ) (s t : List ℕ) → o ≡ Some n → t ≡ take n s → ascii "Usage: " ++ t ++ ascii "\n" ≡ usage_line (perhaps_in o s)
unfolding perhaps_in
usage_some o n s t k e = rw (k, e)

-- how long it is
pub usage_short : (o : Maybe ℕ) (n m : ℕ) → o ≡ Some n → span o < m → n < m
unfolding span
usage_short o n m k h = rw k at h

-- the Rust's `join(" ")`: words each after a space are a space and the words joined
abbrev pub joined : List ℕ → List (List ℕ) → List ℕ
joined word [] = word
joined word (next ∷ words) = word ++ (ascii " " ++ joined next words)

pub spaced_joined : (word : List ℕ) (words : List (List ℕ)) → spaced (word ∷ words) ≡ ascii " " ++ joined word words
unfolding spaced
spaced_joined word [] = append-nil (ascii " " ++ word)
spaced_joined word (next ∷ words) =
    append_assoc (ascii " ") word (spaced (next ∷ words)) ∙ ap (λ (l : List ℕ). ascii " " ++ (word ++ l)) (spaced_joined next words)

-- the lines on a node itself, written one part after the other
pub about_put : (words : List (List ℕ)) (description : List ℕ) (usage : Perhaps) (out o₁ o₂ o₃ o₄ o₅ left : List ℕ) (p₁ p₂ p₃ p₄ p₅ r : ℕ)
    → Inked (ascii "Command:") out 0 p₁ o₁ → Inked (spaced words) o₁ p₁ p₂ o₂ → Inked (ascii "\nDescription: ") o₂ p₂ p₃ o₃ → Inked description o₃ p₃ p₄ o₄
    → Inked (ascii "\n") o₄ p₄ p₅ o₅ → Inked (usage_line usage) o₅ p₅ r left → Inked (about words description usage) out 0 r left
unfolding about
about_put words description usage out o₁ o₂ o₃ o₄ o₅ left p₁ p₂ p₃ p₄ p₅ r a b c d e f =
    inked_three _ (ascii "\n") _ _ _ _ _ _ _ _ _ (inked_both _ _ _ _ _ _ _ _ (inked_three (ascii "Command:") _ (ascii "\nDescription: ") _ _ _ _ _ _ _ _ a b c) d) e f

-- the help of frames that begin with a node, and of any others
module _ (words : List (List ℕ)) (s : List ℕ) where
  pub help_node : (d h : ℕ) (t : Lengths) → Node d h t ≡ head_first s → about_in words s t ++ lists d (frames_of (drop t.size s)) ≡ help_text words (frames_of s)
  unfolding help_text about_in read_first node_in
  help_node d h t e = rw (frames_read s (node_in s d h t) t.size (rw (← e)))

  pub help_none : (head : Head) → head ≡ head_first s → OneOf (1 ∷ 2 ∷ 3 ∷ 4 ∷ []) (tag_of the_type head) → [] ≡ help_text words (frames_of s)
  unfolding help_text read_first option_in flag_in
  help_none (Node d h t) e k = absurd (miss (1 ∷ 2 ∷ 3 ∷ 4 ∷ []) 0 tt k)
  help_none (Option q c t) e k = rw (frames_read s (option_in s q c t) t.size (rw (← e)))
  help_none (Flag c t) e k = rw (frames_read s (flag_in s c t) t.size (rw (← e)))
  help_none Bad e k = rw (frames_broken s (rw (← e)))
  help_none End e k = rw (frames_ended s (rw (← e)))

pub depth_told : (s : List ℕ) (d h : ℕ) (t : Lengths) → Bytes s → head_first s ≡ Node d h t → d < 256
unfolding Bytes
depth_told s d h t b e = let v = view s (Node d h t) e in let k = b 1 in omega (arith, v.depth)
