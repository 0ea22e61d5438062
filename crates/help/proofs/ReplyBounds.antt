-- How long a reply is at most, over frames within their limits.
use Prim.Native.Nat.{ℕ, suc, ◌+◌, ◌*◌, ◌≤◌}
use mathlib.Core.List.{List, [], ◌∷◌}
use native.Mathlib.Omega.{arith}
use lib.ListN.{length}
use Rattle.image.specs.Frames.{Frame}
use Rattle.tree.specs.Subtrees.{subtree}
use Rattle.lookup.proofs.FrameCounts.{Few, few_subtree}
use Rattle.help.specs.Texts.{spaced}
use Rattle.help.proofs.TextBounds.{spaced_more, help_most}
use Rattle.help.specs.Paths.{Led, found, lost, on_subtree, followed}
use Rattle.help.specs.Answer.{Reply, said, unknown, wordless, reply_by, help_in, help_of}

-- where words lead: to frames that are few, or to one of the words
abbrev LedWithin : ℕ → ℕ → Led → Type 0
LedWithin n size (found frames) = Few n 32 32 frames
LedWithin n size (lost word) = length word ≤ size

more_within : (n a b : ℕ) (led : Led) → a ≤ b → LedWithin n a led → LedWithin n b led
more_within n a b (found frames) h k = k
more_within n a b (lost word) h k = omega arith

led_within : (words : List (List ℕ)) (d : ℕ) (frames : List Frame) (n : ℕ) → Few n 32 32 frames → LedWithin n (length (spaced words)) (followed d frames words)
unfolding followed
led_within [] d frames n k = k
led_within (word ∷ words) d frames n k = by (subtree d word frames) (few_subtree d word frames n k) (λ below. led_within words (suc d) below n)
  where
    by : (below : List Frame) → Few n 32 32 below → ((below : List Frame) → Few n 32 32 below → LedWithin n (length (spaced words)) (followed (suc d) below words))
        → LedWithin n (length (spaced (word ∷ words))) (on_subtree word below (λ below. followed (suc d) below words))
    by [] h more = omega (arith, spaced_more word words)
    by (f ∷ l) h more = more_within n (length (spaced words)) (length (spaced (word ∷ words))) (followed (suc d) (f ∷ l) words) (omega (arith, spaced_more word words)) (more (f ∷ l) h)

-- the text of a reply, and the word that it names
abbrev pub ReplyWithin : ℕ → ℕ → Reply → Type 0
ReplyWithin n size (said text) = length text ≤ 13130 + 154 * n + size
ReplyWithin n size (unknown word) = length word ≤ size
ReplyWithin n size wordless = Unit

pub help_within : (frames : List Frame) (n : ℕ) → Few n 32 32 frames → (words : List (List ℕ)) → ReplyWithin n (length (spaced words)) (help_of frames words)
unfolding help_of help_in followed
help_within frames n k [] = tt
help_within frames n k (word ∷ words) = by (followed 0 frames (word ∷ words)) (led_within (word ∷ words) 0 frames n k)
  where
    by : (led : Led) → LedWithin n (length (spaced (word ∷ words))) led → ReplyWithin n (length (spaced (word ∷ words))) (reply_by (word ∷ words) led)
    by (found frames) h = help_most (word ∷ words) frames n h
    by (lost w) h = h
