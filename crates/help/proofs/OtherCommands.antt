-- No command but the named one matters: two well-formed trees in which it is absent, or has the same subtree, give the same help.
use Rattle.std.specs.Prelude.{Err, Result, Ok}
use Prim.Native.Nat.{ℕ, ◌≤◌, min}
use mathlib.Core.Path.{◌≡◌, refl, sym, ap, ◌∙◌}
use mathlib.Core.Bool.{Bool, true, false, cond}
use mathlib.Core.List.{List, [], ◌∷◌}
use native.Mathlib.Omega.{arith}
use lib.Dec.{ltb}
use lib.ListN.{length}
use borrow.Author.Tests.{ltb-false}
use Rattle.text.specs.Decoding.{well_formed_length}
use Rattle.text.specs.Apart.{words_between}
use Rattle.text.proofs.Prefix.{prefix_fits}
use Rattle.tree.specs.Images.{frames_of}
use Rattle.tree.specs.Rules.{check_tree}
use Rattle.tree.specs.Subtrees.{subtree}
use Rattle.help.specs.Answer.{Reply, help_of, help_line, bytes_of, answer_by, answer_in, answer_for, leaves_by, leaves_for, Helping}
use Rattle.help.specs.declared.call.HelpRefusal.{HelpRefusal}
use Rattle.help.specs.declared.call.HelpRefusal.TheVariants.{LineTooLong, IllFormed}

-- a line names its first word, split on white space only, if it is neither over-long nor ill-formed and has one
pub record Names (line word : List ℕ) : Type 0 where
  pub short : length line ≤ 1024
  pub well_formed_lem : well_formed_length line ≡ length line
  pub others : List (List ℕ)
  pub first : words_between line ≡ word ∷ others

-- two trees have the same subtree of the command that a line names, or both none; a line that names none asks nothing
abbrev pub Alike : List ℕ → List ℕ → List ℕ → Type 0
Alike image other line = (word : List ℕ) → Names line word → subtree 0 word (frames_of image) ≡ subtree 0 word (frames_of other)

module _ (image other line : List ℕ) (alike : Alike image other line) where
  same_help : length line ≤ 1024 → well_formed_length line ≡ length line → help_line image line ≡ help_line other line
  unfolding help_line help_of
  same_help l w = by (words_between line) refl
    where
      by : (words : List (List ℕ)) → words_between line ≡ words → help_of (frames_of image) words ≡ help_of (frames_of other) words
      by [] e = refl
      by (word ∷ words) e = rw (alike word (record { short = l; well_formed_lem = w; others = words; first = e }))

  -- a line that is too long or ill-formed is refused by itself, so only a well-formed one asks for the help
  choice : (A : Type 0) (t u : Bool) (a b x y : A) → (t ≡ false → u ≡ false → x ≡ y) → cond t a (cond u b x) ≡ cond t a (cond u b y)
  choice A true u a b x y e = refl
  choice A false true a b x y e = refl
  choice A false false a b x y e = e refl refl

  whole_line : ltb (well_formed_length line) (length line) ≡ false → well_formed_length line ≡ length line
  whole_line e = let h = ltb-false (well_formed_length line) (length line) e in let k = prefix_fits line in omega arith

  short_line : ltb 1024 (length line) ≡ false → length line ≤ 1024
  short_line e = ltb-false 1024 (length line) e

  module _ (good : check_tree image ≡ Ok tt) (good₂ : check_tree other ≡ Ok tt) where
    pub same_answer : (room : ℕ) → answer_for image line room ≡ answer_for other line room
    unfolding answer_for answer_in
    same_answer room =
        rw (good, good₂)
        (choice (Result ℕ HelpRefusal) (ltb 1024 (length line)) (ltb (well_formed_length line) (length line)) _ _ _ _
        (λ d e. ap (λ (x : Reply). answer_by x room) (same_help (short_line d) (whole_line e))))

    pub same_bytes_lem : (out : List ℕ) → leaves_for image line out ≡ leaves_for other line out
    unfolding leaves_for answer_for answer_in
    same_bytes_lem out =
        rw (good, good₂)
        (leaves_choice (ltb 1024 (length line)) (ltb (well_formed_length line) (length line)) (λ d e. same_help (short_line d) (whole_line e)))
      where
        leaves_choice : (t u : Bool) → (t ≡ false → u ≡ false → help_line image line ≡ help_line other line)
            → leaves_by (cond t (Err (LineTooLong (min (length line) 65535))) (cond u (Err (IllFormed (well_formed_length line))) (answer_by (help_line image line) (length out)))) (bytes_of (help_line image line)) out
            ≡ leaves_by (cond t (Err (LineTooLong (min (length line) 65535))) (cond u (Err (IllFormed (well_formed_length line))) (answer_by (help_line other line) (length out)))) (bytes_of (help_line other line)) out
        leaves_choice true u e = refl
        leaves_choice false true e = refl
        leaves_choice false false e = ap (λ (x : Reply). leaves_by (answer_by x (length out)) (bytes_of x) out) (e refl refl)

    -- whatever two calls answer and leave, it is the same
    pub same_command : (out left last : List ℕ) (r q : Result ℕ HelpRefusal) → Helping image line out r left → Helping other line out q last → (r ≡ q) × (left ≡ last)
    same_command out left last r q a b = (a.answer ∙ same_answer (length out) ∙ sym b.answer, a.bytes ∙ same_bytes_lem out ∙ sym b.bytes)
