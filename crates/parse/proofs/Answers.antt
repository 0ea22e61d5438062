-- The laws of the call: no second answer; no other command matters; a fault has a number of the standard; and no word is lost without a sound.
use Rattle.std.specs.Prelude.{Err, Result, Ok, ⊤}
use Prim.Native.Nat.{ℕ, suc, min}
use mathlib.Core.Path.{◌≡◌, refl, sym, ap, ◌∙◌}
use mathlib.Core.Bool.{Bool, true, false, cond}
use mathlib.Core.List.{List, [], ◌∷◌, ◌++◌, append_assoc}
use mathlib.Core.Option.{Option, none, some}
use lib.Dec.{ltb}
use lib.ListN.{length}
use Rattle.text.specs.Decoding.{well_formed_length}
use Rattle.table.specs.Map.{put}
use Rattle.words.specs.Tokens.{words_of}
use Rattle.image.specs.Frames.{Frame}
use Rattle.tree.specs.Images.{frames_of}
use Rattle.tree.specs.Rules.{check_tree}
use Rattle.tree.specs.declared.check.BadFrame.{BadFrame}
use Rattle.tree.specs.Subtrees.{subtree}
use Rattle.tree.specs.Commands.{Reached, on_subtree, descend}
use Rattle.arguments.specs.Meanings.{definitions_of}
use Rattle.arguments.specs.Arguments.{Found, none_found, args, Stand, go, wait, unknown_option, missing_value}
use Rattle.parse.specs.Commands.{missing_required, Outcome, parsed, fault, on_missing, outcome_of, concluded, parse_in, parse_words, parse_line}
use Rattle.parse.specs.Answer.{outcome_answer, outcome_leaves, on_checked, parse_answer, parse_leaves, Parsing}
use Rattle.parse.specs.declared.answer.ParseRefusal.{ParseRefusal}
use Rattle.parse.specs.declared.answer.ParseRefusal.TheVariants.{BadTree, LineTooLong, IllFormed}

-- NO SECOND ANSWER
pub one_answer : (image line out left other : List ℕ) (r q : Result ℕ ParseRefusal) → Parsing image line out r left → Parsing image line out q other → (r ≡ q) × (left ≡ other)
one_answer image line out left other r q a b = (a.answer ∙ sym b.answer, a.bytes ∙ sym b.bytes)

-- NO OTHER COMMAND MATTERS: two trees agree on a line if the command that its first word names is absent from both or has the same subtree
abbrev pub AgreeOn : List Frame → List Frame → List (List ℕ) → Type 0
AgreeOn frames others [] = Unit
AgreeOn frames others (w ∷ words) = subtree 0 w frames ≡ subtree 0 w others

words_alike : (frames others : List Frame) (l : List (List ℕ)) → AgreeOn frames others l → parse_words frames l ≡ parse_words others l
unfolding parse_words
words_alike frames others [] e = refl
words_alike frames others (w ∷ l) e = ap (λ (fs : List Frame). parse_in fs w l) e

-- what is asked only where a test fails is the same if it is so there
pub else_alike : {A : Type 0} (t : Bool) (x y z : A) → (t ≡ false → y ≡ z) → cond t x y ≡ cond t x z
else_alike true x y z e = refl
else_alike false x y z e = e refl

-- as the call has it, under two well-formed trees. A line that is over-long or ill-formed names no command, and nothing is asked of the trees for it.
module _ (image other line : List ℕ) (g : check_tree image ≡ Ok tt) (h : check_tree other ≡ Ok tt) (out left right : List ℕ) (r q : Result ℕ ParseRefusal) (a : Parsing image line out r left) (b : Parsing other line out q right)
    (agree : ltb 1024 (length line) ≡ false → ltb (well_formed_length line) (length line) ≡ false → AgreeOn (frames_of image) (frames_of other) (words_of line)) where
  both_good : {A : Type 0} (bad : ℕ → A) (x y : A) → x ≡ y → on_checked (check_tree image) bad x ≡ on_checked (check_tree other) bad y
  both_good bad x y e = ap (λ (z : Result ⊤ BadFrame). on_checked z bad x) g ∙ e ∙ sym (ap (λ (z : Result ⊤ BadFrame). on_checked z bad y) h)

  -- what is told of the line, once it is neither
  alike : {A : Type 0} (long ill : A) (tell : Outcome → A)
      → cond (ltb 1024 (length line)) long (cond (ltb (well_formed_length line) (length line)) ill (tell (parse_line image line)))
      ≡ cond (ltb 1024 (length line)) long (cond (ltb (well_formed_length line) (length line)) ill (tell (parse_line other line)))
  unfolding parse_line
  alike long ill tell =
      else_alike (ltb 1024 (length line)) _ _ _
      (λ l. else_alike (ltb (well_formed_length line) (length line)) _ _ _ (λ w. ap tell (words_alike (frames_of image) (frames_of other) (words_of line) (agree l w))))

  pub other_commands : (r ≡ q) × (left ≡ right)
  unfolding parse_answer parse_leaves
  other_commands = (
    a.answer ∙ both_good (λ n. Err (BadTree n)) _ _ (alike (Err (LineTooLong (min (length line) 65535))) (Err (IllFormed (well_formed_length line))) (λ o. outcome_answer o (length out))) ∙ sym b.answer,
    a.bytes ∙ both_good (λ n. out) _ _ (alike out out (λ o. outcome_leaves o out)) ∙ sym b.bytes,
  )

-- A FAULT has one of the numbers 4 to 7
pub data Numbered : Outcome → Type 0 where
  report : {path : List (List ℕ)} {found : Found} → Numbered (parsed path found)
  four : {told : List ℕ} → Numbered (fault 4 told)
  five : {told : List ℕ} → Numbered (fault 5 told)
  six : {told : List ℕ} → Numbered (fault 6 told)
  seven : {told : List ℕ} → Numbered (fault 7 told)

outcome_numbered : (path : List (List ℕ)) (defs : List Frame) (a : Stand) → Numbered (outcome_of path defs a)
outcome_numbered path defs (go found) = by (missing_required defs found.options)
  where
    by : (m : Option (List ℕ)) → Numbered (on_missing m (λ name. fault 7 name) (parsed path found))
    by none = report
    by (some name) = seven
outcome_numbered path defs (wait found key told) = six
outcome_numbered path defs (unknown_option told) = five
outcome_numbered path defs (missing_value told) = six

reached_numbered : (r : Reached) → Numbered (concluded put r)
unfolding concluded
reached_numbered r = outcome_numbered r.path (definitions_of r.frames) (args put (definitions_of r.frames) (go none_found) r.words)

words_numbered : (frames : List Frame) (l : List (List ℕ)) → Numbered (parse_words frames l)
unfolding parse_words parse_in
words_numbered frames [] = four
words_numbered frames (w ∷ l) = by (subtree 0 w frames)
  where
    by : (fs : List Frame) → Numbered (on_subtree fs (fault 4 w) (λ found. concluded put (descend 1 found (w ∷ []) l)))
    by [] = four
    by (f ∷ fs) = reached_numbered (descend 1 (f ∷ fs) (w ∷ []) l)

pub numbered : (image line : List ℕ) → Numbered (parse_line image line)
unfolding parse_line
numbered image line = words_numbered (frames_of image) (words_of line)

-- EVERY WORD is in the path or left over for the arguments
pub descent_keeps : (l : List (List ℕ)) (d : ℕ) (frames : List Frame) (path : List (List ℕ)) → (descend d frames path l).path ++ (descend d frames path l).words ≡ path ++ l
unfolding descend
descent_keeps [] d frames path = refl
descent_keeps (w ∷ l) d frames path = by (subtree d w frames) (λ c. descent_keeps l (suc d) c (path ++ (w ∷ [])))
  where
    onto : List Frame → Reached
    onto c = descend (suc d) c (path ++ (w ∷ [])) l

    stay : Reached
    stay = record { path = path; words = w ∷ l; frames = frames }

    by : (fs : List Frame) → ((c : List Frame) → (onto c).path ++ (onto c).words ≡ (path ++ (w ∷ [])) ++ l) → (on_subtree fs stay onto).path ++ (on_subtree fs stay onto).words ≡ path ++ (w ∷ l)
    by [] more = refl
    by (f ∷ fs) more = more (f ∷ fs) ∙ append_assoc path (w ∷ []) l
