-- Demand 3, no command depends on another: under two well-formed trees in which the command that a line names is absent or has the same subtree, and with
-- equal buffers, answer, refusal and every byte written are the same. A line that is over-long, ill-formed or wordless names none and is answered alike under all trees.
use Rattle.std.specs.Prelude.{Result, Ok}
use Prim.Native.Nat.{ℕ}
use mathlib.Core.Path.{◌≡◌, refl, sym, ◌∙◌}
use mathlib.Core.Bool.{Bool, true, false, cond}
use mathlib.Core.List.{List, [], ◌∷◌}
use native.Mathlib.Omega.{arith}
use lib.ListN.{length}
use borrow.Author.Tests.{le-ltb}
use Rattle.buffer.proofs.Choices.{true_is_not_false}
use Rattle.text.specs.Decoding.{well_formed_length}
use Rattle.text.specs.Apart.{trimmed, words_between}
use Rattle.image.specs.Frames.{Frame}
use Rattle.tree.specs.Images.{frames_of}
use Rattle.tree.specs.Rules.{check_tree}
use Rattle.tree.specs.Subtrees.{subtree}
use Rattle.words.specs.Tokens.{words_of}
use Rattle.parse.specs.Commands.{parse_in, parse_words, parse_line}
use Rattle.parse.specs.Answer.{Parsing}
use Rattle.parse.specs.declared.answer.ParseRefusal.{ParseRefusal}
use Rattle.parse.proofs.Answers.{AgreeOn, other_commands as parse_alike}
use Rattle.help.specs.Answer.{help_in, help_of, help_line, Helping}
use Rattle.help.specs.declared.call.HelpRefusal.{HelpRefusal}
use Rattle.help.proofs.OtherCommands.{Alike, same_command}
use Rattle.shell.specs.Lines.{builtin_of, execute_in, execute}
use Rattle.shell.specs.Answer.{Running}
use Rattle.shell.specs.declared.answer.Ran.{Ran}
use Rattle.shell.specs.declared.answer.RunRefusal.{RunRefusal}
use Rattle.shell.specs.declared.builtin.Builtin.TheVariants.{Help}
use Rattle.shell.proofs.Answers.{naming, other_commands as run_alike}
use Rattle.promises.proofs.Answers.{too_long, ill_formed}
use Rattle.promises.proofs.Subtrees.{Absent, Present, absent_none, present_found}

-- the words of a line, of which the first names its command; a line that is over-long or ill-formed has none to name one
abbrev pub named : (List ℕ → List (List ℕ)) → List ℕ → List (List ℕ)
named words line = cond (too_long line) [] (cond (ill_formed line) [] (words line))

-- two trees agree on words if the first of them names no command of either, or the same subtree in both; where there is no word nothing is asked
abbrev pub Agree : List ℕ → List ℕ → List (List ℕ) → Type 0
Agree image other words = AgreeOn (frames_of image) (frames_of other) words

-- so a line that names none answers alike under all well-formed trees
pub nameless : (image other : List ℕ) (words : List (List ℕ)) → words ≡ [] → Agree image other words
nameless image other words e = rw e tt

-- what is asked only of a line that is neither over-long nor ill-formed
asked : (P : List (List ℕ) → Type 0) (l w : Bool) (words : List (List ℕ)) → P (cond l [] (cond w [] words)) → l ≡ false → w ≡ false → P words
asked P true w words p a b = absurd (true_is_not_false a)
asked P false true words p a b = absurd (true_is_not_false b)
asked P false false words p a b = p

module _ (image other line : List ℕ) (good : check_tree image ≡ Ok tt) (good' : check_tree other ≡ Ok tt) (out left left' : List ℕ) where
  -- PARSE: the first word of the line, untrimmed
  pub parse_alone : Agree image other (named words_of line) → (r q : Result ℕ ParseRefusal) → Parsing image line out r left → Parsing other line out q left' → (r ≡ q) × (left ≡ left')
  parse_alone agree r q a b =
      parse_alike image other line good good' out left left' r q a b (asked (Agree image other) (too_long line) (ill_formed line) (words_of line) agree)

  -- HELP: the first of its words, split on white space only
  pub help_alone : Agree image other (named words_between line) → (r q : Result ℕ HelpRefusal) → Helping image line out r left → Helping other line out q left' → (r ≡ q) × (left ≡ left')
  help_alone agree r q a b = same_command image other line alike good good' out left left' r q a b
    where
      alike : Alike image other line
      alike word n =
          let same : Agree image other (words_between line) = asked (Agree image other) (too_long line) (ill_formed line) (words_between line) agree (le-ltb 1024 (length line) n.short) whole in
          rw n.first at same
        where
          whole : ill_formed line ≡ false
          whole = let w = n.well_formed_lem in le-ltb (well_formed_length line) (length line) (omega arith)

  -- RUN: the first word after an untrimmed `help `, split on white space only, else of the trimmed line. A bare `help`, judged after trimming, lists all commands.
  pub run_alone : (too_long line ≡ false → ill_formed line ≡ false → builtin_of (trimmed line) ≡ Help → ⊥) → Agree image other (named naming line)
      → (r q : Result Ran RunRefusal) → Running image line out r left → Running other line out q left' → (r ≡ q) × (left ≡ left')
  run_alone bare agree r q a b =
      run_alike image other line good good' out left left' r q a b (λ l w. (bare l w, asked (Agree image other) (too_long line) (ill_formed line) (naming line) agree l w))

-- THE TWO CASES BY NAME. The command that a line names is absent from both trees, or it is present in both with the same complete subtree: its node and all
-- frames before the next node of its depth or less (Subtrees). What else stands in either tree, before it or after it, does not matter.
module _ (image other line : List ℕ) (good : check_tree image ≡ Ok tt) (good' : check_tree other ≡ Ok tt) where
  module _ (words : List ℕ → List (List ℕ)) (name : List ℕ) (more : List (List ℕ)) (e : words line ≡ name ∷ more) where
    -- of a line that is over-long or ill-formed nothing is asked
    same_named : subtree 0 name (frames_of image) ≡ subtree 0 name (frames_of other) → Agree image other (named words line)
    same_named same = by (too_long line) (ill_formed line)
      where
        by : (l w : Bool) → Agree image other (cond l [] (cond w [] (words line)))
        by true w = tt
        by false true = tt
        by false false = rw e same

    absent_agree : Absent name (frames_of image) → Absent name (frames_of other) → Agree image other (named words line)
    absent_agree a b = same_named (absent_none name (frames_of image) a ∙ sym (absent_none name (frames_of other) b))

    present_agree : (command : List Frame) → Present name command (frames_of image) → Present name command (frames_of other) → Agree image other (named words line)
    present_agree command a b = same_named (present_found image name command good a ∙ sym (present_found other name command good' b))

  module _ (out left left' : List ℕ) (name : List ℕ) (more : List (List ℕ)) where
    -- PARSE
    pub parse_absent : words_of line ≡ name ∷ more → Absent name (frames_of image) → Absent name (frames_of other)
        → (r q : Result ℕ ParseRefusal) → Parsing image line out r left → Parsing other line out q left' → (r ≡ q) × (left ≡ left')
    parse_absent e a b = parse_alone image other line good good' out left left' (absent_agree words_of name more e a b)

    pub parse_present : words_of line ≡ name ∷ more → (command : List Frame) → Present name command (frames_of image) → Present name command (frames_of other)
        → (r q : Result ℕ ParseRefusal) → Parsing image line out r left → Parsing other line out q left' → (r ≡ q) × (left ≡ left')
    parse_present e command a b = parse_alone image other line good good' out left left' (present_agree words_of name more e command a b)

    -- HELP
    pub help_absent : words_between line ≡ name ∷ more → Absent name (frames_of image) → Absent name (frames_of other)
        → (r q : Result ℕ HelpRefusal) → Helping image line out r left → Helping other line out q left' → (r ≡ q) × (left ≡ left')
    help_absent e a b = help_alone image other line good good' out left left' (absent_agree words_between name more e a b)

    pub help_present : words_between line ≡ name ∷ more → (command : List Frame) → Present name command (frames_of image) → Present name command (frames_of other)
        → (r q : Result ℕ HelpRefusal) → Helping image line out r left → Helping other line out q left' → (r ≡ q) × (left ≡ left')
    help_present e command a b = help_alone image other line good good' out left left' (present_agree words_between name more e command a b)

    -- RUN, of any line but a bare `help`
    pub run_absent : (builtin_of (trimmed line) ≡ Help → ⊥) → naming line ≡ name ∷ more → Absent name (frames_of image) → Absent name (frames_of other)
        → (r q : Result Ran RunRefusal) → Running image line out r left → Running other line out q left' → (r ≡ q) × (left ≡ left')
    run_absent bare e a b = run_alone image other line good good' out left left' (λ l w. bare) (absent_agree naming name more e a b)

    pub run_present : (builtin_of (trimmed line) ≡ Help → ⊥) → naming line ≡ name ∷ more → (command : List Frame) → Present name command (frames_of image) → Present name command (frames_of other)
        → (r q : Result Ran RunRefusal) → Running image line out r left → Running other line out q left' → (r ≡ q) × (left ≡ left')
    run_present bare e command a b = run_alone image other line good good' out left left' (λ l w. bare) (present_agree naming name more e command a b)

-- THE SAME OVER THE DEFINITIONS, which a constant would not satisfy: what a line says is a function of the subtree of its first word
pub parse_is : (image line w : List ℕ) (words : List (List ℕ)) → words_of line ≡ w ∷ words → parse_line image line ≡ parse_in (subtree 0 w (frames_of image)) w words
unfolding parse_line parse_words
parse_is image line w words e = rw e

pub help_is : (image line w : List ℕ) (words : List (List ℕ)) → words_between line ≡ w ∷ words → help_line image line ≡ help_in (subtree 0 w (frames_of image)) w words
unfolding help_line help_of
help_is image line w words e = rw e

pub run_is : (frames : List Frame) (w : List ℕ) (words : List (List ℕ)) → execute frames (w ∷ words) ≡ execute_in (subtree 0 w frames) w words
unfolding execute
run_is frames w words = refl
