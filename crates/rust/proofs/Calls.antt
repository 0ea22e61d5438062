-- Whatever the calls answer and leave on the Rust's domain, a well-formed tree and a well-formed line within the limit, is what the Rust does.
use Rattle.std.specs.Prelude.{Ok, Err, Result}
use Rattle.std.proofs.Common.{◌≡◌, ℕ, ◌≤◌, Bool, true, false, cond, eqb, ltb, List, length, sym, refl, ap, ◌∙◌, arith, le-ltb, lt-ltb}
use Rattle.buffer.specs.Write.{over}
use Rattle.text.specs.Decoding.{well_formed_length}
use Rattle.text.specs.Apart.{words_between}
use Rattle.frame.specs.Framed.{frame_of}
use Rattle.words.specs.Tokens.{words_of, word_frames}
use Rattle.words.specs.Answer.{written, answer_for as words_answer, leaves_by as words_left, leaves_for as words_leave, Tokenized}
use Rattle.words.specs.declared.tokenizer.TokenizeRefusal.{TokenizeRefusal}
use Rattle.words.specs.declared.tokenizer.TokenizeRefusal.TheVariants.{NoRoom as WordsNoRoom}
use Rattle.buffer.specs.Numbers.{Bytes}
use Rattle.image.specs.Frames.{Frame}
use Rattle.tree.specs.Images.{frames_of, flat}
use Rattle.tree.specs.Rules.{check_tree}
use Rattle.tree.specs.Forest.{Forest}
use Rattle.tree.proofs.Forests.{StandsFor, forest_good, good_forest}
use Rattle.report.specs.Report.{fault_of}
use Rattle.parse.specs.Commands.{Outcome, parsed, fault, parse_line}
use Rattle.parse.specs.Answer.{told_in, fault_answer, named_as, outcome_answer, outcome_leaves, parse_answer, parse_leaves, Parsing, number as parse_number, value as parse_value}
use Rattle.parse.specs.declared.answer.ParseRefusal.{ParseRefusal}
use Rattle.parse.specs.declared.answer.ParseRefusal.TheVariants.{UnknownCommand as UnknownCommandIs, UnknownOption as UnknownOptionIs, MissingValue as MissingValueIs, MissingRequired as MissingRequiredIs, NoRoom as ParseNoRoom}
use Rattle.help.specs.Answer.{Reply, said, unknown, wordless, help_line, bytes_of, room_for, answer_by, answer_in, answer_for, leaves_by, leaves_for, Helping, number as help_number, value as help_value}
use Rattle.help.specs.declared.call.HelpRefusal.{HelpRefusal}
use Rattle.help.specs.declared.call.HelpRefusal.TheVariants.{UnknownCommand as UnknownWord, NoRoom as HelpNoRoom}
use Rattle.shell.specs.Lines.{Said, silence, text, farewell, handed, said_of}
use Rattle.shell.specs.Answer.{bytes_of as said_bytes, named, said_answer, said_leaves, run_answer, run_leaves, Running}
use Rattle.shell.specs.declared.answer.Ran.{Ran}
use Rattle.shell.specs.declared.answer.RunRefusal.{RunRefusal}
use Rattle.shell.specs.declared.answer.RunRefusal.TheVariants.{NoRoom as RunNoRoom}
use Rattle.trees.specs.Commands.{base_tree, fs_tree}
use Rattle.rust.specs.Tree.{Commands, commands_of}
use Rattle.rust.specs.Base.{build_command_tree}
use Rattle.rust.specs.Parser.{UnknownCommand, UnknownOption, MissingValue, MissingRequiredOption, tokenize, parse}
use Rattle.rust.specs.Help.{show_help}
use Rattle.rust.specs.Shell.{text_in, enter}
use Rattle.rust.specs.Same.{error_for, result_for, error_number, reply_for, seen_of, seen_for, QuotedAsIs}
use Rattle.rust.specs.Calls.{Writes, SplitsAs, parse_bytes, result_number, ParsesAs, HelpsAs, seen_bytes, Says, RunsAs, Fair, SameAsRust}
use Rattle.rust.proofs.Supplied.{BuiltAs, base_built, fs_built}
use Rattle.rust.proofs.Words.{tokenize_is}
use Rattle.rust.proofs.Parsing.{same_parse}
use Rattle.rust.proofs.Helping.{same_help}
use Rattle.rust.proofs.Executing.{report_same}
use Rattle.rust.proofs.Running.{same_run}

-- one choice for the answer and one for the buffer, by whether the bytes fit
module _ {A : Type 0} where
  writes : (bytes told out : List ℕ) (whole lack : A) (fits short : A → Type 0) → bytes ≡ told → fits whole → short lack
      → Writes told out (cond (ltb (length out) (length bytes)) out (over bytes out)) (fits (cond (ltb (length out) (length bytes)) lack whole)) (short (cond (ltb (length out) (length bytes)) lack whole))
  writes bytes told out whole lack fits short e f s =
      rw (← e)
      (record {
        fitting = λ h. rw (le-ltb (length out) (length bytes) h) (f, refl);
        lacking = λ h. rw (lt-ltb (length out) (length bytes) h) (s, refl);
      })

-- what an answer by choice leaves
either : {A : Type 0} (leaves : A → List ℕ) (t : Bool) (x y : A) → leaves (cond t x y) ≡ cond t (leaves x) (leaves y)
either leaves true x y = refl
either leaves false x y = refl

-- PARSE
error_text : (n : ℕ) (t : List ℕ) → text_in (error_for n t) ≡ t
unfolding error_for
error_text n t = by (eqb n 4) (eqb n 5) (eqb n 6)
  where
    by : (a b c : Bool) → text_in (cond a (UnknownCommand t) (cond b (UnknownOption t) (cond c (MissingValue t) (MissingRequiredOption t)))) ≡ t
    by true b c = refl
    by false true c = refl
    by false false true = refl
    by false false false = refl

error_number_lem : (n m : ℕ) (t : List ℕ) → parse_number (fault_answer n m) ≡ error_number (error_for n t)
unfolding error_for
error_number_lem n m t = by (eqb n 4) (eqb n 5) (eqb n 6)
  where
    by : (a b c : Bool)
        → parse_number (cond a (Err (UnknownCommandIs m)) (cond b (Err (UnknownOptionIs m)) (cond c (Err (MissingValueIs m)) (Err (MissingRequiredIs m)))))
        ≡ error_number (cond a (UnknownCommand t) (cond b (UnknownOption t) (cond c (MissingValue t) (MissingRequiredOption t))))
    by true b c = refl
    by false true c = refl
    by false false true = refl
    by false false false = refl

fault_value : (n m : ℕ) → parse_value (fault_answer n m) ≡ m
fault_value n m = by (eqb n 4) (eqb n 5) (eqb n 6)
  where
    by : (a b c : Bool) → parse_value (cond a (Err (UnknownCommandIs m)) (cond b (Err (UnknownOptionIs m)) (cond c (Err (MissingValueIs m)) (Err (MissingRequiredIs m))))) ≡ m
    by true b c = refl
    by false true c = refl
    by false false true = refl
    by false false false = refl

parse_bytes_lem : (o : Outcome) → told_in o ≡ parse_bytes (result_for o)
unfolding told_in
parse_bytes_lem (parsed path found) = sym (report_same path found)
parse_bytes_lem (fault n t) = ap fault_of (sym (error_text n t))

parse_number_lem : (o : Outcome) (m : ℕ) → parse_number (named_as o m) ≡ result_number (result_for o)
parse_number_lem (parsed path found) m = refl
parse_number_lem (fault n t) m = error_number_lem n m t

parse_value_lem : (o : Outcome) (m : ℕ) → parse_value (named_as o m) ≡ m
parse_value_lem (parsed path found) m = refl
parse_value_lem (fault n t) m = fault_value n m

outcome_as : (o : Outcome) (out : List ℕ) → ParsesAs (result_for o) out (outcome_answer o (length out)) (outcome_leaves o out)
unfolding outcome_answer outcome_leaves
outcome_as o out =
    writes (told_in o) (parse_bytes (result_for o)) out (named_as o (length (told_in o))) (Err (ParseNoRoom (length (told_in o))))
    (λ r. (parse_number r ≡ result_number (result_for o)) × (parse_value r ≡ length (parse_bytes (result_for o))))
    (λ r. r ≡ Err (ParseNoRoom (length (parse_bytes (result_for o))))) (parse_bytes_lem o)
    (parse_number_lem o (length (told_in o)), parse_value_lem o (length (told_in o)) ∙ ap length (parse_bytes_lem o)) (ap (λ (b : List ℕ). Err (ParseNoRoom (length b))) (parse_bytes_lem o))

-- HELP
reply_as : (reply : Reply) (out : List ℕ) → HelpsAs (reply_for reply) out (answer_by reply (length out)) (leaves_by (answer_by reply (length out)) (bytes_of reply) out)
unfolding room_for
reply_as (said b) out =
    rw (either (λ r. leaves_by r b out) (ltb (length out) (length b)) (Err (HelpNoRoom (length b))) (Ok (length b)))
    (writes b b out (Ok (length b)) (Err (HelpNoRoom (length b))) (λ r. (help_number r ≡ 0) × (help_value r ≡ length b)) (λ r. r ≡ Err (HelpNoRoom (length b))) refl (refl, refl) refl)
reply_as (unknown word) out =
    let b : List ℕ = frame_of 0x1e word in
    rw (either (λ r. leaves_by r b out) (ltb (length out) (length b)) (Err (HelpNoRoom (length b))) (Err (UnknownWord (length b))))
    (writes b b out (Err (UnknownWord (length b))) (Err (HelpNoRoom (length b))) (λ r. (help_number r ≡ 4) × (help_value r ≡ length b)) (λ r. r ≡ Err (HelpNoRoom (length b))) refl (refl, refl) refl)
reply_as wordless out = (refl, refl)

-- RUN
said_bytes_lem : (s : Said) → said_bytes s ≡ seen_bytes (seen_for s)
said_bytes_lem silence = refl
said_bytes_lem (text number bytes) = refl
said_bytes_lem farewell = refl
said_bytes_lem (handed handler report) = refl

said_says : (s : Said) → Says (seen_for s) (named s (length (said_bytes s)))
said_says silence = refl
said_says (text number bytes) = refl
said_says farewell = refl
said_says (handed handler report) = refl

said_as : (s : Said) (out : List ℕ) → RunsAs (seen_for s) out (said_answer s (length out)) (said_leaves s out)
unfolding said_answer said_leaves
said_as s out =
    writes (said_bytes s) (seen_bytes (seen_for s)) out (named s (length (said_bytes s))) (Err (RunNoRoom (length (said_bytes s)))) (Says (seen_for s)) (λ r. r ≡ Err (RunNoRoom (length (seen_bytes (seen_for s))))) (said_bytes_lem s) (said_says s)
    (ap (λ (b : List ℕ). Err (RunNoRoom (length b))) (said_bytes_lem s))

-- WORDS
words_as : (line out : List ℕ)
    → SplitsAs (words_of line) out (cond (ltb (length out) (length (written line))) (Err (WordsNoRoom (length (written line)))) (Ok (length (written line))))
    (cond (ltb (length out) (length (written line))) out (over (written line) out))
unfolding written
words_as line out =
    let b : List ℕ = word_frames (words_of line) in
    writes b b out (Ok (length b)) (Err (WordsNoRoom (length b))) (λ r. r ≡ Ok (length b)) (λ r. r ≡ Err (WordsNoRoom (length b))) refl refl refl

-- THE CALLS
module _ (line : List ℕ) (fair : Fair line) where
  not_long : ltb 1024 (length line) ≡ false
  not_long = le-ltb 1024 (length line) fair.short

  not_broken : ltb (well_formed_length line) (length line) ≡ false
  not_broken = let e = fair.formed in le-ltb (well_formed_length line) (length line) (omega arith)

  pub splits_as : (out left : List ℕ) (r : Result ℕ TokenizeRefusal) → Tokenized line out r left → SplitsAs (tokenize line) out r left
  unfolding words_answer words_leave
  splits_as out left r p =
      rw (
        p.answer,
        p.bytes,
        not_long,
        not_broken,
        tokenize_is line,
        either (λ r. words_left r (written line) out) (ltb (length out) (length (written line))) (Err (WordsNoRoom (length (written line)))) (Ok (length (written line))),
      )
      (words_as line out)

module _ (image : List ℕ) (f : Forest) (stands : StandsFor image f) where
  good : check_tree image ≡ Ok tt
  good = forest_good image f stands

  parses_as : (line out left : List ℕ) (r : Result ℕ ParseRefusal) → Fair line → Parsing image line out r left → ParsesAs (parse (commands_of f) line) out r left
  unfolding parse_answer parse_leaves
  parses_as line out left r fair p = rw (p.answer, p.bytes, good, not_long line fair, not_broken line fair, same_parse image line f stands) (outcome_as (parse_line image line) out)

  helps_as : (line out left : List ℕ) (r : Result ℕ HelpRefusal) → Fair line → Helping image line out r left → HelpsAs (show_help (commands_of f) (words_between line)) out r left
  unfolding answer_for answer_in leaves_for help_line
  helps_as line out left r fair p = rw (p.answer, p.bytes, good, not_long line fair, not_broken line fair, same_help image f stands (words_between line)) (reply_as (help_line image line) out)

  runs_as : (printable : ℕ → Bool) (line out left : List ℕ) (r : Result Ran RunRefusal) → length line ≤ 1024 → QuotedAsIs printable (commands_of f) line
      → Running image line out r left → RunsAs (seen_of (enter printable (commands_of f) line)) out r left
  unfolding run_answer run_leaves
  runs_as printable line out left r short printed p =
      rw (p.answer, p.bytes, good, le-ltb 1024 (length line) short, same_run image f stands printable line printed) (said_as (said_of (frames_of image) line) out)

  -- an image that stands for a forest, and the Rust's tree for that forest
  pub same_as_rust : SameAsRust image (commands_of f)
  same_as_rust = record { parses = parses_as; helps = helps_as; runs = runs_as }

-- every image that the test finds good
pub good_same : (image : List ℕ) → Bytes image → check_tree image ≡ Ok tt → (f : Forest) × StandsFor image f × SameAsRust image (commands_of f)
good_same image b e = let g = good_forest image b e in (g.0, g.1, same_as_rust image g.0 g.1)

-- the supplied images, and the trees that the Rust's own builders build
built_same : (frames : List Frame) (tree : Commands) → BuiltAs frames tree → SameAsRust (flat frames) tree
built_same frames tree b = rw (← b.built) (same_as_rust (flat frames) b.forest b.stands)

pub base_same : SameAsRust (flat base_tree) (build_command_tree false)
base_same = built_same base_tree (build_command_tree false) base_built

pub fs_same : SameAsRust (flat fs_tree) (build_command_tree true)
fs_same = built_same fs_tree (build_command_tree true) fs_built
