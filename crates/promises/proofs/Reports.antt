-- What a report is (STANDARD 8): one frame for each path word, option, flag and positional, in that order, the keys of the options and those of the flags each
-- rising strictly by bytes. Whenever `parse` answers a report, it is such a one.
use Rattle.std.specs.Prelude.{Ok, Err, Result, ⊤}
use Prim.Native.Nat.{ℕ, min}
use mathlib.Core.Path.{◌≡◌, refl, ap, ◌∙◌}
use mathlib.Core.Bool.{Bool, true, false, cond}
use mathlib.Core.List.{List, [], ◌∷◌}
use mathlib.Core.Option.{Option, none, some}
use native.Mathlib.Omega.{arith}
use lib.Dec.{eqb}
use lib.ListN.{length}
use Rattle.buffer.specs.Write.{over}
use Rattle.text.specs.Unicode.{encode}
use Rattle.text.specs.Decoding.{codes_in, well_formed_length}
use Rattle.table.specs.Map.{put, Rising}
use Rattle.table.proofs.Maps.{put_rises}
use Rattle.image.specs.Frames.{Frame}
use Rattle.tree.specs.Images.{frames_of}
use Rattle.tree.specs.Rules.{check_tree}
use Rattle.tree.specs.Subtrees.{subtree}
use Rattle.tree.specs.Commands.{Reached, on_subtree, descend}
use Rattle.tree.specs.declared.check.BadFrame.{BadFrame}
use Rattle.lookup.specs.Definitions.{has_key, has_short}
use Rattle.words.specs.Tokens.{words_of}
use Rattle.arguments.specs.Meanings.{definitions_of, Means, a_flag, an_option, nothing, meaning, on_means, is_option}
use Rattle.arguments.specs.Forms.{Form, valued, long, shorts, positional, form_of, dash}
use Rattle.arguments.specs.Arguments.{Found, none_found, Stand, go, wait, unknown_option, missing_value, with_option, with_flag, with_positional, short_step, short_steps, form_step, word_step, args}
use Rattle.report.specs.Report.{report_of}
use Rattle.parse.specs.Commands.{missing_required, Outcome, parsed, fault, on_missing, outcome_of, concluded, parse_in, parse_words, parse_line}
use Rattle.parse.specs.Answer.{told_in, fault_answer, named_as, outcome_answer, outcome_leaves, on_checked, parse_answer, parse_leaves, Parsing}
use Rattle.parse.specs.declared.answer.ParseRefusal.TheVariants.{BadTree, LineTooLong, IllFormed, UnknownCommand, UnknownOption, MissingValue, MissingRequired, NoRoom}
use Rattle.promises.proofs.Tables.{lacks}
use Rattle.promises.proofs.Answers.{too_long, ill_formed}

-- keys that rise strictly, of the options and of the flags
pub record Sorted (found : Found) : Type 0 where
  pub options : Rising found.options
  pub flags : Rising found.flags

-- the report of a line: what it says, and the frames that are left in the buffer, so many bytes
pub record Reports (image line out : List ℕ) (n : ℕ) (left : List ℕ) : Type 0 where
  pub path : List (List ℕ)
  pub found : Found
  pub says : parse_line image line ≡ parsed path found
  pub sorted : Sorted found
  pub counted : n ≡ length (report_of path found.options found.flags found.positionals)
  pub bytes : left ≡ over (report_of path found.options found.flags found.positionals) out

-- WHAT A LINE SAYS HAS ITS KEYS IN ORDER, whatever words come
abbrev SortedAt : Stand → Type 0
SortedAt (go f) = Sorted f
SortedAt (wait f key told) = Sorted f
SortedAt (unknown_option told) = Unit
SortedAt (missing_value told) = Unit

option_sorted : (f : Found) (k v : List ℕ) → Sorted f → Sorted (with_option put f k v)
unfolding with_option
option_sorted f k v s = record { options = put_rises k v f.options s.options; flags = s.flags }

flag_sorted : (f : Found) (k : List ℕ) → Sorted f → Sorted (with_flag put f k)
unfolding with_flag
flag_sorted f k s = record { options = s.options; flags = put_rises k [] f.flags s.flags }

module _ (defs : List Frame) where
  short_sorted : (a : Stand) (c : ℕ) → SortedAt a → SortedAt (short_step put defs a c)
  short_sorted (go f) c s = by (meaning (has_short c) defs)
    where
      by : (x : Means) → SortedAt (on_means x (λ name. go (with_flag put f name)) (λ name. wait f name (dash ∷ encode c)) (unknown_option (dash ∷ encode c)))
      by (a_flag name) = flag_sorted f name s
      by (an_option name) = s
      by nothing = tt
  short_sorted (wait f key told) c s = tt
  short_sorted (unknown_option told) c s = tt
  short_sorted (missing_value told) c s = tt

  shorts_sorted : (codes : List ℕ) (a : Stand) → SortedAt a → SortedAt (short_steps put defs a codes)
  unfolding short_steps
  shorts_sorted [] a s = s
  shorts_sorted (c ∷ codes) a s = shorts_sorted codes (short_step put defs a c) (short_sorted a c s)

  form_sorted : (f : Found) (w : List ℕ) (form : Form) → Sorted f → SortedAt (form_step put defs f w form)
  unfolding with_positional
  form_sorted f w (valued k v) s = by (is_option k defs)
    where
      by : (t : Bool) → SortedAt (cond t (go (with_option put f k v)) (unknown_option (dash ∷ dash ∷ k)))
      by true = option_sorted f k v s
      by false = tt
  form_sorted f w (long k) s = by (meaning (has_key k) defs)
    where
      by : (x : Means) → SortedAt (on_means x (λ name. go (with_flag put f k)) (λ name. wait f k (dash ∷ dash ∷ k)) (unknown_option (dash ∷ dash ∷ k)))
      by (a_flag name) = flag_sorted f k s
      by (an_option name) = s
      by nothing = tt
  form_sorted f w (shorts letters) s = shorts_sorted (codes_in letters) (go f) s
  form_sorted f w positional s = record { options = s.options; flags = s.flags }

  word_sorted : (a : Stand) (w : List ℕ) → SortedAt a → SortedAt (word_step put defs a w)
  word_sorted (go f) w s = form_sorted f w (form_of w) s
  word_sorted (wait f key told) w s = option_sorted f key w s
  word_sorted (unknown_option told) w s = tt
  word_sorted (missing_value told) w s = tt

  words_sorted : (l : List (List ℕ)) (a : Stand) → SortedAt a → SortedAt (args put defs a l)
  unfolding args
  words_sorted [] a s = s
  words_sorted (w ∷ l) a s = words_sorted l (word_step put defs a w) (word_sorted a w s)

abbrev SortedIn : Outcome → Type 0
SortedIn (parsed path found) = Sorted found
SortedIn (fault number told) = Unit

outcome_sorted : (path : List (List ℕ)) (defs : List Frame) (a : Stand) → SortedAt a → SortedIn (outcome_of path defs a)
outcome_sorted path defs (go f) s = by (missing_required defs f.options)
  where
    by : (m : Option (List ℕ)) → SortedIn (on_missing m (λ name. fault 7 name) (parsed path f))
    by none = s
    by (some name) = tt
outcome_sorted path defs (wait f key told) s = tt
outcome_sorted path defs (unknown_option told) s = tt
outcome_sorted path defs (missing_value told) s = tt

reached_sorted : (r : Reached) → SortedIn (concluded put r)
unfolding concluded
reached_sorted r =
    outcome_sorted r.path (definitions_of r.frames) (args put (definitions_of r.frames) (go none_found) r.words)
    (words_sorted (definitions_of r.frames) r.words (go none_found) (record { options = tt; flags = tt }))

says_sorted : (frames : List Frame) (l : List (List ℕ)) → SortedIn (parse_words frames l)
unfolding parse_words parse_in
says_sorted frames [] = tt
says_sorted frames (w ∷ l) = by (subtree 0 w frames)
  where
    by : (fs : List Frame) → SortedIn (on_subtree fs (fault 4 w) (λ found. concluded put (descend 1 found (w ∷ []) l)))
    by [] = tt
    by (f ∷ fs) = reached_sorted (descend 1 (f ∷ fs) (w ∷ []) l)

-- ONLY WHAT SAYS A COMMAND IS ANSWERED AS A REPORT
record IsReport (o : Outcome) (n size : ℕ) (left bytes : List ℕ) : Type 0 where
  path : List (List ℕ)
  found : Found
  says : o ≡ parsed path found
  counted : n ≡ size
  written : left ≡ bytes

fault_other : (n number size : ℕ) → Ok n ≡ fault_answer number size → ⊥
fault_other n number size e = by (eqb number 4) (eqb number 5) (eqb number 6) e
  where
    by : (a b c : Bool) → Ok n ≡ cond a (Err (UnknownCommand size)) (cond b (Err (UnknownOption size)) (cond c (Err (MissingValue size)) (Err (MissingRequired size)))) → ⊥
    by true b c q = let z : ◌≡◌ {A = ℕ} 0 1 = cc in omega arith
    by false true c q = let z : ◌≡◌ {A = ℕ} 0 1 = cc in omega arith
    by false false true q = let z : ◌≡◌ {A = ℕ} 0 1 = cc in omega arith
    by false false false q = let z : ◌≡◌ {A = ℕ} 0 1 = cc in omega arith

module _ (n long_by ill-by size : ℕ) (out left bytes : List ℕ) where
  only_report : (c : Result ⊤ BadFrame) (over-long ill lack : Bool) (o : Outcome)
      → Ok n ≡ on_checked c (λ k. Err (BadTree k)) (cond over-long (Err (LineTooLong long_by)) (cond ill (Err (IllFormed ill-by)) (cond lack (Err (NoRoom size)) (named_as o size))))
      → left ≡ on_checked c (λ k. out) (cond over-long out (cond ill out (cond lack out bytes)))
      → IsReport o n size left bytes
  only_report (Err refusal) over-long ill lack o e b = absurd (let z : ◌≡◌ {A = ℕ} 0 1 = cc in omega arith)
  only_report (Ok u) true ill lack o e b = absurd (let z : ◌≡◌ {A = ℕ} 0 1 = cc in omega arith)
  only_report (Ok u) false true lack o e b = absurd (let z : ◌≡◌ {A = ℕ} 0 1 = cc in omega arith)
  only_report (Ok u) false false true o e b = absurd (let z : ◌≡◌ {A = ℕ} 0 1 = cc in omega arith)
  only_report (Ok u) false false false (fault number told) e b = absurd (fault_other n number size e)
  only_report (Ok u) false false false (parsed path found) e b = record { path = path; found = found; says = refl; counted = cc; written = b }

-- EVERY REPORT of parse
pub parse_reports : (image line out : List ℕ) (n : ℕ) (left : List ℕ) → Parsing image line out (Ok n) left → Reports image line out n left
unfolding parse_answer parse_leaves outcome_answer outcome_leaves told_in parse_line
parse_reports image line out n left t =
    let o : Outcome = parse_line image line in
    let r = only_report n (min (length line) 65535) (well_formed_length line) (length (told_in o)) out left (over (told_in o) out) (check_tree image) (too_long line) (ill_formed line) (lacks (told_in o) out) o t.answer t.bytes in
    record {
      path = r.path;
      found = r.found;
      says = r.says;
      sorted = rw r.says at (says_sorted (frames_of image) (words_of line));
      counted = r.counted ∙ ap (λ (x : Outcome). length (told_in x)) r.says;
      bytes = r.written ∙ ap (λ (x : Outcome). over (told_in x) out) r.says;
    }
