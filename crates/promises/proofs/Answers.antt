-- Demand 1 for lines and trees: each call's refusals in the order of the standard, with number, value, and what stands in the lent buffer.
use Rattle.std.specs.Prelude.{Result, Err, Ok, ⊤}
use Prim.Native.Nat.{ℕ, ◌≤◌, min}
use mathlib.Core.Path.{◌≡◌, refl, ap, ◌∙◌}
use mathlib.Core.Bool.{Bool, true, false, cond}
use mathlib.Core.List.{List, [], ◌∷◌}
use lib.Dec.{ltb, eqb}
use lib.ListN.{length}
use Rattle.buffer.specs.Write.{over}
use Rattle.text.specs.Decoding.{well_formed_length}
use Rattle.text.specs.Apart.{words_between}
use Rattle.words.specs.Answer.{written, answer_for, leaves_by, leaves_for, Tokenized, number as tokens_number, value as tokens_value}
use Rattle.words.specs.declared.tokenizer.TokenizeRefusal.{TokenizeRefusal}
use Rattle.quote.specs.Given.{listed, Judged, bad, fine, judge_words}
use Rattle.quote.specs.Answer.{quote_line, line_answer, quote_answer, line_of, quote_leaves, Quotation, leaves_by as quoted_leaves, number as quoted_number, value as quoted_value}
use Rattle.quote.specs.declared.quoter.QuoteRefusal.{QuoteRefusal}
use Rattle.image.specs.Frames.{Frame}
use Rattle.tree.specs.Images.{items, frames_of}
use Rattle.tree.specs.Rules.{start, check_tree, judge_items as judge_tree}
use Rattle.tree.specs.Forest.{Forest}
use Rattle.tree.specs.Answer.{number as tree_number, value as tree_value}
use Rattle.tree.specs.declared.check.BadFrame.{BadFrame}
use Rattle.tree.proofs.FirstBad.{FirstBad, first_bad_lem}
use Rattle.tree.proofs.Forests.{StandsFor, good_forest, forest_good}
use Rattle.tree.specs.Subtrees.{subtree}
use Rattle.parse.specs.Commands.{Outcome, parsed, fault, parse_line}
use Rattle.parse.specs.Answer.{told_in, named_as, outcome_answer, outcome_leaves, on_checked, parse_answer, parse_leaves, Parsing, number as parsed_number, value as parsed_value}
use Rattle.parse.specs.declared.answer.ParseRefusal.{ParseRefusal}
use Rattle.parse.specs.declared.answer.ParseRefusal.TheVariants.{BadTree, NoRoom}
use Rattle.parse.proofs.Answers.{Numbered, report, four, five, six, seven, numbered}
use Rattle.buffer.specs.Numbers.{Bytes}
use Rattle.frame.specs.Framed.{frame_of}
use Rattle.help.specs.Texts.{help_text}
use Rattle.message.specs.Messages.{goodbye}
use Rattle.editor.proofs.States.{over_nothing}
use Rattle.help.specs.Paths.{Led, found, lost, on_subtree, followed}
use Rattle.help.specs.Answer.{Reply, said, unknown, wordless, reply_by, help_in, help_of, help_line, bytes_of, room_for, answer_by, answer_in, answer_for as help_answer, leaves_by as helped_leaves, leaves_for as help_leaves, Helping, number as helped_number, value as helped_value}
use Rattle.help.specs.declared.call.HelpRefusal.{HelpRefusal}
use Rattle.shell.specs.Lines.{Said, silence, text, farewell, handed, said_of}
use Rattle.shell.specs.Answer.{named, said_answer, said_leaves, run_answer, run_leaves, Running, kind, beside, bytes_of as said_bytes, number as ran_number, value as ran_value}
use Rattle.shell.specs.declared.answer.Ran.{Ran}
use Rattle.shell.specs.declared.answer.RunRefusal.{RunRefusal}
use Rattle.shell.specs.declared.answer.RunRefusal.TheVariants.{BadTree as BadFrameRan, NoRoom as NoRoomRan}
use Rattle.shell.proofs.Numbers.{Fitting, texts_fit}
use Rattle.promises.proofs.Tables.{Answered, told, row, first, lacks, either, split, telling}

-- a line over 1,024 bytes, and one that is ill-formed
abbrev pub too_long : List ℕ → Bool
too_long line = ltb 1024 (length line)

abbrev pub ill_formed : List ℕ → Bool
ill_formed line = ltb (well_formed_length line) (length line)

-- TOKENIZE: 2, 3, 9
unfoldable pub tokenize_table : List ℕ → List ℕ → Answered (List ℕ)
tokenize_table line out =
    first
    (row 2 (too_long line) (min (length line) 65535) out
    ∷ row 3 (ill_formed line) (well_formed_length line) out
    ∷ row 9 (lacks (written line) out) (length (written line)) out
    ∷ [])
    (told 0 (length (written line)) (over (written line) out))

pub tokenize_tells : (line out : List ℕ) (r : Result ℕ TokenizeRefusal) (left : List ℕ) → Tokenized line out r left → told (tokens_number r) (tokens_value r) left ≡ tokenize_table line out
unfolding tokenize_table first answer_for leaves_for
tokenize_tells line out r left t =
    telling tokens_number tokens_value _ _ _ _ t.answer t.bytes
    ∙ either tells (too_long line) _ _ _ _ refl (either tells (ill_formed line) _ _ _ _ refl (either tells (lacks (written line) out) _ _ _ _ refl refl))
  where
    tells : Result ℕ TokenizeRefusal → Answered (List ℕ)
    tells x = told (tokens_number x) (tokens_value x) (leaves_by x (written line) out)

-- QUOTE: 10, 2, 9. The number of the first bad word, from 0; where there is none, the line of the words.
abbrev pub is_bad : Judged → Bool
is_bad (bad n) = true
is_bad (fine words) = false

abbrev pub bad_word : Judged → ℕ
bad_word (bad n) = n
bad_word (fine words) = 0

unfoldable pub quote_table : List ℕ → List ℕ → Answered (List ℕ)
quote_table words out =
    first
    (row 10 (is_bad (judge_words (listed words))) (bad_word (judge_words (listed words))) out
    ∷ row 2 (too_long (line_of words)) (min (length (line_of words)) 65535) out
    ∷ row 9 (lacks (line_of words) out) (length (line_of words)) out
    ∷ [])
    (told 0 (length (line_of words)) (over (line_of words) out))

pub quote_tells : (words out : List ℕ) (r : Result ℕ QuoteRefusal) (left : List ℕ) → Quotation words out r left → told (quoted_number r) (quoted_value r) left ≡ quote_table words out
unfolding quote_table first quote_answer quote_leaves line_of line_answer
quote_tells words out r left t = telling quoted_number quoted_value _ _ _ _ t.answer t.bytes ∙ by (judge_words (listed words)) refl
  where
    tells : List ℕ → Result ℕ QuoteRefusal → Answered (List ℕ)
    tells line x = told (quoted_number x) (quoted_value x) (quoted_leaves x line out)

    by : (j : Judged) → judge_words (listed words) ≡ j → tells (line_of words) (quote_answer words (length out)) ≡ quote_table words out
    by (bad n) e = rw e
    by (fine ws) e = rw e (either (tells (quote_line ws)) (too_long (quote_line ws)) _ _ _ _ refl (either (tells (quote_line ws)) (lacks (quote_line ws) out) _ _ _ _ refl refl))

-- CHECK_TREE: 1. Over the byte limit the frame is 0, and that is tested first.
abbrev pub is_bad_tree : Result ⊤ BadFrame → Bool
is_bad_tree (Ok u) = false
is_bad_tree (Err refusal) = true

unfoldable pub check_table : List ℕ → Answered (Unit {0})
check_table image =
    first
    (row 1 (ltb 32768 (length image)) 0 tt
    ∷ row 1 (is_bad_tree (judge_tree start 0 (items image))) (tree_value (judge_tree start 0 (items image))) tt
    ∷ [])
    (told 0 0 tt)

pub check_tells : (image : List ℕ) (r : Result ⊤ BadFrame) → r ≡ check_tree image → told (tree_number r) (tree_value r) tt ≡ check_table image
unfolding check_table first check_tree
check_tells image r e = ap tells e ∙ either tells (ltb 32768 (length image)) _ _ _ _ refl (by (judge_tree start 0 (items image)))
  where
    tells : Result ⊤ BadFrame → Answered (Unit {0})
    tells c = told (tree_number c) (tree_value c) tt

    by : (c : Result ⊤ BadFrame) → tells c ≡ cond (is_bad_tree c) (told 1 (tree_value c) tt) (told 0 0 tt)
    by (Ok u) = refl
    by (Err refusal) = refl

-- that frame is the first that breaks a rule: all before it obey, and it does not; and an image that is not refused is the flattening of a forest, as is no other
pub first_frame : (image : List ℕ) (n : ℕ) → length image ≤ 32768 → check_tree image ≡ Err (record { number = n }) → FirstBad start 0 (items image) n
first_frame = first_bad_lem

pub a_forest : (image : List ℕ) → Bytes image → check_tree image ≡ Ok tt → (forest : Forest) × StandsFor image forest
a_forest = good_forest

pub every_forest : (image : List ℕ) (forest : Forest) → StandsFor image forest → check_tree image ≡ Ok tt
every_forest = forest_good

-- PARSE: 1, 2, 3, 4 to 7, 9. Faults 4 to 7 write their frame, and where it doesn't fit 9 is answered instead: so 9 is asked before them.
abbrev pub is_fault : ℕ → Outcome → Bool
is_fault n (parsed path arguments) = false
is_fault n (fault number told) = eqb number n

abbrev pub outcome_table : Outcome → List ℕ → Answered (List ℕ)
outcome_table o out =
    first
    (row 9 (lacks (told_in o) out) (length (told_in o)) out
    ∷ row 4 (is_fault 4 o) (length (told_in o)) (over (told_in o) out)
    ∷ row 5 (is_fault 5 o) (length (told_in o)) (over (told_in o) out)
    ∷ row 6 (is_fault 6 o) (length (told_in o)) (over (told_in o) out)
    ∷ row 7 (is_fault 7 o) (length (told_in o)) (over (told_in o) out)
    ∷ [])
    (told 0 (length (told_in o)) (over (told_in o) out))

unfoldable pub parse_table : List ℕ → List ℕ → List ℕ → Answered (List ℕ)
parse_table image line out =
    first
    (row 1 (is_bad_tree (check_tree image)) (tree_value (check_tree image)) out
    ∷ row 2 (too_long line) (min (length line) 65535) out
    ∷ row 3 (ill_formed line) (well_formed_length line) out
    ∷ [])
    (outcome_table (parse_line image line) out)

-- an image that is tested first: a bad one is refused with its frame, and nothing is written
checked : {A L B : Type 0} (f : A → L → B) (c : Result ⊤ BadFrame) (refuse : ℕ → A) (out : L) (x : A) (l : L) (u : ℕ → B) (v : B) → ((n : ℕ) → f (refuse n) out ≡ u n) → f x l ≡ v
    → f (on_checked c refuse x) (on_checked c (λ n. out) l) ≡ cond (is_bad_tree c) (u (tree_value c)) v
checked f (Ok _) refuse out x l u v p q = q
checked f (Err refusal) refuse out x l u v p q = p refusal.number

fault_tells : (o : Outcome) (n : ℕ) (left : List ℕ) → Numbered o
    → told (parsed_number (named_as o n)) (parsed_value (named_as o n)) left
    ≡ first (row 4 (is_fault 4 o) n left ∷ row 5 (is_fault 5 o) n left ∷ row 6 (is_fault 6 o) n left ∷ row 7 (is_fault 7 o) n left ∷ []) (told 0 n left)
unfolding first
fault_tells _ n left report = refl
fault_tells _ n left four = refl
fault_tells _ n left five = refl
fault_tells _ n left six = refl
fault_tells _ n left seven = refl

pub parse_tells : (image line out : List ℕ) (r : Result ℕ ParseRefusal) (left : List ℕ) → Parsing image line out r left → told (parsed_number r) (parsed_value r) left ≡ parse_table image line out
unfolding parse_table first parse_answer parse_leaves outcome_answer outcome_leaves
parse_tells image line out r left t =
    let o : Outcome = parse_line image line in
    telling parsed_number parsed_value _ _ _ _ t.answer t.bytes
    ∙ checked tells (check_tree image) (λ n. Err (BadTree n)) out _ _ (λ n. told 1 n out) _ (λ n. refl)
    (split tells (too_long line) _ _ out _ _ _ refl
    (split tells (ill_formed line) _ _ out _ _ _ refl
    (split tells (lacks (told_in o) out) (Err (NoRoom (length (told_in o)))) (named_as o (length (told_in o))) out (over (told_in o) out) _ _ refl
    (fault_tells o (length (told_in o)) (over (told_in o) out) (numbered image line)))))
  where
    tells : Result ℕ ParseRefusal → List ℕ → Answered (List ℕ)
    tells x l = told (parsed_number x) (parsed_value x) l

-- HELP: 1, 2, 3, 14, 4 (frame 1E), 9, which is asked before 4 as in parse
abbrev pub is_unknown : Reply → Bool
is_unknown (said bytes) = false
is_unknown (unknown word) = true
is_unknown wordless = false

abbrev pub no_words : List (List ℕ) → Bool
no_words [] = true
no_words (w ∷ words) = false

abbrev pub reply_table : Reply → List (List ℕ) → List ℕ → Answered (List ℕ)
reply_table reply words out =
    first
    (row 14 (no_words words) 0 out
    ∷ row 9 (lacks (bytes_of reply) out) (length (bytes_of reply)) out
    ∷ row 4 (is_unknown reply) (length (bytes_of reply)) (over (bytes_of reply) out)
    ∷ [])
    (told 0 (length (bytes_of reply)) (over (bytes_of reply) out))

unfoldable pub help_table : List ℕ → List ℕ → List ℕ → Answered (List ℕ)
help_table image line out =
    first
    (row 1 (is_bad_tree (check_tree image)) (tree_value (check_tree image)) out
    ∷ row 2 (too_long line) (min (length line) 65535) out
    ∷ row 3 (ill_formed line) (well_formed_length line) out
    ∷ [])
    (reply_table (help_line image line) (words_between line) out)

abbrev help_tells : List ℕ → List ℕ → Result ℕ HelpRefusal → Answered (List ℕ)
help_tells bytes out x = told (helped_number x) (helped_value x) (helped_leaves x bytes out)

led_tells : (w : List ℕ) (words : List (List ℕ)) (led : Led) (out : List ℕ)
    → help_tells (bytes_of (reply_by (w ∷ words) led)) out (answer_by (reply_by (w ∷ words) led) (length out)) ≡ reply_table (reply_by (w ∷ words) led) (w ∷ words) out
unfolding first room_for
led_tells w words (found frames) out = either (help_tells (help_text (w ∷ words) frames) out) (lacks (help_text (w ∷ words) frames) out) _ _ _ _ refl refl
led_tells w words (lost word) out = either (help_tells (frame_of 0x1e word) out) (lacks (frame_of 0x1e word) out) _ _ _ _ refl refl

reply_tells : (frames : List Frame) (words : List (List ℕ)) (out : List ℕ)
    → help_tells (bytes_of (help_of frames words)) out (answer_by (help_of frames words) (length out)) ≡ reply_table (help_of frames words) words out
unfolding first help_of help_in
reply_tells frames [] out = refl
reply_tells frames (w ∷ words) out = led_tells w words (on_subtree w (subtree 0 w frames) (λ below. followed 1 below words)) out

pub help_tells_lem : (image line out : List ℕ) (r : Result ℕ HelpRefusal) (left : List ℕ) → Helping image line out r left → told (helped_number r) (helped_value r) left ≡ help_table image line out
unfolding help_table first help_answer help_leaves answer_in help_line
help_tells_lem image line out r left t = telling helped_number helped_value _ _ _ _ t.answer t.bytes ∙ by (check_tree image) refl
  where
    tells : Result ℕ HelpRefusal → Answered (List ℕ)
    tells x = help_tells (bytes_of (help_line image line)) out x

    by : (c : Result ⊤ BadFrame) → check_tree image ≡ c → tells (help_answer image line (length out)) ≡ help_table image line out
    by (Err refusal) e = rw e
    by (Ok u) e =
        rw e
        (either tells (too_long line) _ _ _ _ refl
        (either tells (ill_formed line) _ _ _ _ refl
        (reply_tells (frames_of image) (words_between line) out)))

-- RUN: 1, 2, then its text, 9. Beside number and value it tells the kind of its answer (nothing 0, text 1, the end 2, a handler 3), and the number beside
-- a text, which is 3 to 8 for a refusal that answers text, or the handler.
pub record Ended : Type 0 where
  pub kind : ℕ
  pub beside : ℕ
  pub buffer : List ℕ

abbrev ended_by : Result Ran RunRefusal → List ℕ → Answered Ended
ended_by r left = told (ran_number r) (ran_value r) (record { kind = kind r; beside = beside r; buffer = left })

-- what is said, by its kind
abbrev pub said_told : Said → List ℕ → Answered Ended
said_told silence out = told 0 0 (record { kind = 0; beside = 0; buffer = out })
said_told (text number bytes) out = told 0 (length bytes) (record { kind = 1; beside = number; buffer = over bytes out })
said_told farewell out = told 0 (length goodbye) (record { kind = 2; beside = 0; buffer = over goodbye out })
said_told (handed handler frames) out = told 0 (length frames) (record { kind = 3; beside = handler; buffer = over frames out })

unfoldable pub run_table : List ℕ → List ℕ → List ℕ → Answered Ended
run_table image line out =
    let said : Said = said_of (frames_of image) line in
    let kept : Ended = record { kind = 0; beside = 0; buffer = out } in
    first
    (row 1 (is_bad_tree (check_tree image)) (tree_value (check_tree image)) kept
    ∷ row 2 (too_long line) (min (length line) 65535) kept
    ∷ row 9 (lacks (said_bytes said) out) (length (said_bytes said)) kept
    ∷ [])
    (said_told said out)

said_tells : (s : Said) (out : List ℕ) → ended_by (named s (length (said_bytes s))) (over (said_bytes s) out) ≡ said_told s out
said_tells silence out = ap (λ (l : List ℕ). told 0 0 (record { kind = 0; beside = 0; buffer = l })) (over_nothing out)
said_tells (text number bytes) out = refl
said_tells farewell out = refl
said_tells (handed handler frames) out = refl

pub run_tells : (image line out : List ℕ) (r : Result Ran RunRefusal) (left : List ℕ) → Running image line out r left
    → told (ran_number r) (ran_value r) (record { kind = kind r; beside = beside r; buffer = left }) ≡ run_table image line out
unfolding run_table first run_answer run_leaves said_answer said_leaves
run_tells image line out r left t =
    let s : Said = said_of (frames_of image) line in
    ap (ended_by r) t.bytes
    ∙ ap (λ (x : Result Ran RunRefusal). ended_by x (run_leaves image line out)) t.answer
    ∙ checked ended_by (check_tree image) (λ n. Err (BadFrameRan n)) out _ _ (λ n. told 1 n (record { kind = 0; beside = 0; buffer = out })) _ (λ n. refl)
    (split ended_by (too_long line) _ _ out _ _ _ refl
    (split ended_by (lacks (said_bytes s) out) (Err (NoRoomRan (length (said_bytes s)))) (named s (length (said_bytes s))) out (over (said_bytes s) out) _ _ refl
    (said_tells s out)))

-- what it refuses otherwise, its 3 to 8 and a help line's 4, answers text: the number beside a text and the Rust's message go together (`Beside`)
pub run_texts : (image line : List ℕ) → Fitting (said_of (frames_of image) line)
run_texts = texts_fit
