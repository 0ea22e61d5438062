-- What a line tells on its way: a trimmed line is well-formed where the line is, its words find room, and each answer is the call's.
use Rattle.std.specs.Prelude.{Ok, Err, Result, ⊤}
use Prim.Native.Nat.{ℕ, ◌<◌, ◌≤◌, min}
use mathlib.Core.Path.{◌≡◌, refl, sym, ap, ◌∙◌}
use mathlib.Core.Bool.{Bool, true, false}
use mathlib.Core.List.{List, [], ◌∷◌, ◌++◌}
use native.Mathlib.Omega.{arith}
use borrow.Author.Tests.{lt-ltb, le-ltb}
use lib.ListN.{length, take, drop, length-append}
use Rattle.buffer.specs.Compare.{same_bytes}
use Rattle.buffer.proofs.Choices.{then_is, else_is, true_is_not_false}
use Rattle.text.specs.Unicode.{Scalar, Scalars, none, more, encode, encode_all}
use Rattle.text.specs.Decoding.{Piece, character, stray, pieces_of, bytes_all, codes_of, codes_in, well_formed_length}
use Rattle.text.specs.Apart.{trimmed, blank, words_between}
use Rattle.text.proofs.Prefix.{codes_scalars, whole_is}
use Rattle.text.proofs.Pieces.{pieces_bytes}
use Rattle.text.proofs.Splits.{trimming, bytes_append}
use Rattle.frame.specs.Series.{texts_from, texts_in}
use Rattle.frame.proofs.Series.{all_none}
use Rattle.words.specs.Tokens.{words_of}
use Rattle.words.proofs.GoodWords.{nothing}
use Rattle.arguments.specs.Inner.{WellSplit}
use Rattle.words.specs.declared.tokenizer.TokenizeRefusal.{TokenizeRefusal}
use Rattle.words.specs.declared.tokenizer.TokenizeRefusal.TheVariants.{LineTooLong as TooLong, IllFormed as Ill, NoRoom as TooShort}
use Rattle.image.specs.Frames.{Frame}
use Rattle.tree.specs.Images.{frames_of}
use Rattle.tree.specs.Rules.{check_tree}
use Rattle.tree.specs.declared.check.BadFrame.{BadFrame}
use Rattle.buffer.specs.Ascii.{ascii}
use Rattle.message.specs.Messages.{ill_formed, clear_screen}
use Rattle.message.specs.Debug.{unknown_help}
use Rattle.help.specs.Texts.{help_text, available_text}
use Rattle.buffer.specs.Lend.{between}
use Rattle.help.specs.Paths.{FoundAt, LostAt}
use Rattle.help.specs.Answer.{help_of, help_line}
use Rattle.help.proofs.Answers.{reply_none, reply_found, reply_lost}
use Rattle.parse.specs.Answer.{on_checked}
use Rattle.parse.proofs.Lines.{LineTold}
use Rattle.shell.specs.Lines.{Said, silence, text, farewell, builtin_of, on_builtin, begins_help, help_words, help_said, execute, other_said, line_said, said_of}
use Rattle.shell.specs.Answer.{run_answer, run_leaves, Running}
use Rattle.shell.specs.Inner.{Answered, Splits}
use Rattle.shell.specs.declared.builtin.Builtin.{Builtin}
use Rattle.shell.specs.declared.answer.Ran.{Ran}
use Rattle.shell.specs.declared.answer.RunRefusal.{RunRefusal}
use Rattle.shell.specs.declared.answer.Ran.TheVariants.{Nothing}
use Rattle.shell.specs.declared.answer.RunRefusal.TheVariants.{BadTree, LineTooLong}
use Rattle.shell.proofs.WrittenAnswers.{said_nothing, said_same}

-- A TRIMMED LINE: all pieces of a well-formed text are characters, and so are those that are kept
abbrev Whole : List Piece → Type 0
Whole [] = Unit
Whole (character code ∷ ps) = Scalar code × Whole ps
Whole (stray b ∷ ps) = ⊥

whole_pieces : (ps : List Piece) → Scalars (codes_of ps) → length (encode_all (codes_of ps)) ≡ length (bytes_all ps) → Whole ps
unfolding codes_of encode_all bytes_all
whole_pieces [] s e = tt
whole_pieces (character code ∷ ps) (more c s) e =
    let a = length-append (encode code) (encode_all (codes_of ps)) in
    let b = length-append (encode code) (bytes_all ps) in
    (c, whole_pieces ps s (omega arith))
whole_pieces (stray b ∷ ps) s e = absurd (omega arith)

whole_first : (ps qs : List Piece) → Whole (ps ++ qs) → Whole ps
whole_first [] qs w = tt
whole_first (character code ∷ ps) qs w = (w.0, whole_first ps qs w.1)
whole_first (stray b ∷ ps) qs w = w

whole_second : (ps qs : List Piece) → Whole (ps ++ qs) → Whole qs
whole_second [] qs w = w
whole_second (character code ∷ ps) qs w = whole_second ps qs w.1
whole_second (stray b ∷ ps) qs w = absurd w

whole_scalars : (ps : List Piece) → Whole ps → Scalars (codes_of ps)
unfolding codes_of
whole_scalars [] w = none
whole_scalars (character code ∷ ps) w = more w.0 (whole_scalars ps w.1)
whole_scalars (stray b ∷ ps) w = absurd w

whole_bytes : (ps : List Piece) → Whole ps → bytes_all ps ≡ encode_all (codes_of ps)
unfolding codes_of encode_all bytes_all
whole_bytes [] w = refl
whole_bytes (character code ∷ ps) w = ap (λ (l : List ℕ). encode code ++ l) (whole_bytes ps w.1)
whole_bytes (stray b ∷ ps) w = absurd w

pub trimmed_whole : (line : List ℕ) → well_formed_length line ≡ length line → well_formed_length (trimmed line) ≡ length (trimmed line)
unfolding codes_in well_formed_length
trimmed_whole line e =
    let t = trimming line in
    let all : Whole (pieces_of line) = whole_pieces (pieces_of line) (codes_scalars line) (e ∙ sym (ap length (pieces_bytes line))) in
    let inner : Whole t.inner = whole_first t.inner t.after (whole_second t.before (t.inner ++ t.after) (rw t.pieces at all)) in
    whole_is (trimmed line) (record { codes = codes_of t.inner; scalars = whole_scalars t.inner inner; encoded = t.kept ∙ whole_bytes t.inner inner })

pub trimmed_short : (line : List ℕ) → length (trimmed line) ≤ length line
unfolding bytes_all
trimmed_short line =
    let t = trimming line in
    let k = ap length t.kept in
    let p = ap length (sym (pieces_bytes line) ∙ ap bytes_all t.pieces ∙ bytes_append t.before (t.inner ++ t.after)) in
    let a = length-append (bytes_all t.before) (bytes_all (t.inner ++ t.after)) in
    let q = ap length (bytes_append t.inner t.after) in
    let b = length-append (bytes_all t.inner) (bytes_all t.after) in
    omega arith

-- ITS WORDS are never refused
pub words_there : (line : List ℕ) (t : Result ℕ TokenizeRefusal) → length line ≤ 1024 → well_formed_length line ≡ length line → LineTold line t → ((n : ℕ) → t ≡ Ok n → ⊥) → ⊥
words_there line (Ok n) h w x k = k n refl
words_there line (Err (TooLong n)) h w x k = true_is_not_false (sym x.0 ∙ le-ltb 1024 (length line) h)
words_there line (Err (Ill n)) h w x k = true_is_not_false (sym x.1 ∙ le-ltb (well_formed_length line) (length line) (omega arith))
words_there line (Err (TooShort n)) h w x k = x

-- no words are split so
pub split_none : WellSplit []
unfolding texts_in texts_from
split_none = record { frames = all_none; good = nothing }

-- the words of a line, once it is trimmed
pub trimmed_splits : (line t words : List ℕ) → t ≡ trimmed line → (length t ≤ 1024 → well_formed_length t ≡ length t → texts_in words ≡ words_of t) → Splits line words
unfolding Splits
trimmed_splits line t words e k h w =
    let s = trimmed_short line in
    let l = ap length e in
    k (omega arith) (rw e (trimmed_whole line w)) ∙ ap words_of e

-- THE HELP for words
module _ (image words out : List ℕ) where
  abbrev asked : Said
  asked = help_said (help_of (frames_of image) (words_between words))

  pub help_none : words_between words ≡ [] → Answered asked out (Ok Nothing) out
  unfolding help_line
  help_none e = said_same _ asked out _ _ (sym (ap help_said (reply_none image words e))) (said_nothing out)

  module _ (some : words_between words ≡ [] → ⊥) (begin end : ℕ) (r : Result Ran RunRefusal) (left : List ℕ) where
    pub help_found : FoundAt image words begin end → (node : List ℕ) → node ≡ between image begin end → Answered (text 0 (help_text (words_between words) (frames_of node))) out r left → Answered asked out r left
    unfolding help_line
    help_found f node n a =
        said_same _ asked out r left
        (ap (λ (s : List ℕ). text 0 (help_text (words_between words) (frames_of s))) n ∙ sym (ap help_said (reply_found image words some begin end f))) a

    pub help_lost : LostAt image words begin end → (word : List ℕ) → word ≡ between words begin end → Answered (text 4 (unknown_help word)) out r left → Answered asked out r left
    unfolding help_line
    help_lost f word n a =
        said_same _ asked out r left
        (ap (λ (s : List ℕ). text 4 (unknown_help s)) n ∙ sym (ap help_said (reply_lost image words some begin end f))) a

-- A LINE by its beginning
module _ (line : List ℕ) where
  pub begins_is : (t : List ℕ) (r : Bool) → t ≡ take 5 (drop 0 line) → r ≡ same_bytes t (ascii "help ") → begins_help line ≡ r
  unfolding begins_help
  begins_is t r e q = sym (q ∙ ap (λ (x : List ℕ). same_bytes x (ascii "help ")) e)

  pub other_blank : (frames : List Frame) → begins_help line ≡ false → blank line ≡ true → silence ≡ other_said frames line
  unfolding other_said
  other_blank frames b e = sym (else_is _ _ _ b ∙ then_is _ _ _ e)

  pub other_command : (frames : List Frame) (words : List (List ℕ)) → begins_help line ≡ false → blank line ≡ false → words ≡ words_of (trimmed line) → execute frames words ≡ other_said frames line
  unfolding other_said
  other_command frames words b e q = ap (execute frames) q ∙ sym (else_is _ _ _ b ∙ else_is _ _ _ e)

  module _ (frames : List Frame) (t : List ℕ) where
    pub other_help : begins_help line ≡ true → t ≡ drop 5 line → help_said (help_of frames (words_between t)) ≡ other_said frames line
    unfolding other_said help_words
    other_help b e = ap (λ (x : List ℕ). help_said (help_of frames (words_between x))) e ∙ sym (then_is _ _ _ b)

    pub builtin_is : (b known : Builtin) → t ≡ trimmed line → b ≡ builtin_of t → b ≡ known
        → on_builtin known (text 0 (available_text frames)) farewell (text 0 clear_screen) (other_said frames line) ≡ line_said frames line
    unfolding line_said
    builtin_is b known q e k =
        ap (λ (x : Builtin). on_builtin x (text 0 (available_text frames)) farewell (text 0 clear_screen) (other_said frames line)) (sym k ∙ e ∙ ap builtin_of q)

-- THE CALL, by its refusals in their order
as_bad : {A : Type 0} (x : Result ⊤ BadFrame) (n : ℕ) (bad : ℕ → A) (a : A) → x ≡ Err (record { number = n }) → on_checked x bad a ≡ bad n
as_bad x n bad a e = ap (λ (y : Result ⊤ BadFrame). on_checked y bad a) e

module _ (image line out : List ℕ) where
  pub bad_tree_lem : (n : ℕ) → check_tree image ≡ Err (record { number = n }) → Running image line out (Err (BadTree n)) out
  unfolding run_answer run_leaves
  bad_tree_lem n e = record { answer = sym (as_bad (check_tree image) n (λ m. Err (BadTree m)) _ e); bytes = sym (as_bad (check_tree image) n (λ m. out) _ e) }

  module _ (good : check_tree image ≡ Ok tt) where
    as_good : {A : Type 0} (bad : ℕ → A) (a : A) → on_checked (check_tree image) bad a ≡ a
    as_good bad a = ap (λ (x : Result ⊤ BadFrame). on_checked x bad a) good

    pub too_long : (n : ℕ) → 1024 < length line → n ≡ min (length line) 65535 → Running image line out (Err (LineTooLong n)) out
    unfolding run_answer run_leaves
    too_long n h e =
        record {
          answer = ap (λ (n : ℕ). Err (LineTooLong n)) e ∙ sym (as_good _ _ ∙ then_is _ _ _ (lt-ltb 1024 (length line) h));
          bytes = sym (as_good _ _ ∙ then_is _ _ _ (lt-ltb 1024 (length line) h));
        }

    module _ (h : length line ≤ 1024) (r : Result Ran RunRefusal) (left : List ℕ) where
      running : Answered (said_of (frames_of image) line) out r left → Running image line out r left
      unfolding run_answer run_leaves
      running a =
          record {
            answer = a.answer ∙ sym (as_good _ _ ∙ else_is _ _ _ (le-ltb 1024 (length line) h));
            bytes = a.bytes ∙ sym (as_good _ _ ∙ else_is _ _ _ (le-ltb 1024 (length line) h));
          }

      pub ill_formed_lem : (n : ℕ) → n ≡ well_formed_length line → n < length line → Answered (text 3 ill_formed) out r left → Running image line out r left
      unfolding said_of
      ill_formed_lem n e k a =
          let l : well_formed_length line < length line = omega arith in
          running (said_same _ _ out r left (sym (then_is _ _ _ (lt-ltb (well_formed_length line) (length line) l))) a)

      pub well_formed_lem : (n : ℕ) → n ≡ well_formed_length line → length line ≤ n → Answered (line_said (frames_of image) line) out r left → Running image line out r left
      unfolding said_of
      well_formed_lem n e k a =
          let l : length line ≤ well_formed_length line = omega arith in
          running (said_same _ _ out r left (sym (else_is _ _ _ (le-ltb (well_formed_length line) (length line) l))) a)
