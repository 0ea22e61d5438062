-- What the split of a line into words tells the call: its refusals, and that the words which are judged are the line's.
use Rattle.std.specs.Prelude.{Ok, Err, Result, ⊤}
use Prim.Native.Nat.{ℕ, ◌<◌, ◌≤◌, min}
use mathlib.Core.Path.{◌≡◌, refl, sym, ap, ◌∙◌}
use mathlib.Core.Bool.{Bool, true, false, cond}
use mathlib.Core.List.{List, [], ◌∷◌, ◌++◌}
use native.Mathlib.Omega.{arith}
use borrow.Author.Tests.{ltb-true, ltb-false}
use lib.Dec.{ltb}
use lib.ListN.{length, take, drop, length-append, length-take}
use lib.Seq.{take-append_seam}
use Rattle.buffer.specs.Write.{over}
use Rattle.buffer.proofs.Choices.{then_is, else_is}
use Rattle.frame.specs.Framed.{frame_of}
use Rattle.frame.specs.Series.{texts_in, runs, AllFrames}
use Rattle.frame.proofs.Frames.{length_frame_of}
use Rattle.frame.proofs.Series.{AllShort, texts_runs, all_runs}
use Rattle.text.specs.Decoding.{well_formed_length}
use Rattle.text.proofs.Prefix.{prefix_fits}
use Rattle.words.specs.Tokens.{words_of, word_frames}
use Rattle.words.specs.Answer.{written, answer_for, leaves_by, leaves_for, Tokenized}
use Rattle.words.specs.declared.tokenizer.TokenizeRefusal.{TokenizeRefusal}
use Rattle.words.specs.declared.tokenizer.TokenizeRefusal.TheVariants.{LineTooLong as TooLong, IllFormed as Ill, NoRoom as TooShort}
use Rattle.words.proofs.Standing.{written_most}
use Rattle.words.proofs.GoodWords.{words_good}
use Rattle.arguments.specs.Inner.{WellSplit}
use Rattle.tree.specs.Images.{frames_of}
use Rattle.tree.specs.Rules.{check_tree}
use Rattle.tree.specs.declared.check.BadFrame.{BadFrame}
use Rattle.parse.specs.Commands.{Outcome, parse_words, parse_line}
use Rattle.parse.specs.Inner.{Enough, Telling, Worded}
use Rattle.parse.specs.Answer.{outcome_answer, outcome_leaves, on_checked, parse_answer, parse_leaves, Parsing}
use Rattle.parse.specs.declared.answer.ParseRefusal.{ParseRefusal}
use Rattle.parse.specs.declared.answer.ParseRefusal.TheVariants.{BadTree, LineTooLong, IllFormed}

-- the frames of words, as a series
series : (l : List (List ℕ)) → word_frames l ≡ runs (frame_of 0x14) l
unfolding word_frames runs
series [] = refl
series (w ∷ l) = ap (λ (s : List ℕ). frame_of 0x14 w ++ s) (series l)

short_all : (l : List (List ℕ)) → length (runs (frame_of 0x14) l) ≤ 4096 → AllShort l
unfolding runs
short_all [] h = tt
short_all (w ∷ l) h =
    let a = length-append (frame_of 0x14 w) (runs (frame_of 0x14) l) in
    let b = length_frame_of 0x14 w in
    (omega arith, short_all l (omega arith))

pub line_texts : (line : List ℕ) → length (written line) ≤ 4096 → texts_in (written line) ≡ words_of line
unfolding written
line_texts line h = ap texts_in (series (words_of line)) ∙ texts_runs 0x14 (words_of line) (short_all (words_of line) (let e = ap length (series (words_of line)) in omega arith))

-- what `tokenize` writes is split so
line_frames : (line : List ℕ) → length (written line) ≤ 4096 → AllFrames (written line)
unfolding written
line_frames line h = rw (series (words_of line)) (all_runs 0x14 (words_of line) (short_all (words_of line) (let e = ap length (series (words_of line)) in omega arith)))

pub line_split : (line : List ℕ) → length (written line) ≤ 4096 → WellSplit (written line)
line_split line h = record { frames = line_frames line h; good = rw (line_texts line h) (words_good line) }

-- WHAT AN ANSWER TELLS of a line
abbrev pub LineTold : List ℕ → Result ℕ TokenizeRefusal → Type 0
LineTold line (Ok n) =
    (ltb 1024 (length line) ≡ false) × (ltb (well_formed_length line) (length line) ≡ false) × (length (written line) ≤ 4096) × (n ≡ length (written line))
LineTold line (Err (TooLong n)) = (ltb 1024 (length line) ≡ true) × (n ≡ min (length line) 65535)
LineTold line (Err (Ill n)) = (ltb 1024 (length line) ≡ false) × (ltb (well_formed_length line) (length line) ≡ true) × (n ≡ well_formed_length line)
LineTold line (Err (TooShort n)) = ⊥

pub line_told : (line : List ℕ) (room : ℕ) → Enough line room → LineTold line (answer_for line room)
unfolding answer_for
line_told line room enough = by (ltb 1024 (length line)) refl (ltb (well_formed_length line) (length line)) refl (ltb room (length (written line))) refl
  where
    by : (x : Bool) → ltb 1024 (length line) ≡ x → (y : Bool) → ltb (well_formed_length line) (length line) ≡ y → (z : Bool) → ltb room (length (written line)) ≡ z
        → LineTold line (cond x (Err (TooLong (min (length line) 65535))) (cond y (Err (Ill (well_formed_length line))) (cond z (Err (TooShort (length (written line)))) (Ok (length (written line))))))
    by true p y q z r = (p, refl)
    by false p true q z r = (p, q, refl)
    by false p false q true r =
        let a : length line ≤ 1024 = ltb-false 1024 (length line) p in
        let b : length line ≤ well_formed_length line = ltb-false (well_formed_length line) (length line) q in
        let c : room < length (written line) = ltb-true room (length (written line)) r in
        let d = prefix_fits line in
        let w = written_most line (omega arith) in
        let l = enough.1 a in
        omega arith
    by false p false q false r = let c : length (written line) ≤ room = ltb-false room (length (written line)) r in let m = enough.0 in (p, q, omega arith, refl)

-- words that are written have found room
room_told : (line : List ℕ) (room n : ℕ) → answer_for line room ≡ Ok n → n ≤ room
unfolding answer_for
room_told line room n e = by (ltb 1024 (length line)) (ltb (well_formed_length line) (length line)) (ltb room (length (written line))) refl e
  where
    by : (x y z : Bool) → ltb room (length (written line)) ≡ z
        → cond x (Err (TooLong (min (length line) 65535))) (cond y (Err (Ill (well_formed_length line))) (cond z (Err (TooShort (length (written line)))) (Ok (length (written line))))) ≡ Ok n → n ≤ room
    by true y z r q = absurd (let i : ◌≡◌ {A = ℕ} 0 1 = cc in omega arith)
    by false true z r q = absurd (let i : ◌≡◌ {A = ℕ} 0 1 = cc in omega arith)
    by false false true r q = absurd (let i : ◌≡◌ {A = ℕ} 0 1 = cc in omega arith)
    by false false false r q = let k : length (written line) ≡ n = cc in let c : length (written line) ≤ room = ltb-false room (length (written line)) r in omega arith

told_as : (line : List ℕ) (t u : Result ℕ TokenizeRefusal) → t ≡ u → LineTold line t → LineTold line u
told_as line t u e x = rw e at x

module _ (line words left : List ℕ) (t : Result ℕ TokenizeRefusal) (k : Tokenized line words t left) (room : Enough line (length words)) where
  pub line_by : (u : Result ℕ TokenizeRefusal) → t ≡ u → LineTold line u
  line_by u e = told_as line (answer_for line (length words)) u (sym k.answer ∙ e) (line_told line (length words) room)

  -- the words that are lent on
  pub line_words : (n : ℕ) → t ≡ Ok n → take n left ≡ written line
  unfolding leaves_for over
  line_words n e =
      let x = line_by (Ok n) e in
      let b : left ≡ written line ++ drop (length (written line)) words = k.bytes ∙ ap (λ (u : Result ℕ TokenizeRefusal). leaves_by u (written line) words) (sym k.answer ∙ e) in
      ap (take n) b ∙ ap (λ (m : ℕ). take m (written line ++ drop (length (written line)) words)) x.3 ∙ take-append_seam (written line) (drop (length (written line)) words)

  pub left_room : (n : ℕ) → t ≡ Ok n → n ≤ length words
  left_room n e = room_told line (length words) n (sym k.answer ∙ e)

  pub left_length : (n : ℕ) → t ≡ Ok n → n ≤ length left
  left_length n e =
      let x = line_by (Ok n) e in
      let l = ap length (line_words n e) in
      let m : length (take n left) ≤ length left = rw length-take (omega arith) in
      let q = x.3 in
      omega arith

-- THE CALL: the image's refusal goes before the line's
checked_same : {A : Type 0} (x : Result ⊤ BadFrame) (a : A) → a ≡ on_checked x (λ n. a) a
checked_same (Ok u) a = refl
checked_same (Err refusal) a = refl

module _ (image line out : List ℕ) (r : Result ℕ ParseRefusal) where
  pub line_long : (n : ℕ) → LineTold line (Err (TooLong n)) → r ≡ on_checked (check_tree image) (λ m. Err (BadTree m)) (Err (LineTooLong n)) → Parsing image line out r out
  unfolding parse_answer parse_leaves
  line_long n x e =
      record {
        answer = e ∙ ap (on_checked (check_tree image) (λ m. Err (BadTree m))) (ap (λ (n : ℕ). Err (LineTooLong n)) x.1 ∙ sym (then_is _ _ _ x.0));
        bytes = checked_same (check_tree image) out ∙ ap (on_checked (check_tree image) (λ m. out)) (sym (then_is _ _ _ x.0));
      }

  pub line_ill : (n : ℕ) → LineTold line (Err (Ill n)) → r ≡ on_checked (check_tree image) (λ m. Err (BadTree m)) (Err (IllFormed n)) → Parsing image line out r out
  unfolding parse_answer parse_leaves
  line_ill n x e =
      record {
        answer = e ∙ ap (on_checked (check_tree image) (λ m. Err (BadTree m))) (ap (λ (n : ℕ). Err (IllFormed n)) x.2 ∙ sym (else_is _ _ _ x.0 ∙ then_is _ _ _ x.1));
        bytes = checked_same (check_tree image) out ∙ ap (on_checked (check_tree image) (λ m. out)) (sym (else_is _ _ _ x.0 ∙ then_is _ _ _ x.1));
      }

  pub line_parsed : (n : ℕ) (words left : List ℕ) → LineTold line (Ok n) → words ≡ written line → Worded image words out r left → Parsing image line out r left
  unfolding parse_answer parse_leaves parse_line
  line_parsed n words left x e t =
      let o : parse_words (frames_of image) (texts_in words) ≡ parse_words (frames_of image) (words_of line) = ap (λ (s : List ℕ). parse_words (frames_of image) (texts_in s)) e ∙ ap (parse_words (frames_of image)) (line_texts line x.2) in
      record {
        answer = t.answer ∙ ap (on_checked (check_tree image) (λ m. Err (BadTree m))) (ap (λ (y : Outcome). outcome_answer y (length out)) o ∙ sym (else_is _ _ _ x.0 ∙ else_is _ _ _ x.1));
        bytes = t.bytes ∙ ap (on_checked (check_tree image) (λ m. out)) (ap (λ (y : Outcome). outcome_leaves y out) o ∙ sym (else_is _ _ _ x.0 ∙ else_is _ _ _ x.1));
      }

-- an outcome told in other words
pub told_same : (a b : Outcome) (out left : List ℕ) (r : Result ℕ ParseRefusal) → a ≡ b → Telling a out r left → Telling b out r left
told_same a b out left r e t = rw (← e) t
