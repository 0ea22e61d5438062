-- Each answer of `help`, with what it leaves; and that there is no second one.
use Rattle.std.specs.Prelude.{Ok, Err, Result}
use Prim.Native.Nat.{ℕ, ◌-◌, ◌<◌, ◌≤◌, min}
use mathlib.Core.Path.{◌≡◌, refl, sym, ap, ◌∙◌}
use mathlib.Core.Bool.{Bool, true, false}
use mathlib.Core.List.{List, [], ◌∷◌}
use native.Mathlib.Omega.{arith}
use borrow.Author.Tests.{lt-ltb, le-ltb}
use lib.Dec.{ltb}
use lib.ListN.{length, drop, length-take, length-drop}
use Rattle.buffer.specs.Lend.{between}
use Rattle.buffer.specs.Write.{over, Written, over_if_fits}
use Rattle.buffer.proofs.Choices.{then_is, else_is}
use Rattle.text.specs.Decoding.{well_formed_length}
use Rattle.text.specs.Apart.{words_between}
use Rattle.buffer.specs.Numbers.{Bytes}
use Rattle.frame.specs.Framed.{frame_of}
use Rattle.tree.specs.Images.{frames_of}
use Rattle.tree.specs.Rules.{check_tree}
use Rattle.tree.proofs.WellFormedImages.{good_well_formed}
use Rattle.help.specs.Texts.{help_text}
use Rattle.buffer.specs.Showing.{show_answer, Showing}
use Rattle.buffer.specs.declared.show.TooShort.{TooShort}
use Rattle.help.specs.Paths.{Led, followed, FoundAt, LostAt}
use Rattle.help.specs.Answer.{Reply, said, unknown, wordless, reply_by, help_in, help_of, help_line, bytes_of, room_for, answer_by, answer_in, answer_for, leaves_by, leaves_for, Helping}
use Rattle.help.specs.Inner.{Replied}
use Rattle.help.specs.declared.call.HelpRefusal.{HelpRefusal}
use Rattle.help.specs.declared.call.HelpRefusal.TheVariants.{BadTree, LineTooLong, IllFormed, NoWords, UnknownCommand, NoRoom}

-- a reply that is known by its answer
replied : (reply : Reply) (out : List ℕ) (r : Result ℕ HelpRefusal) (left : List ℕ) → answer_by reply (length out) ≡ r → left ≡ leaves_by r (bytes_of reply) out → Replied reply out r left
replied reply out r left e f = record { answer = sym e; bytes = f ∙ ap (λ (x : Result ℕ HelpRefusal). leaves_by x (bytes_of reply) out) (sym e) }

pub replied_none : (out : List ℕ) → Replied wordless out (Err NoWords) out
replied_none out = record { answer = refl; bytes = refl }

-- an unknown word, with room for its frame and without
module _ (word out : List ℕ) (n : ℕ) (e : n ≡ length (frame_of 0x1e word)) where
  pub unknown_no_room : length out < n → Replied (unknown word) out (Err (NoRoom n)) out
  unfolding room_for
  unknown_no_room h =
      let k : length out < length (frame_of 0x1e word) = omega arith in
      replied (unknown word) out (Err (NoRoom n)) out (then_is _ _ _ (lt-ltb (length out) _ k) ∙ ap (λ (n : ℕ). Err (NoRoom n)) (sym e)) refl

  pub unknown_written : (r : ℕ) (left : List ℕ) → n ≤ length out → Written (frame_of 0x1e word) out r left → Replied (unknown word) out (Err (UnknownCommand r)) left
  unfolding room_for
  unknown_written r left h w =
      let k : length (frame_of 0x1e word) ≤ length out = omega arith in
      replied (unknown word) out (Err (UnknownCommand r)) left (else_is _ _ _ (le-ltb (length out) _ k) ∙ ap (λ (n : ℕ). Err (UnknownCommand n)) (sym w.count)) w.bytes

-- a text that is shown
abbrev helped_by : Result ℕ TooShort → Result ℕ HelpRefusal
helped_by (Ok n) = Ok n
helped_by (Err refusal) = Err (NoRoom refusal.needed)

pub said_shown : (text out : List ℕ) (answer : Result ℕ TooShort) (left : List ℕ) → Showing text out answer left → Replied (said text) out (helped_by answer) left
unfolding show_answer over_if_fits room_for
said_shown text out answer left s = by (ltb (length out) (length text)) refl
  where
    by : (t : Bool) → ltb (length out) (length text) ≡ t → Replied (said text) out (helped_by answer) left
    by true q =
        let a : answer ≡ Err (record { needed = length text }) = s.answer ∙ rw q in
        let b : left ≡ out = s.bytes ∙ rw q in
        rw (a, b) (replied (said text) out (Err (NoRoom (length text))) out (rw q) refl)
    by false q =
        let a : answer ≡ Ok (length text) = s.answer ∙ rw q in
        let b : left ≡ over text out = s.bytes ∙ rw q in
        rw (a, b) (replied (said text) out (Ok (length text)) (over text out) (rw q) refl)

-- parts are no longer than the whole
pub part_most : (t s : List ℕ) (begin end : ℕ) → t ≡ between s begin end → length t ≤ length s
part_most t s begin end e =
    let k = ap length e ∙ length-take (end - begin) (drop begin s) in
    let l = length-drop begin s in
    omega arith

pub tree_short : (image : List ℕ) → Bytes image → check_tree image ≡ Ok tt → length image ≤ 32768
tree_short image b e = (good_well_formed image b e).short

-- the reply to a line, by where its words lead
module _ (image line : List ℕ) where
  pub reply_none : words_between line ≡ [] → help_line image line ≡ wordless
  unfolding help_line help_of
  reply_none e = rw e

  -- words lead on from the subtree of the first
  reply_led : (led : Led) → (words_between line ≡ [] → ⊥) → followed 0 (frames_of image) (words_between line) ≡ led → help_line image line ≡ reply_by (words_between line) led
  unfolding help_line help_of help_in followed
  reply_led led some k = by (words_between line) some k
    where
      by : (words : List (List ℕ)) → (words ≡ [] → ⊥) → followed 0 (frames_of image) words ≡ led → help_of (frames_of image) words ≡ reply_by words led
      by [] m e = absurd (m refl)
      by (word ∷ words) m e = ap (reply_by (word ∷ words)) e

  module _ (some : words_between line ≡ [] → ⊥) where
    pub reply_found : (begin end : ℕ) → FoundAt image line begin end → help_line image line ≡ said (help_text (words_between line) (frames_of (between image begin end)))
    reply_found begin end f = reply_led _ some f.leads

    pub reply_lost : (begin end : ℕ) → LostAt image line begin end → help_line image line ≡ unknown (between line begin end)
    reply_lost begin end f = reply_led _ some f.leads

-- the call, by its refusals in their order
module _ (image line out : List ℕ) where
  helping : (r : Result ℕ HelpRefusal) (left : List ℕ) → answer_for image line (length out) ≡ r → left ≡ leaves_by r (bytes_of (help_line image line)) out → Helping image line out r left
  unfolding leaves_for
  helping r left e f = record { answer = sym e; bytes = f ∙ ap (λ (x : Result ℕ HelpRefusal). leaves_by x (bytes_of (help_line image line)) out) (sym e) }

  pub bad_tree_lem : (n : ℕ) → check_tree image ≡ Err (record { number = n }) → Helping image line out (Err (BadTree n)) out
  unfolding answer_for
  bad_tree_lem n e = helping (Err (BadTree n)) out (rw e) refl

  module _ (good : check_tree image ≡ Ok tt) where
    pub too_long : (n : ℕ) → 1024 < length line → n ≡ min (length line) 65535 → Helping image line out (Err (LineTooLong n)) out
    unfolding answer_for answer_in
    too_long n h e = helping (Err (LineTooLong n)) out (rw (good, e, lt-ltb 1024 (length line) h)) refl

    module _ (h : length line ≤ 1024) where
      pub ill_formed_lem : (n : ℕ) → n ≡ well_formed_length line → n < length line → Helping image line out (Err (IllFormed n)) out
      unfolding answer_for answer_in
      ill_formed_lem n e k =
          let l : well_formed_length line < length line = omega arith in
          helping (Err (IllFormed n)) out (rw (good, le-ltb 1024 (length line) h, e, lt-ltb (well_formed_length line) (length line) l)) refl

      pub answered : (n : ℕ) (r : Result ℕ HelpRefusal) (left : List ℕ) → n ≡ well_formed_length line → length line ≤ n → Replied (help_line image line) out r left → Helping image line out r left
      unfolding answer_for answer_in
      answered n r left e k a =
          let l : length line ≤ well_formed_length line = omega arith in
          let f : answer_for image line (length out) ≡ answer_by (help_line image line) (length out) = rw (good, le-ltb 1024 (length line) h, le-ltb (well_formed_length line) (length line) l) in
          helping r left (f ∙ sym a.answer) (a.bytes ∙ ap (λ (x : Result ℕ HelpRefusal). leaves_by x (bytes_of (help_line image line)) out) (sym a.answer))

-- no second answer satisfies the contract
pub one_answer : (image line out left other : List ℕ) (r q : Result ℕ HelpRefusal) → Helping image line out r left → Helping image line out q other → (r ≡ q) × (left ≡ other)
one_answer image line out left other r q a b = (a.answer ∙ sym b.answer, a.bytes ∙ sym b.bytes)
