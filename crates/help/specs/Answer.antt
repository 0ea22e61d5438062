-- What `help` answers and leaves (STANDARD 10: 1, 2, 3, 14, 4, 9, in that order).
use Rattle.std.specs.Prelude.{ℕ, min, ◌≡◌, cond, List, [], ◌∷◌, ltb, length, Ok, Err, Result, ⊤}
use Rattle.frame.specs.Limits.{line_limit, value_limit}
use Rattle.buffer.specs.Write.{over}
use Rattle.text.specs.Decoding.{well_formed_length, is_ill_formed}
use Rattle.text.specs.Apart.{words_between}
use Rattle.frame.specs.Framed.{frame_of}
use Rattle.image.specs.Frames.{Frame}
use Rattle.tree.specs.Images.{frames_of}
use Rattle.tree.specs.Rules.{check_tree}
use Rattle.tree.specs.declared.check.BadFrame.{BadFrame}
use Rattle.tree.specs.Subtrees.{subtree}
use Rattle.help.specs.Texts.{help_text}
use Rattle.help.specs.Paths.{Led, found, lost, on_subtree, followed}
use Rattle.help.specs.declared.call.HelpRefusal.{HelpRefusal}
use Rattle.help.specs.declared.call.HelpRefusal.TheVariants.{BadTree, LineTooLong, IllFormed, NoWords, UnknownCommand, NoRoom}

-- what words are told, given where they lead: the help of that node, that a word is unknown, or that there are none
pub data Reply : Type 0 where
  said : List ℕ → Reply
  unknown : List ℕ → Reply
  wordless : Reply

-- (9.12)
abbrev pub reply_by : List (List ℕ) → Led → Reply
reply_by words (found frames) = said (help_text words frames)
reply_by words (lost word) = unknown word

-- a reply depends on the subtree of the first word only (9.12, 12.4)
unfoldable pub help_in : List Frame → List ℕ → List (List ℕ) → Reply
help_in below word words = reply_by (word ∷ words) (on_subtree word below (λ frames. followed 1 frames words))

-- (9.12)
unfoldable pub help_of : List Frame → List (List ℕ) → Reply
help_of frames [] = wordless
help_of frames (word ∷ words) = help_in (subtree 0 word frames) word words

unfoldable pub help_line : List ℕ → List ℕ → Reply
help_line image line = help_of (frames_of image) (words_between line)

-- the bytes that a reply is: the text, or a frame 1E with the unknown word (10.12)
abbrev pub bytes_of : Reply → List ℕ
bytes_of (said text) = text
bytes_of (unknown word) = frame_of 0x1e word
bytes_of wordless = []

-- so many bytes where they fit, else the length needed
unfoldable pub room_for : ℕ → ℕ → Result ℕ HelpRefusal → Result ℕ HelpRefusal
room_for n room answer = cond (ltb room n) (Err (NoRoom n)) answer

abbrev pub answer_by : Reply → ℕ → Result ℕ HelpRefusal
answer_by (said text) room = room_for (length text) room (Ok (length text))
answer_by (unknown word) room = room_for (length (frame_of 0x1e word)) room (Err (UnknownCommand (length (frame_of 0x1e word))))
answer_by wordless room = Err NoWords

-- the answer for a line over a well-formed tree
unfoldable pub answer_in : List ℕ → List ℕ → ℕ → Result ℕ HelpRefusal
answer_in image line room =
    cond (ltb line_limit (length line)) (Err (LineTooLong (min (length line) value_limit)))
    (cond (is_ill_formed line) (Err (IllFormed (well_formed_length line)))
    (answer_by (help_line image line) room))

abbrev pub on_checked : Result ⊤ BadFrame → Result ℕ HelpRefusal → Result ℕ HelpRefusal
on_checked (Ok u) answer = answer
on_checked (Err refusal) answer = Err (BadTree refusal.number)

-- the answer for any image and line and a buffer of `room` bytes (10.12)
unfoldable pub answer_for : List ℕ → List ℕ → ℕ → Result ℕ HelpRefusal
answer_for image line room = on_checked (check_tree image) (answer_in image line room)

-- a refusal other than 4 writes nothing; the text or the frame stands in the first bytes, and the rest stays
abbrev pub leaves_by : Result ℕ HelpRefusal → List ℕ → List ℕ → List ℕ
leaves_by (Ok n) bytes out = over bytes out
leaves_by (Err (BadTree n)) bytes out = out
leaves_by (Err (LineTooLong n)) bytes out = out
leaves_by (Err (IllFormed n)) bytes out = out
leaves_by (Err NoWords) bytes out = out
leaves_by (Err (UnknownCommand n)) bytes out = over bytes out
leaves_by (Err (NoRoom n)) bytes out = out

unfoldable pub leaves_for : List ℕ → List ℕ → List ℕ → List ℕ
leaves_for image line out = leaves_by (answer_for image line (length out)) (bytes_of (help_line image line)) out

pub record Helping (image line out : List ℕ) (r : Result ℕ HelpRefusal) (left : List ℕ) : Type 0 where
  pub answer : r ≡ answer_for image line (length out)
  pub bytes : left ≡ leaves_for image line out

-- the refusal's number (STANDARD 10.1; 0: none), and the value that goes with it
abbrev pub number : Result ℕ HelpRefusal → ℕ
number (Ok n) = 0
number (Err (BadTree n)) = 1
number (Err (LineTooLong n)) = 2
number (Err (IllFormed n)) = 3
number (Err NoWords) = 14
number (Err (UnknownCommand n)) = 4
number (Err (NoRoom n)) = 9

abbrev pub value : Result ℕ HelpRefusal → ℕ
value (Ok n) = n
value (Err (BadTree n)) = n
value (Err (LineTooLong n)) = n
value (Err (IllFormed n)) = n
value (Err NoWords) = 0
value (Err (UnknownCommand n)) = n
value (Err (NoRoom n)) = n
