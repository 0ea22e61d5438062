-- What `run` answers and leaves (STANDARD 10: 1, 2, then its text, 9, in that order).
use Rattle.std.specs.Prelude.{ℕ, min, ◌≡◌, cond, List, [], ltb, length, Ok, Err, Result}
use Rattle.buffer.specs.Write.{over}
use Rattle.frame.specs.Limits.{line_limit, value_limit}
use Rattle.tree.specs.Images.{frames_of}
use Rattle.tree.specs.Rules.{check_tree}
use Rattle.parse.specs.Answer.{on_checked}
use Rattle.message.specs.Messages.{goodbye}
use Rattle.shell.specs.Lines.{Said, silence, text, farewell, handed, said_of}
use Rattle.shell.specs.declared.answer.Ran.{Ran}
use Rattle.shell.specs.declared.answer.RunRefusal.{RunRefusal}
use Rattle.shell.specs.declared.answer.Ran.TheVariants.{Nothing, Text, Exit, Handler}
use Rattle.shell.specs.declared.answer.RunRefusal.TheVariants.{BadTree, LineTooLong, NoRoom}

-- the bytes that are written (10.13)
abbrev pub bytes_of : Said → List ℕ
bytes_of silence = []
bytes_of (text number bytes) = bytes
bytes_of farewell = goodbye
bytes_of (handed handler report) = report

-- the answer with their length (10.13)
abbrev pub named : Said → ℕ → Result Ran RunRefusal
named silence n = Ok Nothing
named (text number bytes) n = Ok (Text number n)
named farewell n = Ok (Exit n)
named (handed handler report) n = Ok (Handler handler n)

unfoldable pub said_answer : Said → ℕ → Result Ran RunRefusal
said_answer s room = cond (ltb room (length (bytes_of s))) (Err (NoRoom (length (bytes_of s)))) (named s (length (bytes_of s)))

unfoldable pub said_leaves : Said → List ℕ → List ℕ
said_leaves s out = cond (ltb (length out) (length (bytes_of s))) out (over (bytes_of s) out)

-- (10.13)
unfoldable pub run_answer : List ℕ → List ℕ → ℕ → Result Ran RunRefusal
run_answer image line room =
    on_checked (check_tree image) (λ n. Err (BadTree n))
    (cond (ltb line_limit (length line)) (Err (LineTooLong (min (length line) value_limit))) (said_answer (said_of (frames_of image) line) room))

-- (10.13)
unfoldable pub run_leaves : List ℕ → List ℕ → List ℕ → List ℕ
run_leaves image line out =
    on_checked (check_tree image) (λ n. out) (cond (ltb line_limit (length line)) out (said_leaves (said_of (frames_of image) line) out))

pub record Running (image line out : List ℕ) (r : Result Ran RunRefusal) (left : List ℕ) : Type 0 where
  pub answer : r ≡ run_answer image line (length out)
  pub bytes : left ≡ run_leaves image line out

-- nothing 0, text 1, the end 2, a handler 3; a refusal is none of them (10.13)
abbrev pub kind : Result Ran RunRefusal → ℕ
kind (Ok Nothing) = 0
kind (Ok (Text m n)) = 1
kind (Ok (Exit n)) = 2
kind (Ok (Handler handler n)) = 3
kind (Err (BadTree n)) = 0
kind (Err (LineTooLong n)) = 0
kind (Err (NoRoom n)) = 0

-- the refusal's number (STANDARD 10.1; 0: none), and the value that goes with it: the length of what is written, or what the standard says (10.13)
abbrev pub number : Result Ran RunRefusal → ℕ
number (Ok Nothing) = 0
number (Ok (Text m n)) = 0
number (Ok (Exit n)) = 0
number (Ok (Handler handler n)) = 0
number (Err (BadTree n)) = 1
number (Err (LineTooLong n)) = 2
number (Err (NoRoom n)) = 9

-- (10.13)
abbrev pub value : Result Ran RunRefusal → ℕ
value (Ok Nothing) = 0
value (Ok (Text m n)) = n
value (Ok (Exit n)) = n
value (Ok (Handler handler n)) = n
value (Err (BadTree n)) = n
value (Err (LineTooLong n)) = n
value (Err (NoRoom n)) = n

-- the second value: the number beside a text, or the handler (10.13)
abbrev pub beside : Result Ran RunRefusal → ℕ
beside (Ok Nothing) = 0
beside (Ok (Text m n)) = m
beside (Ok (Exit n)) = 0
beside (Ok (Handler handler n)) = handler
beside (Err (BadTree n)) = 0
beside (Err (LineTooLong n)) = 0
beside (Err (NoRoom n)) = 0
