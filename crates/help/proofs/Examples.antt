-- Worked examples of `help`: the standard's session node `log`, and a node with a child, by their words; unknown words, and none.
use mathlib.Core.Path.{◌≡◌, refl}
use mathlib.Core.List.{List, [], ◌∷◌}
use Rattle.buffer.specs.Compare.{same_bytes}
use Rattle.buffer.specs.Numbers.{number_bytes}
use Rattle.frame.specs.Text.{text_of}
use Rattle.frame.specs.Framed.{frame_of}
use Rattle.image.specs.Frames.{Frame, node, flag, absent, present}
use Rattle.tree.specs.Subtrees.{up_to, on_from, subtree}
use Rattle.buffer.specs.Ascii.{ascii}
use Rattle.rows.specs.Rows.{blanks, padded, short_then, shown_as, entry, flag_row, node_row, rows, titled}
use Rattle.help.specs.Texts.{spaced, lists, about, help_text}
use Rattle.help.specs.Paths.{followed}
use Rattle.help.specs.Answer.{said, unknown, wordless, help_in, help_of, bytes_of}

frames : List Frame
frames =
    node 0 2 (ascii "log") (ascii "Change log level") (present (ascii "log [LEVEL]"))
    ∷ node 0 0 (ascii "vm") (ascii "Machines") absent
    ∷ node 1 3 (ascii "start") (ascii "Start one") absent
    ∷ flag 0x66 (ascii "force") (present (ascii "force")) (ascii "No question")
    ∷ node 0 4 (ascii "zap") (ascii "Remove all") absent
    ∷ flag 0x79 (ascii "yes") absent []
    ∷ []

-- `log`; `vm start`, whose flags end at the next node; `vm log`, of which `log` is no child; `start`, which is no command; no words
table :
    (help_of frames (ascii "log" ∷ []) ≡ said (ascii "Command: log\nDescription: Change log level\nUsage: log [LEVEL]\n"))
    × (help_of frames (ascii "vm" ∷ ascii "start" ∷ []) ≡ said (ascii "Command: vm start\nDescription: Start one\n\nFlags:\n  -f, --force          No question\n"))
    × (help_of frames (ascii "vm" ∷ ascii "log" ∷ ascii "x" ∷ []) ≡ unknown (ascii "log"))
    × (help_of frames (ascii "start" ∷ []) ≡ unknown (ascii "start"))
    × (help_of frames [] ≡ wordless)
    × (bytes_of (unknown (ascii "start")) ≡ 0x1e ∷ 0 ∷ 5 ∷ ascii "start")
unfolding frames ascii same_bytes number_bytes text_of frame_of up_to on_from subtree blanks padded short_then shown_as entry flag_row node_row rows titled spaced lists about help_text followed help_in help_of
table = (refl, refl, refl, refl, refl, refl)
