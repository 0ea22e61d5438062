-- Worked examples of the texts, against what the Rust prints for the same trees.
use mathlib.Core.Path.{◌≡◌, refl}
use mathlib.Core.List.{List, [], ◌∷◌, ◌++◌}
use Rattle.image.specs.Frames.{Frame, node, option, flag, absent, present}
use Rattle.buffer.specs.Ascii.{ascii}
use Rattle.rows.specs.Rows.{blanks, padded, short_then, shown_as, required_mark, entry, option_row, flag_row, node_row, rows, titled}
use Rattle.help.specs.Texts.{spaced, lists, about, help_text, available_head, available_foot, available_text}

-- the node of the standard's session
log : List Frame
log = node 0 2 (ascii "log") (ascii "Change log level") (present (ascii "log [LEVEL]")) ∷ []

-- options and flags with a short, a long, both or neither, a label longer than its column, children and a grandchild
start : List Frame
start = node 1 0 (ascii "start") (ascii "Start one") absent ∷ node 2 0 (ascii "deep") (ascii "Deep") absent ∷ []

vm : List Frame
vm =
    node 0 0 (ascii "vm") (ascii "Machines") absent
    ∷ option 1 0x63 (ascii "config") (present (ascii "cfg")) (ascii "The file")
    ∷ option 0 0 (ascii "id") absent []
    ∷ flag 0x66 (ascii "force") (present (ascii "force")) (ascii "No question")
    ∷ option 0 0 (ascii "name") (present (ascii "a-long-name-of-some-twenty")) (ascii "Its name")
    ∷ option 0 0x78 (ascii "x") absent (ascii "Short")
    ∷ flag 0 (ascii "bare") absent (ascii "Bare")
    ∷ node 1 0 (ascii "list") (ascii "List all") absent
    ∷ start

help_log : help_text (ascii "log" ∷ []) log ≡ ascii "Command: log\nDescription: Change log level\nUsage: log [LEVEL]\n"
unfolding log ascii blanks padded short_then shown_as required_mark entry option_row flag_row node_row rows spaced titled lists about help_text
help_log = refl

help_vm :
    help_text (ascii "vm" ∷ []) vm
    ≡ ascii "Command: vm\nDescription: Machines\n"
    ++ ascii "\nOptions:\n"
    ++ ascii "  -c, --cfg            The file (required)\n"
    ++ ascii "  id                   \n"
    ++ ascii "  --a-long-name-of-some-twenty Its name\n"
    ++ ascii "  -x                   Short\n"
    ++ ascii "\nFlags:\n"
    ++ ascii "  -f, --force          No question\n"
    ++ ascii "  bare                 Bare\n"
    ++ ascii "\nSubcommands:\n"
    ++ ascii "  list                 List all\n"
    ++ ascii "  start                Start one\n"
unfolding vm start ascii blanks padded short_then shown_as required_mark entry option_row flag_row node_row rows spaced titled lists about help_text
help_vm = refl

help_start :
    help_text (ascii "vm" ∷ ascii "start" ∷ []) start
    ≡ ascii "Command: vm start\nDescription: Start one\n\nSubcommands:\n  deep                 Deep\n"
unfolding start ascii blanks padded short_then shown_as required_mark entry option_row flag_row node_row rows spaced titled lists about help_text
help_start = refl

available :
    available_text (log ++ vm)
    ≡ ascii "ArceOS Shell - Available Commands:\n\n"
    ++ ascii "  log             Change log level\n"
    ++ ascii "  vm              Machines\n"
    ++ ascii "    list          List all\n"
    ++ ascii "    start         Start one\n"
    ++ ascii "\nBuilt-in Commands:\n"
    ++ ascii "  help            Show help information\n"
    ++ ascii "  help <command>  Show help for a specific command\n"
    ++ ascii "  clear           Clear the screen\n"
    ++ ascii "  exit/quit       Exit the shell\n"
    ++ ascii "\nTip: Use 'help <command>' to see detailed usage of a command\n"
unfolding log vm start ascii blanks padded entry node_row rows available_head available_foot available_text
available = refl
