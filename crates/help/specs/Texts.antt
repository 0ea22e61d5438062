-- The two texts of the Rust, each line beside the `println!` that it stands for (STANDARD 9.7, 9.10).
use Rattle.std.specs.Prelude.{ℕ, ◌+◌, List, [], ◌∷◌, ◌++◌}
use Rattle.image.specs.Frames.{Perhaps, absent, present, Frame, node, option, flag}
use Rattle.buffer.specs.Ascii.{ascii}
use Rattle.rows.specs.Rows.{rows, titled}
use Rattle.rows.specs.declared.row.Listing.TheVariants.{Options, Flags, Subcommands, Commands}

-- each word after a space (9.7)
unfoldable pub spaced : List (List ℕ) → List ℕ
spaced [] = []
spaced (w ∷ words) = ascii " " ++ w ++ spaced words

-- println!("Usage: {}", usage) (9.7)
abbrev pub usage_line : Perhaps → List ℕ
usage_line absent = []
usage_line (present usage) = ascii "Usage: " ++ usage ++ ascii "\n"

-- a node's options, flags and children, whose titles stand after an empty line (9.7)
unfoldable pub lists : ℕ → List Frame → List ℕ
lists depth below =
    titled (ascii "\nOptions:\n") (rows Options below)
    ++ titled (ascii "\nFlags:\n") (rows Flags below)
    ++ titled (ascii "\nSubcommands:\n") (rows (Subcommands (depth + 1)) below)

-- println!("Command: {}", command_path.join(" ")), println!("Description: {}", current_node.description), and the usage (9.7)
unfoldable pub about : List (List ℕ) → List ℕ → Perhaps → List ℕ
about words description usage =
    ascii "Command:" ++ spaced words ++ ascii "\nDescription: " ++ description ++ ascii "\n" ++ usage_line usage

-- `show_help`: the help of the node that a subtree begins with, under the words that lead to it (9.7)
unfoldable pub help_text : List (List ℕ) → List Frame → List ℕ
help_text words [] = []
help_text words (node depth handler name description usage ∷ below) = about words description usage ++ lists depth below
help_text words (option r c name long description ∷ below) = []
help_text words (flag c name long description ∷ below) = []

-- `show_available_commands`, over the frames of a whole image (9.10)
unfoldable pub available_head : List ℕ
available_head = ascii "ArceOS Shell - Available Commands:\n\n"

-- (9.10)
unfoldable pub available_foot : List ℕ
available_foot =
    ascii "\nBuilt-in Commands:\n"
    ++ ascii "  help            Show help information\n"
    ++ ascii "  help <command>  Show help for a specific command\n"
    ++ ascii "  clear           Clear the screen\n"
    ++ ascii "  exit/quit       Exit the shell\n"
    ++ ascii "\nTip: Use 'help <command>' to see detailed usage of a command\n"

-- (9.10)
unfoldable pub available_text : List Frame → List ℕ
available_text frames = available_head ++ rows Commands frames ++ available_foot
