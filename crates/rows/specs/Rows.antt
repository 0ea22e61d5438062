-- The rows of the Rust's lists: options, flags and subcommands of a node, and the commands of a tree (STANDARD 6.11, 9.7 to 9.10).
use Rattle.std.specs.Prelude.{ℕ, ◌+◌, ◌-◌, ◌*◌, ◌≤◌, Bool, true, false, cond, List, [], ◌∷◌, ◌++◌, eqb, length, replicate}
use Rattle.image.specs.Frames.{Perhaps, absent, present, Frame, node, option, flag}
use Rattle.buffer.specs.Ascii.{ascii}
use Rattle.buffer.specs.Inks.{Inked}
use Rattle.tree.specs.Images.{frames_of}
use Rattle.rows.specs.declared.row.Listing.{Listing}
use Rattle.rows.specs.declared.row.Listing.TheVariants.{Options, Flags, Subcommands, Commands}

-- `{:<n}`: spaces after a text up to n characters, each of which is a byte in a tree
unfoldable pub blanks : ℕ → ℕ → List ℕ
blanks n used = replicate (n - used) 0x20

-- (9.8)
unfoldable pub padded : ℕ → List ℕ → List ℕ
padded n t = t ++ blanks n (length t)

-- `-s` and what stands after it; nothing if there is no short (9.9)
unfoldable pub short_then : ℕ → List ℕ → List ℕ
short_then short tail = cond (eqb short 0) [] (ascii "-" ++ short ∷ tail)

-- `-s`, `--long`, or both with a comma between them; the name if there is neither (9.9)
unfoldable pub shown_as : ℕ → List ℕ → Perhaps → List ℕ
shown_as short name absent = cond (eqb short 0) name (short_then short [])
shown_as short name (present long) = short_then short (ascii ", ") ++ ascii "--" ++ long

-- (9.8)
unfoldable pub required_mark : ℕ → List ℕ
required_mark required = cond (eqb required 1) (ascii " (required)") []

-- a label in its column, and the description (9.8)
unfoldable pub entry : List ℕ → ℕ → List ℕ → List ℕ → List ℕ
entry indent width label description = indent ++ padded width label ++ ascii " " ++ description

-- println!("  {:<20} {}{}", opt_str, option.description, required_str) (9.8)
unfoldable pub option_row : ℕ → ℕ → List ℕ → Perhaps → List ℕ → List ℕ
option_row required short name long description =
    entry (ascii "  ") 20 (shown_as short name long) description ++ required_mark required ++ ascii "\n"

-- println!("  {:<20} {}", flag_str, flag.description) (9.8)
unfoldable pub flag_row : ℕ → List ℕ → Perhaps → List ℕ → List ℕ
flag_row short name long description = entry (ascii "  ") 20 (shown_as short name long) description ++ ascii "\n"

-- println!("  {:<20} {}", name, node.description), and with other indents and widths in the list of commands (9.8)
unfoldable pub node_row : List ℕ → ℕ → List ℕ → List ℕ → List ℕ
node_row indent width name description = entry indent width name description ++ ascii "\n"

-- what a frame gives in each list; in the list of commands a node of depth 0 gives `  {:<15} {}`, one of depth 1 `    {:<13} {}` (9.8, 9.10)
abbrev pub row_of : Listing → Frame → List ℕ
row_of Options (node d h name description usage) = []
row_of Options (option r c name long description) = option_row r c name long description
row_of Options (flag c name long description) = []
row_of Flags (node d h name description usage) = []
row_of Flags (option r c name long description) = []
row_of Flags (flag c name long description) = flag_row c name long description
row_of (Subcommands depth) (node d h name description usage) = cond (eqb d depth) (node_row (ascii "  ") 20 name description) []
row_of (Subcommands depth) (option r c name long description) = []
row_of (Subcommands depth) (flag c name long description) = []
row_of Commands (node d h name description usage) =
    cond (eqb d 0) (node_row (ascii "  ") 15 name description) (cond (eqb d 1) (node_row (ascii "    ") 13 name description) [])
row_of Commands (option r c name long description) = []
row_of Commands (flag c name long description) = []

-- a node's options and flags end at the next node of any depth (6.11)
abbrev pub ends_list : Listing → Frame → Bool
ends_list Options (node d h name description usage) = true
ends_list Options (option r c name long description) = false
ends_list Options (flag c name long description) = false
ends_list Flags (node d h name description usage) = true
ends_list Flags (option r c name long description) = false
ends_list Flags (flag c name long description) = false
ends_list (Subcommands depth) f = false
ends_list Commands f = false

-- (9.7)
unfoldable pub rows : Listing → List Frame → List ℕ
rows listing [] = []
rows listing (f ∷ l) = cond (ends_list listing f) [] (row_of listing f ++ rows listing l)

-- a list stands after its title; an empty one has none (9.7)
unfoldable pub titled : List ℕ → List ℕ → List ℕ
titled title list = cond (eqb (length list) 0) [] (title ++ list)

-- what a writer of such a list leaves: its text, which ends at most 64 times as far on as the frames are long
abbrev pub TitledRows : List ℕ → List ℕ → Listing → List ℕ → ℕ → ℕ → List ℕ → Type 0
TitledRows title frames listing out at r left =
    Inked (titled title (rows listing (frames_of frames))) out at r left × (r ≤ at + length title + 64 * length frames)
