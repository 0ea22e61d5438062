-- The Rust's builders, and `build_base_cmd` (docs/src/src/shell/command/base.rs), statement by statement in its order, with and without the feature fs.
-- (STANDARD 6.22, 9.1, 9.6, 9.7, 12.2)
use Rattle.std.specs.Prelude.{ℕ, zero, suc, Bool, cond, List, [], ◌∷◌, ◌++◌}
use Prim.Native.Char.{Char, code}
use Prim.Native.String.{String}
use Rattle.std.proofs.Math.Option.{none, some}
use Rattle.buffer.specs.Compare.{same_bytes}
use Rattle.buffer.specs.Ascii.{ascii}
use Rattle.rust.specs.Tree.{FlagDef, CommandNode, command_node, Commands, empty, insert_node}

-- x.method(..)
infixl 20 ◌▷◌
abbrev pub ◌▷◌ : {A B : Type 0} → A → (A → B) → B
◌▷◌ x method = method x

-- CommandNode::new, with_handler, with_usage, with_flag
abbrev pub new_node : String → CommandNode
new_node description = command_node none empty (ascii description) none [] []

abbrev pub with_handler : ℕ → CommandNode → CommandNode
with_handler h (command_node handler subcommands description usage options flags) = command_node (some h) subcommands description usage options flags

abbrev pub with_usage : String → CommandNode → CommandNode
with_usage u (command_node handler subcommands description usage options flags) = command_node handler subcommands description (some (ascii u)) options flags

abbrev pub with_flag : FlagDef → CommandNode → CommandNode
with_flag f (command_node handler subcommands description usage options flags) = command_node handler subcommands description usage options (flags ++ (f ∷ []))

-- FlagDef::new, with_short, with_long
abbrev pub new_flag : String → String → FlagDef
new_flag name description = record { name = ascii name; short = none; long = none; description = ascii description }

abbrev pub with_short : Char → FlagDef → FlagDef
with_short c f = record { name = f.name; short = some (code c); long = f.long; description = f.description }

abbrev pub with_long : String → FlagDef → FlagDef
with_long l f = record { name = f.name; short = f.short; long = some (ascii l); description = f.description }

-- tree.insert(name, node), and the same under #[cfg(feature = "fs")]
abbrev pub Statement : Type 0
Statement = Commands → Commands

abbrev pub inserts : String → CommandNode → Statement
inserts name command tree = insert_node (ascii name) command tree

abbrev pub with_fs : Bool → Statement → Statement
with_fs fs statement tree = cond fs (statement tree) tree

unfoldable pub carry_out : List Statement → Commands → Commands
carry_out [] tree = tree
carry_out (s ∷ l) tree = carry_out l (s tree)

-- a function pointer is a number: the place from 1 of its command's name (STANDARD 6, the trees supplied)
unfoldable pub place_in : List String → List ℕ → ℕ
place_in [] name = zero
place_in (n ∷ names) name = cond (same_bytes (ascii n) name) 1 (suc (place_in names name))

unfoldable pub names_by : Bool → List String
names_by fs = cond fs ("cat" ∷ "cd" ∷ "cp" ∷ "echo" ∷ "exit" ∷ "log" ∷ "ls" ∷ "mkdir" ∷ "mv" ∷ "pwd" ∷ "rm" ∷ "touch" ∷ "uname" ∷ [])
    ("exit" ∷ "log" ∷ "uname" ∷ [])

abbrev pub handler : Bool → String → ℕ
handler fs name = place_in (names_by fs) (ascii name)

-- pub fn build_base_cmd(tree: &mut BTreeMap<String, CommandNode>)
unfoldable pub build_base_cmd : Bool → List Statement
build_base_cmd fs =
    with_fs fs (inserts "ls" (new_node "List directory contents" ▷ with_handler (handler fs "ls") ▷ with_usage "ls [OPTIONS] [DIRECTORY...]"
    ▷ with_flag (new_flag "long" "Use long listing format" ▷ with_short "l" ▷ with_long "long")
    ▷ with_flag (new_flag "all" "Show hidden files" ▷ with_short "a" ▷ with_long "all")))
    ∷ with_fs fs (inserts "cat" (new_node "Display file contents" ▷ with_handler (handler fs "cat") ▷ with_usage "cat <FILE1> [FILE2...]"))
    ∷ with_fs fs (inserts "echo" (new_node "Display text" ▷ with_handler (handler fs "echo") ▷ with_usage "echo [OPTIONS] [TEXT...]"
    ▷ with_flag (new_flag "no-newline" "Do not output trailing newline" ▷ with_short "n" ▷ with_long "no-newline")))
    ∷ with_fs fs (inserts "mkdir" (new_node "Create directories" ▷ with_handler (handler fs "mkdir") ▷ with_usage "mkdir [OPTIONS] <DIRECTORY1> [DIRECTORY2...]"
    ▷ with_flag (new_flag "parents" "Create parent directories as needed" ▷ with_short "p" ▷ with_long "parents")))
    ∷ with_fs fs (inserts "rm" (new_node "Remove files and directories" ▷ with_handler (handler fs "rm") ▷ with_usage "rm [OPTIONS] <FILE1> [FILE2...]"
    ▷ with_flag (new_flag "dir" "Remove empty directories" ▷ with_short "d" ▷ with_long "dir")
    ▷ with_flag (new_flag "recursive" "Remove directories recursively" ▷ with_short "r" ▷ with_long "recursive")
    ▷ with_flag (new_flag "force" "Force removal, ignore nonexistent files" ▷ with_short "f" ▷ with_long "force")))
    ∷ with_fs fs (inserts "cd" (new_node "Change directory" ▷ with_handler (handler fs "cd") ▷ with_usage "cd [DIRECTORY]"))
    ∷ with_fs fs (inserts "pwd" (new_node "Print working directory" ▷ with_handler (handler fs "pwd") ▷ with_usage "pwd [OPTIONS]"
    ▷ with_flag (new_flag "logical" "Use logical path" ▷ with_short "L" ▷ with_long "logical")))
    ∷ inserts "uname" (new_node "System information" ▷ with_handler (handler fs "uname") ▷ with_usage "uname [OPTIONS]"
    ▷ with_flag (new_flag "all" "Show all information" ▷ with_short "a" ▷ with_long "all")
    ▷ with_flag (new_flag "kernel-name" "Show kernel name" ▷ with_short "s" ▷ with_long "kernel-name")
    ▷ with_flag (new_flag "machine" "Show machine architecture" ▷ with_short "m" ▷ with_long "machine"))
    ∷ inserts "exit" (new_node "Exit the shell" ▷ with_handler (handler fs "exit") ▷ with_usage "exit [EXIT_CODE]")
    ∷ inserts "log" (new_node "Change log level" ▷ with_handler (handler fs "log") ▷ with_usage "log [LEVEL]")
    ∷ with_fs fs (inserts "touch" (new_node "Create empty files" ▷ with_handler (handler fs "touch") ▷ with_usage "touch <FILE1> [FILE2...]"))
    ∷ with_fs fs (inserts "cp" (new_node "Copy files" ▷ with_handler (handler fs "cp") ▷ with_usage "cp [OPTIONS] <SOURCE> <DEST>"
    ▷ with_flag (new_flag "recursive" "Copy directories recursively" ▷ with_short "r" ▷ with_long "recursive")))
    ∷ with_fs fs (inserts "mv" (new_node "Move/rename files" ▷ with_handler (handler fs "mv") ▷ with_usage "mv <SOURCE> <DEST> | mv <SOURCE1> [SOURCE2...] <DIRECTORY>"))
    ∷ []

-- build_command_tree: the base commands; the vm commands' text was not supplied
unfoldable pub build_command_tree : Bool → Commands
build_command_tree fs = carry_out (build_base_cmd fs) empty
