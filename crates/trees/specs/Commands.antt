-- The trees of the shell's base commands, with and without its file system, taken from the original's builders to the letter (STANDARD 6.22).
use Rattle.std.specs.Prelude.{ℕ, List, [], ◌∷◌}
use Prim.Native.Char.{Char, code}
use Prim.Native.String.{String}
use Rattle.buffer.specs.Ascii.{ascii}
use Rattle.image.specs.Frames.{Frame, node, flag, present}

-- a command with its handler's number, name, description and usage
unfoldable pub command : ℕ → String → String → String → Frame
command handler name description usage = node 0 handler (ascii name) (ascii description) (present (ascii usage))

-- a flag of the command before it, with its short, name, long and description
unfoldable pub marked : Char → String → String → String → Frame
marked short name long description = flag (code short) (ascii name) (present (ascii long)) (ascii description)

-- without the feature fs: handlers numbered from 1 in name order (6.22)
unfoldable pub base_tree : List Frame
base_tree =
    command 1 "exit" "Exit the shell" "exit [EXIT_CODE]"
    ∷ command 2 "log" "Change log level" "log [LEVEL]"
    ∷ command 3 "uname" "System information" "uname [OPTIONS]"
    ∷ marked "a" "all" "all" "Show all information"
    ∷ marked "s" "kernel-name" "kernel-name" "Show kernel name"
    ∷ marked "m" "machine" "machine" "Show machine architecture"
    ∷ []

-- with the feature fs (6.22)
unfoldable pub fs_tree : List Frame
fs_tree =
    command 1 "cat" "Display file contents" "cat <FILE1> [FILE2...]"
    ∷ command 2 "cd" "Change directory" "cd [DIRECTORY]"
    ∷ command 3 "cp" "Copy files" "cp [OPTIONS] <SOURCE> <DEST>"
    ∷ marked "r" "recursive" "recursive" "Copy directories recursively"
    ∷ command 4 "echo" "Display text" "echo [OPTIONS] [TEXT...]"
    ∷ marked "n" "no-newline" "no-newline" "Do not output trailing newline"
    ∷ command 5 "exit" "Exit the shell" "exit [EXIT_CODE]"
    ∷ command 6 "log" "Change log level" "log [LEVEL]"
    ∷ command 7 "ls" "List directory contents" "ls [OPTIONS] [DIRECTORY...]"
    ∷ marked "l" "long" "long" "Use long listing format"
    ∷ marked "a" "all" "all" "Show hidden files"
    ∷ command 8 "mkdir" "Create directories" "mkdir [OPTIONS] <DIRECTORY1> [DIRECTORY2...]"
    ∷ marked "p" "parents" "parents" "Create parent directories as needed"
    ∷ command 9 "mv" "Move/rename files" "mv <SOURCE> <DEST> | mv <SOURCE1> [SOURCE2...] <DIRECTORY>"
    ∷ command 10 "pwd" "Print working directory" "pwd [OPTIONS]"
    ∷ marked "L" "logical" "logical" "Use logical path"
    ∷ command 11 "rm" "Remove files and directories" "rm [OPTIONS] <FILE1> [FILE2...]"
    ∷ marked "d" "dir" "dir" "Remove empty directories"
    ∷ marked "r" "recursive" "recursive" "Remove directories recursively"
    ∷ marked "f" "force" "force" "Force removal, ignore nonexistent files"
    ∷ command 12 "touch" "Create empty files" "touch <FILE1> [FILE2...]"
    ∷ command 13 "uname" "System information" "uname [OPTIONS]"
    ∷ marked "a" "all" "all" "Show all information"
    ∷ marked "s" "kernel-name" "kernel-name" "Show kernel name"
    ∷ marked "m" "machine" "machine" "Show machine architecture"
    ∷ []
