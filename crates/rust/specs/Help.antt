-- The Rust's `show_help` and `show_available_commands` on values: what they print (STANDARD 6.22, 9.1, 9.6, 9.7, 12.2).
use Rattle.std.specs.Prelude.{ℕ, Bool, true, false, cond, List, [], ◌∷◌, ◌++◌}
use Rattle.std.proofs.Math.Option.{Option, none, some}
use Rattle.buffer.specs.Ascii.{ascii}
use Rattle.rust.specs.Std.{if_some, is_empty, join, left_in, println, utf8}
use Rattle.rust.specs.Tree.{OptionDef, FlagDef, CommandNode, Commands, empty, entry, subcommands_of, description_of, usage_of, options_of, flags_of, get}
use Rattle.rust.specs.Parser.{UnknownCommand, Result, ok, err}

-- for x in ..: what each prints, one after the other
unfoldable pub for_each : {A : Type 0} → (A → List ℕ) → List A → List ℕ
for_each prints [] = []
for_each prints (x ∷ l) = prints x ++ for_each prints l

-- for (name, node) in ..
unfoldable pub for_each_node : (List ℕ → CommandNode → List ℕ) → Commands → List ℕ
for_each_node prints empty = []
for_each_node prints (entry name command others) = prints name command ++ for_each_node prints others

abbrev pub no_nodes : Commands → Bool
no_nodes empty = true
no_nodes (entry name command others) = false

-- let mut opt_str = String::new(); if let Some(short) = option.short { opt_str.push_str(&format!("-{short}")); }
abbrev pub short_str : Option ℕ → List ℕ
short_str short = if_some short (λ c. ascii "-" ++ utf8 c) []

-- if let Some(long) = option.long { if !opt_str.is_empty() { opt_str.push_str(", "); } opt_str.push_str(&format!("--{long}")); }
abbrev pub long_str : List ℕ → Option (List ℕ) → List ℕ
long_str str long = if_some long (λ l. cond (is_empty str) str (str ++ ascii ", ") ++ (ascii "--" ++ l)) str

-- if opt_str.is_empty() { opt_str = option.name.to_string(); }
unfoldable pub label_str : Option ℕ → Option (List ℕ) → List ℕ → List ℕ
label_str short long name = cond (is_empty (long_str (short_str short) long)) name (long_str (short_str short) long)

-- println!("  {:<20} {}{}", opt_str, option.description, required_str)
unfoldable pub option_line : OptionDef → List ℕ
option_line opt =
    println (ascii "  " ++ left_in 20 (label_str opt.short opt.long opt.name) ++ ascii " " ++ opt.description ++ cond opt.required (ascii " (required)") (ascii ""))

-- println!("  {:<20} {}", flag_str, flag.description)
unfoldable pub flag_line : FlagDef → List ℕ
flag_line flag = println (ascii "  " ++ left_in 20 (label_str flag.short flag.long flag.name) ++ ascii " " ++ flag.description)

-- println!("  {:<20} {}", name, node.description), and with other indents and widths in the list of commands
unfoldable pub node_line : List ℕ → ℕ → List ℕ → CommandNode → List ℕ
node_line indent n name command = println (indent ++ left_in n name ++ ascii " " ++ description_of command)

-- what show_help prints once it has found the node
unfoldable pub help_lines : List (List ℕ) → CommandNode → List ℕ
help_lines path command =
    println (ascii "Command: " ++ join path)
    ++ println (ascii "Description: " ++ description_of command)
    ++ if_some (usage_of command) (λ usage. println (ascii "Usage: " ++ usage)) []
    ++ cond (is_empty (options_of command)) [] (println (ascii "\nOptions:") ++ for_each option_line (options_of command))
    ++ cond (is_empty (flags_of command)) [] (println (ascii "\nFlags:") ++ for_each flag_line (flags_of command))
    ++ cond (no_nodes (subcommands_of command)) [] (println (ascii "\nSubcommands:") ++ for_each_node (node_line (ascii "  ") 20) (subcommands_of command))

-- for cmd in &command_path[1..] { current_node = current_node.subcommands.get(cmd).ok_or_else(|| ParseError::UnknownCommand(cmd.clone()))?; }
unfoldable pub node_under : CommandNode → List (List ℕ) → Result CommandNode
node_under command [] = ok command
node_under command (cmd ∷ path) = if_some (get cmd (subcommands_of command)) (λ subcommand. node_under subcommand path) (err (UnknownCommand cmd))

abbrev pub printed : List (List ℕ) → Result CommandNode → Result (List ℕ)
printed path (ok command) = ok (help_lines path command)
printed path (err e) = err e

-- pub fn show_help(command_path: &[String]) -> Result<(), ParseError>, with what it prints; command_path[0] of an empty path panics, which is none
unfoldable pub show_help : Commands → List (List ℕ) → Option (Result (List ℕ))
show_help tree [] = none
show_help tree (cmd ∷ path) =
    some (printed (cmd ∷ path) (if_some (get cmd tree) (λ command. node_under command path) (err (UnknownCommand cmd))))

-- pub fn show_available_commands()
unfoldable pub available_line : List ℕ → CommandNode → List ℕ
available_line name command =
    node_line (ascii "  ") 15 name command
    ++ cond (no_nodes (subcommands_of command)) [] (for_each_node (node_line (ascii "    ") 13) (subcommands_of command))

unfoldable pub show_available_commands : Commands → List ℕ
show_available_commands tree =
    println (ascii "ArceOS Shell - Available Commands:")
    ++ println (ascii "")
    ++ for_each_node available_line tree
    ++ println (ascii "")
    ++ println (ascii "Built-in Commands:")
    ++ println (ascii "  help            Show help information")
    ++ println (ascii "  help <command>  Show help for a specific command")
    ++ println (ascii "  clear           Clear the screen")
    ++ println (ascii "  exit/quit       Exit the shell")
    ++ println (ascii "")
    ++ println (ascii "Tip: Use 'help <command>' to see detailed usage of a command")
