-- The messages of the Rust's `run_cmd_bytes` and `handle_builtin_commands`, each beside the `println!` that it stands for (STANDARD 9.1, 9.4).
use Rattle.std.specs.Prelude.{ℕ, List, ◌∷◌, ◌++◌}
use Rattle.buffer.specs.Ascii.{ascii}
use Rattle.message.specs.declared.error.ParseError.{ParseError}
use Rattle.message.specs.declared.error.ParseError.TheVariants.{UnknownCommand, UnknownOption, MissingValue, MissingRequired, NoHandler}

-- what stands before the text that a message names, and what after it:
-- println!("Error: Unknown command '{}'", cmd), println!("Type 'help' to see available commands")
-- println!("Error: Unknown option '{}'", opt)
-- println!("Error: Option '{}' is missing a value", opt)
-- println!("Error: Missing required option '{}'", opt)
-- println!("Error: Command '{}' has no handler function", cmd) (9.4)
abbrev pub before : ParseError → List ℕ
before UnknownCommand = ascii "Error: Unknown command '"
before UnknownOption = ascii "Error: Unknown option '"
before MissingValue = ascii "Error: Option '"
before MissingRequired = ascii "Error: Missing required option '"
before NoHandler = ascii "Error: Command '"

-- (9.4)
abbrev pub after : ParseError → List ℕ
after UnknownCommand = ascii "'\nType 'help' to see available commands\n"
after UnknownOption = ascii "'\n"
after MissingValue = ascii "' is missing a value\n"
after MissingRequired = ascii "'\n"
after NoHandler = ascii "' has no handler function\n"

-- (9.4)
unfoldable pub message : ParseError → List ℕ → List ℕ
message told text = before told ++ text ++ after told

-- println!("Error: Input contains invalid UTF-8 characters") (9.4)
unfoldable pub ill_formed : List ℕ
ill_formed = ascii "Error: Input contains invalid UTF-8 characters\n"

-- println!("Goodbye!") (9.1)
unfoldable pub goodbye : List ℕ
goodbye = ascii "Goodbye!\n"

-- print!("\x1b[2J\x1b[H") (9.1)
unfoldable pub clear_screen : List ℕ
clear_screen = 0x1b ∷ ascii "[2J" ++ 0x1b ∷ ascii "[H"
