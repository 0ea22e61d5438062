-- The Rust's `CommandParser` on values (STANDARD 6.22, 9.1, 9.6, 9.7, 12.2).
use Rattle.std.specs.Prelude.{ℕ, suc, Bool, true, false, cond, not, List, [], ◌∷◌, ◌++◌, length, take, drop, ◌==◌, nat_lt}
use Rattle.std.proofs.Math.Option.{Option, none, some}
use Rattle.buffer.specs.Compare.{same_bytes}
use Rattle.buffer.specs.Ascii.{ascii}
use Rattle.rust.specs.Std.{by_cmp, chars_of, if_some, is_empty, is_whitespace, starts_with, strip_prefix, utf8}
use Rattle.rust.specs.Tree.{OptionDef, CommandNode, Commands, subcommands_of, options_of, flags_of, get}

-- BTreeMap<String, A>, and its insert and contains_key
abbrev pub BTreeMap : Type 0 → Type 0
BTreeMap A = List (List ℕ × A)

unfoldable pub insert : {A : Type 0} → List ℕ → A → BTreeMap A → BTreeMap A
insert k v [] = (k, v) ∷ []
insert k v (e ∷ m) = by_cmp k e.0 ((k, v) ∷ e ∷ m) ((k, v) ∷ m) (e ∷ insert k v m)

unfoldable pub contains_key : {A : Type 0} → List ℕ → BTreeMap A → Bool
contains_key k [] = false
contains_key k (e ∷ m) = cond (same_bytes k e.0) true (contains_key k m)

-- pub struct ParsedCommand { command_path, options, flags, positional_args }
pub record ParsedCommand : Type 0 where
  pub path : List (List ℕ)
  pub options : BTreeMap (List ℕ)
  pub flags : BTreeMap Bool
  pub positional : List (List ℕ)

-- pub enum ParseError
pub data ParseError : Type 0 where
  UnknownCommand : List ℕ → ParseError
  UnknownOption : List ℕ → ParseError
  MissingValue : List ℕ → ParseError
  MissingRequiredOption : List ℕ → ParseError
  NoHandler : List ℕ → ParseError

-- Result<A, ParseError>, and its `?`
pub data Result (A : Type 0) : Type 0 where
  ok : A → Result A
  err : ParseError → Result A

abbrev pub and_then : {A B : Type 0} → Result A → (A → Result B) → Result B
and_then (ok a) f = f a
and_then (err e) f = err e

-- fn tokenize(input: &str) -> Vec<String>, after the characters before: tokens, current_token, in_quotes, escape_next
unfoldable pub closed : List (List ℕ) → List ℕ → List (List ℕ)
closed tokens [] = tokens
closed tokens (b ∷ current) = tokens ++ ((b ∷ current) ∷ [])

unfoldable pub tokenize_from : List (List ℕ) → List ℕ → Bool → Bool → List ℕ → List (List ℕ)
tokenize_from tokens current quotes escape [] = closed tokens current
tokenize_from tokens current quotes escape (ch ∷ chars) =
    cond escape (tokenize_from tokens (current ++ utf8 ch) quotes false chars)
    (cond (ch == 0x5C) (tokenize_from tokens current quotes true chars)
    (cond (ch == 0x22) (tokenize_from tokens current (not quotes) escape chars)
    (cond (cond (is_whitespace ch) (not quotes) false) (tokenize_from (closed tokens current) [] quotes escape chars)
    (tokenize_from tokens (current ++ utf8 ch) quotes escape chars))))

unfoldable pub tokenize : List ℕ → List (List ℕ)
tokenize input = tokenize_from [] [] false false (chars_of input)

-- fn find_command(tokens) -> Result<(Vec<String>, &CommandNode, &[String]), ParseError>
pub record Command : Type 0 where
  pub path : List (List ℕ)
  pub command : CommandNode
  pub rest : List (List ℕ)

-- while token_index < tokens.len() { if let Some(subcommand) = current_node.subcommands.get(&tokens[token_index]) { .. } else { break; } }
unfoldable pub deepest : CommandNode → List (List ℕ) → List (List ℕ) → Command
deepest command path [] = record { path = path; command = command; rest = [] }
deepest command path (token ∷ tokens) =
    if_some (get token (subcommands_of command)) (λ subcommand. deepest subcommand (path ++ (token ∷ [])) tokens)
    (record { path = path; command = command; rest = token ∷ tokens })

-- COMMAND_TREE.get(&tokens[0]).ok_or_else(|| ParseError::UnknownCommand(tokens[0].clone()))?
unfoldable pub find_command : Commands → List ℕ → List (List ℕ) → Result Command
find_command tree token tokens = if_some (get token tree) (λ command. ok (deepest command (token ∷ []) tokens)) (err (UnknownCommand token))

-- .iter().any(..) and .iter().find(..)
unfoldable pub any : {A : Type 0} → (A → Bool) → List A → Bool
any test [] = false
any test (x ∷ l) = cond (test x) true (any test l)

unfoldable pub find : {A : Type 0} → (A → Bool) → List A → Option A
find test [] = none
find test (x ∷ l) = cond (test x) (some x) (find test l)

-- .. == Some(name), .. == Some(ch)
abbrev pub is_text : List ℕ → Option (List ℕ) → Bool
is_text name (some t) = same_bytes t name
is_text name none = false

abbrev pub is_char : ℕ → Option ℕ → Bool
is_char ch (some c) = c == ch
is_char ch none = false

-- is_option, is_flag: (.long == Some(name)) || .name == name
unfoldable pub is_option : List ℕ → CommandNode → Bool
is_option name command = any (λ opt. cond (is_text name opt.long) true (same_bytes opt.name name)) (options_of command)

unfoldable pub is_flag : List ℕ → CommandNode → Bool
is_flag name command = any (λ flag. cond (is_text name flag.long) true (same_bytes flag.name name)) (flags_of command)

-- is_short_option, is_short_flag: .short == Some(ch)
unfoldable pub is_short_option : ℕ → CommandNode → Bool
is_short_option ch command = any (λ opt. is_char ch opt.short) (options_of command)

unfoldable pub is_short_flag : ℕ → CommandNode → Bool
is_short_flag ch command = any (λ flag. is_char ch flag.short) (flags_of command)

-- get_option_name_by_short(ch, node).unwrap(), get_flag_name_by_short(ch, node).unwrap(); both are asked only where there is one
unfoldable pub option_name_by_short : ℕ → CommandNode → List ℕ
option_name_by_short ch command = if_some (find (λ opt. is_char ch opt.short) (options_of command)) (λ opt. opt.name) []

unfoldable pub flag_name_by_short : ℕ → CommandNode → List ℕ
flag_name_by_short ch command = if_some (find (λ flag. is_char ch flag.short) (flags_of command)) (λ flag. flag.name) []

-- let mut options, flags, positional_args
pub record Args : Type 0 where
  pub options : BTreeMap (List ℕ)
  pub flags : BTreeMap Bool
  pub positional : List (List ℕ)

-- options.insert(key, value), flags.insert(key, true), positional_args.push(token)
abbrev pub with_option : Args → List ℕ → List ℕ → Args
with_option a key value = record { options = insert key value a.options; flags = a.flags; positional = a.positional }

abbrev pub with_flag : Args → List ℕ → Args
with_flag a key = record { options = a.options; flags = insert key true a.flags; positional = a.positional }

abbrev pub with_positional : Args → List ℕ → Args
with_positional a token = record { options = a.options; flags = a.flags; positional = a.positional ++ (token ∷ []) }

-- a turn of the loop: on with the next token, on past it (`i += 1; // Skip value`), or `return Err(..)`
pub data Turn : Type 0 where
  next : Args → Turn
  skip : Args → Turn
  return : ParseError → Turn

-- name.find('=')
unfoldable pub find_equals : List ℕ → Option ℕ
find_equals [] = none
find_equals (b ∷ t) = cond (b == 0x3D) (some 0) (if_some (find_equals t) (λ n. some (suc n)) none)

-- --option=value format
unfoldable pub option_value : CommandNode → Args → List ℕ → List ℕ → Turn
option_value command a name value =
    cond (is_option name command) (next (with_option a name value)) (return (UnknownOption (ascii "--" ++ name)))

-- a flag; --option value format, where `value` is tokens[i + 1] if there is one
unfoldable pub long_name : CommandNode → Args → List ℕ → Option (List ℕ) → Turn
long_name command a name value =
    cond (is_flag name command) (next (with_flag a name))
    (cond (is_option name command) (if_some value (λ v. skip (with_option a name v)) (return (MissingValue (ascii "--" ++ name))))
    (return (UnknownOption (ascii "--" ++ name))))

-- for (j, &ch) in chars.iter().enumerate(): j == chars.len() - 1 exactly if no character is left
unfoldable pub short_names : CommandNode → Args → Option (List ℕ) → List ℕ → Turn
short_names command a value [] = next a
short_names command a value (ch ∷ chars) =
    cond (is_short_flag ch command) (short_names command (with_flag a (flag_name_by_short ch command)) value chars)
    (cond (is_short_option ch command)
    (cond (is_empty chars) (if_some value (λ v. skip (with_option a (option_name_by_short ch command) v)) (return (MissingValue (ascii "-" ++ utf8 ch))))
    (return (MissingValue (ascii "-" ++ utf8 ch))))
    (return (UnknownOption (ascii "-" ++ utf8 ch))))

-- else if token.starts_with('-') && token.len() > 1 { .. token[1..].chars() .. } else { positional_args.push(token.clone()); }
unfoldable pub short_or_positional : CommandNode → Args → Option (List ℕ) → List ℕ → Turn
short_or_positional command a value token =
    cond (cond (starts_with (ascii "-") token) (nat_lt 1 (length token)) false) (short_names command a value (chars_of (drop 1 token)))
    (next (with_positional a token))

-- if let Some(name) = token.strip_prefix("--") { if let Some(eq_pos) = name.find('=') { .. name.split_at(eq_pos), &value[1..] .. } .. }
unfoldable pub long : CommandNode → Args → Option (List ℕ) → List ℕ → Turn
long command a value name =
    if_some (find_equals name) (λ at. option_value command a (take at name) (drop 1 (drop at name))) (long_name command a name value)

unfoldable pub turn : CommandNode → Args → Option (List ℕ) → List ℕ → Turn
turn command a value token = if_some (strip_prefix (ascii "--") token) (long command a value) (short_or_positional command a value token)

abbrev pub on_turn : Turn → (Args → Result Args) → (Args → Result Args) → Result Args
on_turn (next a) more past = more a
on_turn (skip a) more past = past a
on_turn (return e) more past = err e

-- while i < tokens.len() { .. i += 1; }: the tokens from i on
unfoldable pub parse_args_from : CommandNode → Args → List (List ℕ) → Result Args
parse_args_from command a [] = ok a
parse_args_from command a (token ∷ []) = on_turn (turn command a none token) ok ok
parse_args_from command a (token ∷ value ∷ tokens) =
    on_turn (turn command a (some value) token) (λ b. parse_args_from command b (value ∷ tokens)) (λ b. parse_args_from command b tokens)

unfoldable pub parse_args : CommandNode → List (List ℕ) → Result Args
parse_args command tokens = parse_args_from command (record { options = []; flags = []; positional = [] }) tokens

-- for option in &node.options { if option.required && !options.contains_key(option.name) { return Err(..); } }
unfoldable pub validate_required : {A : Type 0} → List OptionDef → BTreeMap (List ℕ) → A → Result A
validate_required [] options a = ok a
validate_required (opt ∷ defs) options a =
    cond (cond opt.required (not (contains_key opt.name options)) false) (err (MissingRequiredOption opt.name)) (validate_required defs options a)

-- pub fn parse(input: &str) -> Result<ParsedCommand, ParseError>, from the tokens on
unfoldable pub parse_command : Command → Result ParsedCommand
parse_command c =
    and_then (parse_args c.command c.rest)
    (λ a. validate_required (options_of c.command) a.options
    (record { path = c.path; options = a.options; flags = a.flags; positional = a.positional }))

unfoldable pub parse_tokens : Commands → List (List ℕ) → Result ParsedCommand
parse_tokens tree [] = err (UnknownCommand (ascii "empty command"))
parse_tokens tree (token ∷ tokens) = and_then (find_command tree token tokens) parse_command

unfoldable pub parse : Commands → List ℕ → Result ParsedCommand
parse tree input = parse_tokens tree (tokenize input)
