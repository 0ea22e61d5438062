-- The Rust's command tree as values, and the tree that an image stands for. A `String` is its bytes, a `char` its code, a `Vec` a list, a function pointer its
-- handler's number, and a `BTreeMap` its keys with their values, by rising keys (STANDARD 6.22, 9.1, 9.6, 9.7, 12.2).
use Rattle.std.specs.Prelude.{ℕ, Bool, cond, List, [], ◌∷◌, ◌==◌}
use Rattle.std.proofs.Math.Option.{Option, none, some}
use Rattle.buffer.specs.Compare.{same_bytes}
use Rattle.image.specs.Frames.{Perhaps, absent, present, Frame, node, option, flag}
use Rattle.tree.specs.Forest.{Forest, bare, grown}
use Rattle.rust.specs.Std.{by_cmp}

-- pub struct OptionDef { name: &'static str, short: Option<char>, long: Option<&'static str>, description: &'static str, required: bool }
pub record OptionDef : Type 0 where
  pub name : List ℕ
  pub short : Option ℕ
  pub long : Option (List ℕ)
  pub description : List ℕ
  pub required : Bool

-- pub struct FlagDef { name: &'static str, short: Option<char>, long: Option<&'static str>, description: &'static str }
pub record FlagDef : Type 0 where
  pub name : List ℕ
  pub short : Option ℕ
  pub long : Option (List ℕ)
  pub description : List ℕ

-- pub struct CommandNode { handler, subcommands: BTreeMap<String, CommandNode>, description, usage, options, flags }; its log level is never read.
-- A BTreeMap<String, CommandNode> is empty, or its first key with its node, and the others.
mutual
  pub data CommandNode : Type 0 where
    command_node : (handler : Option ℕ) (subcommands : Commands) (description : List ℕ) (usage : Option (List ℕ)) (options : List OptionDef) (flags : List FlagDef) → CommandNode

  pub data Commands : Type 0 where
    empty : Commands
    entry : (name : List ℕ) (command : CommandNode) (others : Commands) → Commands

abbrev pub handler_of : CommandNode → Option ℕ
handler_of (command_node handler subcommands description usage options flags) = handler

abbrev pub subcommands_of : CommandNode → Commands
subcommands_of (command_node handler subcommands description usage options flags) = subcommands

abbrev pub description_of : CommandNode → List ℕ
description_of (command_node handler subcommands description usage options flags) = description

abbrev pub usage_of : CommandNode → Option (List ℕ)
usage_of (command_node handler subcommands description usage options flags) = usage

abbrev pub options_of : CommandNode → List OptionDef
options_of (command_node handler subcommands description usage options flags) = options

abbrev pub flags_of : CommandNode → List FlagDef
flags_of (command_node handler subcommands description usage options flags) = flags

-- BTreeMap::insert: a key goes before the first that is greater, and takes the place of its equal
unfoldable pub insert_node : List ℕ → CommandNode → Commands → Commands
insert_node k v empty = entry k v empty
insert_node k v (entry name command others) =
    by_cmp k name (entry k v (entry name command others)) (entry k v others) (entry name command (insert_node k v others))

-- BTreeMap::get
unfoldable pub get : List ℕ → Commands → Option CommandNode
get k empty = none
get k (entry name command others) = cond (same_bytes name k) (some command) (get k others)

-- a number of which 0 stands for none; a text that may be missing
unfoldable pub some_of : ℕ → Option ℕ
some_of n = cond (n == 0) none (some n)

abbrev pub text_of : Perhaps → Option (List ℕ)
text_of absent = none
text_of (present t) = some t

-- with_option and with_flag for each definition of a node, in their order
unfoldable pub option_defs : List Frame → List OptionDef
option_defs [] = []
option_defs (node d h name description usage ∷ l) = option_defs l
option_defs (option r c name long description ∷ l) =
    record { name = name; short = some_of c; long = text_of long; description = description; required = (r == 1) } ∷ option_defs l
option_defs (flag c name long description ∷ l) = option_defs l

unfoldable pub flag_defs : List Frame → List FlagDef
flag_defs [] = []
flag_defs (node d h name description usage ∷ l) = flag_defs l
flag_defs (option r c name long description ∷ l) = flag_defs l
flag_defs (flag c name long description ∷ l) = record { name = name; short = some_of c; long = text_of long; description = description } ∷ flag_defs l

-- the Rust's tree for a forest: each node with its definitions and all below it, put into its map by name
unfoldable pub commands_of : Forest → Commands
commands_of bare = empty
commands_of (grown handler name description usage definitions below after) =
    insert_node name (command_node (some_of handler) (commands_of below) description (text_of usage) (option_defs definitions) (flag_defs definitions)) (commands_of after)
