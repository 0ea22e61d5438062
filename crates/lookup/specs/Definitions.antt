-- A node's definitions by key or by short: a flag first, then an option; of each the first definition wins (STANDARD 7.8, 7.10).
use Rattle.std.specs.Prelude.{ℕ, Bool, false, cond, List, eqb, Some, None, Option}
use Rattle.image.specs.Frames.{Frame, node, option, flag}
use Rattle.lookup.specs.Spots.{spot}
use Rattle.lookup.specs.Searches.{keyed, is_node}
use Rattle.lookup.specs.declared.definition.Defined.{Defined}
use Rattle.lookup.specs.declared.definition.Defined.TheVariants.{Flag, Option as Opt}

-- the definitions with that key, and those with that short, of which 0 is none
abbrev pub has_key : List ℕ → Frame → Bool
has_key key (node d h name description usage) = false
has_key key (option r c name long description) = keyed key name long
has_key key (flag c name long description) = keyed key name long

-- (7.8)
abbrev pub short_is : ℕ → ℕ → Bool
short_is short c = cond (eqb short 0) false (eqb c short)

-- (7.8)
abbrev pub has_short : ℕ → Frame → Bool
has_short short (node d h name description usage) = false
has_short short (option r c name long description) = short_is short c
has_short short (flag c name long description) = short_is short c

abbrev pub flag_with : (Frame → Bool) → Frame → Bool
flag_with has (node d h name description usage) = false
flag_with has (option r c name long description) = false
flag_with has (flag c name long description) = has (flag c name long description)

abbrev pub option_with : (Frame → Bool) → Frame → Bool
option_with has (node d h name description usage) = false
option_with has (option r c name long description) = has (option r c name long description)
option_with has (flag c name long description) = false

-- a flag if there is one, else an option if there is one
abbrev pub flag_or : Option ℕ → Option ℕ → Option Defined
flag_or (Some p) o = Some (Flag p)
flag_or None (Some p) = Some (Opt p)
flag_or None None = None

-- (7.10)
unfoldable pub defined : (Frame → Bool) → List ℕ → ℕ → Option Defined
defined has image at = flag_or (spot (flag_with has) is_node image at) (spot (option_with has) is_node image at)
