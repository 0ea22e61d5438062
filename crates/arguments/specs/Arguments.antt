-- The argument words, left to right (STANDARD 7; `parse_args` of 000): a fold whose state is the answer so far.
use Rattle.std.specs.Prelude.{ℕ, cond, List, [], ◌∷◌, ◌++◌}
use Rattle.text.specs.Unicode.{encode}
use Rattle.text.specs.Decoding.{codes_in}
use Rattle.image.specs.Frames.{Frame}
use Rattle.lookup.specs.Definitions.{has_key, has_short}
use Rattle.table.specs.Map.{Map}
use Rattle.arguments.specs.Meanings.{meaning, on_means, is_option}
use Rattle.arguments.specs.Forms.{Form, valued, long, shorts, positional, form_of, dash}

-- what has been found: options with their values, flags with the empty value, and positional words
pub record Found : Type 0 where
  pub options : Map
  pub flags : Map
  pub positionals : List (List ℕ)

abbrev pub none_found : Found
none_found = record { options = []; flags = []; positionals = [] }

-- how a key and a value are put into a map: BTreeMap::insert, or the same in a table with its limit
abbrev pub Insert : Type 0
Insert = List ℕ → List ℕ → Map → Map

-- a long form is stored under the key as typed, a short one under the name; a later value replaces an earlier one (7.11)
unfoldable pub with_option : Insert → Found → List ℕ → List ℕ → Found
with_option insert f key value = record { options = insert key value f.options; flags = f.flags; positionals = f.positionals }

-- (7.11)
unfoldable pub with_flag : Insert → Found → List ℕ → Found
with_flag insert f key = record { options = f.options; flags = insert key [] f.flags; positionals = f.positionals }

-- (7.9)
unfoldable pub with_positional : Found → List ℕ → Found
with_positional f w = record { options = f.options; flags = f.flags; positionals = f.positionals ++ (w ∷ []) }

-- where a line stands: going on, waiting for the value of a key, or at a fault, with the text that it tells (7.5, 7.7)
pub data Stand : Type 0 where
  go : Found → Stand
  wait : Found → (key told : List ℕ) → Stand
  unknown_option : (told : List ℕ) → Stand
  missing_value : (told : List ℕ) → Stand

-- one character of a word of shorts. A short option must be the last: a character while it waits is the fault (7.8, 7.11).
abbrev pub short_step : Insert → List Frame → Stand → ℕ → Stand
short_step insert defs (go f) c =
    on_means (meaning (has_short c) defs)
    (λ name. go (with_flag insert f name))
    (λ name. wait f name (dash ∷ encode c))
    (unknown_option (dash ∷ encode c))
short_step insert defs (wait f key told) c = missing_value told
short_step insert defs (unknown_option told) c = unknown_option told
short_step insert defs (missing_value told) c = missing_value told

-- (7.8)
unfoldable pub short_steps : Insert → List Frame → Stand → List ℕ → Stand
short_steps insert defs a [] = a
short_steps insert defs a (c ∷ codes) = short_steps insert defs (short_step insert defs a c) codes

-- one word that is no value, by its form. `--k=v` asks for an option; `--k` for a flag first (7.6, 7.7, 7.11, 12.8).
abbrev pub form_step : Insert → List Frame → Found → List ℕ → Form → Stand
form_step insert defs f w (valued key value) =
    cond (is_option key defs) (go (with_option insert f key value)) (unknown_option (dash ∷ dash ∷ key))
form_step insert defs f w (long key) =
    on_means (meaning (has_key key) defs)
    (λ name. go (with_flag insert f key))
    (λ name. wait f key (dash ∷ dash ∷ key))
    (unknown_option (dash ∷ dash ∷ key))
form_step insert defs f w (shorts letters) = short_steps insert defs (go f) (codes_in letters)
form_step insert defs f w positional = go (with_positional f w)

-- one word: a value where one is waited for, whatever it begins with (7.5, 7.7)
abbrev pub word_step : Insert → List Frame → Stand → List ℕ → Stand
word_step insert defs (go f) w = form_step insert defs f w (form_of w)
word_step insert defs (wait f key told) w = go (with_option insert f key w)
word_step insert defs (unknown_option told) w = unknown_option told
word_step insert defs (missing_value told) w = missing_value told

-- (7.5)
unfoldable pub args : Insert → List Frame → Stand → List (List ℕ) → Stand
args insert defs a [] = a
args insert defs a (w ∷ words) = args insert defs (word_step insert defs a w) words
