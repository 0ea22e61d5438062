-- What a key or a short means to a node: the Rust's searches through its options and its flags find what ours find among the definitions.
use Rattle.std.proofs.Common.{◌≡◌, ℕ, Bool, true, false, cond, eqb, List, [], ◌∷◌, sym, refl, arith, ne_eqb, eqb-true}
use mathlib.Core.Option.{Option, none, some}
use borrow.Author.Tests.{eqb-false}
use Rattle.buffer.specs.Compare.{same_bytes}
use Rattle.image.specs.Frames.{Perhaps, absent, present, Frame, node, option, flag}
use Rattle.lookup.specs.Searches.{keyed}
use Rattle.lookup.specs.Definitions.{has_key, has_short, short_is, flag_with, option_with}
use Rattle.arguments.specs.Meanings.{first_name, Means, a_flag, an_option, nothing, flag_else, meaning}
use Rattle.rust.specs.Std.{if_some}
use Rattle.rust.specs.Tree.{OptionDef, FlagDef, some_of, text_of, option_defs, flag_defs}
use Rattle.rust.specs.Parser.{any, find, is_text, is_char}

abbrev pub is_there : {A : Type 0} → Option A → Bool
is_there (some a) = true
is_there none = false

pub any_found : (A : Type 0) (test : A → Bool) (l : List A) → any test l ≡ is_there (find test l)
unfolding any find
any_found A test [] = refl
any_found A test (x ∷ l) = by (test x) (any_found A test l)
  where
    by : (t : Bool) → any test l ≡ is_there (find test l) → cond t true (any test l) ≡ is_there (cond t (some x) (find test l))
    by true more = refl
    by false more = more

-- a frame's definition as the Rust has it
abbrev pub option_def : ℕ → ℕ → List ℕ → Perhaps → List ℕ → OptionDef
option_def r c name long description = record { name = name; short = some_of c; long = text_of long; description = description; required = eqb r 1 }

abbrev pub flag_def : ℕ → List ℕ → Perhaps → List ℕ → FlagDef
flag_def c name long description = record { name = name; short = some_of c; long = text_of long; description = description }

-- a test of frames and the Rust's tests of flags and options that say the same
pub record Agree (has : Frame → Bool) (flags : FlagDef → Bool) (options : OptionDef → Bool) : Type 0 where
  pub on_flag : (c : ℕ) (n : List ℕ) (l : Perhaps) (ds : List ℕ) → has (flag c n l ds) ≡ flags (flag_def c n l ds)
  pub on_option : (r c : ℕ) (n : List ℕ) (l : Perhaps) (ds : List ℕ) → has (option r c n l ds) ≡ options (option_def r c n l ds)

abbrev pub means_by : Option FlagDef → Option OptionDef → Means
means_by (some x) y = a_flag x.name
means_by none (some y) = an_option y.name
means_by none none = nothing

module _ (has : Frame → Bool) (flags : FlagDef → Bool) (options : OptionDef → Bool) (agree : Agree has flags options) where
  flag_first_lem : (defs : List Frame) → first_name (flag_with has) defs ≡ if_some (find flags (flag_defs defs)) (λ x. some x.name) none
  unfolding first_name find flag_defs
  flag_first_lem [] = refl
  flag_first_lem (node d h n ds u ∷ defs) = flag_first_lem defs
  flag_first_lem (option r c n l ds ∷ defs) = flag_first_lem defs
  flag_first_lem (flag c n l ds ∷ defs) = rw (agree.on_flag c n l ds) (by (flags (flag_def c n l ds)) (flag_first_lem defs))
    where
      by : (t : Bool) → first_name (flag_with has) defs ≡ if_some (find flags (flag_defs defs)) (λ x. some x.name) none
          → cond t (some n) (first_name (flag_with has) defs) ≡ if_some (cond t (some (flag_def c n l ds)) (find flags (flag_defs defs))) (λ x. some x.name) none
      by true more = refl
      by false more = more

  pub option_first_lem : (defs : List Frame) → first_name (option_with has) defs ≡ if_some (find options (option_defs defs)) (λ x. some x.name) none
  unfolding first_name find option_defs
  option_first_lem [] = refl
  option_first_lem (node d h n ds u ∷ defs) = option_first_lem defs
  option_first_lem (flag c n l ds ∷ defs) = option_first_lem defs
  option_first_lem (option r c n l ds ∷ defs) = rw (agree.on_option r c n l ds) (by (options (option_def r c n l ds)) (option_first_lem defs))
    where
      by : (t : Bool) → first_name (option_with has) defs ≡ if_some (find options (option_defs defs)) (λ x. some x.name) none
          → cond t (some n) (first_name (option_with has) defs) ≡ if_some (cond t (some (option_def r c n l ds)) (find options (option_defs defs))) (λ x. some x.name) none
      by true more = refl
      by false more = more

  pub meaning_is : (defs : List Frame) → meaning has defs ≡ means_by (find flags (flag_defs defs)) (find options (option_defs defs))
  unfolding meaning
  meaning_is defs = rw (flag_first_lem defs, option_first_lem defs) (by (find flags (flag_defs defs)) (find options (option_defs defs)))
    where
      by : (x : Option FlagDef) (y : Option OptionDef) → flag_else (if_some x (λ x. some x.name) none) (if_some y (λ x. some x.name) none) ≡ means_by x y
      by (some x) (some y) = refl
      by (some x) none = refl
      by none (some y) = refl
      by none none = refl

-- a key: the long, or the name
key_is : (key n : List ℕ) (l : Perhaps) → keyed key n l ≡ cond (is_text key (text_of l)) true (same_bytes n key)
unfolding keyed
key_is key n absent = by (same_bytes n key)
  where
    by : (t : Bool) → cond t true false ≡ t
    by true = refl
    by false = refl
key_is key n (present x) = by (same_bytes n key) (same_bytes x key)
  where
    by : (t u : Bool) → cond t true u ≡ cond u true t
    by true true = refl
    by true false = refl
    by false true = refl
    by false false = refl

pub keys_agree : (key : List ℕ)
    → Agree (has_key key) (λ flag. cond (is_text key flag.long) true (same_bytes flag.name key)) (λ opt. cond (is_text key opt.long) true (same_bytes opt.name key))
keys_agree key = record { on_flag = λ c n l ds. key_is key n l; on_option = λ r c n l ds. key_is key n l }

-- a short, of which 0 is none
short_is_lem : (ch c : ℕ) → short_is ch c ≡ is_char ch (some_of c)
unfolding some_of
short_is_lem ch c = by (eqb c 0) (eqb ch 0) refl refl
  where
    by : (t u : Bool) → eqb c 0 ≡ t → eqb ch 0 ≡ u → cond u false (eqb c ch) ≡ is_char ch (cond t none (some c))
    by true true p q = refl
    by true false p q = let a = eqb-true c 0 p in let b = eqb-false ch 0 q in ne_eqb c ch (λ e. omega arith)
    by false true p q = let a = eqb-false c 0 p in let b = eqb-true ch 0 q in sym (ne_eqb c ch (λ e. omega arith))
    by false false p q = refl

pub shorts_agree : (ch : ℕ) → Agree (has_short ch) (λ flag. is_char ch flag.short) (λ opt. is_char ch opt.short)
shorts_agree ch = record { on_flag = λ c n l ds. short_is_lem ch c; on_option = λ r c n l ds. short_is_lem ch c }
