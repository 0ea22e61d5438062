-- The Rust's `parse_args` is our fold: its loop with a look at the next token leaves what the fold does, whose waiting for a value is a state.
use Rattle.std.proofs.Common.{◌≡◌, ℕ, suc, ◌+◌, Bool, true, false, cond, eqb, ltb, List, [], ◌∷◌, length, take, drop, sym, refl, ap, ◌∙◌, arith, drop-drop, ltb-false, ltb-true, le-ltb, lt-ltb}
use mathlib.Core.Option.{Option, none, some}
use Rattle.buffer.specs.Compare.{same_bytes}
use Rattle.buffer.proofs.Choices.{then_is, else_is}
use Rattle.text.specs.Unicode.{encode}
use Rattle.text.specs.Decoding.{codes_in}
use Rattle.image.specs.Frames.{Frame}
use Rattle.lookup.specs.Definitions.{has_key, has_short}
use Rattle.buffer.specs.Ascii.{ascii}
use Rattle.table.specs.Map.{Map, put}
use Rattle.arguments.specs.Meanings.{on_means, is_some, is_option as is_option_key}
use Rattle.arguments.specs.Forms.{dash, valued, before_equals, long_form, form_of, positional, shorts}
use Rattle.arguments.specs.Forms.{long as long_key}
use Rattle.arguments.specs.Arguments.{Found, Stand, go, wait, unknown_option, missing_value, with_option as option_put, with_flag as flag_put, with_positional as positional_put, short_steps, form_step, args}
use Rattle.rust.specs.Std.{if_some, is_empty, starts_with, strip_prefix}
use Rattle.rust.specs.Tree.{OptionDef, FlagDef, option_defs, flag_defs}
use Rattle.rust.specs.Parser.{BTreeMap, UnknownOption, MissingValue, Result, ok, err, find, is_text, is_char, is_option, is_flag, is_short_option, is_short_flag, option_name_by_short, flag_name_by_short, Args, with_option, with_flag, with_positional, Turn, next, skip, return, find_equals, option_value, long_name, short_names, short_or_positional, long, turn, on_turn, parse_args_from}
use Rattle.rust.specs.Same.{flags_for}
use Rattle.rust.proofs.Trees.{Tree, node_of}
use Rattle.rust.proofs.Maps.{insert_is, flag_is}
use Rattle.rust.proofs.Meanings.{is_there, any_found, means_by, meaning_is, option_first_lem, keys_agree, shorts_agree}

-- the Rust's maps for what was found
abbrev pub args_of : Found → Args
args_of f = record { options = f.options; flags = flags_for f.flags; positional = f.positionals }

option_put_lem : (f : Found) (key value : List ℕ) → with_option (args_of f) key value ≡ args_of (option_put put f key value)
unfolding option_put
option_put_lem f key value = ap (λ (m : Map). record { options = m; flags = flags_for f.flags; positional = f.positionals }) (insert_is key value f.options)

flag_put_lem : (f : Found) (key : List ℕ) → with_flag (args_of f) key ≡ args_of (flag_put put f key)
unfolding flag_put
flag_put_lem f key = ap (λ (m : BTreeMap Bool). record { options = f.options; flags = m; positional = f.positionals }) (flag_is key f.flags)

-- what the Rust's turn does where ours leads to a stand: with a next token a value is there, without one it is missing
abbrev turn_by : Option (List ℕ) → Stand → Turn
turn_by value (go f) = next (args_of f)
turn_by value (wait f key told) = if_some value (λ v. skip (with_option (args_of f) key v)) (return (MissingValue told))
turn_by value (unknown_option told) = return (UnknownOption told)
turn_by value (missing_value told) = return (MissingValue told)

-- a fault stays
unknown_stays : (defs : List Frame) (told : List ℕ) (codes : List ℕ) → short_steps put defs (unknown_option told) codes ≡ unknown_option told
unfolding short_steps
unknown_stays defs told [] = refl
unknown_stays defs told (c ∷ codes) = unknown_stays defs told codes

missing_stays : (defs : List Frame) (told : List ℕ) (codes : List ℕ) → short_steps put defs (missing_value told) codes ≡ missing_value told
unfolding short_steps
missing_stays defs told [] = refl
missing_stays defs told (c ∷ codes) = missing_stays defs told codes

module _ (t : Tree) (value : Option (List ℕ)) where
  -- the tests of the Rust are whether its searches find anything
  short_flag : (ch : ℕ) → is_short_flag ch (node_of t) ≡ is_there (find (λ x. is_char ch x.short) (flag_defs t.definitions))
  unfolding is_short_flag
  short_flag ch = any_found FlagDef (λ x. is_char ch x.short) (flag_defs t.definitions)

  short_option : (ch : ℕ) → is_short_option ch (node_of t) ≡ is_there (find (λ x. is_char ch x.short) (option_defs t.definitions))
  unfolding is_short_option
  short_option ch = any_found OptionDef (λ x. is_char ch x.short) (option_defs t.definitions)

  -- a waiting option that is not the last character
  short_waits : (f : Found) (name told : List ℕ) (chars : List ℕ)
      → cond (is_empty chars) (turn_by value (wait f name told)) (return (MissingValue told)) ≡ turn_by value (short_steps put t.definitions (wait f name told) chars)
  unfolding short_steps
  short_waits f name told [] = refl
  short_waits f name told (c ∷ chars) = rw (missing_stays t.definitions told chars)

  same_shorts : (f : Found) (chars : List ℕ) → short_names (node_of t) (args_of f) value chars ≡ turn_by value (short_steps put t.definitions (go f) chars)
  unfolding short_names short_steps flag_name_by_short option_name_by_short ascii
  same_shorts f [] = refl
  same_shorts f (ch ∷ chars) =
      rw (short_flag ch, short_option ch, meaning_is (has_short ch) _ _ (shorts_agree ch) t.definitions)
      (by (find (λ x. is_char ch x.short) (flag_defs t.definitions)) (find (λ x. is_char ch x.short) (option_defs t.definitions)) (λ g. same_shorts g chars))
    where
      by : (x : Option FlagDef) (y : Option OptionDef)
          → ((g : Found) → short_names (node_of t) (args_of g) value chars ≡ turn_by value (short_steps put t.definitions (go g) chars))
          → cond (is_there x) (short_names (node_of t) (with_flag (args_of f) (if_some x (λ z. z.name) [])) value chars)
          (cond (is_there y)
          (cond (is_empty chars) (if_some value (λ v. skip (with_option (args_of f) (if_some y (λ z. z.name) []) v)) (return (MissingValue (dash ∷ encode ch))))
          (return (MissingValue (dash ∷ encode ch))))
          (return (UnknownOption (dash ∷ encode ch))))
          ≡ turn_by value
          (short_steps put t.definitions (on_means (means_by x y) (λ name. go (flag_put put f name)) (λ name. wait f name (dash ∷ encode ch)) (unknown_option (dash ∷ encode ch))) chars)
      by (some x) y more = ap (λ (a : Args). short_names (node_of t) a value chars) (flag_put_lem f x.name) ∙ more (flag_put put f x.name)
      by none (some y) more = short_waits f y.name (dash ∷ encode ch) chars
      by none none more = sym (ap (turn_by value) (unknown_stays t.definitions (dash ∷ encode ch) chars))

  -- a key after `--`
  long_flag : (key : List ℕ)
      → is_flag key (node_of t) ≡ is_there (find (λ x. cond (is_text key x.long) true (same_bytes x.name key)) (flag_defs t.definitions))
  unfolding is_flag
  long_flag key = any_found FlagDef (λ x. cond (is_text key x.long) true (same_bytes x.name key)) (flag_defs t.definitions)

  long_option : (key : List ℕ)
      → is_option key (node_of t) ≡ is_there (find (λ x. cond (is_text key x.long) true (same_bytes x.name key)) (option_defs t.definitions))
  unfolding is_option
  long_option key = any_found OptionDef (λ x. cond (is_text key x.long) true (same_bytes x.name key)) (option_defs t.definitions)

  option_known : (key : List ℕ) → is_option key (node_of t) ≡ is_option_key key t.definitions
  unfolding is_option_key
  option_known key =
      long_option key
      ∙ sym (ap is_some (option_first_lem (has_key key) _ _ (keys_agree key) t.definitions) ∙ by (find (λ x. cond (is_text key x.long) true (same_bytes x.name key)) (option_defs t.definitions)))
    where
      by : (y : Option OptionDef) → is_some (if_some y (λ z. some z.name) none) ≡ is_there y
      by (some y) = refl
      by none = refl

  same_value : (f : Found) (key v token : List ℕ) → option_value (node_of t) (args_of f) key v ≡ turn_by value (form_step put t.definitions f token (valued key v))
  unfolding option_value ascii
  same_value f key v token = rw (option_known key) (by (is_option_key key t.definitions))
    where
      by : (b : Bool) → cond b (next (with_option (args_of f) key v)) (return (UnknownOption (dash ∷ dash ∷ key)))
          ≡ turn_by value (cond b (go (option_put put f key v)) (unknown_option (dash ∷ dash ∷ key)))
      by true = ap next (option_put_lem f key v)
      by false = refl

  same_long : (f : Found) (key token : List ℕ) → long_name (node_of t) (args_of f) key value ≡ turn_by value (form_step put t.definitions f token (long_key key))
  unfolding long_name ascii
  same_long f key token =
      rw (long_flag key, long_option key, meaning_is (has_key key) _ _ (keys_agree key) t.definitions)
      (by (find (λ x. cond (is_text key x.long) true (same_bytes x.name key)) (flag_defs t.definitions)) (find (λ x. cond (is_text key x.long) true (same_bytes x.name key)) (option_defs t.definitions)))
    where
      by : (x : Option FlagDef) (y : Option OptionDef)
          → cond (is_there x) (next (with_flag (args_of f) key))
          (cond (is_there y) (if_some value (λ v. skip (with_option (args_of f) key v)) (return (MissingValue (dash ∷ dash ∷ key)))) (return (UnknownOption (dash ∷ dash ∷ key))))
          ≡ turn_by value (on_means (means_by x y) (λ name. go (flag_put put f key)) (λ name. wait f key (dash ∷ dash ∷ key)) (unknown_option (dash ∷ dash ∷ key)))
      by (some x) y = ap next (flag_put_lem f key)
      by none (some y) = refl
      by none none = refl

-- name.find('=') is the number of bytes before the first `=`, if there is one
equals_at : (k : List ℕ) → find_equals k ≡ cond (ltb (before_equals k) (length k)) (some (before_equals k)) none
unfolding find_equals before_equals
equals_at [] = refl
equals_at (b ∷ k) = by (eqb b 0x3D) (ltb (before_equals k) (length k)) refl (equals_at k)
  where
    by : (t u : Bool) → ltb (before_equals k) (length k) ≡ u → find_equals k ≡ cond (ltb (before_equals k) (length k)) (some (before_equals k)) none
        → cond t (some 0) (if_some (find_equals k) (λ n. some (suc n)) none)
        ≡ cond (ltb (cond t 0 (suc (before_equals k))) (suc (length k))) (some (cond t 0 (suc (before_equals k)))) none
    by true u p more = sym (then_is _ _ _ (lt-ltb 0 (suc (length k)) (omega arith)))
    by false true p more =
        let h = ltb-true (before_equals k) (length k) p in
        ap (λ (x : Option ℕ). if_some x (λ n. some (suc n)) none) (more ∙ then_is _ _ _ p)
        ∙ sym (then_is _ _ _ (lt-ltb (suc (before_equals k)) (suc (length k)) (omega arith)))
    by false false p more =
        let h = ltb-false (before_equals k) (length k) p in
        ap (λ (x : Option ℕ). if_some x (λ n. some (suc n)) none) (more ∙ else_is _ _ _ p)
        ∙ sym (else_is _ _ _ (le-ltb (suc (before_equals k)) (suc (length k)) (omega arith)))

module _ (t : Tree) (value : Option (List ℕ)) (f : Found) where
  -- what stands after `--`
  same_after : (token k : List ℕ) → long (node_of t) (args_of f) value k ≡ turn_by value (form_step put t.definitions f token (long_form k))
  unfolding long long_form
  same_after token k = rw (equals_at k) (by (ltb (before_equals k) (length k)))
    where
      by : (b : Bool)
          → if_some (cond b (some (before_equals k)) none) (λ at. option_value (node_of t) (args_of f) (take at k) (drop 1 (drop at k))) (long_name (node_of t) (args_of f) k value)
          ≡ turn_by value (form_step put t.definitions f token (cond b (valued (take (before_equals k) k) (drop (suc (before_equals k)) k)) (long_key k)))
      by true =
          let e : before_equals k + 1 ≡ suc (before_equals k) = omega arith in
          ap (option_value (node_of t) (args_of f) (take (before_equals k) k)) (drop-drop 1 (before_equals k) k ∙ ap (λ (n : ℕ). drop n k) e)
          ∙ same_value t value f (take (before_equals k) k) (drop (suc (before_equals k)) k) token
      by false = same_long t value f k token

  same_positional : (token : List ℕ) → next (with_positional (args_of f) token) ≡ turn_by value (form_step put t.definitions f token positional)
  unfolding positional_put
  same_positional token = refl

  -- a token, by its first two bytes
  same_turn : (token : List ℕ) → turn (node_of t) (args_of f) value token ≡ turn_by value (form_step put t.definitions f token (form_of token))
  unfolding turn short_or_positional strip_prefix starts_with form_of ascii same_bytes
  same_turn [] = same_positional []
  same_turn (a ∷ []) = by (eqb a dash)
    where
      by : (p : Bool)
          → if_some (cond p none none) (long (node_of t) (args_of f) value) (cond (cond (cond p true false) false false) (short_names (node_of t) (args_of f) value (codes_in [])) (next (with_positional (args_of f) (a ∷ []))))
          ≡ turn_by value (form_step put t.definitions f (a ∷ []) positional)
      by true = same_positional (a ∷ [])
      by false = same_positional (a ∷ [])
  same_turn (a ∷ b ∷ rest) =
      rw (le-ltb (suc (suc (length rest))) 2 (omega arith), lt-ltb 1 (suc (suc (length rest))) (omega arith)) (by (eqb a dash) (eqb b dash))
    where
      by : (p q : Bool)
          → if_some (cond p (cond q (some rest) none) none) (long (node_of t) (args_of f) value)
          (cond (cond (cond p true false) true false) (short_names (node_of t) (args_of f) value (codes_in (b ∷ rest))) (next (with_positional (args_of f) (a ∷ b ∷ rest))))
          ≡ turn_by value (form_step put t.definitions f (a ∷ b ∷ rest) (cond p (cond q (long_form rest) (shorts (b ∷ rest))) positional))
      by true true = same_after (a ∷ b ∷ rest) rest
      by true false = same_shorts t value f (codes_in (b ∷ rest))
      by false q = same_positional (a ∷ b ∷ rest)

-- what the Rust answers where our fold ends
abbrev pub result_by : Stand → Result Args
result_by (go f) = ok (args_of f)
result_by (wait f key told) = err (MissingValue told)
result_by (unknown_option told) = err (UnknownOption told)
result_by (missing_value told) = err (MissingValue told)

unknown_ends : (defs : List Frame) (told : List ℕ) (words : List (List ℕ)) → args put defs (unknown_option told) words ≡ unknown_option told
unfolding args
unknown_ends defs told [] = refl
unknown_ends defs told (w ∷ words) = unknown_ends defs told words

missing_ends : (defs : List Frame) (told : List ℕ) (words : List (List ℕ)) → args put defs (missing_value told) words ≡ missing_value told
unfolding args
missing_ends defs told [] = refl
missing_ends defs told (w ∷ words) = missing_ends defs told words

module _ (t : Tree) where
  pub same_args : (f : Found) (words : List (List ℕ)) → parse_args_from (node_of t) (args_of f) words ≡ result_by (args put t.definitions (go f) words)
  unfolding parse_args_from args
  same_args f [] = refl
  same_args f (w ∷ []) = rw (same_turn t none f w) (by (form_step put t.definitions f w (form_of w)))
    where
      by : (s : Stand) → on_turn (turn_by none s) ok ok ≡ result_by s
      by (go g) = refl
      by (wait g key told) = refl
      by (unknown_option told) = refl
      by (missing_value told) = refl
  same_args f (w ∷ v ∷ words) =
      rw (same_turn t (some v) f w) (by (form_step put t.definitions f w (form_of w)) (λ g. same_args g (v ∷ words)) (λ g. same_args g words))
    where
      by : (s : Stand)
          → ((g : Found) → parse_args_from (node_of t) (args_of g) (v ∷ words) ≡ result_by (args put t.definitions (go g) (v ∷ words)))
          → ((g : Found) → parse_args_from (node_of t) (args_of g) words ≡ result_by (args put t.definitions (go g) words))
          → on_turn (turn_by (some v) s) (λ b. parse_args_from (node_of t) b (v ∷ words)) (λ b. parse_args_from (node_of t) b words) ≡ result_by (args put t.definitions s (v ∷ words))
      by (go g) more past = more g
      by (wait g key told) more past = ap (λ (a : Args). parse_args_from (node_of t) a words) (option_put_lem g key v) ∙ past (option_put put g key v)
      by (unknown_option told) more past = sym (ap result_by (unknown_ends t.definitions told (v ∷ words)))
      by (missing_value told) more past = sym (ap result_by (missing_ends t.definitions told (v ∷ words)))
