-- How long what a line says is at most: each of its words adds at most 39 times the length of its frame.
use Prim.Native.Nat.{ℕ, suc, ◌+◌, ◌*◌, ◌-◌, ◌≤◌}
use mathlib.Core.Path.{◌≡◌, ap}
use mathlib.Core.Bool.{Bool, true, false, cond}
use mathlib.Core.List.{List, [], ◌∷◌, ◌++◌}
use mathlib.Core.Option.{Option, none, some}
use native.Mathlib.Omega.{arith}
use lib.Dec.{ltb, eqb}
use lib.ListN.{length, take, drop, get_or, length-append, length-take, length-drop}
use Rattle.buffer.specs.Compare.{order}
use Rattle.std.specs.declared.cmp.Ordering.{Ordering}
use Rattle.std.specs.declared.cmp.Ordering.TheVariants.{Less, Equal, Greater}
use Rattle.text.specs.Unicode.{encode, encode_all}
use Rattle.text.specs.Decoding.{codes_in, well_formed_length}
use Rattle.text.proofs.Pieces.{encode_some}
use Rattle.text.proofs.Prefix.{prefix_fits}
use Rattle.frame.specs.Text.{text_of}
use Rattle.frame.specs.Framed.{frame_of}
use Rattle.frame.specs.Series.{runs}
use Rattle.frame.proofs.Texts.{length_text_of}
use Rattle.frame.proofs.Frames.{length_frame_of}
use Rattle.table.specs.Map.{Map, on_order, put}
use Rattle.report.specs.Report.{option_frame, flag_frame, report_of}
use Rattle.words.specs.Tokens.{word_frames}
use Rattle.image.specs.Frames.{Frame, node, option, flag}
use Rattle.tree.specs.Subtrees.{subtree}
use Rattle.tree.specs.Commands.{Reached, on_subtree, descend}
use Rattle.lookup.specs.Searches.{is_node}
use Rattle.lookup.specs.Definitions.{has_key, has_short, flag_with, option_with}
use Rattle.lookup.proofs.FrameCounts.{node_short, option_short, flag_short, Few, few_up, few_subtree}
use Rattle.arguments.specs.Meanings.{definitions_of, first_name, Means, a_flag, an_option, nothing, flag_else, meaning, on_means, is_option}
use Rattle.arguments.specs.Forms.{Form, valued, long, shorts, positional, before_equals, long_form, form_of, dash}
use Rattle.arguments.specs.Arguments.{Found, none_found, Stand, go, wait, unknown_option, missing_value, with_option, with_flag, with_positional, short_step, short_steps, form_step, word_step, args}
use Rattle.parse.specs.Commands.{is_missing, missing_required, Outcome, parsed, fault, on_missing, outcome_of, concluded, parse_in}
use Rattle.parse.specs.Answer.{told_in}
use Rattle.parse.proofs.Answers.{descent_keeps}

-- THE FRAMES of a map and of words: one more adds at most its own
module _ (f : List ℕ × List ℕ → List ℕ) where
  runs_put : (k v : List ℕ) (m : Map) → length (runs f (put k v m)) ≤ length (f (k, v)) + length (runs f m)
  unfolding runs put
  runs_put k v [] = let a = length-append (f (k, v)) [] in omega arith
  runs_put k v (e ∷ m) = by (order k e.0) (runs_put k v m)
    where
      by : (o : Ordering) → length (runs f (put k v m)) ≤ length (f (k, v)) + length (runs f m)
          → length (runs f (on_order o ((k, v) ∷ e ∷ m) ((k, v) ∷ m) (e ∷ put k v m))) ≤ length (f (k, v)) + length (f e ++ runs f m)
      by Less h = let a = length-append (f (k, v)) (f e ++ runs f m) in omega arith
      by Equal h = let a = length-append (f (k, v)) (runs f m) in let b = length-append (f e) (runs f m) in omega arith
      by Greater h = let a = length-append (f e) (runs f (put k v m)) in let b = length-append (f e) (runs f m) in omega arith

runs_snoc : (f : List ℕ → List ℕ) (l : List (List ℕ)) (w : List ℕ) → length (runs f (l ++ (w ∷ []))) ≡ length (runs f l) + length (f w)
unfolding runs
runs_snoc f [] w = let a = length-append (f w) [] in omega arith
runs_snoc f (v ∷ l) w = let a = length-append (f v) (runs f (l ++ (w ∷ []))) in let b = length-append (f v) (runs f l) in omega (arith, runs_snoc f l w)

option_size : (k v : List ℕ) → length (option_frame (k, v)) ≡ 5 + length k + length v
unfolding option_frame
option_size k v = let a = length-append (text_of 2 k) (text_of 2 v) in omega (arith, length_text_of 2 k, length_text_of 2 v)

flag_size : (k v : List ℕ) → length (flag_frame (k, v)) ≡ 3 + length k
unfolding flag_frame
flag_size k v = length_frame_of 0x13 k

-- how long the frames of words are, of whichever kind
pub words_more : (w : List ℕ) (words : List (List ℕ)) → length (word_frames (w ∷ words)) ≡ 3 + length w + length (word_frames words)
unfolding word_frames
words_more w words = let a = length-append (frame_of 0x14 w) (word_frames words) in omega (arith, length_frame_of 0x14 w)

words_both : (a b : List (List ℕ)) → length (word_frames (a ++ b)) ≡ length (word_frames a) + length (word_frames b)
unfolding word_frames
words_both [] b = omega arith
words_both (w ∷ a) b = omega (arith, words_more w (a ++ b), words_more w a, words_both a b)

path_size : (path : List (List ℕ)) → length (runs (frame_of 0x11) path) ≡ length (word_frames path)
unfolding runs word_frames
path_size [] = omega arith
path_size (w ∷ path) = let a = length-append (frame_of 0x11 w) (runs (frame_of 0x11) path) in omega (arith, length_frame_of 0x11 w, words_more w path, path_size path)

-- WHAT HAS BEEN FOUND, and where a line stands: the frames of the report so far, or the text of the fault
total : Found → ℕ
total f = length (runs option_frame f.options) + length (runs flag_frame f.flags) + length (runs (frame_of 0x14) f.positionals)

abbrev weight : Stand → ℕ
weight (go f) = total f
weight (wait f key told) = total f + 5 + length key + length told
weight (unknown_option told) = length told
weight (missing_value told) = length told

module _ (f : Found) where
  option_weight : (k v : List ℕ) → total (with_option put f k v) ≤ total f + 5 + length k + length v
  unfolding total with_option
  option_weight k v = omega (arith, runs_put option_frame k v f.options, option_size k v)

  flag_weight : (k : List ℕ) → total (with_flag put f k) ≤ total f + 3 + length k
  unfolding total with_flag
  flag_weight k = omega (arith, runs_put flag_frame k [] f.flags, flag_size k [])

  word_weight : (w : List ℕ) → total (with_positional f w) ≤ total f + 3 + length w
  unfolding total with_positional
  word_weight w = omega (arith, runs_snoc (frame_of 0x14) f.positionals w, length_frame_of 0x14 w)

-- the names of a node's definitions are short
abbrev NameShort : Option (List ℕ) → Type 0
NameShort none = Unit
NameShort (some x) = length x ≤ 32

name_or : (t : Bool) (x : List ℕ) (other : Option (List ℕ)) → length x ≤ 32 → NameShort other → NameShort (cond t (some x) other)
name_or true x other h k = h
name_or false x other h k = k

first_short : (test : Frame → Bool) (defs : List Frame) (n o g : ℕ) → Few n o g defs → NameShort (first_name test defs)
unfolding first_name
first_short test [] n o g k = tt
first_short test (node d h name ds u ∷ l) n o g k = name_or (test (node d h name ds u)) name _ (node_short d h name ds u k.0).0 (first_short test l (n - 1) 32 32 k.2)
first_short test (option r c name x ds ∷ l) n o g k = name_or (test (option r c name x ds)) name _ (option_short r c name x ds k.0).0 (first_short test l n (o - 1) g k.2)
first_short test (flag c name x ds ∷ l) n o g k = name_or (test (flag c name x ds)) name _ (flag_short c name x ds k.0).0 (first_short test l n o (g - 1) k.2)

missing_short : (options : Map) (defs : List Frame) (n o g : ℕ) → Few n o g defs → NameShort (missing_required defs options)
unfolding missing_required
missing_short options [] n o g k = tt
missing_short options (node d h name ds u ∷ l) n o g k = name_or (is_missing options (node d h name ds u)) name _ (node_short d h name ds u k.0).0 (missing_short options l (n - 1) 32 32 k.2)
missing_short options (option r c name x ds ∷ l) n o g k = name_or (is_missing options (option r c name x ds)) name _ (option_short r c name x ds k.0).0 (missing_short options l n (o - 1) g k.2)
missing_short options (flag c name x ds ∷ l) n o g k = name_or (is_missing options (flag c name x ds)) name _ (flag_short c name x ds k.0).0 (missing_short options l n o (g - 1) k.2)

abbrev MeansShort : Means → Type 0
MeansShort (a_flag name) = length name ≤ 32
MeansShort (an_option name) = length name ≤ 32
MeansShort nothing = Unit

else_short : (a b : Option (List ℕ)) → NameShort a → NameShort b → MeansShort (flag_else a b)
else_short (some x) b h k = h
else_short none (some x) h k = k
else_short none none h k = tt

-- what a word's form takes of the word
abbrev FormWithin : List ℕ → Form → Type 0
FormWithin w (valued key value) = length key + length value ≤ length w
FormWithin w (long key) = length key ≤ length w
FormWithin w (shorts letters) = length letters ≤ length w
FormWithin w positional = Unit

long_within : (w k : List ℕ) → length k ≤ length w → FormWithin w (long_form k)
unfolding long_form
long_within w k h = by (ltb (before_equals k) (length k))
  where
    by : (t : Bool) → FormWithin w (cond t (valued (take (before_equals k) k) (drop (suc (before_equals k)) k)) (long k))
    by true = omega (arith, length-take (before_equals k) k, length-drop (suc (before_equals k)) k)
    by false = h

form_within : (w : List ℕ) → FormWithin w (form_of w)
unfolding form_of
form_within w = by (ltb (length w) 2) (eqb (get_or w 0 0) dash) (eqb (get_or w 1 0) dash)
  where
    by : (t u v : Bool) → FormWithin w (cond t positional (cond u (cond v (long_form (drop 2 w)) (shorts (drop 1 w))) positional))
    by true u v = tt
    by false true true = long_within w (drop 2 w) (omega (arith, length-drop 2 w))
    by false true false = omega (arith, length-drop 1 w)
    by false false v = tt

-- the characters of a word of shorts are no more than its bytes
codes_few : (codes : List ℕ) → length codes ≤ length (encode_all codes)
unfolding encode_all
codes_few [] = omega arith
codes_few (c ∷ codes) = let a = length-append (encode c) (encode_all codes) in omega (arith, encode_some c, codes_few codes)

-- ONE WORD
module _ (defs : List Frame) (n o g : ℕ) (k : Few n o g defs) where
  meaning_short : (has : Frame → Bool) → MeansShort (meaning has defs)
  unfolding meaning
  meaning_short has = else_short (first_name (flag_with has) defs) (first_name (option_with has) defs) (first_short (flag_with has) defs n o g k) (first_short (option_with has) defs n o g k)

  short_weight : (a : Stand) (c : ℕ) → weight (short_step put defs a c) ≤ weight a + 38 + length (encode c)
  short_weight (go f) c = by (meaning (has_short c) defs) (meaning_short (has_short c))
    where
      by : (m : Means) → MeansShort m
          → weight (on_means m (λ name. go (with_flag put f name)) (λ name. wait f name (dash ∷ encode c)) (unknown_option (dash ∷ encode c))) ≤ total f + 38 + length (encode c)
      by (a_flag name) h = omega (arith, flag_weight f name)
      by (an_option name) h = omega arith
      by nothing h = omega arith
  short_weight (wait f key told) c = omega arith
  short_weight (unknown_option told) c = omega arith
  short_weight (missing_value told) c = omega arith

  shorts_weight : (codes : List ℕ) (a : Stand) → weight (short_steps put defs a codes) ≤ weight a + 38 * length codes + length (encode_all codes)
  unfolding short_steps encode_all
  shorts_weight [] a = omega arith
  shorts_weight (c ∷ codes) a =
      let e = length-append (encode c) (encode_all codes) in
      omega (arith, short_weight a c, shorts_weight codes (short_step put defs a c))

  letters_weight : (f : Found) (letters : List ℕ) → weight (short_steps put defs (go f) (codes_in letters)) ≤ total f + 39 * length letters
  unfolding well_formed_length
  letters_weight f letters = omega (arith, shorts_weight (codes_in letters) (go f), codes_few (codes_in letters), prefix_fits letters)

  form_weight : (f : Found) (w : List ℕ) (form : Form) → FormWithin w form → weight (form_step put defs f w form) ≤ total f + 39 * (3 + length w)
  form_weight f w (valued key value) h = by (is_option key defs)
    where
      by : (t : Bool) → weight (cond t (go (with_option put f key value)) (unknown_option (dash ∷ dash ∷ key))) ≤ total f + 39 * (3 + length w)
      by true = omega (arith, option_weight f key value)
      by false = omega arith
  form_weight f w (long key) h = by (meaning (has_key key) defs)
    where
      by : (m : Means) → weight (on_means m (λ name. go (with_flag put f key)) (λ name. wait f key (dash ∷ dash ∷ key)) (unknown_option (dash ∷ dash ∷ key))) ≤ total f + 39 * (3 + length w)
      by (a_flag name) = omega (arith, flag_weight f key)
      by (an_option name) = omega arith
      by nothing = omega arith
  form_weight f w (shorts letters) h = omega (arith, letters_weight f letters)
  form_weight f w positional h = omega (arith, word_weight f w)

  step_weight : (a : Stand) (w : List ℕ) → weight (word_step put defs a w) ≤ weight a + 39 * (3 + length w)
  step_weight (go f) w = form_weight f w (form_of w) (form_within w)
  step_weight (wait f key told) w = omega (arith, option_weight f key w)
  step_weight (unknown_option told) w = omega arith
  step_weight (missing_value told) w = omega arith

  args_weight : (words : List (List ℕ)) (a : Stand) → weight (args put defs a words) ≤ weight a + 39 * length (word_frames words)
  unfolding args word_frames
  args_weight [] a = omega arith
  args_weight (w ∷ words) a = omega (arith, step_weight a w, args_weight words (word_step put defs a w), words_more w words)

-- THE OUTCOME: the length of the report, or of the fault's text
abbrev pub measure : Outcome → ℕ
measure (parsed path found) = length (told_in (parsed path found))
measure (fault number told) = length told

report_size : (path : List (List ℕ)) (found : Found) → measure (parsed path found) ≡ length (word_frames path) + total found
unfolding told_in report_of total
report_size path found =
    let a = length-append (runs (frame_of 0x11) path) (runs option_frame found.options ++ (runs flag_frame found.flags ++ runs (frame_of 0x14) found.positionals)) in
    let b = length-append (runs option_frame found.options) (runs flag_frame found.flags ++ runs (frame_of 0x14) found.positionals) in
    let c = length-append (runs flag_frame found.flags) (runs (frame_of 0x14) found.positionals) in
    omega (arith, path_size path)

pub path_within : (path : List (List ℕ)) (found : Found) → length (word_frames path) ≤ measure (parsed path found)
path_within path found = omega (arith, report_size path found)

outcome_most : (path : List (List ℕ)) (defs : List Frame) (n o g : ℕ) → Few n o g defs → (a : Stand) → measure (outcome_of path defs a) ≤ 32 + length (word_frames path) + weight a
outcome_most path defs n o g k (go found) = by (missing_required defs found.options) (missing_short found.options defs n o g k)
  where
    by : (x : Option (List ℕ)) → NameShort x → measure (on_missing x (λ name. fault 7 name) (parsed path found)) ≤ 32 + length (word_frames path) + total found
    by none h = omega (arith, report_size path found)
    by (some name) h = omega arith
outcome_most path defs n o g k (wait found key told) = omega arith
outcome_most path defs n o g k (unknown_option told) = omega arith
outcome_most path defs n o g k (missing_value told) = omega arith

-- a command's definitions are few, wherever the words lead
definitions_few : (fs : List Frame) (n : ℕ) → Few n 32 32 fs → Few (n - 1) 32 32 (definitions_of fs)
unfolding definitions_of
definitions_few [] n k = tt
definitions_few (node d h name ds u ∷ l) n k = few_up is_node l (n - 1) 32 32 k.2
definitions_few (option r c name x ds ∷ l) n k = tt
definitions_few (flag c name x ds ∷ l) n k = tt

descent_few : (words : List (List ℕ)) (d : ℕ) (fs : List Frame) (path : List (List ℕ)) (n : ℕ) → Few n 32 32 fs → Few n 32 32 (descend d fs path words).frames
unfolding descend
descent_few [] d fs path n k = k
descent_few (w ∷ words) d fs path n k = by (subtree d w fs) (few_subtree d w fs n k) (λ child. descent_few words (suc d) child (path ++ (w ∷ [])) n)
  where
    by : (child : List Frame) → Few n 32 32 child → ((child : List Frame) → Few n 32 32 child → Few n 32 32 (descend (suc d) child (path ++ (w ∷ [])) words).frames)
        → Few n 32 32 (on_subtree child (record { path = path; words = w ∷ words; frames = fs }) (λ child. descend (suc d) child (path ++ (w ∷ [])) words)).frames
    by [] h more = k
    by (f ∷ l) h more = more (f ∷ l) h

none_weight : total none_found ≡ 0
unfolding total runs
none_weight = omega arith

concluded_most : (r : Reached) (n : ℕ) → Few n 32 32 r.frames → measure (concluded put r) ≤ 32 + length (word_frames r.path) + 39 * length (word_frames r.words)
unfolding concluded
concluded_most r n k =
    let few = definitions_few r.frames n k in
    let defs : List Frame = definitions_of r.frames in
    omega (arith, outcome_most r.path defs (n - 1) 32 32 few (args put defs (go none_found) r.words), args_weight defs (n - 1) 32 32 few r.words (go none_found), none_weight)

pub parse_most : (frames : List Frame) (n : ℕ) → Few n 32 32 frames → (w : List ℕ) (words : List (List ℕ)) → measure (parse_in frames w words) ≤ 32 + 39 * length (word_frames (w ∷ words))
unfolding parse_in
parse_most [] n k w words = omega (arith, words_more w words)
parse_most (f ∷ l) n k w words =
    let r : Reached = descend 1 (f ∷ l) (w ∷ []) words in
    let all = ap (λ (a : List (List ℕ)). length (word_frames a)) (descent_keeps words 1 (f ∷ l) (w ∷ [])) in
    omega (arith, concluded_most r n (descent_few words 1 (f ∷ l) (w ∷ []) n k), all, words_both r.path r.words)
