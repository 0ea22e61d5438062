-- Laws of one step: a character of a word of shorts, a long form, a word.
use Prim.Native.Nat.{ℕ, suc, ◌+◌, ◌-◌, ◌<◌, ◌≤◌}
use mathlib.Core.Path.{◌≡◌, refl, sym, ap, ◌∙◌}
use mathlib.Core.Bool.{true, false}
use mathlib.Core.List.{List, [], ◌∷◌}
use Rattle.std.specs.Prelude.{Option}
use native.Mathlib.Omega.{arith}
use types.Run.{OneOf, miss}
use denote.Enum.Declared.{tag_of}
use lib.ListN.{length, take, drop, length-take, length-drop}
use lib.Seq.{drop-drop, take-take}
use Rattle.buffer.proofs.Lists.{drop_take}
use borrow.Author.Tests.{lt-ltb, le-ltb}
use Rattle.buffer.proofs.Choices.{then_is, else_is}
use Rattle.text.specs.Unicode.{encode}
use Rattle.image.specs.Frames.{Frame}
use Rattle.lookup.specs.Definitions.{has_key, has_short}
use Rattle.table.specs.Inner.{part_of}
use Rattle.table.specs.declared.packing.Span.{Span}
use Rattle.table.specs.declared.packing.Source.{Source}
use Rattle.table.specs.declared.packing.Source.TheVariants.{Image}
use Rattle.arguments.specs.Meanings.{Means, a_flag, an_option, nothing, meaning, on_means, is_option}
use Rattle.arguments.specs.Forms.{Form, valued, long, before_equals, long_form, dash}
use Rattle.arguments.specs.Arguments.{Stand, go, wait, unknown_option, missing_value, with_option, with_flag, short_step, form_step}
use Rattle.arguments.specs.Inner.{stored, told_of, found_of, stand_by, stand_of, means_of, KeySmall, NameSmall, Moved}
use Rattle.arguments.specs.declared.standing.FaultText.{FaultText}
use Rattle.arguments.specs.declared.standing.Progress.{Progress}
use Rattle.arguments.specs.declared.standing.Progress.TheVariants.{Going, Waiting, UnknownOption, MissingValue}
use Rattle.arguments.specs.declared.standing.Scan.{Scan}
use Rattle.arguments.specs.declared.meaning.Meaning.{Meaning}
use Rattle.arguments.specs.contracts.standing.Progress.{the_type}

-- where a scan stands, by its progress
pub stand_by_lem : (words image rest : List ℕ) (s : Scan) (p : Progress) → s.progress ≡ p → stand_of words image rest s ≡ stand_by words image (found_of words image rest s) p
unfolding stand_of
stand_by_lem words image rest s p e = ap (stand_by words image (found_of words image rest s)) e

-- a move, told in other words
pub moved_as : (words image : List ℕ) (s r : Scan) (f g : List ℕ → Stand) → Moved words image s r f → ((rest : List ℕ) → f rest ≡ g rest) → Moved words image s r g
moved_as words image s r f g m e = record { stand = λ rest. m.stand rest ∙ e rest; kept = m.kept; small = m.small }

-- a place that is small, in a meaning that is known
pub name_small : (r x : Option Meaning) → r ≡ x → NameSmall r → NameSmall x
name_small r x e s = rw e at s

pub key_small : (r x : Progress) → r ≡ x → KeySmall r → KeySmall x
key_small r x e s = rw e at s

-- faults stay
pub fault_stays : (words image : List ℕ) (s : Scan) (step : Stand → Stand) → ((t : List ℕ) → step (unknown_option t) ≡ unknown_option t) → ((t : List ℕ) → step (missing_value t) ≡ missing_value t)
    → OneOf (2 ∷ 3 ∷ []) (tag_of the_type s.progress) → Moved words image s s (λ rest. step (stand_of words image rest s))
fault_stays words image s step u m k = record { stand = λ rest. by s.progress refl k rest; kept = refl; small = little s.progress k }
  where
    little : (p : Progress) → OneOf (2 ∷ 3 ∷ []) (tag_of the_type p) → KeySmall p
    little Going k = tt
    little (Waiting source key told) k = absurd (miss (2 ∷ 3 ∷ []) 1 tt k)
    little (UnknownOption told) k = tt
    little (MissingValue told) k = tt

    by : (p : Progress) → s.progress ≡ p → OneOf (2 ∷ 3 ∷ []) (tag_of the_type p) → (rest : List ℕ) → stand_of words image rest s ≡ step (stand_of words image rest s)
    by Going e k rest = absurd (miss (2 ∷ 3 ∷ []) 0 tt k)
    by (Waiting source key told) e k rest = absurd (miss (2 ∷ 3 ∷ []) 1 tt k)
    by (UnknownOption told) e k rest = let q = stand_by_lem words image rest s (UnknownOption told) e in q ∙ sym (ap step q ∙ u (told_of words told))
    by (MissingValue told) e k rest = let q = stand_by_lem words image rest s (MissingValue told) e in q ∙ sym (ap step q ∙ m (told_of words told))

-- ONE CHARACTER
module _ (words image : List ℕ) (s r : Scan) (defs : List Frame) (code : ℕ) where
  abbrev StepsTo : Type 0
  StepsTo = Moved words image s r (λ rest. short_step stored defs (stand_of words image rest s) code)

  -- what a character means while the scan goes on
  short_goes : (x : Means) (f : List ℕ → Stand) → s.progress ≡ Going → x ≡ meaning (has_short code) defs → Moved words image s r f
      → ((rest : List ℕ) → f rest ≡ on_means x (λ name. go (with_flag stored (found_of words image rest s) name)) (λ name. wait (found_of words image rest s) name (dash ∷ encode code)) (unknown_option (dash ∷ encode code)))
      → StepsTo
  short_goes x f e q m k =
      moved_as words image s r f _ m (λ rest. k rest ∙ ap (λ (y : Means). on_means y (λ name. go (with_flag stored (found_of words image rest s) name)) (λ name. wait (found_of words image rest s) name (dash ∷ encode code)) (unknown_option (dash ∷ encode code))) q
      ∙ sym (ap (λ (a : Stand). short_step stored defs a code) (stand_by_lem words image rest s Going e)))

  pub short_flag : (m : Option Meaning) (start size : ℕ) → s.progress ≡ Going → means_of image m ≡ meaning (has_short code) defs → means_of image m ≡ a_flag (part_of image start size)
      → Moved words image s r (λ rest. go (with_flag stored (found_of words image rest s) (part_of image start size))) → StepsTo
  short_flag m start size e q t o = short_goes (a_flag (part_of image start size)) _ e (sym t ∙ q) o (λ rest. refl)

  pub short_option : (m : Option Meaning) (key : Span) (place size : ℕ) → s.progress ≡ Going → means_of image m ≡ meaning (has_short code) defs → means_of image m ≡ an_option (part_of image key.start key.length)
      → part_of words place size ≡ encode code
      → Moved words image s r (λ rest. stand_by words image (found_of words image rest s) (Waiting Image key (record { dashes = 1; start = place; length = size }))) → StepsTo
  short_option m key place size e q t c o =
      short_goes (an_option (part_of image key.start key.length)) _ e (sym t ∙ q) o
      (λ rest. ap (λ (l : List ℕ). wait (found_of words image rest s) (part_of image key.start key.length) (dash ∷ l)) c)

  pub short_unknown : (m : Option Meaning) (place size : ℕ) → s.progress ≡ Going → means_of image m ≡ meaning (has_short code) defs → means_of image m ≡ nothing → part_of words place size ≡ encode code
      → Moved words image s r (λ rest. stand_by words image (found_of words image rest s) (UnknownOption (record { dashes = 1; start = place; length = size }))) → StepsTo
  short_unknown m place size e q t c o = short_goes nothing _ e (sym t ∙ q) o (λ rest. ap (λ (l : List ℕ). unknown_option (dash ∷ l)) c)

  pub short_missing : (source : Source) (key : Span) (told : FaultText) → s.progress ≡ Waiting source key told
      → Moved words image s r (λ rest. stand_by words image (found_of words image rest s) (MissingValue told)) → StepsTo
  short_missing source key told e o =
      moved_as words image s r _ _ o (λ rest. sym (ap (λ (a : Stand). short_step stored defs a code) (stand_by_lem words image rest s (Waiting source key told) e)))

-- THE FORM after `--`
long_with : (k : List ℕ) (e : ℕ) → e ≡ before_equals k → e < length k → long_form k ≡ valued (take e k) (drop (suc e) k)
unfolding long_form
long_with k e q h = rw (← q) (then_is _ _ _ (lt-ltb e (length k) h))

long_without : (k : List ℕ) (e : ℕ) → e ≡ before_equals k → length k ≤ e → long_form k ≡ long k
unfolding long_form
long_without k e q h = rw (← q) (else_is _ _ _ (le-ltb e (length k) h))

module _ (words image : List ℕ) (s r : Scan) (defs : List Frame) (w k : List ℕ) (start e : ℕ) (q : e ≡ before_equals k) (f : List ℕ → Stand) (m : Moved words image s r f) where
  abbrev LongTo : Type 0
  LongTo = Moved words image s r (λ rest. form_step stored defs (found_of words image rest s) w (long_form k))

  long_as : (form : Form) → long_form k ≡ form → ((rest : List ℕ) → f rest ≡ form_step stored defs (found_of words image rest s) w form) → LongTo
  long_as form l g = moved_as words image s r f _ m (λ rest. g rest ∙ sym (ap (form_step stored defs (found_of words image rest s) w) l))

  pub long_valued : e < length k → is_option (take e k) defs ≡ true → (vs vl : ℕ) → part_of words start e ≡ take e k → part_of words vs vl ≡ drop (suc e) k
      → ((rest : List ℕ) → f rest ≡ go (with_option stored (found_of words image rest s) (part_of words start e) (part_of words vs vl))) → LongTo
  long_valued h o vs vl a b g =
      long_as (valued (take e k) (drop (suc e) k)) (long_with k e q h)
      (λ rest. g rest ∙ ap (λ (x : List ℕ). go (with_option stored (found_of words image rest s) x (part_of words vs vl))) a
      ∙ ap (λ (x : List ℕ). go (with_option stored (found_of words image rest s) (take e k) x)) b ∙ sym (then_is _ _ _ o))

  pub long_valued_unknown : e < length k → is_option (take e k) defs ≡ false → part_of words start e ≡ take e k
      → ((rest : List ℕ) → f rest ≡ unknown_option (dash ∷ dash ∷ part_of words start e)) → LongTo
  long_valued_unknown h o a g =
      long_as (valued (take e k) (drop (suc e) k)) (long_with k e q h)
      (λ rest. g rest ∙ ap (λ (x : List ℕ). unknown_option (dash ∷ dash ∷ x)) a ∙ sym (else_is _ _ _ o))

  -- without a `=` the key is all of it
  long_by : (x : Means) → length k ≤ e → meaning (has_key k) defs ≡ x
      → ((rest : List ℕ) → f rest ≡ on_means x (λ name. go (with_flag stored (found_of words image rest s) k)) (λ name. wait (found_of words image rest s) k (dash ∷ dash ∷ k)) (unknown_option (dash ∷ dash ∷ k))) → LongTo
  long_by x h t g =
      long_as (long k) (long_without k e q h)
      (λ rest. g rest ∙ sym (ap (λ (y : Means). on_means y (λ name. go (with_flag stored (found_of words image rest s) k)) (λ name. wait (found_of words image rest s) k (dash ∷ dash ∷ k)) (unknown_option (dash ∷ dash ∷ k))) t))

  pub long_flag : (name : List ℕ) → length k ≤ e → meaning (has_key k) defs ≡ a_flag name → part_of words start e ≡ k
      → ((rest : List ℕ) → f rest ≡ go (with_flag stored (found_of words image rest s) (part_of words start e))) → LongTo
  long_flag name h t a g = long_by (a_flag name) h t (λ rest. g rest ∙ ap (λ (x : List ℕ). go (with_flag stored (found_of words image rest s) x)) a)

  pub long_option : (name : List ℕ) → length k ≤ e → meaning (has_key k) defs ≡ an_option name → part_of words start e ≡ k
      → ((rest : List ℕ) → f rest ≡ wait (found_of words image rest s) (part_of words start e) (dash ∷ dash ∷ part_of words start e)) → LongTo
  long_option name h t a g = long_by (an_option name) h t (λ rest. g rest ∙ ap (λ (x : List ℕ). wait (found_of words image rest s) x (dash ∷ dash ∷ x)) a)

  pub long_unknown : length k ≤ e → meaning (has_key k) defs ≡ nothing → part_of words start e ≡ k
      → ((rest : List ℕ) → f rest ≡ unknown_option (dash ∷ dash ∷ part_of words start e)) → LongTo
  long_unknown h t a g = long_by nothing h t (λ rest. g rest ∙ ap (λ (x : List ℕ). unknown_option (dash ∷ dash ∷ x)) a)

-- parts of a part of the words
module _ (words : List ℕ) (start end : ℕ) (o : start ≤ end) (l : end ≤ length words) where
  abbrev piece : List ℕ
  piece = take (end - start) (drop start words)

  pub piece_length : length piece ≡ end - start
  piece_length = rw (length-take, length-drop) (omega arith)

  pub piece_front : (e : ℕ) → e ≤ length piece → part_of words start e ≡ take e piece
  piece_front e h = let k = piece_length in sym (take-take e (end - start) (drop start words) (omega arith))

  pub piece_whole : (e : ℕ) → e ≤ length piece → length piece ≤ e → part_of words start e ≡ piece
  piece_whole e h g = let k = piece_length in let q : e ≡ end - start = omega arith in ap (λ (n : ℕ). take n (drop start words)) q

  pub piece_after : (e : ℕ) → e < length piece → part_of words (start + e + 1) (length piece - e - 1) ≡ drop (suc e) piece
  piece_after e h =
      let k = piece_length in
      let q : length piece - e - 1 ≡ end - start - suc e = omega arith in
      let p : start + e + 1 ≡ start + suc e = omega arith in
      ap (λ (n : ℕ). take n (drop (start + e + 1) words)) q
      ∙ ap (λ (n : ℕ). take (end - start - suc e) (drop n words)) p
      ∙ ap (take (end - start - suc e)) (sym (drop-drop (suc e) start words))
      ∙ sym (drop_take (suc e) (end - start) (drop start words))
