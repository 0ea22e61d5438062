-- Nothing is lost without a sound: what a word has brought stands in the end, unless the line ends in a fault.
use Prim.Native.Nat.{ℕ}
use mathlib.Core.Path.{◌≡◌, refl, sym, ap, ◌∙◌}
use mathlib.Core.Bool.{Bool, true, false, cond}
use mathlib.Core.List.{List, [], ◌∷◌, ◌++◌, append_assoc, append-nil}
use Rattle.buffer.specs.Compare.{same_bytes}
use Rattle.image.specs.Frames.{Frame}
use Rattle.lookup.specs.Definitions.{has_key, has_short}
use Rattle.table.specs.Map.{Map, put, has}
use Rattle.table.proofs.Maps.{has_put}
use Rattle.text.specs.Unicode.{encode}
use Rattle.text.specs.Decoding.{codes_in}
use Rattle.arguments.specs.Meanings.{Means, a_flag, an_option, nothing, meaning, on_means, is_option}
use Rattle.arguments.specs.Forms.{Form, valued, long, shorts, positional, form_of, dash}
use Rattle.arguments.specs.Arguments.{Found, Stand, go, wait, unknown_option, missing_value, with_option, with_flag, with_positional, short_step, short_steps, form_step, word_step, args}

-- a key once stored stays, and positional words stay in their order, others after them
pub record Grows (f g : Found) : Type 0 where
  pub options : (k : List ℕ) → has k f.options ≡ true → has k g.options ≡ true
  pub flags : (k : List ℕ) → has k f.flags ≡ true → has k g.flags ≡ true
  pub more : List (List ℕ)
  pub positionals : g.positionals ≡ f.positionals ++ more

grows_self : (f : Found) → Grows f f
grows_self f = record { options = λ k h. h; flags = λ k h. h; more = []; positionals = sym (append-nil f.positionals) }

grows_on : (f g h : Found) → Grows f g → Grows g h → Grows f h
grows_on f g h a b =
    record {
      options = λ k x. b.options k (a.options k x);
      flags = λ k x. b.flags k (a.flags k x);
      more = a.more ++ b.more;
      positionals = b.positionals ∙ ap (λ (l : List (List ℕ)). l ++ b.more) a.positionals ∙ append_assoc f.positionals a.more b.more;
    }

put_stays : (j k v : List ℕ) (m : Map) → has j m ≡ true → has j (put k v m) ≡ true
put_stays j k v m e = has_put j k v m ∙ by (same_bytes j k)
  where
    by : (t : Bool) → cond t true (has j m) ≡ true
    by true = refl
    by false = e

grows_option : (f : Found) (k v : List ℕ) → Grows f (with_option put f k v)
unfolding with_option
grows_option f k v = record { options = λ j h. put_stays j k v f.options h; flags = λ j h. h; more = []; positionals = sym (append-nil f.positionals) }

grows_flag : (f : Found) (k : List ℕ) → Grows f (with_flag put f k)
unfolding with_flag
grows_flag f k = record { options = λ j h. h; flags = λ j h. put_stays j k [] f.flags h; more = []; positionals = sym (append-nil f.positionals) }

grows_word : (f : Found) (w : List ℕ) → Grows f (with_positional f w)
unfolding with_positional
grows_word f w = record { options = λ j h. h; flags = λ j h. h; more = w ∷ []; positionals = refl }

-- what a stand has found, and that a later one keeps it
abbrev pub KeptBy : Found → Stand → Type 0
KeptBy f (go g) = Grows f g
KeptBy f (wait g key told) = Grows f g
KeptBy f (unknown_option told) = Unit
KeptBy f (missing_value told) = Unit

module _ (defs : List Frame) (f : Found) where
  option_kept : (g : Found) (k v : List ℕ) → Grows f g → KeptBy f (go (with_option put g k v))
  option_kept g k v x = grows_on f g (with_option put g k v) x (grows_option g k v)

  flag_kept : (g : Found) (k : List ℕ) → Grows f g → KeptBy f (go (with_flag put g k))
  flag_kept g k x = grows_on f g (with_flag put g k) x (grows_flag g k)

  short_kept : (a : Stand) (c : ℕ) → KeptBy f a → KeptBy f (short_step put defs a c)
  short_kept (go g) c x = by (meaning (has_short c) defs)
    where
      by : (m : Means) → KeptBy f (on_means m (λ name. go (with_flag put g name)) (λ name. wait g name (dash ∷ encode c)) (unknown_option (dash ∷ encode c)))
      by (a_flag name) = flag_kept g name x
      by (an_option name) = x
      by nothing = tt
  short_kept (wait g key told) c x = tt
  short_kept (unknown_option told) c x = tt
  short_kept (missing_value told) c x = tt

  shorts_kept : (codes : List ℕ) (a : Stand) → KeptBy f a → KeptBy f (short_steps put defs a codes)
  unfolding short_steps
  shorts_kept [] a x = x
  shorts_kept (c ∷ codes) a x = shorts_kept codes (short_step put defs a c) (short_kept a c x)

  form_kept : (g : Found) (w : List ℕ) (form : Form) → Grows f g → KeptBy f (form_step put defs g w form)
  form_kept g w (valued k v) x = by (is_option k defs)
    where
      by : (t : Bool) → KeptBy f (cond t (go (with_option put g k v)) (unknown_option (dash ∷ dash ∷ k)))
      by true = option_kept g k v x
      by false = tt
  form_kept g w (long k) x = by (meaning (has_key k) defs)
    where
      by : (m : Means) → KeptBy f (on_means m (λ name. go (with_flag put g k)) (λ name. wait g k (dash ∷ dash ∷ k)) (unknown_option (dash ∷ dash ∷ k)))
      by (a_flag name) = flag_kept g k x
      by (an_option name) = x
      by nothing = tt
  form_kept g w (shorts letters) x = shorts_kept (codes_in letters) (go g) x
  form_kept g w positional x = grows_on f g (with_positional g w) x (grows_word g w)

  word_kept : (a : Stand) (w : List ℕ) → KeptBy f a → KeptBy f (word_step put defs a w)
  word_kept (go g) w x = form_kept g w (form_of w) x
  word_kept (wait g key told) w x = option_kept g key w x
  word_kept (unknown_option told) w x = tt
  word_kept (missing_value told) w x = tt

  words_kept : (l : List (List ℕ)) (a : Stand) → KeptBy f a → KeptBy f (args put defs a l)
  unfolding args
  words_kept [] a x = x
  words_kept (w ∷ l) a x = words_kept l (word_step put defs a w) (word_kept a w x)

-- WHAT IS FOUND STAYS, whatever words follow
pub found_stays : (defs : List Frame) (f : Found) (l : List (List ℕ)) → KeptBy f (args put defs (go f) l)
found_stays defs f l = words_kept defs f l (go f) (grows_self f)
