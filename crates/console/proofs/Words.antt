-- Which words are taken: none, `keys=rust` or `keys=ecma-48`, and no other; and that the count and what is read of the first word are enough to tell.
use Prim.Native.Nat.{ℕ, ◌<◌, ◌≤◌}
use Rattle.std.proofs.Common.{Option, Some, None}
use mathlib.Core.Path.{◌≡◌, refl, sym, ap, ◌∙◌, subst}
use mathlib.Core.Bool.{Bool, true, false, cond}
use mathlib.Core.List.{List, [], ◌∷◌}
use native.Mathlib.Omega.{arith}
use lib.Dec.{leb}
use lib.ListN.{length}
use borrow.Author.Tests.{lt-ltb, le-ltb, le-leb, lt-leb, leb-false}
use Rattle.buffer.specs.Ascii.{ascii}
use Rattle.buffer.specs.Compare.{same_bytes}
use Rattle.buffer.proofs.Choices.{then_is, else_is}
use Rattle.buffer.proofs.Ordering.{same_is}
use Rattle.keys.specs.declared.standing.Profile.{Profile}
use Rattle.keys.specs.declared.standing.Profile.TheVariants.{Rust, Ecma48}
use Rattle.console.specs.Settings.{keys_rust, keys_ecma48, setting_of, chosen, choice_of, word_room, read_of}

-- the words that are taken, each with its profile
pub data Taken : List (List ℕ) → Profile → Type 0 where
  unsaid : Taken [] Rust
  rust : Taken (keys_rust ∷ []) Rust
  ecma : Taken (keys_ecma48 ∷ []) Ecma48

-- these are
rust_set : setting_of keys_rust ≡ Some Rust
unfolding setting_of same_bytes ascii
rust_set = refl

ecma_set : setting_of keys_ecma48 ≡ Some Ecma48
unfolding setting_of same_bytes ascii
ecma_set = refl

pub taken_chosen : (words : List (List ℕ)) (profile : Profile) → Taken words profile → chosen words ≡ Some profile
taken_chosen _ _ unsaid = refl
taken_chosen _ _ rust = rust_set
taken_chosen _ _ ecma = ecma_set

-- and no other
refused_not : (profile : Profile) → None ≡ Some profile → ⊥
refused_not profile e = let z : ◌≡◌ {A = ℕ} 0 1 = cc in omega arith

same_profile : (p q : Profile) → Some p ≡ Some q → p ≡ q
same_profile p q e = cc

word_taken : (word : List ℕ) (profile : Profile) → setting_of word ≡ Some profile → Taken (word ∷ []) profile
unfolding setting_of
word_taken word profile = by (same_bytes word keys_rust) (same_bytes word keys_ecma48) refl refl
  where
    named : (x : List ℕ) (p : Profile) → Taken (x ∷ []) p → word ≡ x → p ≡ profile → Taken (word ∷ []) profile
    named x p t e q = rw e (subst (λ (y : Profile). Taken (x ∷ []) y) q t)

    by : (a b : Bool) → same_bytes word keys_rust ≡ a → same_bytes word keys_ecma48 ≡ b → cond a (Some Rust) (cond b (Some Ecma48) None) ≡ Some profile → Taken (word ∷ []) profile
    by true b e f q = named keys_rust Rust rust (same_is _ _ e) (same_profile Rust profile q)
    by false true e f q = named keys_ecma48 Ecma48 ecma (same_is _ _ f) (same_profile Ecma48 profile q)
    by false false e f q = absurd (refused_not profile q)

pub chosen_taken : (words : List (List ℕ)) (profile : Profile) → chosen words ≡ Some profile → Taken words profile
chosen_taken [] profile e = subst (Taken []) (same_profile Rust profile e) unsaid
chosen_taken (word ∷ []) profile e = word_taken word profile e
chosen_taken (word ∷ another ∷ words) profile e = absurd (refused_not profile e)

-- the empty word is refused, and so is one that is longer than its room
pub none_set : setting_of [] ≡ None
unfolding setting_of same_bytes ascii
none_set = refl

differs : (word name : List ℕ) → length name < length word → same_bytes word name ≡ false
differs word name h = by (same_bytes word name) refl
  where
    by : (t : Bool) → same_bytes word name ≡ t → same_bytes word name ≡ false
    by true e = absurd (let l = ap length (same_is word name e) in omega arith)
    by false e = e

rust_size : length keys_rust ≡ 9
unfolding ascii
rust_size = refl

ecma_size : length keys_ecma48 ≡ 12
unfolding ascii
ecma_size = refl

long_set : (word : List ℕ) → word_room < length word → setting_of word ≡ None
unfolding setting_of
long_set word h =
    let r = rust_size in
    let e = ecma_size in
    else_is _ _ _ (differs word keys_rust (omega arith)) ∙ else_is _ _ _ (differs word keys_ecma48 (omega arith))

-- what is read of a word chooses what the word does
read_sets : (word : List ℕ) → setting_of (cond (leb (length word) word_room) word []) ≡ setting_of word
read_sets word = by (leb (length word) word_room) refl
  where
    by : (t : Bool) → leb (length word) word_room ≡ t → setting_of (cond t word []) ≡ setting_of word
    by true e = refl
    by false e = none_set ∙ sym (long_set word (leb-false _ _ e))

-- by the count and what is read of the first word all is told, whatever the program's own name is
pub choice_told : (name : List ℕ) (words : List (List ℕ)) → choice_of (length (name ∷ words)) (read_of words) ≡ chosen words
unfolding choice_of
choice_told name [] = refl
choice_told name (word ∷ []) = read_sets word
choice_told name (word ∷ another ∷ words) =
    let all : List (List ℕ) = name ∷ word ∷ another ∷ words in
    else_is _ _ _ (lt-leb (length all) 1 (omega arith)) ∙ then_is _ _ _ (lt-ltb 2 (length all) (omega arith))

-- what the code's tests tell of a word
module _ (word : List ℕ) where
  pub set_rust : same_bytes word keys_rust ≡ true → Some Rust ≡ setting_of word
  unfolding setting_of
  set_rust e = sym (then_is _ _ _ e)

  pub set_ecma : same_bytes word keys_rust ≡ false → same_bytes word keys_ecma48 ≡ true → Some Ecma48 ≡ setting_of word
  unfolding setting_of
  set_ecma n e = sym (else_is _ _ _ n ∙ then_is _ _ _ e)

  pub set_none : same_bytes word keys_rust ≡ false → same_bytes word keys_ecma48 ≡ false → None ≡ setting_of word
  unfolding setting_of
  set_none n m = sym (else_is _ _ _ n ∙ else_is _ _ _ m)

  -- and of a count
  module _ (count : ℕ) where
    pub choice_unsaid : count ≤ 1 → Some Rust ≡ choice_of count word
    unfolding choice_of
    choice_unsaid h = sym (then_is _ _ _ (le-leb count 1 h))

    pub choice_many : 2 < count → None ≡ choice_of count word
    unfolding choice_of
    choice_many h = sym (else_is _ _ _ (lt-leb count 1 (omega arith)) ∙ then_is _ _ _ (lt-ltb 2 count h))

    pub choice_one : 1 < count → count ≤ 2 → (r : Option Profile) → r ≡ setting_of word → r ≡ choice_of count word
    unfolding choice_of
    choice_one h l r e = e ∙ sym (else_is _ _ _ (lt-leb count 1 h) ∙ else_is _ _ _ (le-ltb 2 count l))
