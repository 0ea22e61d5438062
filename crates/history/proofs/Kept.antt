-- Entries of which a good state can be made, and that adding keeps them so.
use Prim.Native.Nat.{ℕ, zero, suc, ◌<◌, ◌≤◌}
use mathlib.Core.Path.{◌≡◌, refl, sym, ◌∙◌}
use mathlib.Core.Bool.{Bool, true, false, cond, not}
use mathlib.Core.List.{List, [], ◌∷◌, ◌++◌}
use native.Mathlib.Omega.{arith}
use lib.Dec.{ltb}
use lib.ListN.{length, drop, get_or, length-append}
use borrow.Author.Tests.{eq-eqb, le-leb, lt-ltb, ltb-true, ltb-false}
use Rattle.buffer.proofs.Choices.{then_is, else_is}
use Rattle.buffer.proofs.Ordering.{is_same}
use Rattle.buffer.specs.Compare.{same_bytes}
use Rattle.text.specs.Apart.{blank}
use Rattle.text.specs.Decoding.{well_formed}
use Rattle.history.specs.Entries.{most_entries, newest_is, is_new, with_room, added, usable, sound}
use Rattle.history.specs.Journal.{slots_of, journal_of, good}
use Rattle.history.specs.declared.stepping.History.{History}
use Rattle.history.proofs.Layouts.{Short, none, more, short_append, short_drop}
use Rattle.history.proofs.Judging.{usable_some}
use Rattle.history.proofs.States.{holds, refutes, Good}

-- the facts of a good state are enough for it
pub good_of : (h : History) (slots : List ℕ) → Good h slots → good h slots ≡ true
unfolding good most_entries slots_of journal_of
good_of h slots g =
    then_is _ _ _ (eq-eqb _ _ g.size)
    ∙ then_is _ _ _ (lt-ltb _ _ g.begins)
    ∙ then_is _ _ _ (le-leb _ _ g.counted)
    ∙ then_is _ _ _ (le-leb _ _ g.placed)
    ∙ then_is _ _ _ g.is_sound
    ∙ then_is _ _ _ (is_same _ _ g.laid)
    ∙ eq-eqb _ _ g.tallies

-- entries of which a good state can be made, at any place
pub record Entries (es : List (List ℕ)) : Type 0 where
  pub short : Short es
  pub few : length es ≤ 100
  pub is_sound : sound [] es ≡ true

-- the entry before what is to come
latest : List ℕ → List (List ℕ) → List ℕ
latest before [] = before
latest before (e ∷ es) = latest e es

newest_latest : (t e : List ℕ) (es : List (List ℕ)) → newest_is t (e ∷ es) ≡ same_bytes (latest e es) t
unfolding newest_is latest
newest_latest t e [] = refl
newest_latest t e (d ∷ es) = newest_latest t d es

sound_more : (before : List ℕ) (es : List (List ℕ)) (t : List ℕ) → sound before es ≡ true → usable t ≡ true → same_bytes (latest before es) t ≡ false
    → sound before (es ++ (t ∷ [])) ≡ true
unfolding sound latest
sound_more before [] t s u n = then_is _ _ _ u ∙ else_is _ _ _ n
sound_more before (e ∷ es) t s u n =
    let a = holds (usable e) _ s in
    let b = refutes (same_bytes before e) _ a.1 in
    then_is _ _ _ a.0 ∙ else_is _ _ _ b.0 ∙ sound_more e es t b.1 u n

-- entries that follow another are usable
pub usable_at : (before : List ℕ) (es : List (List ℕ)) (i : ℕ) → i < length es → sound before es ≡ true → usable (get_or es i []) ≡ true
unfolding sound
usable_at before [] i l s = absurd (omega arith)
usable_at before (e ∷ es) zero l s = (holds (usable e) _ s).0
usable_at before (e ∷ es) (suc i) l s = usable_at e es i (omega arith) (refutes (same_bytes before e) _ (holds (usable e) _ s).1).1

-- entries from a number on are sound after another that differs from the first of them
pub sound_from : (before other : List ℕ) (es : List (List ℕ)) (t : ℕ) → sound before es ≡ true → (t < length es → same_bytes other (get_or es t []) ≡ false) → sound other (drop t es) ≡ true
unfolding sound
sound_from before other [] zero s d = refl
sound_from before other [] (suc t) s d = refl
sound_from before other (e ∷ es) zero s d =
    let a = holds (usable e) _ s in
    then_is _ _ _ a.0 ∙ else_is _ _ _ (d (omega arith)) ∙ (refutes (same_bytes before e) _ a.1).1
sound_from before other (e ∷ es) (suc t) s d =
    sound_from e other es t (refutes (same_bytes before e) _ (holds (usable e) _ s).1).1 (λ l. d (omega arith))

-- so they are without the oldest
sound_drop : (e : List ℕ) (es : List (List ℕ)) → sound [] (e ∷ es) ≡ true → sound [] es ≡ true
sound_drop e es s = sound_from [] [] (e ∷ es) 1 s (λ l. usable_some (get_or es 0 []) (usable_at [] (e ∷ es) 1 l s))

-- after entries that have room for it
one_more : (es : List (List ℕ)) (t : List ℕ) → Short es → length es < 100 → sound [] es ≡ true → length t ≤ 255 → usable t ≡ true
    → same_bytes (latest [] es) t ≡ false → Entries (es ++ (t ∷ []))
one_more es t h k s l u n =
    record {
      short = short_append es (t ∷ []) h (more l none);
      few = let a = length-append es (t ∷ []) in omega arith;
      is_sound = sound_more [] es t s u n;
    }

differs : (es : List (List ℕ)) (t : List ℕ) → usable t ≡ true → newest_is t es ≡ false → same_bytes (latest [] es) t ≡ false
unfolding latest
differs [] t u n = usable_some t u
differs (e ∷ es) t u n = sym (newest_latest t e es) ∙ n

after_oldest : (e : List ℕ) (es : List (List ℕ)) (t : List ℕ) → usable t ≡ true → newest_is t (e ∷ es) ≡ false → newest_is t es ≡ false
unfolding newest_is
after_oldest e [] t u n = refl
after_oldest e (d ∷ es) t u n = n

with_room_lem : (es : List (List ℕ)) (t : List ℕ) (full : Bool) → ltb (length es) 100 ≡ full → Entries es → length t ≤ 255 → usable t ≡ true → newest_is t es ≡ false
    → Entries (cond full es (drop 1 es) ++ (t ∷ []))
with_room_lem es t true q g l u n = one_more es t g.short (ltb-true _ _ q) g.is_sound l u (differs es t u n)
with_room_lem [] t false q g l u n = absurd (let z = ltb-false 0 100 q in omega arith)
with_room_lem (e ∷ es) t false q g l u n =
    let few = g.few in
    one_more es t (short_drop 1 (e ∷ es) g.short) (omega arith) (sound_drop e es g.is_sound) l u (differs es t u (after_oldest e es t u n))

usable_of : (t : List ℕ) → blank t ≡ false → well_formed t ≡ true → usable t ≡ true
unfolding usable
usable_of t p w = else_is _ _ _ p ∙ w

-- adding a text that is well-formed, or blank
pub added_entries : (es : List (List ℕ)) (t : List ℕ) → Entries es → length t ≤ 255 → well_formed t ≡ true → Entries (added t es)
unfolding added with_room most_entries is_new
added_entries es t g l w = by (blank t) (newest_is t es) refl refl
  where
    by : (b n : Bool) → blank t ≡ b → newest_is t es ≡ n → Entries (cond (cond b false (not n)) (cond (ltb (length es) 100) es (drop 1 es) ++ (t ∷ [])) es)
    by true n p q = g
    by false true p q = g
    by false false p q = with_room_lem es t (ltb (length es) 100) refl g l (usable_of t p w) q
