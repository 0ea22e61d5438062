-- Laws of the map: keys rise and stay so, the last value stands, other keys stay, and one key more at most.
use Prim.Native.Nat.{ℕ, suc, ◌+◌, ◌≤◌}
use mathlib.Core.Path.{◌≡◌, refl, sym, ap, ◌∙◌}
use mathlib.Core.Bool.{Bool, true, false, cond}
use mathlib.Core.List.{List, [], ◌∷◌}
use mathlib.Core.Option.{Option, none, some}
use native.Mathlib.Omega.{arith}
use lib.ListN.{length}
use Rattle.buffer.specs.Compare.{order, same_bytes}
use Rattle.std.specs.declared.cmp.Ordering.{Ordering}
use Rattle.std.specs.declared.cmp.Ordering.TheVariants.{Less, Equal, Greater}
use Rattle.buffer.proofs.Choices.{then_is, else_is}
use Rattle.buffer.proofs.Ordering.{same_is, same_self, order_is, order_self, order_trans, order_turned, turned}
use Rattle.table.specs.Map.{Map, on_order, put, look, has, Above, Rising}

-- keys that are not equal in the order are not the same
pub unequal : (a b : List ℕ) → (order a b ≡ Equal → ⊥) → same_bytes a b ≡ false
unequal a b n = by (same_bytes a b) refl
  where
    by : (t : Bool) → same_bytes a b ≡ t → same_bytes a b ≡ false
    by true e = absurd (n (rw (same_is a b e) (order_self b)))
    by false e = e

pub less_unequal : (a b : List ℕ) → order a b ≡ Less → same_bytes a b ≡ false
less_unequal a b e = unequal a b (λ q. let z : ◌≡◌ {A = ℕ} 0 1 = cc in omega arith)

pub greater_unequal : (a b : List ℕ) → order a b ≡ Greater → same_bytes a b ≡ false
greater_unequal a b e = unequal a b (λ q. let z : ◌≡◌ {A = ℕ} 0 1 = cc in omega arith)

pub equal_same : (a b : List ℕ) → order a b ≡ Equal → same_bytes a b ≡ true
equal_same a b e = rw (order_is a b e) (same_self b)

-- `put` by the order of its key and the first one
module _ (k v : List ℕ) (e : List ℕ × List ℕ) (m : Map) where
  pub put_less : order k e.0 ≡ Less → put k v (e ∷ m) ≡ (k, v) ∷ e ∷ m
  unfolding put
  put_less h = ap (λ (o : Ordering). on_order o ((k, v) ∷ e ∷ m) ((k, v) ∷ m) (e ∷ put k v m)) h

  pub put_equal : order k e.0 ≡ Equal → put k v (e ∷ m) ≡ (k, v) ∷ m
  unfolding put
  put_equal h = ap (λ (o : Ordering). on_order o ((k, v) ∷ e ∷ m) ((k, v) ∷ m) (e ∷ put k v m)) h

  pub put_greater : order k e.0 ≡ Greater → put k v (e ∷ m) ≡ e ∷ put k v m
  unfolding put
  put_greater h = ap (λ (o : Ordering). on_order o ((k, v) ∷ e ∷ m) ((k, v) ∷ m) (e ∷ put k v m)) h

pub put_none : (k v : List ℕ) → put k v [] ≡ (k, v) ∷ []
unfolding put
put_none k v = refl

-- KEYS RISE, and stay so
above_put : (j k v : List ℕ) (m : Map) → order j k ≡ Less → Above j m → Above j (put k v m)
above_put j k v [] h a = rw (put_none k v) h
above_put j k v (e ∷ m) h a = by (order k e.0) refl
  where
    by : (o : Ordering) → order k e.0 ≡ o → Above j (put k v (e ∷ m))
    by Less q = rw (put_less k v e m q) h
    by Equal q = rw (put_equal k v e m q) h
    by Greater q = rw (put_greater k v e m q) a

above_less : (j k : List ℕ) (m : Map) → order j k ≡ Less → Above k m → Above j m
above_less j k [] h a = tt
above_less j k (e ∷ m) h a = order_trans j k e.0 h a

pub put_rises : (k v : List ℕ) (m : Map) → Rising m → Rising (put k v m)
put_rises k v [] r = rw (put_none k v) (tt, tt)
put_rises k v (e ∷ m) r = by (order k e.0) refl (put_rises k v m r.1)
  where
    by : (o : Ordering) → order k e.0 ≡ o → Rising (put k v m) → Rising (put k v (e ∷ m))
    by Less q again = rw (put_less k v e m q) (q, r)
    by Equal q again = rw (put_equal k v e m q) (rw (order_is k e.0 q) r.0, r.1)
    by Greater q again =
        rw (put_greater k v e m q) (above_put e.0 k v m (order_turned k e.0 ∙ ap turned q) r.0, again)

-- THE LAST VALUE STANDS, and OTHER KEYS STAY
pub look_put : (j k v : List ℕ) (m : Map) → look j (put k v m) ≡ cond (same_bytes j k) (some v) (look j m)
unfolding look
look_put j k v [] = ap (look j) (put_none k v)
look_put j k v (e ∷ m) = by (order k e.0) refl (look_put j k v m)
  where
    equal : (t : Bool) (x : Option (List ℕ)) → cond t (some v) x ≡ cond t (some v) (cond t (some e.1) x)
    equal true x = refl
    equal false x = refl

    never : same_bytes j k ≡ true → same_bytes j e.0 ≡ true → order k e.0 ≡ Greater → ⊥
    never p q g =
        let s : order k e.0 ≡ Equal = rw (sym (same_is j k p), sym (same_is j e.0 q)) (order_self j) in
        let z : ◌≡◌ {A = ℕ} 0 1 = cc in
        omega arith

    swap : (t u : Bool) (x : Option (List ℕ)) → same_bytes j k ≡ t → same_bytes j e.0 ≡ u → order k e.0 ≡ Greater
        → cond u (some e.1) (cond t (some v) x) ≡ cond t (some v) (cond u (some e.1) x)
    swap true true x p q g = absurd (never p q g)
    swap true false x p q g = refl
    swap false u x p q g = refl

    by : (o : Ordering) → order k e.0 ≡ o → look j (put k v m) ≡ cond (same_bytes j k) (some v) (look j m)
        → look j (put k v (e ∷ m)) ≡ cond (same_bytes j k) (some v) (look j (e ∷ m))
    by Less q again = ap (look j) (put_less k v e m q)
    by Equal q again =
        ap (look j) (put_equal k v e m q)
        ∙ rw (sym (order_is k e.0 q)) (equal (same_bytes j k) (look j m))
    by Greater q again =
        ap (look j) (put_greater k v e m q)
        ∙ ap (λ (x : Option (List ℕ)). cond (same_bytes j e.0) (some e.1) x) again
        ∙ swap (same_bytes j k) (same_bytes j e.0) (look j m) refl refl q

pub last_stands : (k v : List ℕ) (m : Map) → look k (put k v m) ≡ some v
last_stands k v m = look_put k k v m ∙ then_is _ _ _ (same_self k)

pub others_stay : (j k v : List ℕ) (m : Map) → (j ≡ k → ⊥) → look j (put k v m) ≡ look j m
others_stay j k v m n = look_put j k v m ∙ else_is _ _ _ (differ (same_bytes j k) refl)
  where
    differ : (t : Bool) → same_bytes j k ≡ t → same_bytes j k ≡ false
    differ true e = absurd (n (same_is j k e))
    differ false e = e

-- a key is there exactly if it has a value
abbrev pub is_some : Option (List ℕ) → Bool
is_some none = false
is_some (some v) = true

pub has_look : (k : List ℕ) (m : Map) → has k m ≡ is_some (look k m)
unfolding has look
has_look k [] = refl
has_look k (e ∷ m) = by (same_bytes k e.0) (has_look k m)
  where
    by : (t : Bool) → has k m ≡ is_some (look k m) → cond t true (has k m) ≡ is_some (cond t (some e.1) (look k m))
    by true h = refl
    by false h = h

-- the key that is put is in, and of any other it does not matter
pub has_put : (j k v : List ℕ) (m : Map) → has j (put k v m) ≡ cond (same_bytes j k) true (has j m)
has_put j k v m = has_look j (put k v m) ∙ ap is_some (look_put j k v m) ∙ by (same_bytes j k)
  where
    by : (t : Bool) → is_some (cond t (some v) (look j m)) ≡ cond t true (has j m)
    by true = refl
    by false = sym (has_look j m)

pub put_in : (k v : List ℕ) (m : Map) → has k (put k v m) ≡ true
put_in k v m = has_put k k v m ∙ then_is _ _ _ (same_self k)

-- a key below all others is not there
pub above_not : (k : List ℕ) (m : Map) → Above k m → Rising m → has k m ≡ false
unfolding has
above_not k [] a r = refl
above_not k (e ∷ m) a r = else_is _ _ _ (less_unequal k e.0 a) ∙ above_not k m (above_less k e.0 m a r.0) r.1

-- ONE KEY MORE AT MOST: as many keys as before if the key is there, and one more if not
pub put_length : (k v : List ℕ) (m : Map) → Rising m → length (put k v m) ≡ cond (has k m) (length m) (suc (length m))
unfolding has
put_length k v [] r = ap length (put_none k v)
put_length k v (e ∷ m) r = by (order k e.0) refl (put_length k v m r.1)
  where
    deeper : (t : Bool) → suc (cond t (length m) (suc (length m))) ≡ cond t (suc (length m)) (suc (suc (length m)))
    deeper true = refl
    deeper false = refl

    by : (o : Ordering) → order k e.0 ≡ o → length (put k v m) ≡ cond (has k m) (length m) (suc (length m))
        → length (put k v (e ∷ m)) ≡ cond (has k (e ∷ m)) (suc (length m)) (suc (suc (length m)))
    by Less q again =
        ap length (put_less k v e m q) ∙ sym (else_is _ _ _ (above_not k (e ∷ m) q r))
    by Equal q again =
        ap length (put_equal k v e m q) ∙ sym (then_is _ _ _ (then_is (same_bytes k e.0) true (has k m) (equal_same k e.0 q)))
    by Greater q again =
        ap length (put_greater k v e m q)
        ∙ ap suc again
        ∙ deeper (has k m)
        ∙ ap (λ (t : Bool). cond t (suc (length m)) (suc (suc (length m)))) (sym (else_is (same_bytes k e.0) true (has k m) (greater_unequal k e.0 q)))

pub put_grows : (k v : List ℕ) (m : Map) → Rising m → (length m ≤ length (put k v m)) × (length (put k v m) ≤ length m + 1)
put_grows k v m r = by (has k m) (put_length k v m r)
  where
    by : (t : Bool) → length (put k v m) ≡ cond t (length m) (suc (length m)) → (length m ≤ length (put k v m)) × (length (put k v m) ≤ length m + 1)
    by true e = (omega arith, omega arith)
    by false e = (omega arith, omega arith)

-- ONE MAP: two maps that rise and have the same values are the same, so `put` is the only way to do what these laws say
above_none : (k : List ℕ) (m : Map) → Above k m → Rising m → look k m ≡ none
above_none k m a r = nothing (look k m) (sym (has_look k m) ∙ above_not k m a r)
  where
    nothing : (o : Option (List ℕ)) → is_some o ≡ false → o ≡ none
    nothing none e = refl
    nothing (some v) e = cc

look_first : (e : List ℕ × List ℕ) (m : Map) → look e.0 (e ∷ m) ≡ some e.1
unfolding look
look_first e m = then_is _ _ _ (same_self e.0)

look_after : (k : List ℕ) (e : List ℕ × List ℕ) (m : Map) → same_bytes k e.0 ≡ false → look k (e ∷ m) ≡ look k m
unfolding look
look_after k e m p = else_is _ _ _ p

some_none : (v : List ℕ) → some v ≡ none → ⊥
some_none v e = let z : ◌≡◌ {A = ℕ} 0 1 = cc in omega arith

pub rising_same : (m n : Map) → Rising m → Rising n → ((k : List ℕ) → look k m ≡ look k n) → m ≡ n
rising_same [] [] r s h = refl
rising_same [] (f ∷ n) r s h = absurd (some_none f.1 (sym (look_first f n) ∙ sym (h f.0) ∙ above_none f.0 [] tt tt))
rising_same (e ∷ m) [] r s h = absurd (some_none e.1 (sym (look_first e m) ∙ h e.0 ∙ above_none e.0 [] tt tt))
rising_same (e ∷ m) (f ∷ n) r s h = by (order e.0 f.0) refl (λ g. rising_same m n r.1 s.1 g)
  where
    rests : e.0 ≡ f.0 → (k : List ℕ) → (t : Bool) → same_bytes k e.0 ≡ t → look k m ≡ look k n
    rests q k true p =
        let same : k ≡ e.0 = same_is k e.0 p in
        let a : look k m ≡ none = rw same (above_none e.0 m r.0 r.1) in
        let b : look k n ≡ none = rw (same, q) (above_none f.0 n s.0 s.1) in
        a ∙ sym b
    rests q k false p =
        sym (look_after k e m p) ∙ h k ∙ look_after k f n (rw q at p)

    firsts : e.0 ≡ f.0 → e.1 ≡ f.1
    firsts q =
        let a : some e.1 ≡ some f.1 = sym (look_first e m) ∙ h e.0 ∙ ap (λ (k : List ℕ). look k (f ∷ n)) q ∙ look_first f n in
        cc

    by : (o : Ordering) → order e.0 f.0 ≡ o → (((k : List ℕ) → look k m ≡ look k n) → m ≡ n) → e ∷ m ≡ f ∷ n
    by Less q again = absurd (some_none e.1 (sym (look_first e m) ∙ h e.0 ∙ above_none e.0 (f ∷ n) q s))
    by Greater q again =
        absurd (some_none f.1 (sym (look_first f n) ∙ sym (h f.0) ∙ above_none f.0 (e ∷ m) (order_turned e.0 f.0 ∙ ap turned q) r))
    by Equal q again =
        let k : e.0 ≡ f.0 = order_is e.0 f.0 q in
        let pair : e ≡ f = ap (λ (x : List ℕ). (x, e.1)) k ∙ ap (λ (y : List ℕ). (f.0, y)) (firsts k) in
        cc (again (λ j. rests k j (same_bytes j e.0) refl))
