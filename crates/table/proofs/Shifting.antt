-- Laws of a list in which a place is opened: what is moved turn by turn, and what stands there in the end.
use Prim.Native.Nat.{ℕ, suc, ◌+◌, ◌-◌, ◌≤◌, ◌<◌}
use mathlib.Core.Path.{◌≡◌, refl, sym, ap, ◌∙◌}
use mathlib.Core.List.{List, ◌∷◌, ◌++◌, append-nil}
use native.Mathlib.Omega.{arith}
use native.Mathlib.Numerals.{add-one}
use lib.ListN.{length, take, drop, set, get_or, length-append, length-drop}
use lib.Seq.{length-take-le, take_at, drop_at, get_or_at, take-add, take-take}
use borrow.Rule.Slice.PartMut.{put_mid, post_of}
use Rattle.std.proofs.lemmas.Slice.{take-put_mid}
use Rattle.buffer.proofs.Lists.{drop_step, drop_end}
use Rattle.buffer.proofs.Lending.{copy_step}
use Rattle.table.specs.Inner.{opened}

pub length_opened : {A : Type 0} (place : ℕ) (e : A) (l : List A) → place ≤ length l → length (opened place e l) ≡ length l + 1
length_opened place e l h =
    let a = length-append (take place l) (e ∷ drop place l) in
    let b = length-take-le place l h in
    let d = length-drop place l in
    omega arith

module _ (e : ℕ) (l : List ℕ) where
  -- a shift in progress: i elements as they will be, the rest as it was, and the next one in hand
  pub record Shift (now : List ℕ) (moved i : ℕ) : Type 0 where
    pub bytes : now ≡ take i (e ∷ l) ++ drop i l
    pub next : moved ≡ get_or (e ∷ l) i 0

  pub shift_turn : (now : List ℕ) (moved i x next : ℕ) → i < length l → Shift now moved i → x ≡ moved → next ≡ get_or now i 0
      → Shift (set now i x) next (i + 1)
  shift_turn now moved i x next k s p q =
      let front : length (take i (e ∷ l)) ≡ i = length-take-le i (e ∷ l) (omega arith) in
      record {
        bytes = rw (p, s.bytes, s.next) (copy_step (e ∷ l) l i (omega arith) k);
        next =
            q
            ∙ ap (λ (x : List ℕ). get_or x i 0) (s.bytes ∙ ap (λ (d : List ℕ). take i (e ∷ l) ++ d) (drop_step l i 0 k))
            ∙ get_or_at (take i (e ∷ l)) (get_or l i 0) (drop (i + 1) l) 0 i front
            ∙ ap (λ (j : ℕ). get_or (e ∷ l) j 0) (sym (add-one i));
      }

  pub shift_end : (now : List ℕ) (moved i : ℕ) → length l ≤ i → i ≤ length l → Shift now moved i → now ≡ take (length l) (e ∷ l)
  shift_end now moved i h k s =
      s.bytes
      ∙ ap (λ (d : List ℕ). take i (e ∷ l) ++ d) (drop_end l i h)
      ∙ append-nil (take i (e ∷ l))
      ∙ ap (λ (j : ℕ). take j (e ∷ l)) (let same : i ≡ length l = omega arith in same)

module _ (place e : ℕ) (l : List ℕ) where
  -- opening a place in the first n elements
  cut_opened : (n : ℕ) → place ≤ n → n ≤ length l → take place l ++ e ∷ take (n - place) (drop place l) ≡ opened place e (take n l)
  cut_opened n h k =
      let b : length (take place l) ≡ place = length-take-le place l (omega arith) in
      let m : n ≡ place + (n - place) = omega arith in
      let cut : take n l ≡ take place l ++ take (n - place) (drop place l) = ap (λ (j : ℕ). take j l) m ∙ take-add place (n - place) l in
      let x : take place (take n l) ≡ take place l = ap (take place) cut ∙ take_at (take place l) (take (n - place) (drop place l)) place b in
      let y : drop place (take n l) ≡ take (n - place) (drop place l) = ap (drop place) cut ∙ drop_at (take place l) (take (n - place) (drop place l)) place b in
      rw (x, y) refl

  -- the elements from the place to n are shifted: the place is opened in the first n
  pub shifted_opened : (n : ℕ) (left : List ℕ) → place ≤ n → n < length l
      → left ≡ take (length (take (n + 1 - place) (drop place l))) (e ∷ take (n + 1 - place) (drop place l))
      → (length (put_mid place (n + 1 - place) l left) ≡ length l) × (take (n + 1) (put_mid place (n + 1 - place) l left) ≡ opened place e (take n l))
  shifted_opened n left h k q =
      let m : List ℕ = take (n + 1 - place) (drop place l) in
      let b : length (take place l) ≡ place = length-take-le place l (omega arith) in
      let d : length (drop place l) ≡ length l - place = length-drop place l in
      let size : length m ≡ suc (n - place) = length-take-le (n + 1 - place) (drop place l) (omega arith) ∙ (let z : n + 1 - place ≡ suc (n - place) = omega arith in z) in
      let front : take (n - place) m ≡ take (n - place) (drop place l) = take-take (n - place) (n + 1 - place) (drop place l) (omega arith) in
      let is : left ≡ e ∷ take (n - place) (drop place l) = q ∙ ap (λ (j : ℕ). take j (e ∷ m)) size ∙ ap (λ (t : List ℕ). e ∷ t) front in
      let len : length left ≡ suc (n - place) = ap length is ∙ ap suc (length-take-le (n - place) (drop place l) (omega arith)) in
      let all : n + 1 ≡ place + length left = omega arith in
      let tail : List ℕ = post_of place (n + 1 - place) l in (
        length-append (take place l) (left ++ tail)
            ∙ (let x = length-append left tail in let y = length-drop (n + 1 - place) (drop place l) in omega arith),
        take-put_mid place (n + 1 - place) l left (n + 1) all (omega arith)
            ∙ ap (λ (t : List ℕ). take place l ++ t) is
            ∙ cut_opened n h (omega arith),
      )
