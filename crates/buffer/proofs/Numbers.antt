-- Laws of numbers in bytes, over their width: a number is that of its bytes, and bytes are those of their number.
use Prim.Native.Nat.{ℕ, zero, suc, ◌+◌, ◌*◌, ◌/◌, ◌%◌, ◌^◌, ◌≤◌, ◌<◌}
use mathlib.Core.Path.{◌≡◌, refl, ap, ◌∙◌}
use mathlib.Core.List.{List, [], ◌∷◌, ◌++◌}
use native.Mathlib.Omega.{arith}
use native.Mathlib.Nat.{add-zero, div-one, mod-lt, one-le-pow, div-add-mod', mul-add-div_right, mul-add-mod_self_right, div-eq_of_lt, mod-eq_of_lt, mul-le-mul_right, pow-suc}
use lib.ListN.{length, take, drop, get_or}
use lib.Seq.{get_or-drop}
use Rattle.buffer.specs.Numbers.{Bytes, number_bytes, number_of}
use Rattle.buffer.proofs.Lists.{drop_step}

pub length_number : (w n : ℕ) → length (number_bytes w n) ≡ w
unfolding number_bytes
length_number zero n = refl
length_number (suc w) n = ap suc (length_number w (n % 256 ^ w))

some : (w : ℕ) → 0 < 256 ^ w
some w = one-le-pow w 256 (omega arith)

-- a number that fits its bytes is their number
first_and_rest : (w n : ℕ) → number_of (number_bytes w (n % 256 ^ w)) ≡ n % 256 ^ w → number_of (number_bytes (suc w) n) ≡ n
unfolding number_bytes number_of
first_and_rest w n e = rw (length_number w (n % 256 ^ w), e) (div-add-mod' n (256 ^ w))

pub number_value : (w n : ℕ) → n < 256 ^ w → number_of (number_bytes w n) ≡ n
unfolding number_bytes number_of
number_value zero n h = omega arith
number_value (suc w) n h = first_and_rest w n (number_value w (n % 256 ^ w) (mod-lt n (some w)))

-- and any number is that of its bytes, if there are some: the first is then no byte where it does not fit
pub number_kept : (w n : ℕ) → number_of (number_bytes (suc w) n) ≡ n
number_kept w n = first_and_rest w n (number_value w (n % 256 ^ w) (mod-lt n (some w)))

-- the numbers of one and of two bytes
pub number_one : (n : ℕ) → number_bytes 1 n ≡ n ∷ []
unfolding number_bytes
number_one n = ap (λ (b : ℕ). b ∷ []) (div-one n)

pub number_two : (n : ℕ) → number_bytes 2 n ≡ n / 256 ∷ n % 256 ∷ []
unfolding number_bytes
number_two n = ap (λ (b : ℕ). n / 256 ∷ b ∷ []) (div-one (n % 256))

-- a number's bytes are those it is made of
below_next : (b v p : ℕ) → b < 256 → v < p → b * p + v < p * 256
below_next b v p h k = let m : b * p ≤ 255 * p = mul-le-mul_right p (omega arith) in omega arith

pub value_below : (s : List ℕ) → Bytes s → number_of s < 256 ^ length s
unfolding number_of Bytes
value_below [] h = omega arith
value_below (b ∷ s) h =
    rw (pow-suc 256 (length s)) (below_next b (number_of s) (256 ^ length s) (h 0) (value_below s (λ i. h (suc i))))

pub value_number : (s : List ℕ) → Bytes s → number_bytes (length s) (number_of s) ≡ s
unfolding number_bytes number_of Bytes
value_number [] h = refl
value_number (b ∷ s) h =
    let p : ℕ = 256 ^ length s in
    let v : ℕ = number_of s in
    let k : v < p = value_below s (λ i. h (suc i)) in
    let q : (b * p + v) / p ≡ b = mul-add-div_right (some (length s)) b v ∙ ap (λ (n : ℕ). b + n) (div-eq_of_lt k) ∙ add-zero b in
    let m : (b * p + v) % p ≡ v = mul-add-mod_self_right b p v ∙ mod-eq_of_lt k in
    rw (q, m) (ap (λ (l : List ℕ). b ∷ l) (value_number s (λ i. h (suc i))))

-- a part of a list of bytes is one
pub bytes_take : (n : ℕ) (s : List ℕ) → Bytes s → Bytes (take n s)
unfolding Bytes
bytes_take zero s h i = omega arith
bytes_take (suc n) [] h i = omega arith
bytes_take (suc n) (b ∷ s) h zero = h 0
bytes_take (suc n) (b ∷ s) h (suc i) = bytes_take n s (λ j. h (suc j)) i

pub bytes_drop : (n : ℕ) (s : List ℕ) → Bytes s → Bytes (drop n s)
unfolding Bytes
bytes_drop n s b i = rw (get_or-drop n s i 0) (b (n + i))

-- and so are two together
pub bytes_append : (s t : List ℕ) → Bytes s → Bytes t → Bytes (s ++ t)
unfolding Bytes
bytes_append [] t h k i = k i
bytes_append (b ∷ s) t h k zero = h 0
bytes_append (b ∷ s) t h k (suc i) = bytes_append s t (λ j. h (suc j)) k i

-- the number in front of a place
pub value_two : (s : List ℕ) (at : ℕ) → at + 1 < length s → number_of (take 2 (drop at s)) ≡ get_or s at 0 * 256 + get_or s (at + 1) 0
unfolding number_of
value_two s at h = rw (drop_step s at 0 (omega arith), drop_step s (at + 1) 0 h) (omega arith)
