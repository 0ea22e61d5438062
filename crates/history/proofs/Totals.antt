-- Laws of the bytes in use: the total of entries one after the other, after an add, from a number on, in slots, and at most.
use Prim.Native.Nat.{ℕ, zero, suc, ◌+◌, ◌-◌, ◌*◌, ◌<◌, ◌≤◌}
use mathlib.Core.Path.{◌≡◌, refl, sym, ap, ◌∙◌}
use mathlib.Core.Bool.{Bool, true, false, cond}
use mathlib.Core.List.{List, [], ◌∷◌, ◌++◌}
use native.Mathlib.Omega.{arith}
use lib.Dec.{ltb}
use lib.ListN.{length, take, drop, get_or, length-drop}
use lib.Seq.{length-take-le, take-suc, get_or-drop}
use Rattle.history.specs.Entries.{most_entries, is_new, with_room, added, total}
use Rattle.history.specs.Slots.{entry}
use Rattle.history.specs.Inner.{entries_of}
use Rattle.history.proofs.Layouts.{Short, none, more}
use Rattle.history.proofs.Judging.{length_entry}

-- entries one after the other, a text more, and the oldest less
pub total_append : (es fs : List (List ℕ)) → total (es ++ fs) ≡ total es + total fs
unfolding total
total_append [] fs = omega arith
total_append (e ∷ es) fs = let k = total_append es fs in omega arith

pub total_more : (es : List (List ℕ)) (t : List ℕ) → total (es ++ (t ∷ [])) ≡ total es + length t
unfolding total
total_more es t = let k = total_append es (t ∷ []) in omega arith

pub total_less : (es : List (List ℕ)) → total es ≡ length (get_or es 0 []) + total (drop 1 es)
unfolding total
total_less [] = refl
total_less (e ∷ es) = refl

-- entries from a number on: none of them, and one of them more
pub total_none : (es : List (List ℕ)) (start : ℕ) → 0 ≡ total (take (start - start) (drop start es))
unfolding total
total_none es start = let z : start - start ≡ 0 = omega arith in sym (ap (λ (n : ℕ). total (take n (drop start es))) z)

pub total_on : (es : List (List ℕ)) (start i : ℕ) → start ≤ i → i < length es
    → total (take (i + 1 - start) (drop start es)) ≡ total (take (i - start) (drop start es)) + length (get_or es i [])
total_on es start i h l =
    let j : ℕ = i - start in
    let d = length-drop start es in
    let next : i + 1 - start ≡ suc j = omega arith in
    let at : start + j ≡ i = omega arith in
    ap (λ (n : ℕ). total (take n (drop start es))) next
    ∙ ap total (take-suc (drop start es) j [] (omega arith))
    ∙ total_more (take j (drop start es)) (get_or (drop start es) j [])
    ∙ ap (λ (e : List ℕ). total (take j (drop start es)) + length e) (get_or-drop start es j [] ∙ ap (λ (n : ℕ). get_or es n []) at)

-- after a text was offered: what it adds and what it drops
pub total_added : (text : List ℕ) (es : List (List ℕ))
    → total (added text es) ≡ cond (is_new text es) (cond (ltb (length es) most_entries) (total es) (total es - length (get_or es 0 [])) + length text) (total es)
unfolding added with_room
total_added text es = by (is_new text es) (ltb (length es) most_entries)
  where
    by : (n r : Bool) → total (cond n (cond r es (drop 1 es) ++ (text ∷ [])) es) ≡ cond n (cond r (total es) (total es - length (get_or es 0 [])) + length text) (total es)
    by false r = refl
    by true true = total_more es text
    by true false = let m = total_more (drop 1 es) text in let l = total_less es in omega arith

-- at most 255 for each entry
pub total_most : (es : List (List ℕ)) → Short es → total es ≤ 255 * length es
unfolding total
total_most [] none = omega arith
total_most (e ∷ es) (more h hs) = let k = total_most es hs in omega arith

-- in slots, one after the other: the length byte of each
pub total_turn : (s : List ℕ) (n byte : ℕ) → 0 < n → 256 ≤ length s → byte ≡ get_or (take 256 s) 0 0 → byte ≤ 255
    → total (entries_of n s) ≡ byte + total (entries_of (n - 1) (drop 256 s))
unfolding total entries_of
total_turn s zero byte h fits e small = absurd (omega arith)
total_turn s (suc n) byte h fits e small =
    let whole : length (take 256 s) ≡ 256 = length-take-le 256 s fits in
    let size : length (entry (take 256 s)) ≡ byte = length_entry (take 256 s) whole (omega arith) ∙ sym e in
    let less : suc n - 1 ≡ n = omega arith in
    ap (λ (k : ℕ). k + total (entries_of n (drop 256 s))) size
    ∙ ap (λ (k : ℕ). byte + total (entries_of k (drop 256 s))) (sym less)
