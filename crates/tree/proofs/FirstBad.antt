-- The number of a bad image is that of its first frame that breaks a rule: all before it obey, and it does not.
use Rattle.std.specs.Prelude.{Err, Result, ⊤}
use Prim.Native.Nat.{ℕ, ◌+◌, ◌≤◌}
use mathlib.Core.Path.{◌≡◌, refl, sym, ap, ◌∙◌}
use mathlib.Core.Bool.{Bool, true, false, cond}
use mathlib.Core.List.{List, [], ◌∷◌, ◌++◌, map}
use native.Mathlib.Omega.{arith}
use lib.ListN.{length}
use borrow.Author.Tests.{le-ltb}
use Rattle.buffer.proofs.Choices.{then_is, else_is}
use Rattle.image.specs.Frames.{Frame}
use Rattle.tree.specs.declared.check.BadFrame.{BadFrame}
use Rattle.tree.specs.Images.{Item, whole, torn, items}
use Rattle.tree.specs.Rules.{Seen, start, obeys, after, judge_items, obey_all, check_tree}

-- what is known after frames
unfoldable pub after_all : Seen → List Frame → Seen
after_all seen [] = seen
after_all seen (f ∷ frames) = after_all (after seen f) frames

-- bytes that are no frame, or a frame that does not obey after those before it
abbrev pub Breaks : Seen → Item → Type 0
Breaks seen (whole f) = obeys seen f ≡ false
Breaks seen torn = Unit {0}

-- item n of a list, of which k are passed already, is the first that breaks a rule
pub record FirstBad (seen : Seen) (k : ℕ) (list : List Item) (n : ℕ) : Type 0 where
  pub before : List Frame
  pub bad : Item
  pub rest : List Item
  pub are : list ≡ map whole before ++ (bad ∷ rest)
  pub number : n ≡ k + length before
  pub obey : obey_all seen before ≡ true
  pub breaks : Breaks (after_all seen before) bad

-- a refusal has one number
same_number : (k n : ℕ) → ◌≡◌ {A = Result ⊤ BadFrame} (Err (record { number = k })) (Err (record { number = n })) → k ≡ n
same_number k n e =
    let z : ◌≡◌ {A = BadFrame} (record { number = k }) (record { number = n }) = cc in ap (λ (b : BadFrame). b.number) z

judged_bad : (list : List Item) (seen : Seen) (k n : ℕ) → judge_items seen k list ≡ Err (record { number = n }) → FirstBad seen k list n
unfolding judge_items obey_all after_all
judged_bad [] seen k n e = absurd (let z : ◌≡◌ {A = ℕ} 0 1 = cc in omega arith)
judged_bad (torn ∷ list) seen k n e =
    let z : k ≡ n = same_number k n e in record { before = []; bad = torn; rest = list; are = refl; number = omega arith; obey = refl; breaks = tt }
judged_bad (whole f ∷ list) seen k n e = by (obeys seen f) refl e (λ q. judged_bad list (after seen f) (k + 1) n q)
  where
    by : (t : Bool) → obeys seen f ≡ t → cond t (judge_items (after seen f) (k + 1) list) (Err (record { number = k })) ≡ Err (record { number = n })
        → (judge_items (after seen f) (k + 1) list ≡ Err (record { number = n }) → FirstBad (after seen f) (k + 1) list n) → FirstBad seen k (whole f ∷ list) n
    by false p q more = let z : k ≡ n = same_number k n q in record { before = []; bad = whole f; rest = list; are = refl; number = omega arith; obey = refl; breaks = p }
    by true p q more =
        let m = more q in
        let number = m.number in
        record {
          before = f ∷ m.before;
          bad = m.bad;
          rest = m.rest;
          are = ap (λ (x : List Item). whole f ∷ x) m.are;
          number = omega arith;
          obey = then_is _ _ _ p ∙ m.obey;
          breaks = m.breaks;
        }

pub first_bad_lem : (image : List ℕ) (n : ℕ) → length image ≤ 32768 → check_tree image ≡ Err (record { number = n }) → FirstBad start 0 (items image) n
unfolding check_tree
first_bad_lem image n h e = judged_bad (items image) start 0 n (sym (else_is _ _ _ (le-ltb 32768 (length image) h)) ∙ e)
