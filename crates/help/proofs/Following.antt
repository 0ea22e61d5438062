-- Laws of following words: one word, then the words after it from the subtree that it names.
use Rattle.std.specs.Prelude.{Ok, Some, None, Option}
use Prim.Native.Nat.{ℕ, suc, ◌+◌, ◌-◌, ◌≤◌}
use mathlib.Core.Path.{◌≡◌, refl, sym, ap, ◌∙◌}
use mathlib.Core.Bool.{Bool, true, false, cond}
use mathlib.Core.List.{List, [], ◌∷◌}
use native.Mathlib.Omega.{arith}
use native.Mathlib.Numerals.{add-one}
use lib.ListN.{length, take, drop, length-take, length-drop}
use lib.Seq.{drop-drop, take-take, take_all}
use Rattle.buffer.proofs.Lists.{drop_take}
use Rattle.text.specs.Apart.{words_between, next_word}
use Rattle.buffer.specs.Lend.{between}
use Rattle.buffer.specs.Numbers.{Bytes}
use Rattle.buffer.specs.declared.lend.Span.{Span}
use Rattle.image.specs.Frames.{Frame, encode_frame}
use Rattle.tree.specs.Images.{frames_of, flat}
use Rattle.tree.specs.Rules.{start, check_tree}
use Rattle.tree.proofs.WellFormedImages.{AllFit, frames_flat, obey_fit, good_well_formed}
use Rattle.tree.specs.Subtrees.{up_to, on_from, rooted, subtree}
use Rattle.lookup.specs.Spots.{shifted, place_of, spot}
use Rattle.lookup.specs.Searches.{wanted, ended_by}
use Rattle.lookup.specs.Nodes.{find_node}
use Rattle.lookup.specs.Subtrees.{PartHolds}
use Rattle.lookup.specs.declared.look.Sought.TheVariants.{Node, Upper}
use Rattle.lookup.proofs.Subtrees.{find_holds}
use Rattle.help.proofs.SpacedWords.{NextTold, next_told, next_nothing}
use Rattle.help.specs.Paths.{found, lost, on_subtree, followed, FoundAt, LostAt}

-- the frames of a subtree fit as all do
fit_up : (test : Frame → Bool) (fs : List Frame) → AllFit fs → AllFit (up_to test fs)
unfolding up_to
fit_up test [] k = tt
fit_up test (f ∷ l) k = by (test f) (fit_up test l k.1)
  where
    by : (t : Bool) → AllFit (up_to test l) → AllFit (cond t [] (f ∷ up_to test l))
    by true m = tt
    by false m = (k.0, m)

fit_on : (test : Frame → Bool) (fs : List Frame) → AllFit fs → AllFit (on_from test fs)
unfolding on_from
fit_on test [] k = tt
fit_on test (f ∷ l) k = by (test f) (fit_on test l k.1)
  where
    by : (t : Bool) → AllFit (on_from test l) → AllFit (cond t (f ∷ l) (on_from test l))
    by true m = k
    by false m = m

fit_rooted : (d : ℕ) (fs : List Frame) → AllFit fs → AllFit (rooted d fs)
fit_rooted d [] k = tt
fit_rooted d (f ∷ l) k = (k.0, fit_up (wanted (Upper d) []) l k.1)

fit_subtree : (d : ℕ) (name : List ℕ) (fs : List Frame) → AllFit fs → AllFit (subtree d name fs)
unfolding subtree
fit_subtree d name fs k = fit_rooted d (on_from (wanted (Node d) name) fs) (fit_on (wanted (Node d) name) fs k)

-- a subtree without frames is found nowhere
rooted_none : (d : ℕ) (fs : List Frame) → rooted d fs ≡ [] → fs ≡ []
rooted_none d [] e = refl
rooted_none d (f ∷ l) e = cc

place_none : (test ends : Frame → Bool) (fs : List Frame) → on_from test fs ≡ [] → place_of test ends fs ≡ None
unfolding on_from place_of
place_none test ends [] e = refl
place_none test ends (f ∷ l) e = by (test f) (ends f) e (place_none test ends l)
  where
    by : (t u : Bool) → cond t (f ∷ l) (on_from test l) ≡ [] → (on_from test l ≡ [] → place_of test ends l ≡ None)
        → cond u None (cond t (Some 0) (shifted (length (encode_frame f)) (place_of test ends l))) ≡ None
    by true u q more = cc
    by false true q more = refl
    by false false q more = rw (more q)

find_none : (d : ℕ) (name : List ℕ) (fs : List Frame) → AllFit fs → subtree d name fs ≡ [] → find_node (flat fs) d name ≡ None
unfolding subtree find_node spot
find_none d name fs fit e = rw (frames_flat fs fit, place_none (wanted (Node d) name) (ended_by (Node d)) fs (rooted_none d _ e))

-- a part of a part is a part of the whole
part_of_part : (s : List ℕ) (start end first last : ℕ) → start ≤ end → first ≤ last → last ≤ end - start → between (between s start end) first last ≡ between s (start + first) (start + last)
part_of_part s start end first last h k m =
    let n : start + last - (start + first) ≡ last - first = omega arith in
    ap (take (last - first)) (drop_take first (end - start) (drop start s))
    ∙ take-take (last - first) (end - start - first) (drop first (drop start s)) (omega arith)
    ∙ rw (n, drop-drop first start s)

-- words on their way: what is left of them leads from the part reached to where all of them lead
pub record OnPath (image line : List ℕ) (start end depth place : ℕ) : Type 0 where
  pub order : start ≤ end
  pub within : end ≤ length image
  pub in_line : place ≤ length line
  pub deep : depth ≤ place
  pub frames : List Frame
  pub fit : AllFit frames
  pub holds : between image start end ≡ flat frames
  pub same : followed depth frames (words_between (drop place line)) ≡ followed 0 (frames_of image) (words_between line)

module _ (image line : List ℕ) where
  pub sets_out : Bytes image → check_tree image ≡ Ok tt → OnPath image line 0 (length image) 0 0
  sets_out b good =
      let w = good_well_formed image b good in
      record {
        order = omega arith;
        within = omega arith;
        in_line = omega arith;
        deep = omega arith;
        frames = frames_of image;
        fit = obey_fit (frames_of image) start w.obey;
        holds = take_all (length image - 0) image (omega arith) ∙ w.joined;
        same = refl;
      }

  module _ (begin end depth place : ℕ) (way : OnPath image line begin end depth place) where
    ends : words_between (drop place line) ≡ [] → FoundAt image line begin end
    unfolding followed
    ends e =
        let k : found way.frames ≡ followed 0 (frames_of image) (words_between line) = rw e at way.same in
        record {
          order = way.order;
          within = way.within;
          leads = sym k ∙ ap found (sym (ap frames_of way.holds ∙ frames_flat way.frames way.fit));
        }

    module _ (w : Option Span) (e : w ≡ next_word place (drop place line)) where
      pub stops : w ≡ None → FoundAt image line begin end
      stops z = ends (next_nothing (drop place line) place (sym e ∙ z))

      module _ (span : Span) (k : w ≡ Some span) where
        pub told : NextTold line place span
        told = next_told line place span (sym e ∙ k)

        module _ (sub word : List ℕ) (a : sub ≡ between image begin end) (b : word ≡ between line span.start span.end) (p : Option Span) (c : p ≡ find_node sub depth word) where
          is_found : p ≡ find_node (flat way.frames) depth word
          is_found = c ∙ rw (a ∙ way.holds)

          part_holds : PartHolds (flat way.frames) (subtree depth word way.frames) p
          part_holds = rw (← is_found) at (find_holds depth word way.frames way.fit)

          words_are : words_between (drop place line) ≡ word ∷ words_between (drop span.end line)
          words_are = told.words ∙ ap (λ (x : List ℕ). x ∷ words_between (drop span.end line)) (sym b)

          leads_on : on_subtree word (subtree depth word way.frames) (λ below. followed (suc depth) below (words_between (drop span.end line)))
              ≡ followed 0 (frames_of image) (words_between line)
          unfolding followed
          leads_on = rw words_are at way.same

          -- a word that names no node
          pub loses : p ≡ None → LostAt image line span.start span.end
          loses n =
              let some = told.some in
              let none : subtree depth word way.frames ≡ [] = rw n at part_holds in
              let l : lost word ≡ followed 0 (frames_of image) (words_between line) = rw none at leads_on in
              record { order = omega arith; within = told.fits; leads = sym l ∙ ap lost b }

          -- a word that names one
          module _ (node : Span) (n : p ≡ Some node) where
            some_subtree : (l : List Frame) → subtree depth word way.frames ≡ l → on_subtree word l (λ below. followed (suc depth) below (words_between (drop span.end line))) ≡ followed (suc depth) l (words_between (drop span.end line))
            some_subtree [] q = absurd (let y = find_none depth word way.frames way.fit q in let z : ◌≡◌ {A = ℕ} 0 1 = cc (is_found, n) in omega arith)
            some_subtree (f ∷ l) q = refl

            pub goes_on_lem : OnPath image line (begin + node.start) (begin + node.end) (depth + 1) span.end
            goes_on_lem =
                let h : PartHolds (flat way.frames) (subtree depth word way.frames) (Some node) = rw n at part_holds in
                let size : length (flat way.frames) ≡ end - begin =
                sym (ap length way.holds) ∙ length-take (end - begin) (drop begin image) ∙ (let l = length-drop begin image in let o = way.order in let i = way.within in omega arith)
                in
                let after = told.after in
                let some = told.some in
                let o = way.order in
                let i = way.within in
                let d = way.deep in
                let h₀ = h.0 in
                let h₁ = h.1 in
                let m : node.end ≤ end - begin = omega arith in
                record {
                  order = omega arith;
                  within = omega arith;
                  in_line = told.fits;
                  deep = omega arith;
                  frames = subtree depth word way.frames;
                  fit = fit_subtree depth word way.frames way.fit;
                  holds = sym (part_of_part image begin end node.start node.end o h₀ m) ∙ ap (λ (x : List ℕ). between x node.start node.end) way.holds ∙ h.2;
                  same = rw (add-one depth) (sym (some_subtree (subtree depth word way.frames) refl) ∙ leads_on);
                }
