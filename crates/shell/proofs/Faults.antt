-- Laws of the messages: a text after its dashes, and the words of a path joined by spaces.
use Prim.Native.Nat.{ℕ, ◌+◌, ◌-◌, ◌≤◌}
use mathlib.Core.Path.{◌≡◌, refl, sym, ap, ◌∙◌}
use mathlib.Core.List.{List, [], ◌∷◌, ◌++◌, append_assoc}
use native.Mathlib.Omega.{arith}
use lib.ListN.{length, take, drop, replicate, length-append, length-take, length-drop, length-replicate}
use lib.Seq.{take-append_seam, take_at}
use Rattle.buffer.specs.Write.{over, over_at, Pushed}
use Rattle.buffer.proofs.Lending.{over_at_front}
use Rattle.frame.specs.Framed.{frame_first}
use Rattle.frame.specs.Series.{texts_in, AllFrames}
use Rattle.frame.specs.declared.framed.Framed.TheVariants.{Frame}
use Rattle.frame.proofs.Series.{texts_end, word_within, word_length, words_more, all_next}
use Rattle.table.specs.Inner.{part_of}
use Rattle.report.specs.Inner.{dashed}
use Rattle.buffer.specs.Ascii.{ascii}
use Rattle.buffer.specs.Inks.{Inked, Countable}
use Rattle.buffer.proofs.Inking.{inked_nothing, inked_both, inked_as}
use Rattle.help.specs.Texts.{spaced}
use Rattle.shell.specs.Lines.{joined}

-- A TEXT AFTER ITS DASHES: the dashes fill the front of a buffer, and the text is put after them
pub dashed_put : (dashes r : ℕ) (text out front left : List ℕ) → dashes ≤ length out → front ≡ replicate (length (take dashes out)) 0x2D
    → Pushed text (front ++ drop dashes out) dashes r left → take r left ≡ dashed dashes text
unfolding over over_at dashed
dashed_put dashes r text out front left h e p =
    let n : length (take dashes out) ≡ dashes = rw length-take (omega arith) in
    let f : front ≡ replicate dashes 0x2D = e ∙ ap (λ (m : ℕ). replicate {A = ℕ} m 0x2D) n in
    let size : length front ≡ dashes = ap length f ∙ length-replicate {A = ℕ} dashes 0x2D in
    let rest : List ℕ = drop (length text) (drop dashes (front ++ drop dashes out)) in
    let l : left ≡ (front ++ text) ++ rest =
    p.bytes ∙ ap (λ (x : List ℕ). x ++ (text ++ rest)) (take_at front (drop dashes out) dashes size) ∙ sym (append_assoc front text rest) in
    let whole : length (front ++ text) ≡ r = length-append front text ∙ ap (λ (m : ℕ). m + length text) size ∙ sym p.place in
    rw l (take_at (front ++ text) rest r whole) ∙ ap (λ (x : List ℕ). x ++ text) f

-- A PATH ON ITS WAY: whoever writes the words that are left has written them all
pub record OnPath (path out₀ out : List ℕ) (at end : ℕ) : Type 0 where
  pub within : at ≤ length path
  pub size : length out ≡ length out₀
  pub most : end ≤ at
  pub ahead : AllFrames (drop at path)
  pub finish : (r : ℕ) (left : List ℕ) → Inked (spaced (texts_in (drop at path))) out end r left → Inked (spaced (texts_in path)) out₀ 0 r left

pub sets_out : (path out : List ℕ) → AllFrames path → OnPath path out out 0 0
sets_out path out f = record { within = omega arith; size = refl; most = omega arith; ahead = f; finish = λ r left a. a }

module _ (path out₀ out : List ℕ) (at end : ℕ) (way : OnPath path out₀ out at end) where
  pub arrives : length path ≤ at → Inked (spaced (texts_in path)) out₀ 0 end out × (end ≤ length path)
  unfolding spaced
  arrives h = let m = way.most in let w = way.within in (way.finish end out (inked_nothing _ out end (rw (texts_end path at h))), omega arith)

  -- the places up to the end of a word can be counted
  pub word_counts : (n p : ℕ) (mid : List ℕ) → length path ≤ 4096 → Inked (ascii " ") out end p mid → Countable (take (at + 3 + n - (at + 3)) (drop (at + 3) path)) p
  unfolding ascii
  word_counts n p mid s a =
      let l : length (take (at + 3 + n - (at + 3)) (drop (at + 3) path)) ≤ length path = rw (length-take, length-drop) (omega arith) in
      let k = a.place in
      let m = way.most in
      let w = way.within in
      omega arith

  -- a word more, after a space
  pub goes_on_lem : (kind n : ℕ) → frame_first (drop at path) ≡ Frame kind n
      → (p : ℕ) (mid : List ℕ) (r : ℕ) (left : List ℕ) → Inked (ascii " ") out end p mid → Inked (take (at + 3 + n - (at + 3)) (drop (at + 3) path)) mid p r left
      → OnPath path out₀ left (at + 3 + n) r
  unfolding spaced ascii
  goes_on_lem kind n e p mid r left a c =
      let word : List ℕ = part_of path (at + 3) n in
      let l = word_length path at kind n e in
      let w = inked_as _ word mid p r left (let k : at + 3 + n - (at + 3) ≡ n = omega arith in ap (λ (m : ℕ). take m (drop (at + 3) path)) k) c in
      let i = inked_both (ascii " ") word out end p mid r left a w in
      let j = i.place in
      let k = length-append (ascii " ") word in
      let m = way.most in
      record {
        within = word_within path at kind n e;
        size = i.size ∙ way.size;
        most = omega arith;
        ahead = let s : at + (3 + n) ≡ at + 3 + n = omega arith in rw s at (all_next path at kind n e way.ahead);
        finish = λ z last x. way.finish z last (inked_as _ _ _ _ _ _ (ap spaced (sym (words_more path at kind n e))) (inked_both _ _ _ _ _ _ _ _ i x));
      }

-- the words joined are what stands after the first space
join_spaced : (words : List (List ℕ)) → drop 1 (spaced words) ≡ joined words
unfolding spaced joined ascii
join_spaced [] = refl
join_spaced (w ∷ words) = refl

pub path_joined : (path out left : List ℕ) (r : ℕ) → Inked (spaced (texts_in path)) out 0 r left → r ≤ length out → drop 1 (take r left) ≡ joined (texts_in path)
unfolding over
path_joined path out left r a h =
    let p = a.place in
    let k : r ≡ length (spaced (texts_in path)) = omega arith in
    let b : left ≡ over (spaced (texts_in path)) out = a.bytes (omega arith) ∙ over_at_front (spaced (texts_in path)) out in
    ap (drop 1) (ap (take r) b ∙ ap (λ (n : ℕ). take n (over (spaced (texts_in path)) out)) k ∙ take-append_seam (spaced (texts_in path)) (drop (length (spaced (texts_in path))) out))
    ∙ join_spaced (texts_in path)

pub joined_short : (t s : List ℕ) (r : ℕ) → t ≡ drop 1 (take r s) → r ≤ 4096 → length t ≤ 65535
joined_short t s r e h =
    let k : length (drop 1 (take r s)) ≤ r = rw (length-drop, length-take) (omega arith) in
    let l = ap length e in
    omega arith
