-- Words read as frames and written as frames, one by one: what a turn of each loop takes and leaves.
use Prim.Native.Nat.{ℕ, ◌+◌, ◌-◌, ◌^◌, ◌≤◌, ◌<◌}
use mathlib.Core.Path.{◌≡◌, refl, sym, ap, ◌∙◌}
use mathlib.Core.List.{List, [], ◌∷◌, ◌++◌}
use native.Mathlib.Omega.{arith}
use types.Run.{OneOf}
use denote.Enum.Declared.{tag_of}
use lib.ListN.{length, take, drop, get_or, length-take, length-drop}
use lib.Seq.{drop-drop}
use borrow.Rule.Slice.PartMut.{put_mid}
use Rattle.buffer.specs.Write.{Written}
use Rattle.frame.specs.Text.{read_text}
use Rattle.frame.specs.Framed.{frame_of, frame_first}
use Rattle.frame.specs.Series.{texts_in, runs, AllFrames}
use Rattle.std.proofs.Common.{Option, Some, None}
use Rattle.frame.specs.declared.framed.Framed.{Framed}
use Rattle.frame.specs.declared.framed.Framed.TheVariants.{Frame}
use Rattle.frame.specs.contracts.framed.Framed.{the_type}
use Rattle.buffer.proofs.Numbers.{value_two}
use Rattle.frame.proofs.Texts.{read_told}
use Rattle.frame.proofs.Frames.{length_frame_of, first_at, frame_within}
use Rattle.frame.proofs.Series.{texts_more, texts_stop, texts_end}
use Rattle.report.proofs.Ahead.{Ahead, ahead_lent, ahead_turn, runs_more, runs_none, count_turn}

-- the frames of the words from a place on
abbrev pub words_at : ℕ → List ℕ → ℕ → List ℕ
words_at kind words at = runs (frame_of kind) (texts_in (drop at words))

-- the n bytes after a head of three, as the code cuts them out
abbrev pub image_part : List ℕ → ℕ → ℕ → List ℕ
image_part words at n = take (at + 3 + n - (at + 3)) (drop (at + 3) words)

-- before the end there is a word more
words_stop : (kind : ℕ) (words : List ℕ) (at : ℕ) (d : Framed) → d ≡ frame_first (drop at words) → OneOf (1 ∷ 2 ∷ []) (tag_of the_type d) → words_at kind words at ≡ []
words_stop kind words at d e k = runs_none (frame_of kind) (texts_in (drop at words)) (texts_stop (drop at words) d (sym e) k)

pub words_begin : (kind : ℕ) (words : List ℕ) (at : ℕ) (d : Framed) → AllFrames words → at + length (words_at kind words at) ≡ length (runs (frame_of kind) (texts_in words))
    → at < length words → d ≡ frame_first (drop at words) → OneOf (1 ∷ 2 ∷ []) (tag_of the_type d) → ⊥
unfolding AllFrames
words_begin kind words at d a c h e k =
    let z : length (words_at kind words at) ≡ 0 = ap length (words_stop kind words at d e k) in
    let w = a kind in
    omega arith

-- no word more
pub words_end : (kind : ℕ) (words : List ℕ) (at : ℕ) → length words ≤ at → words_at kind words at ≡ []
words_end kind words at h = runs_none (frame_of kind) (texts_in (drop at words)) (texts_end words at h)

-- one word more
module _ (words : List ℕ) (at k n : ℕ) (e : frame_first (drop at words) ≡ Frame k n) where
  pub word_within : at + 3 + n ≤ length words
  word_within = let h = frame_within (drop at words) k n e in let l = length-drop at words in omega arith

  word_length : length (image_part words at n) ≡ n
  word_length = let h = word_within in rw (length-take, length-drop) (omega arith)

  word_is : image_part words at n ≡ take n (drop 3 (drop at words))
  word_is =
      let s : at + 3 + n - (at + 3) ≡ n = omega arith in
      ap (λ (j : ℕ). take j (drop (at + 3) words)) s ∙ ap (take n) (sym (drop-drop 3 at words))

  -- a length of two bytes is below 65,536
  pub word_short : ((i : ℕ) → get_or words i 0 < 256) → length (image_part words at n) < 256 ^ 2
  word_short h = rw word_length (by (read_text 2 (drop (at + 1) words)) refl word_within)
    where
      by : (x : Option ℕ) → read_text 2 (drop (at + 1) words) ≡ x → at + 3 + n ≤ length words → n < 256 ^ 2
      by (Some m) q w =
          let r = sym (first_at words at (Some m) (omega arith) q) ∙ e in
          let s : m ≡ n = cc in
          let t = (read_told 2 (drop (at + 1) words) m q).0 in
          let v = value_two words (at + 1) (omega arith) in
          omega (arith, s, t, v, h (at + 1), h (at + 1 + 1))
      by None q w =
          let r = sym (first_at words at None (omega arith) q) ∙ e in
          absurd (let z : ◌≡◌ {A = ℕ} 0 1 = cc in omega arith)

  module _ (kind : ℕ) where
    pub word_size : length (frame_of kind (image_part words at n)) ≡ 3 + n
    word_size = length_frame_of kind (image_part words at n) ∙ ap (λ (l : ℕ). 3 + l) word_length

    word_next : (p : ℕ) → p ≡ at + (3 + n) → words_at kind words at ≡ frame_of kind (image_part words at n) ++ words_at kind words p
    word_next p q =
        runs_more (frame_of kind) _ _ _ (texts_more (drop at words) k n e)
        ∙ ap (λ (t : List ℕ). frame_of kind t ++ runs (frame_of kind) (texts_in (drop (3 + n) (drop at words)))) (sym word_is)
        ∙ ap (λ (t : List ℕ). frame_of kind (image_part words at n) ++ runs (frame_of kind) (texts_in t)) (drop-drop (3 + n) at words ∙ ap (λ (j : ℕ). drop j words) (sym q))

    -- a turn of the count: a word takes as many bytes as it is read from
    pub word_counted : (whole : ℕ) → at + length (words_at kind words at) ≡ whole → at + 3 + n + length (words_at kind words (at + 3 + n)) ≡ whole
    word_counted whole c =
        let s = word_size in
        let t = count_turn at (3 + n) whole _ (frame_of kind (image_part words at n)) (words_at kind words (at + 3 + n)) (word_next (at + 3 + n) (omega arith)) (sym s) c in
        omega arith

-- a writing of words in progress
abbrev pub AheadWords : ℕ → List ℕ → List ℕ → ℕ → List ℕ → Type 0
AheadWords kind words out₀ at out = Ahead (runs (frame_of kind) (texts_in words)) out₀ (words_at kind words at) at out

-- a turn of it: a word goes to the place that it is read from
module _ (kind : ℕ) (words out₀ : List ℕ) (at : ℕ) (out : List ℕ) (a : AheadWords kind words out₀ at out)
    (fits : length (runs (frame_of kind) (texts_in words)) ≤ length out₀) (k n : ℕ) (e : frame_first (drop at words) ≡ Frame k n) where
  pub word_lent : length (frame_of kind (image_part words at n)) ≤ length (take (length out - at) (drop at out))
  word_lent = ahead_lent _ _ _ (frame_of kind (image_part words at n)) (words_at kind words (at + (3 + n))) at out a (word_next words at k n e kind (at + (3 + n)) refl) fits

  pub word_written : (r : ℕ) (left : List ℕ) → Written (frame_of kind (image_part words at n)) (take (length out - at) (drop at out)) r left
      → AheadWords kind words out₀ (at + r) (put_mid at (length out - at) out left)
  word_written r left w =
      let s : r ≡ 3 + n = w.count ∙ word_size words at k n e kind in
      ahead_turn _ _ _ (frame_of kind (image_part words at n)) (words_at kind words (at + r)) at out a (word_next words at k n e kind (at + r) (ap (λ (m : ℕ). at + m) s)) fits r left w
