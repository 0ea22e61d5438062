-- Laws of frames one after the other: how their texts are read one by one, and that what is written so is read back.
use Prim.Native.Nat.{ℕ, zero, suc, ◌+◌, ◌-◌, ◌^◌, ◌≤◌, ◌<◌}
use mathlib.Core.Path.{◌≡◌, refl, sym, ap, ◌∙◌}
use mathlib.Core.List.{List, [], ◌∷◌, ◌++◌, append_assoc, append-nil}
use native.Mathlib.Omega.{arith}
use types.Run.{OneOf, miss}
use denote.Enum.Declared.{tag_of}
use lib.ListN.{length, take, drop, length-append, length-take, length-drop}
use lib.Seq.{drop-drop, drop-append_seam, take-add, take-append_seam}
use Rattle.buffer.proofs.Lists.{drop_end}
use Rattle.frame.specs.Framed.{frame_of, frame_first}
use Rattle.buffer.specs.Numbers.{Bytes}
use Rattle.frame.specs.Series.{on_frame, texts_from, texts_in, Whole, runs, AllFrames}
use Rattle.frame.specs.declared.framed.Framed.{Framed}
use Rattle.frame.specs.declared.framed.Framed.TheVariants.{Frame, Broken, End}
use Rattle.frame.specs.contracts.framed.Framed.{the_type}
use Rattle.buffer.proofs.Numbers.{bytes_drop}
use Rattle.frame.proofs.Frames.{length_frame_of, frame_read, frame_found, frame_within, frame_back}

-- what is read already
pub texts_skip : (s : List ℕ) (j : ℕ) → texts_from s j ≡ texts_in (drop j s)
unfolding texts_from texts_in
texts_skip [] zero = refl
texts_skip [] (suc j) = refl
texts_skip (a ∷ s) zero = refl
texts_skip (a ∷ s) (suc j) = texts_skip s j

-- the texts by what stands in front: nothing, or a text and the texts after it
abbrev texts_by : List ℕ → Framed → List (List ℕ)
texts_by s d = on_frame d (λ kind n. take n (drop 3 s) ∷ texts_in (drop (3 + n) s)) []

texts_by_lem : (s : List ℕ) → texts_in s ≡ texts_by s (frame_first s)
unfolding texts_in texts_from frame_first
texts_by_lem [] = refl
texts_by_lem (a ∷ s) = by (frame_first (a ∷ s))
  where
    by : (d : Framed) → on_frame d (λ kind n. take n (drop 3 (a ∷ s)) ∷ texts_from s (2 + n)) [] ≡ texts_by (a ∷ s) d
    by (Frame kind n) =
        let k : 3 + n ≡ suc (2 + n) = omega arith in
        ap (λ (l : List (List ℕ)). take n (drop 3 (a ∷ s)) ∷ l) (texts_skip s (2 + n) ∙ ap (λ (j : ℕ). texts_in (drop j (a ∷ s))) (sym k))
    by Broken = refl
    by End = refl

pub texts_more : (s : List ℕ) (kind n : ℕ) → frame_first s ≡ Frame kind n → texts_in s ≡ take n (drop 3 s) ∷ texts_in (drop (3 + n) s)
texts_more s kind n e = texts_by_lem s ∙ ap (texts_by s) e

pub texts_stop : (s : List ℕ) (d : Framed) → frame_first s ≡ d → OneOf (1 ∷ 2 ∷ []) (tag_of the_type d) → texts_in s ≡ []
texts_stop s (Frame kind n) e k = absurd (miss (1 ∷ 2 ∷ []) 0 tt k)
texts_stop s Broken e k = texts_by_lem s ∙ ap (texts_by s) e
texts_stop s End e k = texts_by_lem s ∙ ap (texts_by s) e

pub texts_end : (s : List ℕ) (at : ℕ) → length s ≤ at → texts_in (drop at s) ≡ []
unfolding texts_in texts_from
texts_end s at h = ap texts_in (drop_end s at h)

-- texts short enough for a length of two bytes
abbrev pub AllShort : List (List ℕ) → Type 0
AllShort [] = Unit
AllShort (t ∷ l) = (length t < 256 ^ 2) × AllShort l

after_written : (kind : ℕ) (t rest : List ℕ) → drop (3 + length t) (frame_of kind t ++ rest) ≡ rest
after_written kind t rest =
    ap (λ (n : ℕ). drop n (frame_of kind t ++ rest)) (sym (length_frame_of kind t)) ∙ drop-append_seam (frame_of kind t) rest

-- the texts after a frame that was written
pub texts_written : (kind : ℕ) (t rest : List ℕ) → length t < 256 ^ 2 → texts_in (frame_of kind t ++ rest) ≡ t ∷ texts_in rest
texts_written kind t rest h =
    texts_more (frame_of kind t ++ rest) kind (length t) (frame_read kind t rest h)
    ∙ ap (λ (x : List ℕ). x ∷ texts_in (drop (3 + length t) (frame_of kind t ++ rest))) (frame_found kind t rest)
    ∙ ap (λ (x : List ℕ). t ∷ texts_in x) (after_written kind t rest)

-- WHAT IS WRITTEN IS READ, whatever the kind
pub texts_runs : (kind : ℕ) (l : List (List ℕ)) → AllShort l → texts_in (runs (frame_of kind) l) ≡ l
unfolding runs texts_in texts_from
texts_runs kind [] h = refl
texts_runs kind (t ∷ l) h = texts_written kind t (runs (frame_of kind) l) h.0 ∙ ap (λ (m : List (List ℕ)). t ∷ m) (texts_runs kind l h.1)

-- A WORD, by the frame at a place
module _ (words : List ℕ) (at kind n : ℕ) (e : frame_first (drop at words) ≡ Frame kind n) where
  abbrev word : List ℕ
  word = take n (drop (at + 3) words)

  pub word_within : at + 3 + n ≤ length words
  word_within = let h = frame_within (drop at words) kind n e in let l = length-drop at words in omega arith

  pub word_length : length word ≡ n
  word_length = let h = word_within in rw (length-take, length-drop) (omega arith)

  pub frame_is : Bytes words → take (at + 3 + n - at) (drop at words) ≡ frame_of kind word
  frame_is b =
      let k : at + 3 + n - at ≡ 3 + n = omega arith in
      let t : take n (drop 3 (drop at words)) ≡ word = ap (take n) (drop-drop 3 at words) in
      let l : length (frame_of kind word) ≡ 3 + n = length_frame_of kind _ ∙ ap (λ (m : ℕ). 3 + m) word_length in
      let s : drop at words ≡ frame_of kind word ++ drop (3 + n) (drop at words) = frame_back (drop at words) kind n (bytes_drop at words b) e ∙ ap (λ (x : List ℕ). frame_of kind x ++ drop (3 + n) (drop at words)) t in
      ap (λ (m : ℕ). take m (drop at words)) (k ∙ sym l) ∙ ap (take (length (frame_of kind word))) s ∙ take-append_seam (frame_of kind word) (drop (3 + n) (drop at words))

  pub words_more : texts_in (drop at words) ≡ word ∷ texts_in (drop (at + 3 + n) words)
  words_more =
      texts_more (drop at words) kind n e
      ∙ ap (λ (x : List ℕ). take n x ∷ texts_in (drop (3 + n) (drop at words))) (drop-drop 3 at words)
      ∙ ap (λ (x : List ℕ). word ∷ texts_in x) (drop-drop (3 + n) at words ∙ ap (λ (j : ℕ). drop j words) (let j : at + (3 + n) ≡ at + 3 + n = omega arith in j))

-- WHOLE FRAMES, none and one more
pub texts_none : texts_in [] ≡ []
unfolding texts_in texts_from
texts_none = refl

pub whole_none : Whole []
unfolding Whole texts_in texts_from
whole_none more = refl

pub one_text : (kind : ℕ) (t : List ℕ) → length t < 256 ^ 2 → texts_in (frame_of kind t) ≡ t ∷ []
unfolding texts_in texts_from
one_text kind t h = ap texts_in (sym (append-nil (frame_of kind t))) ∙ texts_written kind t [] h

pub whole_frame : (kind : ℕ) (t : List ℕ) → length t < 256 ^ 2 → Whole (frame_of kind t)
unfolding Whole
whole_frame kind t h more =
    texts_written kind t more h ∙ ap (λ (l : List (List ℕ)). l ++ texts_in more) (sym (one_text kind t h))

pub whole_both : (a b : List ℕ) → Whole a → Whole b → Whole (a ++ b)
unfolding Whole
whole_both a b x y more =
    ap texts_in (append_assoc a b more) ∙ x (b ++ more) ∙ ap (λ (l : List (List ℕ)). texts_in a ++ l) (y more)
    ∙ sym (append_assoc (texts_in a) (texts_in b) (texts_in more)) ∙ ap (λ (l : List (List ℕ)). l ++ texts_in more) (sym (x b))

module _ (words : List ℕ) (at kind n : ℕ) (e : frame_first (drop at words) ≡ Frame kind n) (b : Bytes words) (s : length words < 256 ^ 2) (w : Whole (take at words)) where
  path_bytes : take (at + 3 + n) words ≡ take at words ++ frame_of kind (word words at kind n e)
  path_bytes =
      let k : at + 3 + n ≡ at + (at + 3 + n - at) = omega arith in
      ap (λ (m : ℕ). take m words) k ∙ take-add at (at + 3 + n - at) words ∙ ap (λ (x : List ℕ). take at words ++ x) (frame_is words at kind n e b)

  little : length (word words at kind n e) < 256 ^ 2
  little = let l = word_length words at kind n e in let h = word_within words at kind n e in omega arith

  pub path_more : texts_in (take (at + 3 + n) words) ≡ texts_in (take at words) ++ (word words at kind n e ∷ [])
  unfolding Whole
  path_more =
      ap texts_in path_bytes ∙ w (frame_of kind (word words at kind n e)) ∙ ap (λ (l : List (List ℕ)). texts_in (take at words) ++ l) (one_text kind (word words at kind n e) little)

  pub path_whole : Whole (take (at + 3 + n) words)
  path_whole = rw path_bytes (whole_both (take at words) (frame_of kind (word words at kind n e)) w (whole_frame kind (word words at kind n e) little))

-- FRAMES UP TO THE END. Texts that are read come to no more than the bytes.
runs_size : (kind : ℕ) (t : List ℕ) (l : List (List ℕ)) → length (runs (frame_of kind) (t ∷ l)) ≡ 3 + length t + length (runs (frame_of kind) l)
unfolding runs
runs_size kind t l = length-append (frame_of kind t) (runs (frame_of kind) l) ∙ ap (λ (n : ℕ). n + length (runs (frame_of kind) l)) (length_frame_of kind t)

runs_join : (kind : ℕ) (l m : List (List ℕ)) → length (runs (frame_of kind) (l ++ m)) ≡ length (runs (frame_of kind) l) + length (runs (frame_of kind) m)
unfolding runs
runs_join kind [] m = omega arith
runs_join kind (t ∷ l) m =
    let a = runs_size kind t (l ++ m) in
    let b = runs_size kind t l in
    let c = runs_join kind l m in
    omega arith

texts_size_from : (kind : ℕ) (s : List ℕ) (skip : ℕ) → length (runs (frame_of kind) (texts_from s skip)) ≤ length s - skip
unfolding texts_from runs
texts_size_from kind [] zero = omega arith
texts_size_from kind [] (suc skip) = omega arith
texts_size_from kind (a ∷ s) (suc skip) = let h = texts_size_from kind s skip in omega arith
texts_size_from kind (a ∷ s) zero = by (texts_size_from kind s) (frame_first (a ∷ s)) refl
  where
    by : ((skip : ℕ) → length (runs (frame_of kind) (texts_from s skip)) ≤ length s - skip) → (d : Framed) → frame_first (a ∷ s) ≡ d → length (runs (frame_of kind) (on_frame d (λ k n. take n (drop 3 (a ∷ s)) ∷ texts_from s (2 + n)) [])) ≤ length (a ∷ s) - 0
    by less (Frame k n) e =
        let w = frame_within (a ∷ s) k n e in
        let l : length (take n (drop 3 (a ∷ s))) ≤ n = rw length-take (omega arith) in
        let z = runs_size kind (take n (drop 3 (a ∷ s))) (texts_from s (2 + n)) in
        let h = less (2 + n) in
        omega arith
    by less Broken e = omega arith
    by less End e = omega arith

pub texts_size : (kind : ℕ) (s : List ℕ) → length (runs (frame_of kind) (texts_in s)) ≤ length s
unfolding texts_in
texts_size kind s = let h = texts_size_from kind s 0 in omega arith

pub all_none : AllFrames []
unfolding AllFrames texts_in texts_from runs
all_none kind = refl

pub all_frame : (kind : ℕ) (t : List ℕ) → length t < 256 ^ 2 → AllFrames (frame_of kind t)
unfolding AllFrames runs
all_frame kind t h k =
    let a = runs_size k t [] in
    let b = length_frame_of kind t in
    ap (λ (l : List (List ℕ)). length (runs (frame_of k) l)) (one_text kind t h) ∙ omega arith

pub all_both : (a b : List ℕ) → Whole a → AllFrames a → AllFrames b → AllFrames (a ++ b)
unfolding AllFrames Whole
all_both a b w x y kind =
    let l = length-append a b in
    let j = runs_join kind (texts_in a) (texts_in b) in
    let p = x kind in
    let q = y kind in
    ap (λ (m : List (List ℕ)). length (runs (frame_of kind) m)) (w b) ∙ omega arith

-- what is written is frames up to its end
pub all_runs : (kind : ℕ) (l : List (List ℕ)) → AllShort l → AllFrames (runs (frame_of kind) l)
unfolding runs
all_runs kind [] h = all_none
all_runs kind (t ∷ l) h = all_both (frame_of kind t) (runs (frame_of kind) l) (whole_frame kind t h.0) (all_frame kind t h.0) (all_runs kind l h.1)

module _ (words : List ℕ) (at : ℕ) where
  -- there is no place before the end where no frame begins
  pub all_begin : AllFrames (drop at words) → at < length words → (d : Framed) → d ≡ frame_first (drop at words) → OneOf (1 ∷ 2 ∷ []) (tag_of the_type d) → ⊥
  unfolding AllFrames runs
  all_begin a h d e k =
      let z : length (runs (frame_of 0) (texts_in (drop at words))) ≡ 0 = ap (λ (l : List (List ℕ)). length (runs (frame_of 0) l)) (texts_stop (drop at words) d (sym e) k) in
      let x = a 0 in
      let l = length-drop at words in
      omega arith

  -- and beyond a frame are frames
  pub all_next : (kind n : ℕ) → frame_first (drop at words) ≡ Frame kind n → AllFrames (drop at words) → AllFrames (drop (at + (3 + n)) words)
  unfolding AllFrames
  all_next kind n e a k =
      let m = texts_more (drop at words) kind n e in
      let z = runs_size k (take n (drop 3 (drop at words))) (texts_in (drop (3 + n) (drop at words))) in
      let y : length (runs (frame_of k) (texts_in (drop at words))) ≡ 3 + length (take n (drop 3 (drop at words))) + length (runs (frame_of k) (texts_in (drop (3 + n) (drop at words)))) = ap (λ (l : List (List ℕ)). length (runs (frame_of k) l)) m ∙ z in
      let w = frame_within (drop at words) kind n e in
      let l : length (take n (drop 3 (drop at words))) ≡ n = rw (length-take, length-drop) (omega arith) in
      let s : length (drop (3 + n) (drop at words)) ≡ length (drop at words) - (3 + n) = length-drop (3 + n) (drop at words) in
      let x = a k in
      let r : length (runs (frame_of k) (texts_in (drop (3 + n) (drop at words)))) ≡ length (drop (3 + n) (drop at words)) = omega arith in
      rw (drop-drop (3 + n) at words) at r

  -- all frames, parted where their texts are
  pub all_parted : AllFrames words → texts_in words ≡ texts_in (take at words) ++ texts_in (drop at words) → AllFrames (take at words) × AllFrames (drop at words)
  unfolding AllFrames
  all_parted a e = (
    λ kind.
        let j = runs_join kind (texts_in (take at words)) (texts_in (drop at words)) in
        let x = sym (ap (λ (l : List (List ℕ)). length (runs (frame_of kind) l)) e) ∙ a kind in
        let p = texts_size kind (take at words) in
        let q = texts_size kind (drop at words) in
        let l = length-take at words in
        let m = length-drop at words in
        omega arith,
    λ kind.
        let j = runs_join kind (texts_in (take at words)) (texts_in (drop at words)) in
        let x = sym (ap (λ (l : List (List ℕ)). length (runs (frame_of kind) l)) e) ∙ a kind in
        let p = texts_size kind (take at words) in
        let q = texts_size kind (drop at words) in
        let l = length-take at words in
        let m = length-drop at words in
        omega arith,
  )
