-- Where a scan stands in its line: the ended words stand as frames, the open word is known, and the rest of the line will give the rest.
use Prim.Native.Nat.{ℕ, zero, suc, ◌+◌, ◌*◌, ◌<◌, ◌≤◌}
use mathlib.Core.Path.{◌≡◌, refl, sym, ap, ◌∙◌}
use mathlib.Core.Bool.{Bool, true, false, not}
use mathlib.Core.List.{List, [], ◌∷◌, ◌++◌, map, append_assoc, append-nil}
use native.Mathlib.Omega.{arith}
use lib.ListN.{length, drop, length-append, length-drop}
use lib.Seq.{length-take-le}
use Rattle.text.specs.Unicode.{encode, encode_all}
use Rattle.text.specs.Decoding.{codes_in, well_formed_length}
use Rattle.text.specs.Apart.{unless_empty}
use Rattle.text.proofs.Pieces.{encode_some}
use Rattle.text.proofs.Prefix.{codes_whole, codes_end, prefix_none, encode_append}
use Rattle.frame.specs.Framed.{frame_of}
use Rattle.frame.proofs.Frames.{length_frame_of}
use Rattle.words.specs.declared.role.Role.{Role}
use Rattle.words.specs.declared.role.Role.TheVariants.{Take, Escape, Toggle, Gap}
use Rattle.words.specs.declared.counting.Scan.{Scan}
use Rattle.words.specs.Tokens.{role_of, on_role, tokens_from, tokens, words_of, word_frames}
use Rattle.words.specs.Answer.{written}
use Rattle.words.specs.Inner.{closed_at, closed_by, advanced, measured, done_by, Reading}
use Rattle.std.specs.Prelude.{Ok, Err}
use Rattle.buffer.proofs.Choices.{then_is, else_is}
use borrow.Author.Tests.{lt-ltb, le-ltb}
use mathlib.Core.Logic.{⊎_elim}
use Rattle.text.proofs.Encoding.{below_or_not}
use Rattle.words.proofs.OpenWords.{closed_none, closed_some}

-- the frames of words that are still lists of characters
unfoldable pub shown : List (List ℕ) → List ℕ
shown words = word_frames (map encode_all words)

-- a word that ends stands in front of the rest
pub shown_ended : (word : List ℕ) (words : List (List ℕ)) → shown (unless_empty word words) ≡ shown (unless_empty word []) ++ shown words
unfolding shown word_frames
shown_ended [] words = refl
shown_ended (c ∷ word) words = ap (λ (l : List ℕ). l ++ word_frames (map encode_all words)) (sym (append-nil (frame_of 0x14 (encode_all (c ∷ word)))))

-- an open word as a number of bytes: none exactly if it is empty
pub word_none : (word : List ℕ) → length (encode_all word) ≡ 0 → word ≡ []
unfolding encode_all
word_none [] e = refl
word_none (c ∷ word) e = absurd (let h = encode_some c in omega (arith, length-append (encode c) (encode_all word)))

-- what an open word takes once it ends
pub shown_length : (word : List ℕ) (done n : ℕ) → n ≡ length (encode_all word) → done + length (shown (unless_empty word [])) ≡ closed_at done n
unfolding shown word_frames encode_all
shown_length [] done n e = let z = closed_none done n e in omega arith
shown_length (c ∷ word) done n e =
    let h = encode_some c in
    let l = length-append (encode c) (encode_all word) in
    let z = closed_some done n (λ q. omega arith) in
    let f = length_frame_of 0x14 (encode_all (c ∷ word)) in
    let g = length-append (frame_of 0x14 (encode_all (c ∷ word))) [] in
    omega arith

pub record Standing (line : List ℕ) (s : Scan) : Type 0 where
  pub frames : List ℕ
  pub word : List ℕ
  pub inside : s.at ≤ length line
  pub done_is : s.done ≡ length frames
  pub word_is : s.word ≡ length (encode_all word)
  pub cost : closed_by s ≤ 4 * s.at
  pub prefix_is : s.at + well_formed_length (drop s.at line) ≡ well_formed_length line
  pub all : written line ≡ frames ++ shown (tokens_from word s.quotes s.escaped (codes_in (drop s.at line)))

unfoldable pub standing_start : (line : List ℕ) → Standing line (record { at = 0; done = 0; word = 0; quotes = false; escaped = false })
unfolding written words_of tokens encode_all shown
standing_start line =
    record {
      frames = [];
      word = [];
      inside = omega arith;
      done_is = refl;
      word_is = refl;
      cost = let e = closed_none 0 0 refl in omega arith;
      prefix_is = omega arith;
      all = refl;
    }

-- characters more in the open word
pub word_more : (word run : List ℕ) → length (encode_all (word ++ run)) ≡ length (encode_all word) + length (encode_all run)
word_more word run = ap length (encode_append word run) ∙ length-append (encode_all word) (encode_all run)

one_length : (code : ℕ) → length (encode_all (code ∷ [])) ≡ length (encode code)
unfolding encode_all
one_length code = ap length (append-nil (encode code))

pub cost_more : (done word at n : ℕ) → 0 < n → closed_at done word ≤ 4 * at → closed_at done (word + n) ≤ 4 * (at + n)
cost_more done zero at n h k =
    let a = closed_none done 0 refl in
    let b = closed_some done (0 + n) (λ q. omega arith) in
    omega arith
cost_more done (suc word) at n h k =
    let a = closed_some done (suc word) (λ q. omega arith) in
    let b = closed_some done (suc word + n) (λ q. omega arith) in
    omega arith

pub nothing_open : 0 ≡ length (encode_all [])
unfolding encode_all
nothing_open = refl

-- a step read
module _ (line : List ℕ) (s : Scan) (t : Role) (n : ℕ) (h : Standing line s) (r : Reading line s t n) where
  pub size_is : length (encode_all r.run) ≡ n
  size_is =
      let f = r.fits in
      ap length (sym r.bytes) ∙ length-take-le n (drop s.at line) (rw (length-drop s.at line) (omega arith))

  pub all_are : written line ≡ h.frames ++ shown (done_by t s.quotes h.word r.run (codes_in (drop (s.at + n) line)))
  all_are =
      h.all
      ∙ ap (λ (l : List ℕ). h.frames ++ shown (tokens_from h.word s.quotes s.escaped l)) r.codes
      ∙ ap (λ (l : List (List ℕ)). h.frames ++ shown l) (r.does h.word (codes_in (drop (s.at + n) line)))

unfoldable pub standing_turn : (line : List ℕ) (s : Scan) (t : Role) (n : ℕ) → Standing line s → Reading line s t n → Standing line (advanced s t n)
standing_turn line s Take n h r =
    let size = size_is line s Take n h r in
    let w = h.word_is in
    let m = word_more h.word r.run in
    record {
      frames = h.frames;
      word = h.word ++ r.run;
      inside = r.fits;
      done_is = h.done_is;
      word_is = omega arith;
      cost = cost_more s.done s.word s.at n r.some h.cost;
      prefix_is = r.prefix ∙ h.prefix_is;
      all = all_are line s Take n h r;
    }
standing_turn line s Escape n h r =
    record {
      frames = h.frames;
      word = h.word;
      inside = r.fits;
      done_is = h.done_is;
      word_is = h.word_is;
      cost = let k = h.cost in omega arith;
      prefix_is = r.prefix ∙ h.prefix_is;
      all = all_are line s Escape n h r;
    }
standing_turn line s Toggle n h r =
    record {
      frames = h.frames;
      word = h.word;
      inside = r.fits;
      done_is = h.done_is;
      word_is = h.word_is;
      cost = let k = h.cost in omega arith;
      prefix_is = r.prefix ∙ h.prefix_is;
      all = all_are line s Toggle n h r;
    }
standing_turn line s Gap n h r =
    let k = h.cost in
    let l = h.done_is in
    let last : List ℕ = shown (unless_empty h.word []) in
    let size = shown_length h.word s.done s.word h.word_is in
    let whole = length-append h.frames last in
    let empty = closed_none (closed_at s.done s.word) 0 refl in
    let words : List (List ℕ) = tokens_from [] s.quotes false (codes_in (drop (s.at + n) line)) in
    record {
      frames = h.frames ++ last;
      word = [];
      inside = r.fits;
      done_is = omega arith;
      word_is = nothing_open;
      cost = omega arith;
      prefix_is = r.prefix ∙ h.prefix_is;
      all =
          all_are line s Gap n h r
          ∙ ap (λ (x : List ℕ). h.frames ++ x) (shown_ended h.word words)
          ∙ sym (append_assoc h.frames last (shown words));
    }

-- the line has ended: the open word ends with it
module _ (line : List ℕ) (s : Scan) (h : Standing line s) (end : length line ≤ s.at) where
  pub all_ended : written line ≡ h.frames ++ shown (unless_empty h.word [])
  unfolding tokens_from
  all_ended =
      h.all ∙ ap (λ (l : List ℕ). h.frames ++ shown (tokens_from h.word s.quotes s.escaped l)) (codes_end line s.at end)

  pub length_ended : length (written line) ≡ closed_by s
  length_ended =
      let l = h.done_is in
      let size = shown_length h.word s.done s.word h.word_is in
      let whole = ap length all_ended ∙ length-append h.frames (shown (unless_empty h.word [])) in
      omega arith

  pub well_formed_ended : well_formed_length line ≡ length line
  well_formed_ended =
      let p = h.prefix_is in
      let i = h.inside in
      let z = prefix_none (drop s.at line) (codes_end line s.at end) in
      omega arith

  pub measured_whole : measured line ≡ Ok (closed_by s)
  unfolding measured
  measured_whole =
      let w = well_formed_ended in
      else_is _ _ _ (le-ltb (well_formed_length line) (length line) (omega arith)) ∙ ap Ok length_ended

-- no character follows, and the line goes on
module _ (line : List ℕ) (s : Scan) (h : Standing line s) (on : s.at < length line) (stop : codes_in (drop s.at line) ≡ []) where
  pub prefix_ends : well_formed_length line ≡ s.at
  prefix_ends =
      let p = h.prefix_is in
      let z = prefix_none (drop s.at line) stop in
      omega arith

  pub measured_broken : (place : ℕ) → place ≡ s.at → measured line ≡ Err place
  unfolding measured
  measured_broken place e =
      let w = prefix_ends in
      then_is _ _ _ (lt-ltb (well_formed_length line) (length line) (omega arith)) ∙ ap Err (w ∙ sym e)

-- what comes takes at least what the open word takes once it ends
longer_word : (word : List ℕ) (code : ℕ) → length (shown (unless_empty word [])) ≤ length (shown (unless_empty (word ++ (code ∷ [])) []))
longer_word word code =
    let m = word_more word (code ∷ []) in
    let a = shown_length word 0 (length (encode_all word)) refl in
    let b = shown_length (word ++ (code ∷ [])) 0 (length (encode_all (word ++ (code ∷ [])))) refl in
    ⊎_elim
    (λ (p : 0 < length (encode_all word)).
    let c = closed_some 0 (length (encode_all word)) (λ q. omega arith) in
    let d = closed_some 0 (length (encode_all (word ++ (code ∷ [])))) (λ q. omega arith) in
    omega arith)
    (λ (p : length (encode_all word) ≤ 0). let c = closed_none 0 (length (encode_all word)) (omega arith) in omega arith)
    (below_or_not 0 (length (encode_all word)))

grows : (word : List ℕ) (quotes escaped : Bool) (codes : List ℕ) → length (shown (unless_empty word [])) ≤ length (shown (tokens_from word quotes escaped codes))
unfolding tokens_from
grows word quotes escaped [] = omega arith
grows word quotes escaped (code ∷ codes) =
    by (role_of quotes escaped code) (grows (word ++ (code ∷ [])) quotes false codes) (grows word quotes true codes) (grows word (not quotes) false codes)
  where
    by : (t : Role) → length (shown (unless_empty (word ++ (code ∷ [])) [])) ≤ length (shown (tokens_from (word ++ (code ∷ [])) quotes false codes))
        → length (shown (unless_empty word [])) ≤ length (shown (tokens_from word quotes true codes))
        → length (shown (unless_empty word [])) ≤ length (shown (tokens_from word (not quotes) false codes))
        → length (shown (unless_empty word []))
        ≤ length (shown (on_role t (λ _. tokens_from (word ++ (code ∷ [])) quotes false codes) (λ _. tokens_from word quotes true codes) (λ _. tokens_from word (not quotes) false codes)
        (λ _. unless_empty word (tokens_from [] quotes false codes))))
    by Take a b c = let l = longer_word word code in omega arith
    by Escape a b c = b
    by Toggle a b c = c
    by Gap a b c =
        omega (arith, ap length (shown_ended word (tokens_from [] quotes false codes)), length-append (shown (unless_empty word [])) (shown (tokens_from [] quotes false codes)))

pub standing_room : (line : List ℕ) (s : Scan) → Standing line s → closed_by s ≤ length (written line)
standing_room line s h =
    let l = h.done_is in
    let size = shown_length h.word s.done s.word h.word_is in
    let more = grows h.word s.quotes s.escaped (codes_in (drop s.at line)) in
    let whole = ap length h.all ∙ length-append h.frames (shown (tokens_from h.word s.quotes s.escaped (codes_in (drop s.at line)))) in
    omega arith

-- the words of a line take at most four times its bytes
word_costs : (word : List ℕ) (code : ℕ) → length (shown (unless_empty (word ++ (code ∷ [])) [])) ≤ length (shown (unless_empty word [])) + 4 * length (encode code)
word_costs word code =
    let some = encode_some code in
    let m = word_more word (code ∷ []) in
    let one : length (encode_all (code ∷ [])) ≡ length (encode code) = one_length code in
    let a = shown_length word 0 (length (encode_all word)) refl in
    let b = shown_length (word ++ (code ∷ [])) 0 (length (encode_all (word ++ (code ∷ [])))) refl in
    let d = closed_some 0 (length (encode_all (word ++ (code ∷ [])))) (λ q. omega arith) in
    ⊎_elim
    (λ (p : 0 < length (encode_all word)). let c = closed_some 0 (length (encode_all word)) (λ q. omega arith) in omega arith)
    (λ (p : length (encode_all word) ≤ 0). let c = closed_none 0 (length (encode_all word)) (omega arith) in omega arith)
    (below_or_not 0 (length (encode_all word)))

nothing_shown : length (shown (unless_empty {A = ℕ} [] [])) ≡ 0
unfolding shown word_frames
nothing_shown = refl

costs : (word : List ℕ) (quotes escaped : Bool) (codes : List ℕ)
    → length (shown (tokens_from word quotes escaped codes)) ≤ length (shown (unless_empty word [])) + 4 * length (encode_all codes)
unfolding tokens_from encode_all
costs word quotes escaped [] = omega arith
costs word quotes escaped (code ∷ codes) =
    by (role_of quotes escaped code) (costs (word ++ (code ∷ [])) quotes false codes) (costs word quotes true codes) (costs word (not quotes) false codes)
    (costs [] quotes false codes)
  where
    size : length (encode code ++ encode_all codes) ≡ length (encode code) + length (encode_all codes)
    size = length-append (encode code) (encode_all codes)

    by : (t : Role) → length (shown (tokens_from (word ++ (code ∷ [])) quotes false codes)) ≤ length (shown (unless_empty (word ++ (code ∷ [])) [])) + 4 * length (encode_all codes)
        → length (shown (tokens_from word quotes true codes)) ≤ length (shown (unless_empty word [])) + 4 * length (encode_all codes)
        → length (shown (tokens_from word (not quotes) false codes)) ≤ length (shown (unless_empty word [])) + 4 * length (encode_all codes)
        → length (shown (tokens_from [] quotes false codes)) ≤ length (shown (unless_empty {A = ℕ} [] [])) + 4 * length (encode_all codes)
        → length (shown (on_role t (λ _. tokens_from (word ++ (code ∷ [])) quotes false codes) (λ _. tokens_from word quotes true codes) (λ _. tokens_from word (not quotes) false codes)
        (λ _. unless_empty word (tokens_from [] quotes false codes)))) ≤ length (shown (unless_empty word [])) + 4 * length (encode code ++ encode_all codes)
    by Take a b c d = omega (arith, word_costs word code, size)
    by Escape a b c d = omega (arith, size)
    by Toggle a b c d = omega (arith, size)
    by Gap a b c d =
        omega (
          arith,
          size,
          nothing_shown,
          ap length (shown_ended word (tokens_from [] quotes false codes)),
          length-append (shown (unless_empty word [])) (shown (tokens_from [] quotes false codes)),
        )

pub written_most : (line : List ℕ) → well_formed_length line ≡ length line → length (written line) ≤ 4 * length line
unfolding written words_of tokens shown
written_most line e =
    omega (arith, costs [] false false (codes_in line), nothing_shown, ap length (codes_whole line e))
