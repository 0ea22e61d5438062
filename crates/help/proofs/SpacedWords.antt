-- Laws of the words of a line, one after the other, each after a space.
use Rattle.std.specs.Prelude.{Some, None, Option}
use Rattle.std.specs.Option.{is_some}
use Prim.Native.Nat.{ℕ, ◌+◌, ◌-◌, ◌*◌, ◌<◌, ◌≤◌}
use mathlib.Core.Path.{◌≡◌, refl, sym, ap, ◌∙◌}
use mathlib.Core.Bool.{Bool, true, false, not}
use mathlib.Core.List.{List, [], ◌∷◌, ◌++◌}
use native.Mathlib.Omega.{arith}
use lib.ListN.{length, drop, length-append, length-take, length-drop}
use lib.Seq.{drop-drop}
use Rattle.text.specs.Decoding.{Piece, pieces_of, bytes_of, bytes_all}
use Rattle.text.specs.Apart.{run_of, after_run, words_between, word_at, next_word}
use Rattle.text.proofs.Pieces.{pieces_bytes, piece_some}
use Rattle.text.proofs.Splits.{words_next, run_splits}
use Rattle.buffer.specs.Ascii.{ascii}
use Rattle.buffer.specs.Lend.{between}
use Rattle.buffer.specs.declared.lend.Span.{Span}
use Rattle.buffer.specs.Inks.{Inked, InkedFrom, Countable}
use Rattle.help.specs.Texts.{spaced}
use Rattle.buffer.proofs.Choices.{true_is_not_false}
use Rattle.buffer.proofs.Inking.{inked_nothing, inked_both, inked_as}

-- what the next word of a line from a place on tells
pub record NextTold (line : List ℕ) (place : ℕ) (word : Span) : Type 0 where
  pub after : place ≤ word.start
  pub some : word.start < word.end
  pub fits : word.end ≤ length line
  pub words : words_between (drop place line) ≡ between line word.start word.end ∷ words_between (drop word.end line)

-- where a word lies, and where it lies if the text is taken for the beginning
record Next (s : List ℕ) (at : ℕ) (word : Span) : Type 0 where
  after : at ≤ word.start
  some : word.start < word.end
  fits : word.end ≤ at + length s
  front : next_word 0 s ≡ Some (record { start = word.start - at; end = word.end - at })

next_within : (s : List ℕ) (at : ℕ) (word : Span) → next_word at s ≡ Some word → Next s at word
unfolding next_word bytes_all
next_within s at word e = by (run_of false (after_run true (pieces_of s))) refl e
  where
    before : List ℕ
    before = bytes_all (run_of true (pieces_of s))

    beyond : List ℕ
    beyond = bytes_all (after_run false (after_run true (pieces_of s)))

    by : (w : List Piece) → run_of false (after_run true (pieces_of s)) ≡ w → word_at (at + length before) w ≡ Some word → Next s at word
    by [] q k = absurd (let z : ◌≡◌ {A = ℕ} 0 1 = cc in omega arith)
    by (p ∷ w) q k =
        let whole : record { start = at + length before; end = at + length before + length (bytes_all (p ∷ w)) } ≡ word = cc in
        let a : at + length before ≡ word.start = ap (λ (x : Span). x.start) whole in
        let b : at + length before + length (bytes_all (p ∷ w)) ≡ word.end = ap (λ (x : Span). x.end) whole in
        let split : s ≡ before ++ (bytes_all (p ∷ w) ++ beyond) =
        sym (pieces_bytes s) ∙ run_splits true (pieces_of s) ∙ ap (λ (l : List ℕ). before ++ l) (run_splits false (after_run true (pieces_of s)) ∙ ap (λ (w : List Piece). bytes_all w ++ beyond) q)
        in
        let l = ap length split ∙ length-append before (bytes_all (p ∷ w) ++ beyond) in
        let m = length-append (bytes_all (p ∷ w)) beyond in
        let n = length-append (bytes_of p) (bytes_all w) in
        let o = piece_some p in
        let c : 0 + length before ≡ word.start - at = omega arith in
        let d : 0 + length before + length (bytes_all (p ∷ w)) ≡ word.end - at = omega arith in
        record { after = omega arith; some = omega arith; fits = omega arith; front = rw (q, ← c, ← d) refl }

pub next_told : (line : List ℕ) (place : ℕ) (word : Span) → next_word place (drop place line) ≡ Some word → NextTold line place word
next_told line place word e =
    let w = next_within (drop place line) place word e in
    let after = w.after in
    let some = w.some in
    let fits = w.fits in
    let l = length-drop place line in
    let a : place + (word.start - place) ≡ word.start = omega arith in
    let b : place + (word.end - place) ≡ word.end = omega arith in
    let n : word.end - place - (word.start - place) ≡ word.end - word.start = omega arith in
    record {
      after = after;
      some = some;
      fits = omega arith;
      words = rw (n, drop-drop (word.start - place) place line, drop-drop (word.end - place) place line, a, b) at (rw w.front at (words_next (drop place line)));
    }

pub next_nothing : (s : List ℕ) (at : ℕ) → next_word at s ≡ None → words_between s ≡ []
unfolding next_word
next_nothing s at e = rw (by (run_of false (after_run true (pieces_of s))) e) at (words_next s)
  where
    by : (w : List Piece) → word_at (at + length (bytes_all (run_of true (pieces_of s)))) w ≡ None → word_at (0 + length (bytes_all (run_of true (pieces_of s)))) w ≡ None
    by [] k = refl
    by (p ∷ w) k = absurd (let z : ◌≡◌ {A = ℕ} 0 1 = cc in omega arith)

-- a line has no words, or some, by the test for a first one
module _ (line : List ℕ) (t : Bool) where
  pub no_words : (w : Option Span) → w ≡ next_word 0 (drop 0 line) → is_some w ≡ not t → t ≡ true → words_between line ≡ []
  no_words None e q h = next_nothing line 0 (sym e)
  no_words (Some word) e q h = absurd (true_is_not_false (rw h at q))

  pub some_words : (w : Option Span) → w ≡ next_word 0 (drop 0 line) → is_some w ≡ not t → t ≡ false → words_between line ≡ [] → ⊥
  some_words (Some word) e q h n = let k = (next_told line 0 word (sym e)).words in let z : ◌≡◌ {A = ℕ} 0 1 = cc (k, n) in omega arith
  some_words None e q h n = true_is_not_false (sym (rw h at q))

pub words_none : words_between [] ≡ []
words_none = next_nothing [] 0 (by (next_word 0 []) refl)
  where
    by : (w : Option Span) → next_word 0 [] ≡ w → next_word 0 [] ≡ None
    by (Some word) e = absurd (let k = next_within [] 0 word e in let a = k.after in let b = k.some in let f = k.fits in omega arith)
    by None e = e

-- a line on its way: whoever writes the words that are left has written them all
pub record OnLine (line out₀ : List ℕ) (at : ℕ) (out : List ℕ) (place end : ℕ) : Type 0 where
  pub within : place ≤ length line
  pub size : length out ≡ length out₀
  pub most : end ≤ at + 64 * place
  pub finish : (r : ℕ) (left : List ℕ) → Inked (spaced (words_between (drop place line))) out end r left → Inked (spaced (words_between line)) out₀ at r left

module _ (line out₀ : List ℕ) (at : ℕ) where
  pub sets_out : OnLine line out₀ at out₀ 0 at
  sets_out = record { within = omega arith; size = refl; most = omega arith; finish = λ r left a. a }

  module _ (out : List ℕ) (place end : ℕ) (way : OnLine line out₀ at out place end) where
    ends : words_between (drop place line) ≡ [] → InkedFrom line (spaced (words_between line)) out₀ at end out
    unfolding spaced
    ends e =
        let m = way.most in
        let w = way.within in
        record { inked = way.finish end out (inked_nothing _ out end (rw e)); most = omega arith }

    module _ (w : Option Span) (e : w ≡ next_word place (drop place line)) where
      pub stops : w ≡ None → InkedFrom line (spaced (words_between line)) out₀ at end out
      stops z = ends (next_nothing (drop place line) place (sym e ∙ z))

      module _ (word : Span) (k : w ≡ Some word) where
        told : NextTold line place word
        told = next_told line place word (sym e ∙ k)

        -- the places of a word, and how far the writer gets with it
        pub record WordHere : Type 0 where
          pub on : place < word.end
          pub fits : word.end ≤ length line
          pub room : end + 1 + (word.end - word.start) ≤ at + 64 * word.end

        pub word_here : WordHere
        word_here =
            let t = told in
            let after = t.after in
            let some = t.some in
            let m = way.most in
            record { on = omega arith; fits = t.fits; room = omega arith }

        word_length : (text : List ℕ) → text ≡ between line word.start word.end → length text ≤ word.end - word.start
        word_length text q = let l = ap length q ∙ length-take (word.end - word.start) (drop word.start line) in omega arith

        pub word_counts : (text : List ℕ) (p : ℕ) (mid : List ℕ) → text ≡ between line word.start word.end → Inked (ascii " ") out end p mid
            → at + 64 * length line < 4294967296 → Countable text p
        unfolding ascii
        word_counts text p mid q a h =
            let l = word_length text q in
            let t = word_here in
            let fits = t.fits in
            let room = t.room in
            let m = a.place in
            omega arith

        pub goes_on_lem : (text : List ℕ) (p : ℕ) (mid : List ℕ) (r : ℕ) (left : List ℕ) → text ≡ between line word.start word.end → Inked (ascii " ") out end p mid → Inked text mid p r left
            → OnLine line out₀ at left word.end r
        unfolding spaced ascii
        goes_on_lem text p mid r left q a b =
            let l = word_length text q in
            let t = word_here in
            let room = t.room in
            let i = inked_both (ascii " ") text out end p mid r left a b in
            let m = a.place in
            let n = b.place in
            let words : words_between (drop place line) ≡ text ∷ words_between (drop word.end line) = told.words ∙ ap (λ (x : List ℕ). x ∷ words_between (drop word.end line)) (sym q) in
            record {
              within = t.fits;
              size = i.size ∙ way.size;
              most = omega arith;
              finish = λ z last c. way.finish z last (inked_as _ _ _ _ _ _ (ap spaced (sym words)) (inked_both _ _ _ _ _ _ _ _ i c));
            }
