-- A text on its way into a buffer: what is written so far, and what is still to come.
use Prim.Native.Nat.{ℕ, ◌+◌, ◌-◌, ◌≤◌}
use mathlib.Core.Path.{◌≡◌, sym, ap, ◌∙◌}
use mathlib.Core.List.{List, [], ◌++◌, append_assoc, append-nil}
use native.Mathlib.Omega.{arith}
use lib.ListN.{length, take, drop, length-append}
use Rattle.buffer.specs.Write.{Pushed}
use Rattle.buffer.proofs.Lending.{over_at_nothing}
use Rattle.buffer.proofs.Writing.{pushed_both}
use Rattle.text.specs.Unicode.{encode_all}
use Rattle.text.specs.Decoding.{decode_first, codes_in}
use Rattle.text.specs.declared.utf8.Decoded.TheVariants.{Character}
use Rattle.quote.specs.Given.{listed, judge_words}
use Rattle.quote.specs.Shown.{special, escaped, shown}
use Rattle.quote.specs.Joined.{gap_before}
use Rattle.quote.specs.Inner.{escaped_bytes, IsFine}
use Rattle.quote.proofs.Listing.{WordTold}
use Rattle.quote.proofs.Showing.{escaped_turn}
use Rattle.quote.proofs.Counting.{rest_line, rest_turn}

-- of `whole`, written from `start` on, `rest` is still to come at the place `o`
pub record Laying (whole rest out₀ : List ℕ) (start o : ℕ) (out : List ℕ) : Type 0 where
  pub done : List ℕ
  pub all : whole ≡ done ++ rest
  pub pushed : Pushed done out₀ start o out

pub laying_start : (whole rest out : List ℕ) (start : ℕ) → whole ≡ rest → Laying whole rest out start start out
laying_start whole rest out start e =
    record { done = []; all = e; pushed = record { place = omega arith; bytes = sym (over_at_nothing out start) } }

module _ (whole rest x more out₀ : List ℕ) (start o : ℕ) (out : List ℕ) (h : Laying whole rest out₀ start o out) (e : rest ≡ x ++ more)
    (room : start + length whole ≤ length out₀) where
  sizes : length whole ≡ length h.done + (length x + length more)
  sizes = ap length h.all ∙ length-append h.done rest ∙ ap (λ (n : ℕ). length h.done + n) (ap length e ∙ length-append x more)

  pub laying_room : o + length x ≤ length out₀
  laying_room = let s = sizes in let p = h.pushed.place in omega arith

  pub laying_turn : (r : ℕ) (left : List ℕ) → Pushed x out o r left → Laying whole more out₀ start r left
  laying_turn r left p =
      let s = sizes in
      record {
        done = h.done ++ x;
        all = h.all ∙ ap (λ (l : List ℕ). h.done ++ l) e ∙ sym (append_assoc h.done x more);
        pushed = pushed_both h.done x out₀ out left start o r (omega arith) h.pushed p;
      }

pub laying_end : (whole rest out₀ : List ℕ) (start o : ℕ) (out : List ℕ) → Laying whole rest out₀ start o out → rest ≡ [] → Pushed whole out₀ start o out
laying_end whole rest out₀ start o out h e =
    let is : whole ≡ h.done = h.all ∙ ap (λ (l : List ℕ). h.done ++ l) e ∙ append-nil h.done in
    rw is h.pushed

-- a character more of a word that is written with `\` where it needs one
module _ (w out₀ : List ℕ) (start o at code n : ℕ) (out : List ℕ) (h : Laying (encode_all (escaped (codes_in w))) (encode_all (escaped (codes_in (drop at w)))) out₀ start o out)
    (d : decode_first (drop at w) ≡ Character code n) (room : start + length (encode_all (escaped (codes_in w))) ≤ length out₀) where
  pub character_room : o + length (escaped_bytes (special code) (take (at + n - at) (drop at w))) ≤ length out₀
  character_room =
      laying_room (encode_all (escaped (codes_in w))) (encode_all (escaped (codes_in (drop at w)))) (escaped_bytes (special code) (take (at + n - at) (drop at w)))
      (encode_all (escaped (codes_in (drop (at + n) w)))) out₀ start o out h (escaped_turn w at code n d) room

  pub character_turn : (r : ℕ) (left : List ℕ) → Pushed (escaped_bytes (special code) (take (at + n - at) (drop at w))) out o r left
      → Laying (encode_all (escaped (codes_in w))) (encode_all (escaped (codes_in (drop (at + n) w)))) out₀ start r left
  character_turn r left p =
      laying_turn (encode_all (escaped (codes_in w))) (encode_all (escaped (codes_in (drop at w)))) (escaped_bytes (special code) (take (at + n - at) (drop at w)))
      (encode_all (escaped (codes_in (drop (at + n) w)))) out₀ start o out h (escaped_turn w at code n d) room r left p

-- a word more of a line
module _ (line words out₀ : List ℕ) (o n at len : ℕ) (out : List ℕ) (h : Laying line (rest_line n (judge_words (listed (drop at words)))) out₀ 0 o out)
    (f : IsFine (judge_words (listed (drop at words)))) (t : WordTold (drop at words) len) (room : length line ≤ length out₀) where
  pub word_room_lem : o + length (gap_before n ++ shown (take (at + 3 + len - (at + 3)) (drop (at + 3) words))) ≤ length out₀
  word_room_lem =
      laying_room line (rest_line n (judge_words (listed (drop at words)))) (gap_before n ++ shown (take (at + 3 + len - (at + 3)) (drop (at + 3) words)))
      (rest_line (n + 1) (judge_words (listed (drop (at + 3 + len) words)))) out₀ 0 o out h (rest_turn words n at f len t) (omega arith)

  pub word_turn : (r : ℕ) (left : List ℕ) → Pushed (gap_before n ++ shown (take (at + 3 + len - (at + 3)) (drop (at + 3) words))) out o r left
      → Laying line (rest_line (n + 1) (judge_words (listed (drop (at + 3 + len) words)))) out₀ 0 r left
  word_turn r left p =
      laying_turn line (rest_line n (judge_words (listed (drop at words)))) (gap_before n ++ shown (take (at + 3 + len - (at + 3)) (drop (at + 3) words)))
      (rest_line (n + 1) (judge_words (listed (drop (at + 3 + len) words)))) out₀ 0 o out h (rest_turn words n at f len t) (omega arith) r left p
