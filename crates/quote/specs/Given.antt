-- Which words are good (STANDARD 10, 10): frames of kind 14 one after the other, each of some bytes that are well-formed.
use Rattle.std.specs.Prelude.{ℕ, zero, suc, ◌+◌, Bool, false, cond, List, [], ◌∷◌, eqb, length, take, drop}
use Rattle.text.specs.Decoding.{well_formed}
use Rattle.frame.specs.Framed.{frame_first}
use Rattle.frame.specs.Series.{on_frame}

-- the words as they come, up to the end or to what is no frame of kind 14
pub data Listed : Type 0 where
  done : Listed
  broken : Listed
  word : List ℕ → Listed → Listed

-- the words of bytes of which the first `skip` are read already
unfoldable pub listed_from : List ℕ → ℕ → Listed
listed_from [] skip = done
listed_from (a ∷ s) (suc skip) = listed_from s skip
listed_from (a ∷ s) zero =
    on_frame (frame_first (a ∷ s)) (λ kind n. cond (eqb kind 0x14) (word (take n (drop 3 (a ∷ s))) (listed_from s (2 + n))) broken) broken

-- (5.6, 5.7)
unfoldable pub listed : List ℕ → Listed
listed s = listed_from s 0

-- a good word has some bytes and is well-formed (5.7)
unfoldable pub good_word : List ℕ → Bool
good_word w = cond (eqb (length w) 0) false (well_formed w)

-- the number, from 0, of the first word that is not good or not a word, or all the words
pub data Judged : Type 0 where
  bad : ℕ → Judged
  fine : List (List ℕ) → Judged

abbrev pub on_judged : {A : Type 0} → Judged → (ℕ → A) → (List (List ℕ) → A) → A
on_judged (bad n) f g = f n
on_judged (fine words) f g = g words

-- a good word before what is judged already
abbrev pub word_before : List ℕ → Judged → Judged
word_before w (bad n) = bad (suc n)
word_before w (fine words) = fine (w ∷ words)

-- (5.7)
unfoldable pub judge_words : Listed → Judged
judge_words done = fine []
judge_words broken = bad 0
judge_words (word w l) = cond (good_word w) (word_before w (judge_words l)) (bad 0)
