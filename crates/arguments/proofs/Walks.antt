-- Laws of the two walks, over the characters of a word and over the words: one turn, and the end.
use Prim.Native.Nat.{ℕ, ◌+◌, ◌-◌, ◌^◌, ◌<◌, ◌≤◌}
use mathlib.Core.Path.{◌≡◌, refl, sym, ap, ◌∙◌}
use mathlib.Core.Bool.{false}
use mathlib.Core.List.{List, [], ◌∷◌, ◌++◌}
use native.Mathlib.Omega.{arith}
use lib.Dec.{eqb, ltb}
use lib.ListN.{length, take, drop, get_or, length-take, length-drop}
use lib.Seq.{drop-drop, get_or-drop, get_or-take, take-take}
use Rattle.buffer.proofs.Lists.{drop_take}
use borrow.Author.Tests.{lt-ltb, le-ltb, eq-eqb, ne_eqb}
use Rattle.buffer.proofs.Choices.{then_is, else_is}
use types.Run.{OneOf}
use denote.Enum.Declared.{tag_of}
use Rattle.text.specs.Unicode.{encode, WellFormed}
use Rattle.text.specs.Decoding.{table, decode_first, codes_in, well_formed_length}
use Rattle.text.specs.declared.utf8.Decoded.{Decoded}
use Rattle.text.specs.declared.utf8.Decoded.TheVariants.{Character}
use Rattle.text.specs.contracts.utf8.Decoded.{the_type}
use Rattle.text.proofs.Pieces.{character_bytes, character_fits}
use Rattle.text.proofs.Prefix.{codes_step, codes_stop, prefix_step, prefix_none, whole_is, is_whole}
use Rattle.words.proofs.GoodWords.{Each, also, Good}
use Rattle.frame.specs.Framed.{frame_of, frame_first}
use Rattle.frame.specs.declared.framed.Framed.TheVariants.{Frame as Framed}
use Rattle.frame.specs.Series.{texts_in, Whole}
use Rattle.frame.proofs.Frames.{length_frame_of}
use Rattle.frame.proofs.Series.{texts_more, word_within, word_length, one_text, whole_frame, whole_both, all_frame, all_both, all_next, words_more}
use Rattle.table.specs.Inner.{part_of}
use Rattle.image.specs.Frames.{Frame}
use Rattle.arguments.specs.Forms.{positional, shorts, long_form, form_of, dash}
use Rattle.arguments.specs.Arguments.{none_found, Stand, go, with_positional, short_step, short_steps, word_step, args}
use Rattle.arguments.specs.Inner.{stored, found_of, stand_of, WellSplit, KeySmall, Apt, Moved, Kept, Stepped, Scanned}
use Rattle.arguments.specs.declared.standing.Progress.TheVariants.{Going}
use Rattle.arguments.specs.declared.standing.Scan.{Scan}
use Rattle.arguments.proofs.Steps.{stand_by_lem}

-- THE CHARACTERS of a word of shorts
pub record ShortsAt (words image : List ℕ) (defs : List Frame) (letters : List ℕ) (s₀ s : Scan) (at : ℕ) : Type 0 where
  pub steps : (rest : List ℕ) → short_steps stored defs (stand_of words image rest s) (codes_in (drop at letters)) ≡ short_steps stored defs (stand_of words image rest s₀) (codes_in letters)
  pub kept : s.kept ≡ s₀.kept
  pub small : KeySmall s.progress

module _ (words image : List ℕ) (defs : List Frame) (letters : List ℕ) (s₀ : Scan) where
  pub shorts_start : KeySmall s₀.progress → ShortsAt words image defs letters s₀ s₀ 0
  shorts_start k = record { steps = λ rest. refl; kept = refl; small = k }

  pub shorts_turn : (s r : Scan) (at code n : ℕ) → ShortsAt words image defs letters s₀ s at → decode_first (drop at letters) ≡ Character code n
      → Moved words image s r (λ rest. short_step stored defs (stand_of words image rest s) code) → ShortsAt words image defs letters s₀ r (at + n)
  unfolding short_steps
  shorts_turn s r at code n i d m =
      record {
        steps =
            λ rest. ap (λ (a : Stand). short_steps stored defs a (codes_in (drop (at + n) letters))) (m.stand rest)
            ∙ ap (λ (l : List ℕ). short_steps stored defs (short_step stored defs (stand_of words image rest s) code) (codes_in l)) (sym (drop-drop n at letters))
            ∙ sym (ap (short_steps stored defs (stand_of words image rest s)) (codes_step (drop at letters) code n d))
            ∙ i.steps rest;
        kept = m.kept ∙ i.kept;
        small = m.small;
      }

  pub shorts_end : (s : Scan) (at : ℕ) → ShortsAt words image defs letters s₀ s at → codes_in (drop at letters) ≡ []
      → Moved words image s₀ s (λ rest. short_steps stored defs (stand_of words image rest s₀) (codes_in letters))
  unfolding short_steps
  shorts_end s at i e =
      record { stand = λ rest. sym (ap (short_steps stored defs (stand_of words image rest s)) e) ∙ i.steps rest; kept = i.kept; small = i.small }

-- letters that are well-formed, from their first on
pub letters_start : (letters : List ℕ) → WellFormed letters → 0 + well_formed_length (drop 0 letters) ≡ length letters
letters_start letters f = let e = whole_is letters f in omega arith

-- before the end of letters that are well-formed there is a character more
pub letter_begins : (letters : List ℕ) (at : ℕ) (d : Decoded) → at + well_formed_length (drop at letters) ≡ length letters → at < length letters
    → decode_first (drop at letters) ≡ d → OneOf (1 ∷ 2 ∷ []) (tag_of the_type d) → ⊥
letter_begins letters at d w h e k = let z = prefix_none (drop at letters) (codes_stop (drop at letters) d e k) in omega arith

-- what stands after a dash of a text that is well-formed is well-formed
dash_first : (w : List ℕ) → 0 < length w → get_or w 0 0 ≡ dash → decode_first w ≡ Character dash 1
unfolding decode_first table
dash_first [] h e = absurd (omega arith)
dash_first (a ∷ s) h e = rw e refl

after_dash : (w : List ℕ) → WellFormed w → 0 < length w → get_or w 0 0 ≡ dash → WellFormed (drop 1 w)
after_dash w f h e =
    let a = whole_is w f in
    let b = prefix_step w dash 1 (dash_first w h e) in
    let l = length-drop 1 w in
    is_whole (drop 1 w) (omega arith)

-- a character in a part of the words
pub letter_part : (words : List ℕ) (start end at code n : ℕ) → decode_first (drop at (take (end - start) (drop start words))) ≡ Character code n
    → part_of words (start + at) n ≡ encode code
letter_part words start end at code n d =
    let fit = character_fits (take (end - start) (drop start words)) at code n d in
    let l : length (take (end - start) (drop start words)) ≤ end - start = rw length-take (omega arith) in
    let k : n ≤ end - start - at = omega arith in
    ap (take n) (sym (drop-drop at start words))
    ∙ sym (take-take n (end - start - at) (drop at (drop start words)) k)
    ∙ ap (take n) (sym (drop_take at (end - start) (drop start words)))
    ∙ character_bytes (drop at (take (end - start) (drop start words))) code n d

-- A WORD, by its frame
module _ (words : List ℕ) (at kind n : ℕ) (e : frame_first (drop at words) ≡ Framed kind n) where
  pub word_byte : (i : ℕ) → i < n → get_or (part_of words (at + 3) n) i 0 ≡ get_or words (at + 3 + i) 0
  word_byte i h = get_or-take n (drop (at + 3) words) i 0 h ∙ get_or-drop (at + 3) words i 0

  pub word_after : (j : ℕ) → take (at + 3 + n - (at + 3 + j)) (drop (at + 3 + j) words) ≡ drop j (part_of words (at + 3) n)
  word_after j =
      let k : at + 3 + n - (at + 3 + j) ≡ n - j = omega arith in
      ap (λ (m : ℕ). take m (drop (at + 3 + j) words)) k ∙ ap (take (n - j)) (sym (drop-drop j (at + 3) words)) ∙ sym (drop_take j n (drop (at + 3) words))

  -- the letters of a word of shorts are well-formed if the word is
  pub letters_formed : WellFormed (part_of words (at + 3) n) → 2 ≤ n → get_or words (at + 3) 0 ≡ dash → WellFormed (take (at + 3 + n - (at + 3 + 1)) (drop (at + 3 + 1) words))
  letters_formed f h d =
      let l = word_length words at kind n e in
      let k : at + 3 + 0 ≡ at + 3 = omega arith in
      rw (word_after 1) (after_dash (part_of words (at + 3) n) f (omega arith) (word_byte 0 (omega arith) ∙ ap (λ (i : ℕ). get_or words i 0) k ∙ d))

  -- its form
  pub form_short : n < 2 → form_of (part_of words (at + 3) n) ≡ positional
  unfolding form_of
  form_short h = let l = word_length words at kind n e in then_is _ _ _ (lt-ltb (length (part_of words (at + 3) n)) 2 (omega arith))

  abbrev first : ℕ
  first = get_or words (at + 3) 0

  zeroth : 0 < n → get_or (part_of words (at + 3) n) 0 0 ≡ first
  zeroth h = let k : at + 3 + 0 ≡ at + 3 = omega arith in word_byte 0 h ∙ ap (λ (i : ℕ). get_or words i 0) k

  longer : 2 ≤ n → ltb (length (part_of words (at + 3) n)) 2 ≡ false
  longer h = let l = word_length words at kind n e in le-ltb (length (part_of words (at + 3) n)) 2 (omega arith)

  pub form_plain : 2 ≤ n → (first ≡ dash → ⊥) → form_of (part_of words (at + 3) n) ≡ positional
  unfolding form_of
  form_plain h d = else_is _ _ _ (longer h) ∙ else_is _ _ _ (ap (λ (b : ℕ). eqb b dash) (zeroth (omega arith)) ∙ ne_eqb first dash d)

  pub form_long : 2 ≤ n → first ≡ dash → get_or words (at + 3 + 1) 0 ≡ dash → form_of (part_of words (at + 3) n) ≡ long_form (drop 2 (part_of words (at + 3) n))
  unfolding form_of
  form_long h d f =
      else_is _ _ _ (longer h) ∙ then_is _ _ _ (ap (λ (b : ℕ). eqb b dash) (zeroth (omega arith)) ∙ eq-eqb first dash d) ∙ then_is _ _ _ (ap (λ (b : ℕ). eqb b dash) (word_byte 1 (omega arith)) ∙ eq-eqb (get_or words (at + 3 + 1) 0) dash f)

  pub form_shorts : 2 ≤ n → first ≡ dash → (get_or words (at + 3 + 1) 0 ≡ dash → ⊥) → form_of (part_of words (at + 3) n) ≡ shorts (drop 1 (part_of words (at + 3) n))
  unfolding form_of
  form_shorts h d f =
      else_is _ _ _ (longer h) ∙ then_is _ _ _ (ap (λ (b : ℕ). eqb b dash) (zeroth (omega arith)) ∙ eq-eqb first dash d) ∙ else_is _ _ _ (ap (λ (b : ℕ). eqb b dash) (word_byte 1 (omega arith)) ∙ ne_eqb (get_or words (at + 3 + 1) 0) dash f)

-- ONE STEP over a word
module _ (words image rest left : List ℕ) (s r : Scan) where
  pub kept_stepped : (kind : ℕ) (w : List ℕ) → s.progress ≡ Going → Apt rest s → length w < 256 ^ 2 → Kept (frame_of kind w) rest left s r
      → Stepped words image rest left s r (3 + length w) (go (with_positional (found_of words image rest s) w))
  unfolding stand_of found_of with_positional Whole
  kept_stepped kind w g a h k =
      let p = k.progress ∙ g in
      record {
        stand = stand_by_lem words image left r Going p ∙ found;
        apt = record { small = rw p tt; whole = rw k.bytes (whole_both (take s.kept rest) (frame_of kind w) a.whole (whole_frame kind w h)); frames = rw k.bytes (all_both (take s.kept rest) (frame_of kind w) a.whole a.frames (all_frame kind w h)) };
        kept = let q = k.kept in let l = length_frame_of kind w in omega arith;
        room = k.room;
      }
    where
      texts : texts_in (take r.kept left) ≡ texts_in (take s.kept rest) ++ (w ∷ [])
      texts = ap texts_in k.bytes ∙ a.whole (frame_of kind w) ∙ ap (λ (l : List (List ℕ)). texts_in (take s.kept rest) ++ l) (one_text kind w h)

      found : go (found_of words image left r) ≡ go (with_positional (found_of words image rest s) w)
      found = rw (k.options, k.flags, texts) refl

-- the same, told in other words
pub kept_as : (x y rest left : List ℕ) (s r : Scan) → x ≡ y → Kept x rest left s r → Kept y rest left s r
kept_as x y rest left s r e k = rw (← e) k

pub stepped_as : (words image rest left : List ℕ) (s r : Scan) (m n : ℕ) (a b : Stand) → Stepped words image rest left s r m a → m ≡ n → a ≡ b → Stepped words image rest left s r n b
stepped_as words image rest left s r m n a b x e f = record { stand = x.stand ∙ f; apt = x.apt; kept = rw (← e) x.kept; room = x.room }

pub moved_stepped : (words image rest : List ℕ) (s r : Scan) (f : List ℕ → Stand) (to : Stand) (size : ℕ) → Apt rest s → Moved words image s r f → f rest ≡ to
    → Stepped words image rest rest s r size to
moved_stepped words image rest s r f to size a m e =
    record {
      stand = m.stand rest ∙ e;
      apt = record { small = m.small; whole = rw m.kept a.whole; frames = rw m.kept a.frames };
      kept = let k = m.kept in omega arith;
      room = refl;
    }

-- THE WORDS, one after the other
pub record ArgsAt (words image : List ℕ) (defs : List Frame) (start : ℕ) (rest₀ rest : List ℕ) (s : Scan) (at : ℕ) : Type 0 where
  pub steps : args stored defs (stand_of words image rest s) (texts_in (drop at words)) ≡ args stored defs (go none_found) (texts_in (drop start words))
  pub apt : Apt rest s
  pub kept : s.kept ≤ at
  pub bound : s.kept ≤ length words
  pub room : length rest ≡ length rest₀
  pub ahead : WellSplit (drop at words)

-- a word that was split, and those after it
each_first : (w : List ℕ) (l : List (List ℕ)) → Each Good (w ∷ l) → Good w
each_first w l (also g e) = g

each_later : (w : List ℕ) (l : List (List ℕ)) → Each Good (w ∷ l) → Each Good l
each_later w l (also g e) = e

module _ (words : List ℕ) (at kind n : ℕ) (e : frame_first (drop at words) ≡ Framed kind n) (s : WellSplit (drop at words)) where
  pub split_word : WellFormed (part_of words (at + 3) n)
  split_word = (each_first (part_of words (at + 3) n) (texts_in (drop (at + 3 + n) words)) (rw (words_more words at kind n e) at s.good)).formed

  pub split_next : WellSplit (drop (at + (3 + n)) words)
  split_next =
      let k : at + 3 + n ≡ at + (3 + n) = omega arith in
      record {
        frames = all_next words at kind n e s.frames;
        good = rw k at (each_later (part_of words (at + 3) n) (texts_in (drop (at + 3 + n) words)) (rw (words_more words at kind n e) at s.good));
      }

module _ (words image : List ℕ) (defs : List Frame) (start : ℕ) (rest₀ : List ℕ) where
  pub args_start : (s : Scan) → stand_of words image rest₀ s ≡ go none_found → Apt rest₀ s → s.kept ≡ 0 → WellSplit (drop start words) → ArgsAt words image defs start rest₀ rest₀ s start
  args_start s e a k w = record { steps = ap (λ (x : Stand). args stored defs x (texts_in (drop start words))) e; apt = a; kept = omega arith; bound = omega arith; room = refl; ahead = w }

  pub args_turn : (rest left : List ℕ) (s r : Scan) (at kind n : ℕ) → ArgsAt words image defs start rest₀ rest s at → frame_first (drop at words) ≡ Framed kind n
      → Stepped words image rest left s r (3 + n) (word_step stored defs (stand_of words image rest s) (part_of words (at + 3) n)) → ArgsAt words image defs start rest₀ left r (at + (3 + n))
  unfolding args
  args_turn rest left s r at kind n i e st =
      record {
        steps =
            ap (λ (a : Stand). args stored defs a (texts_in (drop (at + (3 + n)) words))) st.stand
            ∙ ap (λ (l : List ℕ). args stored defs (word_step stored defs (stand_of words image rest s) (part_of words (at + 3) n)) (texts_in l)) (sym (drop-drop (3 + n) at words))
            ∙ ap (λ (l : List ℕ). args stored defs (word_step stored defs (stand_of words image rest s) (take n l)) (texts_in (drop (3 + n) (drop at words)))) (sym (drop-drop 3 at words))
            ∙ sym (ap (args stored defs (stand_of words image rest s)) (texts_more (drop at words) kind n e))
            ∙ i.steps;
        apt = st.apt;
        kept = let a = st.kept in let b = i.kept in omega arith;
        bound = let a = st.kept in let b = i.kept in let h = word_within words at kind n e in omega arith;
        room = st.room ∙ i.room;
        ahead = split_next words at kind n e i.ahead;
      }

  pub args_end : (rest : List ℕ) (s : Scan) (at : ℕ) → ArgsAt words image defs start rest₀ rest s at → texts_in (drop at words) ≡ []
      → Scanned words image rest₀ rest s (args stored defs (go none_found) (texts_in (drop start words)))
  unfolding args
  args_end rest s at i e =
      record { stand = sym (ap (args stored defs (stand_of words image rest s)) e) ∙ i.steps; apt = i.apt; kept = i.bound; room = i.room }
