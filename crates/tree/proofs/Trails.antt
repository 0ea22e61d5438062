-- Laws of the words that are followed down an image: what passing a frame makes of where they have led.
use Prim.Native.Nat.{ℕ, zero, suc, ◌+◌, ◌-◌, ◌<◌, ◌≤◌}
use mathlib.Core.Path.{◌≡◌, refl, sym, ap, ◌∙◌}
use mathlib.Core.Bool.{Bool, true, false, cond}
use mathlib.Core.List.{List, [], ◌∷◌, ◌++◌, append-nil}
use native.Mathlib.Omega.{arith}
use borrow.Author.Tests.{le-leb, lt-leb, leb-true, eq-eqb, ne_eqb, eqb-true, eqb-false}
use lib.Dec.{leb, ltb, eqb}
use lib.ListN.{length, take, drop, get_or, length-append, length-take, length-drop}
use types.Run.{hit}
use lib.Seq.{append_snoc, drop-drop, get_or-drop, get_or-take, take-add, take-append_seam}
use Rattle.buffer.specs.Compare.{same_bytes}
use Rattle.buffer.proofs.Ordering.{same_is, same_self}
use Rattle.buffer.proofs.Choices.{then_is, else_is, true_is_not_false}
use Rattle.buffer.specs.Numbers.{Bytes, number_bytes}
use Rattle.frame.specs.Text.{text_of}
use Rattle.frame.specs.Framed.{frame_first}
use Rattle.frame.specs.Series.{texts_in}
use Rattle.frame.specs.declared.framed.Framed.{Framed as Frames}
use Rattle.frame.specs.declared.framed.Framed.TheVariants.{Frame as Framed, Broken, End as Ended}
use Rattle.buffer.proofs.Numbers.{bytes_drop}
use Rattle.frame.proofs.Series.{texts_stop, word_within, word_length, words_more, texts_none, whole_none, path_more, path_whole}
use Rattle.image.specs.Frames.{Perhaps, text, perhaps, Frame, node, option, flag, encode_frame}
use Rattle.image.specs.Limits.{both, is_name, fair}
use Rattle.image.specs.Reading.{head_first, read_by, Read, read, broken, ended, read_first, node_in, option_in, flag_in}
use Rattle.image.specs.declared.head.Head.{Head}
use Rattle.image.specs.declared.head.Head.TheVariants.{Node, Option as OptionHead, Flag, Bad, End}
use Rattle.image.proofs.Encoding.{text_is, read_back, read_within, fair_fits}
use Rattle.image.proofs.Fields.{both_first, both_second, both_true}
use Rattle.tree.specs.Images.{frames_of, flat}
use Rattle.tree.specs.Rules.{obeys, check_tree}
use Rattle.tree.specs.Steps.{text_first, name_at, seen_by, start_walk, passed as walked, step_by}
use Rattle.tree.specs.Subtrees.{is_named, is_upper, up_to, on_from, rooted, subtree}
use Rattle.tree.specs.Commands.{Reached, on_subtree, descend, reached_by}
use Rattle.tree.specs.Trails.{image_part, Descended, Leads, Finding}
use Rattle.tree.specs.Inner.{all_fair, next_in, Ahead, found_by, start_trail, is_above, Inside, Trailed, inside, beyond, Passing}
use Rattle.tree.specs.declared.walk.Walk.{Walk}
use Rattle.tree.specs.declared.command.Place.{Place}
use Rattle.tree.specs.declared.command.Trail.{Trail}
use Rattle.std.specs.Prelude.{Some, None, Ok, Option}
use Rattle.tree.proofs.Items.{frames_read, frames_end}
use Rattle.tree.proofs.PassedFrames.{head_name}
use Rattle.tree.proofs.Walks.{passed_at, one_taken}
use Rattle.tree.proofs.WellFormedImages.{AllFit, flat_append, frames_flat}

-- FRAMES UP TO A TEST, and from one on
up_never : (test : Frame → Bool) → ((f : Frame) → test f ≡ false) → (fs : List Frame) → up_to test fs ≡ fs
unfolding up_to
up_never test n [] = refl
up_never test n (f ∷ l) = else_is _ _ _ (n f) ∙ ap (λ (m : List Frame). f ∷ m) (up_never test n l)

-- a test that passes more ends earlier
up_up : (far near : Frame → Bool) → ((f : Frame) → far f ≡ true → near f ≡ true) → (fs : List Frame) → up_to near (up_to far fs) ≡ up_to near fs
unfolding up_to
up_up far near k [] = refl
up_up far near k (f ∷ l) = by (far f) refl (up_up far near k l)
  where
    by : (t : Bool) → far f ≡ t → up_to near (up_to far l) ≡ up_to near l → up_to near (cond t [] (f ∷ up_to far l)) ≡ cond (near f) [] (f ∷ up_to near l)
    by true e more = sym (then_is _ _ _ (k f e))
    by false e more = ap (λ (m : List Frame). cond (near f) [] (f ∷ m)) more

on_after : (test : Frame → Bool) (a b : List Frame) → on_from test a ≡ [] → on_from test (a ++ b) ≡ on_from test b
unfolding on_from
on_after test [] b e = refl
on_after test (f ∷ a) b e = by (test f) e (on_after test a b)
  where
    by : (t : Bool) → cond t (f ∷ a) (on_from test a) ≡ [] → (on_from test a ≡ [] → on_from test (a ++ b) ≡ on_from test b) → cond t (f ∷ (a ++ b)) (on_from test (a ++ b)) ≡ on_from test b
    by true q more = absurd (let z : ◌≡◌ {A = ℕ} 0 1 = cc in omega arith)
    by false q more = more q

-- a node by its depth
above_is : (k d h : ℕ) (name ds : List ℕ) (u : Perhaps) → d < k → is_above k (node d h name ds u) ≡ true
above_is zero d h name ds u l = absurd (omega arith)
above_is (suc k) d h name ds u l = le-leb d k (omega arith)

above_not : (k d h : ℕ) (name ds : List ℕ) (u : Perhaps) → k ≤ d → is_above k (node d h name ds u) ≡ false
above_not zero d h name ds u l = refl
above_not (suc k) d h name ds u l = lt-leb d k (omega arith)

above_upper : (k : ℕ) (f : Frame) → is_above k f ≡ true → is_upper k f ≡ true
above_upper zero f e = absurd (true_is_not_false (sym e))
above_upper (suc k) (node d h name ds u) e = let l : d ≤ k = leb-true d k e in le-leb d (suc k) (omega arith)
above_upper (suc k) (option r c name l ds) e = absurd (true_is_not_false (sym e))
above_upper (suc k) (flag c name l ds) e = absurd (true_is_not_false (sym e))

-- frames within their limits
pub all_fit : (fs : List Frame) → all_fair fs ≡ true → AllFit fs
unfolding all_fair
all_fit [] e = tt
all_fit (f ∷ l) e = (fair_fits f (both_first (fair f) _ e), all_fit l (both_second (fair f) _ e))

fair_both : (a b : List Frame) → all_fair a ≡ true → all_fair b ≡ true → all_fair (a ++ b) ≡ true
unfolding all_fair
fair_both [] b x y = y
fair_both (f ∷ a) b x y = both_true _ _ (both_first (fair f) _ x) (fair_both a b (both_second (fair f) _ x) y)

-- THE FRAME AT A PLACE: no node, or a node whose depth and name stand there
read_name : (image : List ℕ) (at d h : ℕ) (name ds : List ℕ) (u : Perhaps) (n : ℕ) → read_first (drop at image) ≡ read (node d h name ds u) n → name_at image (at + 4) ≡ name
unfolding read_first node_in option_in flag_in
read_name image at d h name ds u n e = by (head_first (drop at image)) refl e
  where
    by : (x : Head) → head_first (drop at image) ≡ x → read_by (drop at image) x ≡ read (node d h name ds u) n → name_at image (at + 4) ≡ name
    by (Node d₂ h₂ t) q r = let k : take t.name (drop 5 (drop at image)) ≡ name = cc in sym (head_name image at d₂ h₂ t (sym q)) ∙ k
    by (OptionHead a c t) q r = cc
    by (Flag c t) q r = cc
    by Bad q r = cc
    by End q r = cc

-- neither named nor above
pub record Plain (f : Frame) : Type 0 where
  pub below : (k : ℕ) → is_above k f ≡ false
  pub other : (k : ℕ) (w : List ℕ) → is_named k w f ≡ false

pub record NodeAt (image : List ℕ) (at : ℕ) (f : Frame) : Type 0 where
  pub above : (k : ℕ) → get_or image (at + 1) 0 < k → is_above k f ≡ true
  pub below : (k : ℕ) → k ≤ get_or image (at + 1) 0 → is_above k f ≡ false
  pub other : (k : ℕ) (w : List ℕ) → (get_or image (at + 1) 0 ≡ k → ⊥) → is_named k w f ≡ false
  pub named : (w : List ℕ) → is_named (get_or image (at + 1) 0) w f ≡ same_bytes (name_at image (at + 4)) w
  pub size : length (name_at image (at + 4)) ≡ get_or image (at + 4) 0
  pub some : fair f ≡ true → 1 ≤ length (name_at image (at + 4))

plain_option : (r c : ℕ) (name : List ℕ) (l : Perhaps) (ds : List ℕ) → Plain (option r c name l ds)
plain_option r c name l ds = record { below = by; other = λ k w. refl }
  where
    by : (k : ℕ) → is_above k (option r c name l ds) ≡ false
    by zero = refl
    by (suc k) = refl

plain_flag : (c : ℕ) (name : List ℕ) (l : Perhaps) (ds : List ℕ) → Plain (flag c name l ds)
plain_flag c name l ds = record { below = by; other = λ k w. refl }
  where
    by : (k : ℕ) → is_above k (flag c name l ds) ≡ false
    by zero = refl
    by (suc k) = refl

module _ (image : List ℕ) (at n : ℕ) (b : Bytes image) where
  byte_of : (i : ℕ) (f : Frame) → read_first (drop at image) ≡ read f n → get_or image (at + i) 0 ≡ get_or (encode_frame f ++ drop n (drop at image)) i 0
  byte_of i f e = sym (get_or-drop at image i 0) ∙ ap (λ (s : List ℕ). get_or s i 0) (read_back (drop at image) (bytes_drop at image b) f n e)

  kind_of_lem : (f : Frame) → read_first (drop at image) ≡ read f n → get_or image at 0 ≡ get_or (encode_frame f ++ drop n (drop at image)) 0 0
  kind_of_lem f e = let k : at + 0 ≡ at = omega arith in ap (λ (i : ℕ). get_or image i 0) (sym k) ∙ byte_of 0 f e

  pub no_node : (f : Frame) → read_first (drop at image) ≡ read f n → (get_or image at 0 ≡ 1 → ⊥) → Plain f
  unfolding encode_frame
  no_node (node d h name ds u) e k = absurd (k (kind_of_lem (node d h name ds u) e))
  no_node (option r c name l ds) e k = plain_option r c name l ds
  no_node (flag c name l ds) e k = plain_flag c name l ds

  pub node_at_lem : (f : Frame) → read_first (drop at image) ≡ read f n → get_or image at 0 ≡ 1 → NodeAt image at f
  unfolding encode_frame text text_of number_bytes fair is_name
  node_at_lem (node d h name ds u) e k =
      let q : get_or image (at + 1) 0 ≡ d = byte_of 1 (node d h name ds u) e in
      record {
        above = λ m l. above_is m d h name ds u (omega arith);
        below = λ m l. above_not m d h name ds u (omega arith);
        other = λ m w l. ap (λ (t : Bool). both t (same_bytes name w)) (ne_eqb d m (λ z. l (q ∙ z)));
        named = λ w. ap (λ (t : Bool). both t (same_bytes name w)) (eq-eqb d (get_or image (at + 1) 0) (sym q)) ∙ ap (λ (x : List ℕ). same_bytes x w) (sym (read_name image at d h name ds u n e));
        size =
            ap length (read_name image at d h name ds u n e)
            ∙ sym (byte_of 4 (node d h name ds u) e ∙ ap (λ (t : List ℕ). get_or (t ++ (text ds ++ perhaps u) ++ drop n (drop at image)) 0 0) (text_is name));
        some = λ g. rw (read_name image at d h name ds u n e) (leb-true 1 (length name) (both_first (leb 1 (length name)) _ (both_first (is_name name) _ (both_second (leb d 7) _ (both_second (ltb h 65536) _ g)))));
      }
  node_at_lem (option r c name l ds) e k = let z : get_or image at 0 ≡ 2 = kind_of_lem (option r c name l ds) e in absurd (omega arith)
  node_at_lem (flag c name l ds) e k = let z : get_or image at 0 ≡ 3 = kind_of_lem (flag c name l ds) e in absurd (omega arith)

-- WHERE THE WORDS HAVE LED, once the subtree is passed
module _ (words image : List ℕ) (at : ℕ) (t : Trail) (passed : List Frame) (o : Inside words image at t passed) where
  abbrev path : List (List ℕ)
  path = texts_in (take t.place.at words)

  abbrev left : List (List ℕ)
  left = texts_in (drop t.place.at words)

  stays : (l : List (List ℕ)) → left ≡ l → descend t.depth passed path l ≡ record { path = path; words = l; frames = passed }
  unfolding descend subtree
  stays [] e = refl
  stays (w ∷ l) e =
      ap (λ (fs : List Frame). on_subtree (rooted t.depth fs) (record { path = path; words = w ∷ l; frames = passed }) (λ child. descend (suc t.depth) child (path ++ (w ∷ [])) l)) (o.free w l e)

  pub settles : up_to (is_above t.depth) (frames_of (drop at image)) ≡ [] → (end : ℕ) → end ≡ at → Descended words image (record { start = t.place.start; end = end; at = t.place.at }) (reached_by image words)
  settles e end q =
      let r : record { path = path; words = left; frames = passed } ≡ reached_by image words = sym (stays left refl) ∙ ap (λ (fs : List Frame). descend t.depth fs path left) (sym (append-nil passed) ∙ ap (λ (l : List Frame). passed ++ l) (sym e)) ∙ o.steps in
      let s : take (end - t.place.start) (drop t.place.start image) ≡ flat passed = ap (λ (m : ℕ). take (m - t.place.start) (drop t.place.start image)) q ∙ o.bytes in
      record {
        path = ap (λ (x : Reached). x.path) r;
        left = ap (λ (x : Reached). x.words) r;
        frames = ap frames_of s ∙ frames_flat passed (all_fit passed o.fair) ∙ ap (λ (x : Reached). x.frames) r;
        within = record { order = let a = o.start in omega arith; inside = let a = o.within in omega arith; passed = o.ahead };
      }

-- ONE FRAME MORE
module _ (words image : List ℕ) (b : Bytes image) (at n : ℕ) (f : Frame) (e : read_first (drop at image) ≡ read f n) (good : fair f ≡ true) (h : at < length image) where
  abbrev more : List Frame
  more = frames_of (drop (at + n) image)

  frames_on : frames_of (drop at image) ≡ f ∷ more
  frames_on = frames_read (drop at image) f n e ∙ ap (λ (l : List ℕ). f ∷ frames_of l) (drop-drop n at image)

  bytes_on : take n (drop at image) ≡ encode_frame f
  bytes_on =
      let back = read_back (drop at image) (bytes_drop at image b) f n e in
      let all : length (drop at image) ≡ length (encode_frame f) + length (drop n (drop at image)) = ap length back ∙ length-append (encode_frame f) (drop n (drop at image)) in
      let less = length-drop n (drop at image) in
      let in-it = (read_within (drop at image) f n e).1 in
      let size : n ≡ length (encode_frame f) = omega arith in
      ap (take n) back ∙ ap (λ (m : ℕ). take m (encode_frame f ++ drop n (drop at image))) size ∙ take-append_seam (encode_frame f) (drop n (drop at image))

  within : at + n ≤ length image
  within = let l = length-drop at image in let w = (read_within (drop at image) f n e).1 in omega arith

  -- the bytes from a place before
  front_on : (start : ℕ) → start ≤ at → take (at + n - start) (drop start image) ≡ take (at - start) (drop start image) ++ encode_frame f
  front_on start l =
      let k : at + n - start ≡ at - start + n = omega arith in
      let j : start + (at - start) ≡ at = omega arith in
      ap (λ (m : ℕ). take m (drop start image)) k
      ∙ take-add (at - start) n (drop start image)
      ∙ ap (λ (l : List ℕ). take (at - start) (drop start image) ++ take n l) (drop-drop (at - start) start image ∙ ap (λ (m : ℕ). drop m image) j)
      ∙ ap (λ (l : List ℕ). take (at - start) (drop start image) ++ l) bytes_on

  flat_one : flat (f ∷ []) ≡ encode_frame f
  unfolding flat
  flat_one = append-nil (encode_frame f)

  fair_one : all_fair (f ∷ []) ≡ true
  unfolding all_fair
  fair_one = both_true _ _ good refl

  up_over : (test : Frame → Bool) → test f ≡ false → up_to test (frames_of (drop at image)) ≡ f ∷ up_to test more
  unfolding up_to
  up_over test k = ap (up_to test) frames_on ∙ else_is _ _ _ k

  up_here : (test : Frame → Bool) → test f ≡ true → up_to test (frames_of (drop at image)) ≡ []
  unfolding up_to
  up_here test k = ap (up_to test) frames_on ∙ then_is _ _ _ k

  on_other : (test : Frame → Bool) → test f ≡ false → on_from test (f ∷ []) ≡ []
  unfolding on_from
  on_other test k = else_is _ _ _ k

  on_met : (test : Frame → Bool) (l : List Frame) → test f ≡ true → on_from test (f ∷ l) ≡ f ∷ l
  unfolding on_from
  on_met test l k = then_is _ _ _ k

  module _ (t : Trail) (passed : List Frame) (o : Inside words image at t passed) where
    -- it is below, and no child that is named next
    pub passes_by : is_above t.depth f ≡ false → ((w : List ℕ) (l : List (List ℕ)) → left words image at t passed o ≡ w ∷ l → is_named t.depth w f ≡ false) → Inside words image (at + n) t (passed ++ (f ∷ []))
    passes_by a m =
        record {
          start = let s = o.start in omega arith;
          within = within;
          end = o.end;
          ahead = o.ahead;
          whole = o.whole;
          top = o.top;
          none = o.none;
          bytes = front_on t.place.start o.start ∙ ap (λ (s : List ℕ). s ++ encode_frame f) o.bytes ∙ ap (λ (s : List ℕ). flat passed ++ s) (sym flat_one) ∙ sym (flat_append passed (f ∷ []));
          fair = fair_both passed (f ∷ []) o.fair fair_one;
          free = λ w l q. on_after (is_named t.depth w) passed (f ∷ []) (o.free w l q) ∙ on_other (is_named t.depth w) (m w l q);
          steps =
              ap (λ (fs : List Frame). descend t.depth fs (path words image at t passed o) (left words image at t passed o)) (append_snoc passed f (up_to (is_above t.depth) more) ∙ ap (λ (fs : List Frame). passed ++ fs) (sym (up_over (is_above t.depth) a)))
              ∙ o.steps;
        }

    -- it is above: the subtree is passed
    pub closes : is_above t.depth f ≡ true → (t.depth ≡ 0 → ⊥) → Leads words image (Some (record { start = t.place.start; end = at; at = t.place.at })) (reached_by image words)
    closes a k = let d = settles words image at t passed o (up_here (is_above t.depth) a) at refl in (d, λ z. k (o.none (d.path ∙ z)))

    -- it is the child that is named next
    module _ (kind m : ℕ) (q : frame_first (drop t.place.at words) ≡ Framed kind m) (bw : Bytes words) (s : length words ≤ 4096) (a : is_above t.depth f ≡ false) where
      abbrev word : List ℕ
      word = take m (drop (t.place.at + 3) words)

      abbrev next : Trail
      next = record { place = record { start = at; end = length image; at = t.place.at + 3 + m }; depth = t.depth + 1; next = next_in (frame_first (drop (t.place.at + 3 + m) words)) }

      child : is_named t.depth word f ≡ true → subtree t.depth word (passed ++ up_to (is_above t.depth) (frames_of (drop at image))) ≡ f ∷ up_to (is_upper t.depth) more
      unfolding subtree
      child c =
          ap (rooted t.depth)
          (ap (λ (l : List Frame). on_from (is_named t.depth word) (passed ++ l)) (up_over (is_above t.depth) a)
          ∙ on_after (is_named t.depth word) passed (f ∷ up_to (is_above t.depth) more) (o.free word _ (words_more words t.place.at kind m q))
          ∙ on_met (is_named t.depth word) (up_to (is_above t.depth) more) c)
          ∙ ap (λ (l : List Frame). f ∷ l) (up_up (is_above t.depth) (is_upper t.depth) (above_upper t.depth) more)

      onward : is_named t.depth word f ≡ true → descend (suc t.depth) (f ∷ up_to (is_upper t.depth) more) (path words image at t passed o ++ (word ∷ [])) (texts_in (drop (t.place.at + 3 + m) words)) ≡ reached_by image words
      unfolding descend
      onward c =
          sym (ap (λ (fs : List Frame). on_subtree fs (record { path = path words image at t passed o; words = word ∷ texts_in (drop (t.place.at + 3 + m) words); frames = passed ++ up_to (is_above t.depth) (frames_of (drop at image)) }) (λ c₂. descend (suc t.depth) c₂ (path words image at t passed o ++ (word ∷ [])) (texts_in (drop (t.place.at + 3 + m) words)))) (child c))
          ∙ sym (ap (descend t.depth (passed ++ up_to (is_above t.depth) (frames_of (drop at image))) (path words image at t passed o)) (words_more words t.place.at kind m q))
          ∙ o.steps

      longer : (l : List (List ℕ)) → l ++ (word ∷ []) ≡ [] → ⊥
      longer [] z = let y : ◌≡◌ {A = ℕ} 0 1 = cc in omega arith
      longer (x ∷ l) z = let y : ◌≡◌ {A = ℕ} 0 1 = cc in omega arith

      shorter : length words < 65536
      shorter = omega arith

      pub enters : is_named t.depth word f ≡ true → ((w : List ℕ) → is_named (t.depth + 1) w f ≡ false) → Inside words image (at + n) next (f ∷ [])
      enters c d =
          let k : at + n - at ≡ n = omega arith in
          let j : t.depth + 1 ≡ suc t.depth = omega arith in
          let p = path_more words t.place.at kind m q bw shorter o.whole in
          record {
            start = omega arith;
            within = within;
            end = refl;
            ahead = word_within words t.place.at kind m q;
            whole = path_whole words t.place.at kind m q bw shorter o.whole;
            top = λ z. absurd (omega arith);
            none = λ z. absurd (longer (path words image at t passed o) (sym p ∙ z));
            bytes = ap (λ (i : ℕ). take i (drop at image)) k ∙ bytes_on ∙ sym flat_one;
            fair = fair_one;
            free = λ w l r. on_other (is_named (t.depth + 1) w) (d w);
            steps =
                ap (λ (i : ℕ). descend i (f ∷ up_to (is_above i) more) (texts_in (take (t.place.at + 3 + m) words)) (texts_in (drop (t.place.at + 3 + m) words))) j
                ∙ ap (λ (r : List (List ℕ)). descend (suc t.depth) (f ∷ up_to (is_upper t.depth) more) r (texts_in (drop (t.place.at + 3 + m) words))) p
                ∙ onward c;
          }

-- THE NEXT WORD
pub next_framed : (d : Frames) (n : ℕ) → Some n ≡ next_in d → (kind : ℕ) × (d ≡ Framed kind n)
next_framed (Framed kind m) n e = let k : m ≡ n = cc in (kind, ap (Framed kind) k)
next_framed Broken n e = absurd (let z : ◌≡◌ {A = ℕ} 0 1 = cc in omega arith)
next_framed Ended n e = absurd (let z : ◌≡◌ {A = ℕ} 0 1 = cc in omega arith)

next_none : (words : List ℕ) (at : ℕ) (w : List ℕ) (l : List (List ℕ)) (d : Frames) → frame_first (drop at words) ≡ d → None ≡ next_in d → texts_in (drop at words) ≡ w ∷ l → ⊥
next_none words at w l (Framed kind n) e k q = let z : ◌≡◌ {A = ℕ} 0 1 = cc in omega arith
next_none words at w l Broken e k q = let z = texts_stop (drop at words) Broken e (hit (1 ∷ 2 ∷ []) 1 tt) in let y : ◌≡◌ {A = ℕ} 0 1 = cc in omega arith
next_none words at w l Ended e k q = let z = texts_stop (drop at words) Ended e (hit (1 ∷ 2 ∷ []) 2 tt) in let y : ◌≡◌ {A = ℕ} 0 1 = cc in omega arith

-- two texts by their last bytes, and by all
not_same : (a b : List ℕ) → (a ≡ b → ⊥) → same_bytes a b ≡ false
not_same a b k = by (same_bytes a b) refl
  where
    by : (t : Bool) → same_bytes a b ≡ t → same_bytes a b ≡ false
    by true e = absurd (k (same_is a b e))
    by false e = e

last_of : (s : List ℕ) (at m : ℕ) → 1 ≤ m → get_or (take m (drop at s)) (m - 1) 0 ≡ get_or s (at + (m - 1)) 0
last_of s at m h = get_or-take m (drop at s) (m - 1) 0 (omega arith) ∙ get_or-drop at s (m - 1) 0

last_word : (words : List ℕ) (at m : ℕ) → 1 ≤ m → get_or (take m (drop (at + 3) words)) (m - 1) 0 ≡ get_or words (at + 3 + m - 1) 0
last_word words at m h = let k : at + 3 + (m - 1) ≡ at + 3 + m - 1 = omega arith in last_of words (at + 3) m h ∙ ap (λ (i : ℕ). get_or words i 0) k

last_name : (image : List ℕ) (p m : ℕ) → length (name_at image p) ≡ get_or image p 0 → length (name_at image p) ≡ m → 1 ≤ m → get_or image (p + m) 0 ≡ get_or (name_at image p) (m - 1) 0
unfolding text_first
last_name image p m s e h =
    let z : p + 0 ≡ p = omega arith in
    let k : get_or (drop p image) 0 0 ≡ m = get_or-drop p image 0 0 ∙ ap (λ (i : ℕ). get_or image i 0) z ∙ sym s ∙ e in
    let j : p + 1 + (m - 1) ≡ p + m = omega arith in
    sym (ap (λ (i : ℕ). get_or (take i (drop 1 (drop p image))) (m - 1) 0) k ∙ ap (λ (l : List ℕ). get_or (take m l) (m - 1) 0) (drop-drop 1 p image) ∙ last_of image (p + 1) m h ∙ ap (λ (i : ℕ). get_or image i 0) j)

-- THE TURNS OF THE CODE
module _ (words image : List ℕ) (b : Bytes image) (at : ℕ) (h : at < length image) (t : Trail) where
  -- no node
  pub after_plain : (get_or image at 0 ≡ 1 → ⊥) → Passing words image at t t
  after_plain k f n e g (inside passed o) =
      let x = no_node image at n b f e k in
      inside _ (passes_by words image b at n f e g h t passed o (x.below t.depth) (λ w l q. x.other t.depth w))
  after_plain k f n e g (beyond z y d) = beyond z y d

  -- the subtree is passed already
  pub after_beyond : t.place.end < length image → Passing words image at t t
  after_beyond k f n e g (inside passed o) = absurd (let q = o.end in omega arith)
  after_beyond k f n e g (beyond z y d) = beyond z y d

  module _ (kind : get_or image at 0 ≡ 1) where
    -- a node below a child
    pub after_deep : t.depth < get_or image (at + 1) 0 → Passing words image at t t
    after_deep k f n e g (inside passed o) =
        let x = node_at_lem image at n b f e kind in
        inside _ (passes_by words image b at n f e g h t passed o (x.below t.depth (omega arith)) (λ w l q. x.other t.depth w (λ z. omega arith)))
    after_deep k f n e g (beyond z y d) = beyond z y d

    -- a node that is not below
    pub after_above : get_or image (at + 1) 0 < t.depth → length image ≤ t.place.end → Passing words image at t (record { place = record { start = t.place.start; end = at; at = t.place.at }; depth = t.depth; next = t.next })
    after_above k l f n e g (inside passed o) =
        let x = node_at_lem image at n b f e kind in
        beyond h (λ z. omega arith) (closes words image b at n f e g h t passed o (x.above t.depth k) (λ z. omega arith))
    after_above k l f n e g (beyond z y d) = absurd (omega arith)

    -- a child that is not of the next word's name, told by lengths, by last bytes or by all of them; and the one that is
    module _ (deep : get_or image (at + 1) 0 ≡ t.depth) (end : length image ≤ t.place.end) where
      after_unlike : ((f : Frame) (n : ℕ) → read_first (drop at image) ≡ read f n → fair f ≡ true → (w : List ℕ) (l : List (List ℕ)) → texts_in (drop t.place.at words) ≡ w ∷ l → name_at image (at + 4) ≡ w → ⊥)
          → Passing words image at t t
      after_unlike k f n e g (inside passed o) =
          let x = node_at_lem image at n b f e kind in
          inside _
          (passes_by words image b at n f e g h t passed o (x.below t.depth (omega arith))
          (λ w l q. ap (λ (d : ℕ). is_named d w f) (sym deep) ∙ x.named w ∙ not_same (name_at image (at + 4)) w (k f n e g w l q)))
      after_unlike k f n e g (beyond z y d) = absurd (omega arith)

      pub after_no_word : Ahead words t → t.next ≡ None → Passing words image at t t
      after_no_word a k = after_unlike (λ f n e g w l q z. next_none words t.place.at w l (frame_first (drop t.place.at words)) refl (sym k ∙ a) q)

      module _ (framed m : ℕ) (q : frame_first (drop t.place.at words) ≡ Framed framed m) where
        abbrev ahead : List ℕ
        ahead = take m (drop (t.place.at + 3) words)

        next_is : (w : List ℕ) (l : List (List ℕ)) → texts_in (drop t.place.at words) ≡ w ∷ l → w ≡ ahead
        next_is w l z = cc (z, words_more words t.place.at framed m q)

        pub after_longer : (get_or image (at + 4) 0 ≡ m → ⊥) → Passing words image at t t
        after_longer k =
            after_unlike
            (λ f n e g w l z y. k (sym (node_at_lem image at n b f e kind).size ∙ ap length (y ∙ next_is w l z) ∙ word_length words t.place.at framed m q))

        pub after_last : (get_or image (at + 4 + m) 0 ≡ get_or words (t.place.at + 3 + m - 1) 0 → ⊥) → Passing words image at t t
        after_last k =
            after_unlike
            (λ f n e g w l z y.
            let x = node_at_lem image at n b f e kind in
            let s = x.some g in
            let c : length (name_at image (at + 4)) ≡ m = ap length (y ∙ next_is w l z) ∙ word_length words t.place.at framed m q in
            k (last_name image (at + 4) m x.size c (omega arith) ∙ ap (λ (v : List ℕ). get_or v (m - 1) 0) (y ∙ next_is w l z) ∙ last_word words t.place.at m (omega arith)))

        module _ (name next : List ℕ) (r : Bool) (is_name : name ≡ name_at image (at + 4)) (is_IsWord : next ≡ ahead) (is_same : r ≡ same_bytes name next) where
          same_as : r ≡ same_bytes (name_at image (at + 4)) ahead
          same_as = is_same ∙ ap (λ (s : List ℕ). same_bytes s next) is_name ∙ ap (same_bytes (name_at image (at + 4))) is_IsWord

          pub after_other : r ≡ false → Passing words image at t t
          after_other k = after_unlike (λ f n e g w l z y. true_is_not_false (sym (ap (λ (s : List ℕ). same_bytes s ahead) (y ∙ next_is w l z) ∙ same_self ahead) ∙ sym same_as ∙ k))

          pub after_named : Bytes words → length words ≤ 4096 → r ≡ true
              → Passing words image at t (record { place = record { start = at; end = length image; at = t.place.at + 3 + m }; depth = t.depth + 1; next = next_in (frame_first (drop (t.place.at + 3 + m) words)) })
          after_named bw s k f n e g (inside passed o) =
              let x = node_at_lem image at n b f e kind in
              inside _
              (enters words image b at n f e g h t passed o framed m q bw s (x.below t.depth (omega arith)) (ap (λ (d : ℕ). is_named d ahead f) (sym deep) ∙ x.named ahead ∙ sym same_as ∙ k)
              (λ w. x.other (t.depth + 1) w (λ z. omega arith)))
          after_named bw s k f n e g (beyond z y d) = absurd (omega arith)

-- THE START AND THE END
pub follows_start : (words image : List ℕ) (walk : Walk) (t : Trail) → walk ≡ start_walk → t ≡ start_trail words image → Trailed words image walk.at t
unfolding flat all_fair on_from reached_by
follows_start words image walk t e q =
    rw (e, q)
    (inside []
    (record {
      start = omega arith;
      within = omega arith;
      end = refl;
      ahead = omega arith;
      whole = whole_none;
      top = λ z. texts_none;
      none = λ z. refl;
      bytes = refl;
      fair = refl;
      free = λ w l z. refl;
      steps = ap (λ (fs : List Frame). descend 0 fs (texts_in []) (texts_in words)) (up_never (is_above 0) (λ f. refl) (frames_of image)) ∙ ap (λ (p : List (List ℕ)). descend 0 (frames_of image) p (texts_in words)) texts_none;
    }))

pub follows_end : (words image : List ℕ) (at : ℕ) (t : Trail) → length image ≤ at → Trailed words image at t → Leads words image (found_by t) (reached_by image words)
unfolding up_to
follows_end words image at t h (inside passed o) =
    by (eqb t.depth 0) refl (settles words image at t passed o (ap (up_to (is_above t.depth)) (frames_end image at h)) t.place.end (let a = o.end in let b = o.within in omega arith))
  where
    by : (x : Bool) → eqb t.depth 0 ≡ x → Descended words image t.place (reached_by image words) → Leads words image (cond x None (Some t.place)) (reached_by image words)
    by true e d = sym d.path ∙ o.top (eqb-true t.depth 0 e)
    by false e d = (d, λ z. eqb-false t.depth 0 e (o.none (d.path ∙ z)))
follows_end words image at t h (beyond z y d) = rw (ne_eqb t.depth 0 y) d

-- one turn of the walk
pub follows_turn : (words image : List ℕ) (walk next : Walk) (t u : Trail) (x : Read) → read_first (drop walk.at image) ≡ x → Some next ≡ step_by (seen_by image walk) walk x
    → Passing words image walk.at t u → Trailed words image walk.at t → Trailed words image next.at u
unfolding step_by obeys
follows_turn words image walk next t u (read f n) e st turn i =
    let taken = one_taken (obeys (seen_by image walk) f) (walked walk f n) next st in
    rw (ap (λ (w : Walk). w.at) taken.1 ∙ passed_at walk f n) (turn f n e (both_first (fair f) _ taken.0) i)
follows_turn words image walk next t u broken e st turn i = absurd (let z : ◌≡◌ {A = ℕ} 0 1 = cc in omega arith)
follows_turn words image walk next t u ended e st turn i = absurd (let z : ◌≡◌ {A = ℕ} 0 1 = cc in omega arith)

pub part_most : (image : List ℕ) (place : Place) → length (image_part image place) ≤ place.end - place.start
part_most image place = rw length-take (omega arith)

-- THE ANSWER
pub found_good : (words image : List ℕ) (t : Trail) (x : Option Place) → x ≡ found_by t → Ok tt ≡ check_tree image → Leads words image (found_by t) (reached_by image words) → Finding words image (Ok x)
found_good words image t x q e d = (sym e, rw q d)
