-- Reading inverts encoding, both ways: what was encoded is read back whatever follows, and what reads as a frame begins with its encoding.
use Rattle.std.specs.Prelude.{Some, None}
use Prim.Native.Nat.{ℕ, ◌+◌, ◌*◌, ◌/◌, ◌%◌, ◌<◌, ◌≤◌}
use mathlib.Core.Path.{◌≡◌, refl, sym, ap, ◌∙◌}
use mathlib.Core.Bool.{Bool, true, false, cond}
use mathlib.Core.List.{List, [], ◌∷◌, ◌++◌, append_assoc}
use native.Mathlib.Omega.{arith}
use lib.Dec.{ltb, leb, eqb}
use lib.ListN.{length, get_or, take, drop, length-append, length-drop, take-append-drop}
use lib.Seq.{take_at, drop_at, drop-drop, get_or-drop, length-take-le}
use borrow.Author.Tests.{eqb-true, eqb-false, ne_eqb, leb-true}
use Rattle.buffer.proofs.Lists.{drop_step}
use Rattle.buffer.specs.Numbers.{Bytes}
use Rattle.frame.proofs.Texts.{text_one}
use Rattle.image.specs.Frames.{Perhaps, absent, present, Frame, node, option, flag, text, perhaps, encode_frame}
use Rattle.image.specs.Limits.{is_name, is_note, is_short, optionally, definable, fair}
use Rattle.image.specs.Reading.{strictly, strict_first, other_of, span, perhaps_in, node_lengths, definition_lengths, head_first, node_in, name_in, long_in, note_in, option_in, flag_in, Read, read, broken, ended, read_by, read_first}
use Rattle.image.specs.declared.head.Lengths.{Lengths}
use Rattle.image.specs.declared.head.Head.{Head}
use Rattle.image.specs.declared.head.Head.TheVariants.{Node, Option, Flag, Bad, End}
use Rattle.image.proofs.Heads.{span_none, span_some, node_lengths_are, definition_lengths_are, node_whole, option_whole, flag_whole, head_node, head_option, head_flag}
use Rattle.image.proofs.Fields.{both_first, both_second}
use Rattle.image.proofs.HeadBytes.{NodeSeen, OptionSeen, FlagSeen, view}

pub text_is : (t : List ℕ) → text t ≡ length t ∷ t
unfolding text
text_is t = text_one t

pub length_text : (t : List ℕ) → length (text t) ≡ 1 + length t
length_text t = rw (text_is t) (omega arith)

-- a text at a place p of bytes, its first byte at r and the place after it at q
module _ (s : List ℕ) (p r n q : ℕ) (hr : r ≡ p + 1) (hn : n ≡ get_or s p 0) where
  pub text_split : q ≡ p + 1 + n → q ≤ length s → drop p s ≡ text (take n (drop r s)) ++ drop q s
  text_split hq h =
      let inside : p < length s = omega arith in
      let room : n ≤ length (drop r s) = rw (length-drop r s) (omega arith) in
      let size : length (take n (drop r s)) ≡ n = length-take-le n (drop r s) room in
      let end : r + n ≡ q = omega arith in
      let beyond : drop n (drop r s) ≡ drop q s = drop-drop n r s ∙ ap (λ (k : ℕ). drop k s) end in
      let front : drop p s ≡ n ∷ drop r s = drop_step s p 0 inside ∙ rw (← hn, ← hr) in
      front
      ∙ ap (λ (l : List ℕ). n ∷ l) (sym (take-append-drop n (drop r s)) ∙ ap (λ (l : List ℕ). take n (drop r s) ++ l) beyond)
      ∙ sym (rw (text_is (take n (drop r s)), size))

  pub perhaps_split : q ≡ p + 1 + span (other_of n) → q ≤ length s → drop p s ≡ perhaps (perhaps_in (other_of n) (drop r s)) ++ drop q s
  unfolding perhaps perhaps_in
  perhaps_split hq h = by (eqb n 0xff) refl
    where
      by : (t : Bool) → eqb n 0xff ≡ t → drop p s ≡ perhaps (perhaps_in (cond t None (Some n)) (drop r s)) ++ drop q s
      by true e =
          let f : n ≡ 0xff = eqb-true n 0xff e in
          let k : q ≡ p + 1 = hq ∙ (let z = span_none n f in omega arith) in
          drop_step s p 0 (omega arith) ∙ rw (← hn, f, k)
      by false e = text_split (hq ∙ ap (λ (k : ℕ). p + 1 + k) (sym (span_some n (eqb-false n 0xff e)))) h

-- the first two, three and four bytes
pub split_two : (s : List ℕ) → 2 ≤ length s → s ≡ get_or s 0 0 ∷ get_or s 1 0 ∷ drop 2 s
split_two s h = drop_step s 0 0 (omega arith) ∙ ap (λ (l : List ℕ). get_or s 0 0 ∷ l) (drop_step s 1 0 (omega arith))

pub split_three : (s : List ℕ) → 3 ≤ length s → s ≡ get_or s 0 0 ∷ get_or s 1 0 ∷ get_or s 2 0 ∷ drop 3 s
split_three s h = split_two s (omega arith) ∙ ap (λ (l : List ℕ). get_or s 0 0 ∷ get_or s 1 0 ∷ l) (drop_step s 2 0 (omega arith))

pub split_four : (s : List ℕ) → 4 ≤ length s → s ≡ get_or s 0 0 ∷ get_or s 1 0 ∷ get_or s 2 0 ∷ get_or s 3 0 ∷ drop 4 s
split_four s h = split_three s (omega arith) ∙ ap (λ (l : List ℕ). get_or s 0 0 ∷ get_or s 1 0 ∷ get_or s 2 0 ∷ l) (drop_step s 3 0 (omega arith))

-- three pieces one after the other
pub three : (a b c d x y z : List ℕ) → a ≡ x ++ b → b ≡ y ++ c → c ≡ z ++ d → a ≡ x ++ y ++ z ++ d
three a b c d x y z p q r = p ∙ rw (q, r) (simp append_assoc)

definition_least : (p : ℕ) (s : List ℕ) → p + 3 ≤ (definition_lengths p s).size
unfolding definition_lengths
definition_least p s = omega arith

high : (h l : ℕ) → l < 256 → (h * 256 + l) / 256 ≡ h
high h l k = omega arith

low : (h l : ℕ) → l < 256 → (h * 256 + l) % 256 ≡ l
low h l k = omega arith

-- what reads as a frame begins with its encoding
module _ (s : List ℕ) (b : Bytes s) where
  node_back : (d h : ℕ) (t : Lengths) → NodeSeen s d h t → s ≡ encode_frame (node_in s d h t) ++ drop t.size s
  unfolding encode_frame node_in node_lengths Bytes
  node_back d h t v =
      let name : ℕ = get_or s 4 0 in
      let note : ℕ = get_or s (5 + name) 0 in
      let usage : ℕ = get_or s (6 + name + note) 0 in
      let size : 7 + name + note + span (other_of usage) ≤ length s = rw v.texts at v.fits in
      let n : List ℕ = take name (drop 5 s) in
      let ds : List ℕ = take note (drop (6 + name) s) in
      let u : Perhaps = perhaps_in (other_of usage) (drop (6 + name + note + 1) s) in
      let one = text_split s 4 5 name (5 + name) (omega arith) refl (omega arith) (omega arith) in
      let two = text_split s (5 + name) (6 + name) note (6 + name + note) (omega arith) refl (omega arith) (omega arith) in
      let last = perhaps_split s (6 + name + note) (6 + name + note + 1) usage (7 + name + note + span (other_of usage)) (omega arith) refl (omega arith) size in
      let long : 4 ≤ length s = omega arith in
      let whole : drop 4 s ≡ text n ++ text ds ++ perhaps u ++ drop (7 + name + note + span (other_of usage)) s = three (drop 4 s) (drop (5 + name) s) (drop (6 + name + note) s) (drop (7 + name + note + span (other_of usage)) s) (text n) (text ds) (perhaps u) one two last in
      rw (v.texts, v.depth, v.handler, high (get_or s 2 0) (get_or s 3 0) (b 3), low (get_or s 2 0) (get_or s 3 0) (b 3))
      (split_four s long ∙ rw v.kind (ap (λ (l : List ℕ). 1 ∷ get_or s 1 0 ∷ get_or s 2 0 ∷ get_or s 3 0 ∷ l) whole))

  -- the texts of an option or a flag
  definition_back : (p : ℕ) → (definition_lengths p s).size ≤ length s
      → drop p s ≡ text (name_in s p (definition_lengths p s)) ++ perhaps (long_in s p (definition_lengths p s)) ++ text (note_in s p (definition_lengths p s)) ++ drop (definition_lengths p s).size s
  unfolding definition_lengths
  definition_back p size =
      let name : ℕ = get_or s p 0 in
      let long : ℕ = get_or s (p + 1 + name) 0 in
      let note : ℕ = get_or s (p + 2 + name + span (other_of long)) 0 in
      let n : List ℕ = take name (drop (p + 1) s) in
      let l : Perhaps = perhaps_in (other_of long) (drop (p + 2 + name) s) in
      let ds : List ℕ = take note (drop (p + 2 + name + span (other_of long) + 1) s) in
      let one = text_split s p (p + 1) name (p + 1 + name) (omega arith) refl (omega arith) (omega arith) in
      let two = perhaps_split s (p + 1 + name) (p + 2 + name) long (p + 2 + name + span (other_of long)) (omega arith) refl (omega arith) (omega arith) in
      let last = text_split s (p + 2 + name + span (other_of long)) (p + 2 + name + span (other_of long) + 1) note (p + 3 + name + span (other_of long) + note) (omega arith) refl (omega arith) size in
      three (drop p s) (drop (p + 1 + name) s) (drop (p + 2 + name + span (other_of long)) s) (drop (p + 3 + name + span (other_of long) + note) s) (text n) (perhaps l) (text ds) one two last

  option_back : (r c : ℕ) (t : Lengths) → OptionSeen s r c t → s ≡ encode_frame (option_in s r c t) ++ drop t.size s
  unfolding encode_frame option_in
  option_back r c t v =
      let size : (definition_lengths 3 s).size ≤ length s = rw v.texts at v.fits in
      let long : 3 ≤ length s = omega (arith, definition_least 3 s) in
      rw (v.texts, v.required, v.short)
      (split_three s long ∙ rw v.kind (ap (λ (l : List ℕ). 2 ∷ get_or s 1 0 ∷ get_or s 2 0 ∷ l) (definition_back 3 size)))

  flag_back : (c : ℕ) (t : Lengths) → FlagSeen s c t → s ≡ encode_frame (flag_in s c t) ++ drop t.size s
  unfolding encode_frame flag_in
  flag_back c t v =
      let size : (definition_lengths 2 s).size ≤ length s = rw v.texts at v.fits in
      let long : 2 ≤ length s = omega (arith, definition_least 2 s) in
      rw (v.texts, v.short)
      (split_two s long ∙ rw v.kind (ap (λ (l : List ℕ). 3 ∷ get_or s 1 0 ∷ l) (definition_back 2 size)))

  -- the bytes are the frame's and what stands after it
  pub read_back : (f : Frame) (n : ℕ) → read_first s ≡ read f n → s ≡ encode_frame f ++ drop n s
  unfolding read_first
  read_back f n e = by (head_first s) refl e
    where
      by : (h : Head) → head_first s ≡ h → read_by s h ≡ read f n → s ≡ encode_frame f ++ drop n s
      by (Node d h t) q r = let v = node_back d h t (view s _ q) in let k : node_in s d h t ≡ f = cc in let l : t.size ≡ n = cc in rw (k, l) at v
      by (Option a c t) q r = let v = option_back a c t (view s _ q) in let k : option_in s a c t ≡ f = cc in let l : t.size ≡ n = cc in rw (k, l) at v
      by (Flag c t) q r = let v = flag_back c t (view s _ q) in let k : flag_in s c t ≡ f = cc in let l : t.size ≡ n = cc in rw (k, l) at v
      by Bad q r = cc
      by End q r = cc

-- a text that was written at a place of bytes is read there
pub record TextRead (s : List ℕ) (p : ℕ) (t rest : List ℕ) : Type 0 where
  pub byte : length t ≡ get_or s p 0
  pub found : (r : ℕ) → r ≡ p + 1 → take (length t) (drop r s) ≡ t
  pub beyond : (q : ℕ) → q ≡ p + 1 + length t → drop q s ≡ rest

byte_at : (s : List ℕ) (p b : ℕ) (l : List ℕ) → drop p s ≡ b ∷ l → b ≡ get_or s p 0
byte_at s p b l e = let z : p + 0 ≡ p = omega arith in sym (ap (λ (x : List ℕ). get_or x 0 0) e) ∙ get_or-drop p s 0 0 ∙ ap (λ (k : ℕ). get_or s k 0) z

past_byte : (s : List ℕ) (p b : ℕ) (l : List ℕ) → drop p s ≡ b ∷ l → drop (p + 1) s ≡ l
past_byte s p b l e = sym (drop-drop 1 p s) ∙ ap (drop 1) e

pub text_read : (s : List ℕ) (p : ℕ) (t rest : List ℕ) → drop p s ≡ text t ++ rest → TextRead s p t rest
text_read s p t rest e =
    let front : drop p s ≡ length t ∷ (t ++ rest) = e ∙ rw (text_is t) in
    let next : drop (p + 1) s ≡ t ++ rest = past_byte s p _ _ front in
    record {
      byte = byte_at s p _ _ front;
      found = λ r k. rw (k, next) (take_at t rest (length t) refl);
      beyond = λ q k. rw k (sym (drop-drop (length t) (p + 1) s) ∙ ap (drop (length t)) next ∙ drop_at t rest (length t) refl);
    }

-- the length byte of a text that may be missing, which FF must not be if it is there
abbrev pub mark : Perhaps → ℕ
mark absent = 0xff
mark (present t) = length t

abbrev pub Marked : Perhaps → Type 0
Marked absent = Unit
Marked (present t) = length t < 0xff

pub record PerhapsRead (s : List ℕ) (p : ℕ) (u : Perhaps) (rest : List ℕ) : Type 0 where
  pub byte : mark u ≡ get_or s p 0
  pub found : (r : ℕ) → r ≡ p + 1 → perhaps_in (other_of (mark u)) (drop r s) ≡ u
  pub beyond : (q : ℕ) → q ≡ p + 1 + span (other_of (mark u)) → drop q s ≡ rest

pub perhaps_read : (s : List ℕ) (p : ℕ) (u : Perhaps) (rest : List ℕ) → Marked u → drop p s ≡ perhaps u ++ rest → PerhapsRead s p u rest
unfolding perhaps perhaps_in
perhaps_read s p absent rest m e =
    let z = span_none 0xff refl in
    record {
      byte = byte_at s p _ _ e;
      found = λ r k. refl;
      beyond = λ q k. let y : q ≡ p + 1 = omega arith in rw y (past_byte s p _ _ e);
    }
perhaps_read s p (present t) rest m e =
    let v = text_read s p t rest e in
    let some : length t ≡ 0xff → ⊥ = λ k. omega arith in
    let z = span_some (length t) some in
    record {
      byte = v.byte;
      found = λ r k. rw (ne_eqb (length t) 0xff some) (ap present (v.found r k));
      beyond = λ q k. v.beyond q (omega arith);
    }

pub length_perhaps : (u : Perhaps) → Marked u → length (perhaps u) ≡ 1 + span (other_of (mark u))
unfolding perhaps span
length_perhaps absent m = refl
length_perhaps (present t) m =
    let some : length t ≡ 0xff → ⊥ = λ k. omega arith in
    rw (ne_eqb (length t) 0xff some) (length_text t)

-- a frame in which a text that is there does not have the length FF
abbrev pub Fits : Frame → Type 0
Fits (node d h n ds u) = Marked u
Fits (option r c n l ds) = Marked l
Fits (flag c n l ds) = Marked l

-- the lengths of an option's or a flag's texts, and what is read of them
abbrev lengths_of : ℕ → List ℕ → Perhaps → List ℕ → Lengths
lengths_of p n l ds =
    record { name = length n; description = length ds; other = other_of (mark l); size = p + 3 + length n + span (other_of (mark l)) + length ds }

record DefinitionRead (s : List ℕ) (p : ℕ) (n : List ℕ) (l : Perhaps) (ds : List ℕ) : Type 0 where
  lengths : lengths_of p n l ds ≡ definition_lengths p s
  name : take (length n) (drop (p + 1) s) ≡ n
  long : perhaps_in (other_of (mark l)) (drop (p + 2 + length n) s) ≡ l
  note : take (length ds) (drop (p + 2 + length n + span (other_of (mark l)) + 1) s) ≡ ds
  size : length (text n ++ perhaps l ++ text ds) ≡ 3 + length n + span (other_of (mark l)) + length ds

-- an answer that is known, in words
read_is : (s : List ℕ) (head : Head) (f : Frame) (k : ℕ) → head ≡ head_first s → read_by s head ≡ read f k → read_first s ≡ read f k
unfolding read_first
read_is s head f k e r = rw (← e) r

read_same : (f g : Frame) (k l : ℕ) → f ≡ g → k ≡ l → read f k ≡ read g l
read_same f g k l p q = cc

handler_whole : (h : ℕ) → h / 256 * 256 + h % 256 ≡ h
handler_whole h = omega arith

-- every frame's encoding reads back as it, whatever follows
module _ (s rest : List ℕ) where
  node_read : (d h : ℕ) (n ds : List ℕ) (u : Perhaps) → Marked u → s ≡ encode_frame (node d h n ds u) ++ rest → read_first s ≡ read (node d h n ds u) (length (encode_frame (node d h n ds u)))
  unfolding encode_frame node_in
  node_read d h n ds u m e =
      let four : drop 4 s ≡ text n ++ (text ds ++ (perhaps u ++ rest)) = ap (drop 4) e ∙ simp append_assoc in
      let one = text_read s 4 n _ four in
      let two = text_read s (5 + length n) ds _ (one.beyond (5 + length n) (omega arith)) in
      let last = perhaps_read s (6 + length n + length ds) u rest m (two.beyond (6 + length n + length ds) (omega arith)) in
      let size : length (encode_frame (node d h n ds u)) ≡ 7 + length n + length ds + span (other_of (mark u)) =
      simp (length-append, length_text, length_perhaps u m) (omega arith)
      in
      let t : Lengths = record { name = length n; description = length ds; other = other_of (mark u); size = 7 + length n + length ds + span (other_of (mark u)) } in
      let are : t ≡ node_lengths s = node_lengths_are s (length n) (length ds) (mark u) (span (other_of (mark u))) (other_of (mark u)) one.byte two.byte last.byte refl refl in
      let all : length s ≡ length (encode_frame (node d h n ds u)) + length rest = ap length e ∙ length-append (encode_frame (node d h n ds u)) rest in
      let some : length s ≡ 0 → ⊥ = λ k. omega arith in
      let b : (i : ℕ) → get_or s i 0 ≡ get_or (encode_frame (node d h n ds u) ++ rest) i 0 = λ i. ap (λ (l : List ℕ). get_or l i 0) e in
      let head = node_whole s t are d (h / 256) (h % 256) (omega arith) (sym (b 1)) (sym (b 2)) (sym (b 3)) ∙ head_node s some (b 0) in
      let names : node_in s d (h / 256 * 256 + h % 256) t ≡ node d h n ds u =
      rw (handler_whole h, one.found 5 (omega arith), two.found (6 + length n) (omega arith), last.found (6 + length n + length ds + 1) refl)
      in
      read_is s _ _ _ head (read_same _ _ _ _ names (sym size))

  -- name, long and description of an option or a flag, from the place p on
  definition_read : (p : ℕ) (n : List ℕ) (l : Perhaps) (ds : List ℕ) → Marked l → drop p s ≡ text n ++ perhaps l ++ text ds ++ rest → DefinitionRead s p n l ds
  definition_read p n l ds m e =
      let one = text_read s p n (perhaps l ++ (text ds ++ rest)) (e ∙ simp append_assoc) in
      let two = perhaps_read s (p + 1 + length n) l (text ds ++ rest) m (one.beyond (p + 1 + length n) refl) in
      let last = text_read s (p + 2 + length n + span (other_of (mark l))) ds rest (two.beyond (p + 2 + length n + span (other_of (mark l))) (omega arith)) in
      record {
        lengths = definition_lengths_are p s (length n) (length ds) (mark l) (span (other_of (mark l))) (other_of (mark l)) one.byte two.byte refl refl last.byte;
        name = one.found (p + 1) refl;
        long = two.found (p + 2 + length n) (omega arith);
        note = last.found (p + 2 + length n + span (other_of (mark l)) + 1) refl;
        size = simp (length-append, length_text, length_perhaps l m) (omega arith);
      }

  option_read : (r c : ℕ) (n : List ℕ) (l : Perhaps) (ds : List ℕ) → Marked l → s ≡ encode_frame (option r c n l ds) ++ rest → read_first s ≡ read (option r c n l ds) (length (encode_frame (option r c n l ds)))
  unfolding encode_frame option_in
  option_read r c n l ds m e =
      let v = definition_read 3 n l ds m (ap (drop 3) e) in
      let t : Lengths = lengths_of 3 n l ds in
      let size : t.size ≡ length (encode_frame (option r c n l ds)) = let k = v.size in omega arith in
      let all : length s ≡ length (encode_frame (option r c n l ds)) + length rest = ap length e ∙ length-append (encode_frame (option r c n l ds)) rest in
      let some : length s ≡ 0 → ⊥ = λ k. omega arith in
      let b : (i : ℕ) → get_or s i 0 ≡ get_or (encode_frame (option r c n l ds) ++ rest) i 0 = λ i. ap (λ (x : List ℕ). get_or x i 0) e in
      let head = option_whole s t v.lengths r c (omega arith) (sym (b 1)) (sym (b 2)) ∙ head_option s some (b 0) in
      let names : option_in s r c t ≡ option r c n l ds = rw (v.name, v.long, v.note) in
      read_is s _ _ _ head (read_same _ _ _ _ names size)

  flag_read : (c : ℕ) (n : List ℕ) (l : Perhaps) (ds : List ℕ) → Marked l → s ≡ encode_frame (flag c n l ds) ++ rest → read_first s ≡ read (flag c n l ds) (length (encode_frame (flag c n l ds)))
  unfolding encode_frame flag_in
  flag_read c n l ds m e =
      let v = definition_read 2 n l ds m (ap (drop 2) e) in
      let t : Lengths = lengths_of 2 n l ds in
      let size : t.size ≡ length (encode_frame (flag c n l ds)) = let k = v.size in omega arith in
      let all : length s ≡ length (encode_frame (flag c n l ds)) + length rest = ap length e ∙ length-append (encode_frame (flag c n l ds)) rest in
      let some : length s ≡ 0 → ⊥ = λ k. omega arith in
      let b : (i : ℕ) → get_or s i 0 ≡ get_or (encode_frame (flag c n l ds) ++ rest) i 0 = λ i. ap (λ (x : List ℕ). get_or x i 0) e in
      let head = flag_whole s t v.lengths c (omega arith) (sym (b 1)) ∙ head_flag s some (b 0) in
      let names : flag_in s c t ≡ flag c n l ds = rw (v.name, v.long, v.note) in
      read_is s _ _ _ head (read_same _ _ _ _ names size)

pub frame_read : (f : Frame) (rest : List ℕ) → Fits f → read_first (encode_frame f ++ rest) ≡ read f (length (encode_frame f))
frame_read (node d h n ds u) rest k = node_read _ rest d h n ds u k refl
frame_read (option r c n l ds) rest k = option_read _ rest r c n l ds k refl
frame_read (flag c n l ds) rest k = flag_read _ rest c n l ds k refl

-- a frame within the limits is such a frame
note_marked : (u : Perhaps) → optionally is_note u ≡ true → Marked u
unfolding is_note
note_marked absent e = tt
note_marked (present t) e = let k = both_first (leb (length t) 96) _ e in omega (arith, leb-true (length t) 96 k)

name_marked : (u : Perhaps) → optionally is_name u ≡ true → Marked u
unfolding is_name
name_marked absent e = tt
name_marked (present t) e =
    let k = both_first (leb (length t) 32) _ (both_second (leb 1 (length t)) _ e) in
    omega (arith, leb-true (length t) 32 k)

pub fair_fits : (f : Frame) → fair f ≡ true → Fits f
unfolding fair definable
fair_fits (node d h n ds u) e = note_marked u (both_second (is_note ds) _ (both_second (is_name n) _ (both_second (leb d 7) _ (both_second (ltb h 65536) _ e))))
fair_fits (option r c n l ds) e = name_marked l (both_first (optionally is_name l) _ (both_second (is_name n) _ (both_second (is_short c) _ (both_second (leb r 1) _ e))))
fair_fits (flag c n l ds) e = name_marked l (both_first (optionally is_name l) _ (both_second (is_name n) _ (both_second (is_short c) _ e)))

-- a frame that is read lies within the bytes and is not empty; its size is that of its encoding
pub read_within : (s : List ℕ) (f : Frame) (n : ℕ) → read_first s ≡ read f n → (0 < n) × (n ≤ length s)
unfolding read_first node_lengths definition_lengths
read_within s f n e = by (head_first s) refl e
  where
    by : (h : Head) → head_first s ≡ h → read_by s h ≡ read f n → (0 < n) × (n ≤ length s)
    by (Node d h t) q r =
        let v = view s _ q in
        let l : t.size ≡ n = cc in
        (rw (← l, v.texts) (omega arith), rw (← l) v.fits)
    by (Option a c t) q r =
        let v = view s _ q in
        let l : t.size ≡ n = cc in
        (rw (← l, v.texts) (omega arith), rw (← l) v.fits)
    by (Flag c t) q r =
        let v = view s _ q in
        let l : t.size ≡ n = cc in
        (rw (← l, v.texts) (omega arith), rw (← l) v.fits)
    by Bad q r = absurd (let z : ◌≡◌ {A = ℕ} 0 1 = cc in omega arith)
    by End q r = absurd (let z : ◌≡◌ {A = ℕ} 0 1 = cc in omega arith)

pub read_size : (s : List ℕ) (f : Frame) (n : ℕ) → Bytes s → read_first s ≡ read f n → n ≡ length (encode_frame f)
read_size s f n b e =
    let back = ap length (read_back s b f n e) ∙ length-append (encode_frame f) (drop n s) ∙ ap (λ (k : ℕ). length (encode_frame f) + k) (length-drop n s) in
    let k = read_within s f n e in
    omega arith

-- nothing is read at the end only
pub read_ended : (s : List ℕ) → read_first s ≡ ended → s ≡ []
unfolding read_first
read_ended [] e = refl
read_ended (a ∷ s) e = by (head_first (a ∷ s)) refl e
  where
    by : (h : Head) → head_first (a ∷ s) ≡ h → read_by (a ∷ s) h ≡ ended → a ∷ s ≡ []
    by (Node d h t) q r = cc
    by (Option b c t) q r = cc
    by (Flag c t) q r = cc
    by Bad q r = cc
    by End q r = absurd (let v = view (a ∷ s) End q in omega arith)

-- the strict answer in words
abbrev pub fairly : Read → Read
fairly (read f n) = cond (fair f) (read f n) broken
fairly broken = broken
fairly ended = ended

pub read_fairly : (s : List ℕ) → read_by s (strict_first s) ≡ fairly (read_first s)
unfolding strict_first read_first
read_fairly s = by (head_first s)
  where
    pick : (t : Bool) (head : Head) (f : Frame) (n : ℕ) → read_by s head ≡ read f n → read_by s (cond t head Bad) ≡ cond t (read f n) broken
    pick true head f n e = e
    pick false head f n e = refl

    by : (h : Head) → read_by s (strictly s h) ≡ fairly (read_by s h)
    by (Node d h t) = pick (fair (node_in s d h t)) (Node d h t) _ _ refl
    by (Option a c t) = pick (fair (option_in s a c t)) (Option a c t) _ _ refl
    by (Flag c t) = pick (fair (flag_in s c t)) (Flag c t) _ _ refl
    by Bad = refl
    by End = refl

-- what a strict answer tells of the frame that is there
fairly_told : (x : Read) (f : Frame) (n : ℕ) → fairly x ≡ read f n → (x ≡ read f n) × (fair f ≡ true)
fairly_told (read g m) f n e = by (fair g) refl e
  where
    by : (t : Bool) → fair g ≡ t → cond t (read g m) broken ≡ read f n → (read g m ≡ read f n) × (fair f ≡ true)
    by true q r = let k : g ≡ f = cc in (r, rw k at q)
    by false q r = absurd (let z : ◌≡◌ {A = ℕ} 0 1 = cc in omega arith)
fairly_told broken f n e = absurd (let z : ◌≡◌ {A = ℕ} 0 1 = cc in omega arith)
fairly_told ended f n e = absurd (let z : ◌≡◌ {A = ℕ} 0 1 = cc in omega arith)

pub strict_told : (s : List ℕ) (head : Head) (f : Frame) (n : ℕ) → head ≡ strict_first s → read_by s head ≡ read f n → (read_first s ≡ read f n) × (fair f ≡ true)
strict_told s head f n e r = fairly_told (read_first s) f n (sym (read_fairly s) ∙ rw (← e) r)
