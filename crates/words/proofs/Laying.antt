-- What a scan has laid into the buffer: the ended words as frames, and the open word after the place of its head.
use Prim.Native.Nat.{ℕ, suc, ◌+◌, ◌≤◌}
use mathlib.Core.Path.{◌≡◌, refl, sym, ap, ◌∙◌}
use mathlib.Core.Bool.{false}
use mathlib.Core.List.{List, [], ◌∷◌, ◌++◌, append-nil}
use native.Mathlib.Omega.{arith}
use native.Mathlib.Nat.{le_trans}
use lib.ListN.{length}
use Rattle.buffer.specs.Write.{over, over_at, Written}
use Rattle.buffer.proofs.Lending.{length_over, over_at_front, over_at_both, over_at_before, over_at_nothing}
use Rattle.text.specs.Unicode.{encode_all}
use Rattle.text.specs.Apart.{unless_empty}
use Rattle.text.proofs.Prefix.{encode_append}
use Rattle.buffer.specs.Numbers.{number_bytes}
use Rattle.frame.specs.Text.{text_of}
use Rattle.frame.specs.Framed.{frame_of}
use Rattle.buffer.proofs.Numbers.{length_number}
use Rattle.words.specs.declared.role.Role.{Role}
use Rattle.words.specs.declared.role.Role.TheVariants.{Take, Escape, Toggle, Gap}
use Rattle.words.specs.declared.counting.Scan.{Scan}
use Rattle.words.specs.Tokens.{word_frames}
use Rattle.words.specs.Answer.{written}
use Rattle.words.specs.Inner.{closed_at, closed_by, advanced, headed, put_by, Reading}
use Rattle.words.proofs.OpenWords.{closed_some, headed_none, headed_some, take_room, gap_room}
use Rattle.words.proofs.Standing.{shown, Standing, standing_start, standing_turn, standing_room, word_none, all_ended, length_ended}

-- frames, and an open word after them that leaves three bytes for its head
unfoldable pub laid : List ℕ → List ℕ → List ℕ → ℕ → List ℕ
laid frames word out done = over_at (encode_all word) (over frames out) (done + 3)

over_after : (f x d : List ℕ) → length f ≤ length d → over_at x (over f d) (length f) ≡ over (f ++ x) d
over_after f x d h =
    let z : 0 + length f ≡ length f = omega arith in
    ap (λ (n : ℕ). over_at x (over f d) n) (sym z)
    ∙ ap (λ (l : List ℕ). over_at x l (0 + length f)) (sym (over_at_front f d))
    ∙ over_at_both f x d 0 (omega arith)
    ∙ over_at_front (f ++ x) d

-- the head makes an open word the last frame
close_some : (frames word out : List ℕ) (done n : ℕ) → done ≡ length frames → n ≡ length (encode_all word) → (n ≡ 0 → ⊥) → done + 3 + n ≤ length out
    → headed done n (laid frames word out done) ≡ over (frames ++ frame_of 0x14 (encode_all word)) out
unfolding laid frame_of text_of
close_some frames word out done n d e some room =
    let head : List ℕ = 0x14 ∷ number_bytes 2 n in
    let three : length head ≡ 3 = ap suc (length_number 2 n) in
    let place : done + 3 ≡ done + length head = omega arith in
    let size : length (over frames out) ≡ length out = length_over frames out (omega arith) in
    let is : head ++ encode_all word ≡ 0x14 ∷ (number_bytes 2 (length (encode_all word)) ++ encode_all word) =
    ap (λ (k : ℕ). 0x14 ∷ (number_bytes 2 k ++ encode_all word)) e
    in
    headed_some done n _ some
    ∙ ap (λ (k : ℕ). over_at head (over_at (encode_all word) (over frames out) k) done) place
    ∙ over_at_before head (encode_all word) (over frames out) done (omega arith)
    ∙ ap (λ (l : List ℕ). over_at l (over frames out) done) is
    ∙ ap (λ (k : ℕ). over_at (0x14 ∷ (number_bytes 2 (length (encode_all word)) ++ encode_all word)) (over frames out) k) d
    ∙ over_after frames (0x14 ∷ (number_bytes 2 (length (encode_all word)) ++ encode_all word)) out (omega arith)

some_word : (c : ℕ) (word : List ℕ) → length (encode_all (c ∷ word)) ≡ 0 → ⊥
some_word c word e = let q = word_none (c ∷ word) e in let z : ◌≡◌ {A = ℕ} 0 1 = cc in omega arith

close_word : (frames word out : List ℕ) (done n : ℕ) → done ≡ length frames → n ≡ length (encode_all word) → closed_at done n ≤ length out
    → headed done n (laid frames word out done) ≡ over (frames ++ shown (unless_empty word [])) out
unfolding laid shown word_frames encode_all
close_word frames [] out done n d e room =
    headed_none done n _ e
    ∙ over_at_nothing (over frames out) (done + 3)
    ∙ ap (λ (l : List ℕ). over l out) (sym (append-nil frames))
close_word frames (c ∷ word) out done n d e room =
    let some : n ≡ 0 → ⊥ = λ z. some_word c word (sym e ∙ z) in
    let k = closed_some done n some in
    close_some frames (c ∷ word) out done n d e some (omega arith)
    ∙ ap (λ (l : List ℕ). over (frames ++ l) out) (sym (append-nil (frame_of 0x14 (encode_all (c ∷ word)))))

laid_empty : (frames out : List ℕ) (done : ℕ) → over frames out ≡ laid frames [] out done
unfolding laid encode_all
laid_empty frames out done = sym (over_at_nothing (over frames out) (done + 3))

pub record Laid (line out₀ out : List ℕ) (s : Scan) : Type 0 where
  pub standing : Standing line s
  pub bytes : out ≡ laid standing.frames standing.word out₀ s.done

pub laid_start : (line out : List ℕ) → Laid line out out (record { at = 0; done = 0; word = 0; quotes = false; escaped = false })
unfolding laid standing_start encode_all over
laid_start line out = record { standing = standing_start line; bytes = sym (over_at_nothing (over [] out) (0 + 3)) }

-- the bytes of characters more
laid_more : (frames word run out : List ℕ) (done n : ℕ) → n ≡ length (encode_all word) → length frames ≤ length out → done + 3 + n ≤ length out
    → over_at (encode_all run) (laid frames word out done) (done + 3 + n) ≡ laid frames (word ++ run) out done
unfolding laid
laid_more frames word run out done n e f room =
    let size : length (over frames out) ≡ length out = length_over frames out f in
    ap (λ (m : ℕ). over_at (encode_all run) (over_at (encode_all word) (over frames out) (done + 3)) (done + 3 + m)) e
    ∙ over_at_both (encode_all word) (encode_all run) (over frames out) (done + 3) (omega arith)
    ∙ ap (λ (l : List ℕ). over_at l (over frames out) (done + 3)) (sym (encode_append word run))

-- the room that the next step asks
pub step_room : (line out₀ out : List ℕ) (s : Scan) (t : Role) (n : ℕ) → Laid line out₀ out s → Reading line s t n → length (written line) ≤ length out₀
    → closed_by (advanced s t n) ≤ length out₀
step_room line out₀ out s t n h r room = le_trans (standing_room line (advanced s t n) (standing_turn line s t n h.standing r)) room

pub laid_turn : (line out₀ out : List ℕ) (s : Scan) (t : Role) (n : ℕ) → Laid line out₀ out s → Reading line s t n → length (written line) ≤ length out₀
    → Laid line out₀ (put_by line s t n out) (advanced s t n)
unfolding standing_turn
laid_turn line out₀ out s Take n h r room =
    let l = h.standing in
    let k = take_room s Take n (length out₀) refl r.some (step_room line out₀ out s Take n h r room) in
    let f = l.done_is in
    record {
      standing = standing_turn line s Take n l r;
      bytes =
          ap (λ (x : List ℕ). over_at x out (s.done + 3 + s.word)) r.bytes
          ∙ ap (λ (x : List ℕ). over_at (encode_all r.run) x (s.done + 3 + s.word)) h.bytes
          ∙ laid_more l.frames l.word r.run out₀ s.done s.word l.word_is (omega arith) (omega arith);
    }
laid_turn line out₀ out s Escape n h r room = record { standing = standing_turn line s Escape n h.standing r; bytes = h.bytes }
laid_turn line out₀ out s Toggle n h r room = record { standing = standing_turn line s Toggle n h.standing r; bytes = h.bytes }
laid_turn line out₀ out s Gap n h r room =
    let l = h.standing in
    let k = gap_room s Gap n (length out₀) refl (step_room line out₀ out s Gap n h r room) in
    record {
      standing = standing_turn line s Gap n l r;
      bytes =
          ap (headed s.done s.word) h.bytes
          ∙ close_word l.frames l.word out₀ s.done s.word l.done_is l.word_is k
          ∙ laid_empty (l.frames ++ shown (unless_empty l.word [])) out₀ (closed_at s.done s.word);
    }

-- the line has ended
module _ (line out₀ out : List ℕ) (s : Scan) (h : Laid line out₀ out s) (end : length line ≤ s.at) (room : length (written line) ≤ length out₀) where
  pub end_room : closed_by s ≤ length out₀
  end_room = le_trans (standing_room line s h.standing) room

  pub laid_end : headed s.done s.word out ≡ over (written line) out₀
  laid_end =
      let l = h.standing in
      ap (headed s.done s.word) h.bytes
      ∙ close_word l.frames l.word out₀ s.done s.word l.done_is l.word_is end_room
      ∙ ap (λ (x : List ℕ). over x out₀) (sym (all_ended line s l end))

  pub laid_whole : (left : List ℕ) (n : ℕ) → left ≡ headed s.done s.word out → n ≡ closed_by s → Written (written line) out₀ n left
  laid_whole left n e f = record { count = f ∙ sym (length_ended line s h.standing end); bytes = e ∙ laid_end }
