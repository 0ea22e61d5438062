-- A whole line given to the session: each thing that a line can be is the move that the definition makes of it.
use Prim.Native.Nat.{ℕ, ◌+◌, ◌-◌, ◌≤◌, ◌<◌}
use mathlib.Core.Path.{◌≡◌, refl, sym, ap, ◌∙◌}
use mathlib.Core.List.{List, [], ◌∷◌}
use native.Mathlib.Omega.{arith}
use types.Run.{OneOf, miss}
use denote.Enum.Declared.{tag_of}
use lib.ListN.{length, take, drop, length-take, length-drop}
use lib.Seq.{take-append_seam}
use borrow.Rule.Slice.PartMut.{put_mid}
use Rattle.buffer.specs.Write.{over, over_at, Written}
use Rattle.buffer.proofs.Lending.{rest_lent, rest_written, length_over, over_at_nothing}
use Rattle.session.specs.Prints.{bad_line, lines_of}
use Rattle.session.specs.Lines.{Standing, Taking, grown, pressing, refused, take_line}
use Rattle.session.specs.declared.standing.Session.{Session}
use Rattle.session.specs.declared.taking.Taken.TheVariants.{Tree, Keys, BadLine}
use Rattle.session.specs.declared.taking.Took.{Took}
use Rattle.session.specs.contracts.taking.Taken.{the_type as taken_type}
use Rattle.session.specs.Held.{Holds}
use Rattle.session.proofs.Followed.{Brings, line_held}
use Rattle.stream.specs.Bytes.{line_room}
use Rattle.stream.specs.Moves.{after_line, size, press_some, move_by, line_move}
use Rattle.stream.specs.Held.{settled, stopped, standing_of, keys_of, stand_of, Ready}
use Rattle.stream.specs.Inner.{Moved, LineRead, Refuses}
use Rattle.stream.specs.declared.standing.Stream.{Stream}
use Rattle.stream.specs.declared.standing.Printout.{Printout}
use Rattle.stream.proofs.Making.{written_fits}
use Rattle.stream.proofs.Standings.{holds_standing, holds_own, stands_stopped, stands_settled, sound_stopped, sound_settled}

-- the 2F of a line, where the rest of a buffer is lent
pub room_lent : (out : List ℕ) (at : ℕ) → at + 7 ≤ length out → 7 ≤ length (take (length out - at) (drop at out))
room_lent out at room = rw (rest_lent out at) (rw (length-drop at out) (omega arith))

module _ (h : Session) (number : ℕ) (out : List ℕ) (at : ℕ) (room : at + 7 ≤ length out) (n : ℕ) (e : List ℕ)
    (p : Written (lines_of (bad_line number ∷ [])) (take (length out - at) (drop at out)) n e) where
  bytes : put_mid at (length out - at) out e ≡ over_at (lines_of (bad_line number ∷ [])) out at
  bytes = rest_written _ out e at (omega arith) p.bytes

  module _ (back : length (put_mid at (length out - at) out e) ≡ length out) where
    pub refuse_fits : at + n ≤ length out
    refuse_fits = let s = p.count in let f = written_fits (lines_of (bad_line number ∷ [])) out (put_mid at (length out - at) out e) at (omega arith) bytes back in omega arith

    pub refuse_made : (s : Stream) → s ≡ stopped h → Refuses h number out at (record { stream = s; printed = at + n }) (put_mid at (length out - at) out e)
    refuse_made s k = record { stream = k; place = ap (λ (m : ℕ). at + m) p.count; bytes = bytes; outs = back }

-- keys put into the buffer for a line
module _ (keys line : List ℕ) (n : ℕ) (line' : List ℕ) (w : Written keys line n line') (few : length keys ≤ 512) (whole : length line ≡ line_room) where
  pub put_whole : length line' ≡ line_room
  put_whole = ap length w.bytes ∙ length_over keys line (omega arith) ∙ whole

  pub put_keys : keys_of line' 0 n ≡ keys
  unfolding over
  put_keys =
      let m : n - 0 ≡ length keys = let c = w.count in omega arith in
      ap (λ (i : ℕ). take i line') m ∙ ap (take (length keys)) w.bytes ∙ take-append_seam keys (drop (length keys) line)

-- a line, by what the session's call answered
module _ (h : Session) (line image slots : List ℕ) (k : Ready h line image slots) (early : h.lines < 65535) (out : List ℕ) (at : ℕ) (text frame : List ℕ) (wide : length frame ≡ 512)
    (r : Took) (image' frame' : List ℕ) (p : LineRead h text image frame r image' frame') where
  brings : Brings (take_line (standing_of h image slots) text) image slots r image' frame'
  brings = line_held (standing_of h image slots) h image slots k.holds (let m = k.room in omega arith) text frame r image' frame' early (omega arith) p.taking

  ready : (after : Standing) → Holds after r.session image' slots → Ready r.session line image' slots
  ready after q = record { holds = holds_own after r.session image' slots q; whole = k.whole; room = p.images ∙ k.room; slot = k.slot }

  -- a frame of the tree
  pub tree_made : r.answer ≡ Tree → (q : Stream) → q ≡ settled r.session
      → Moved (line_move (length out - at) (standing_of h image slots) text) out at (record { stream = q; printed = at }) line image' slots out
  unfolding line_move lines_of
  tree_made e q d = by (take_line (standing_of h image slots) text) brings
    where
      by : (t : Taking) → Brings t image slots r image' frame' → Moved (move_by (length out - at) t) out at (record { stream = q; printed = at }) line image' slots out
      by (grown after) b =
          rw d
          (record {
            makes =
                record {
                  after = stands_settled r.session line image' slots ∙ ap after_line (holds_standing after r.session image' slots b.1);
                  place = omega arith;
                  bytes = sym (over_at_nothing out at);
                };
            outs = refl;
            sound = sound_settled r.session line image' slots (ready after b.1);
          })
      by (pressing keys after) b = absurd (let j = sym b.0 ∙ e in let z : ◌≡◌ {A = ℕ} 0 1 = cc in omega arith)
      by (refused number) b = absurd (let j = sym b.0 ∙ e in let z : ◌≡◌ {A = ℕ} 0 1 = cc in omega arith)

  -- keys: what is pressed, and that it can be
  module _ (n : ℕ) (e : r.answer ≡ Keys n) (keys : List ℕ) (d : keys ≡ drop 1 (take n frame')) where
    pub keys_few : length keys ≤ 512
    keys_few = let m = p.frames in rw d (simp (length-drop, length-take) (omega arith))

    pub keys_ready : Ready r.session line image' slots
    keys_ready = by (take_line (standing_of h image slots) text) brings
      where
        by : (t : Taking) → Brings t image slots r image' frame' → Ready r.session line image' slots
        by (grown after) b = absurd (let j = sym b.0 ∙ e in let z : ◌≡◌ {A = ℕ} 0 1 = cc in omega arith)
        by (pressing bytes after) b = ready after b.3
        by (refused number) b = absurd (let j = sym b.0 ∙ e in let z : ◌≡◌ {A = ℕ} 0 1 = cc in omega arith)

    pub keys_made : (q : Printout) (line' slots' out' : List ℕ) → Moved (press_some (length out - at) (standing_of r.session image' slots) keys) out at q line' image' slots' out'
        → Moved (line_move (length out - at) (standing_of h image slots) text) out at q line' image' slots' out'
    unfolding line_move
    keys_made q line' slots' out' m = by (take_line (standing_of h image slots) text) brings
      where
        by : (t : Taking) → Brings t image slots r image' frame' → Moved (move_by (length out - at) t) out at q line' image' slots' out'
        by (grown after) b = absurd (let j = sym b.0 ∙ e in let z : ◌≡◌ {A = ℕ} 0 1 = cc in omega arith)
        by (pressing bytes after) b =
            let size : Keys n ≡ Keys (1 + length bytes) = sym e ∙ b.0 in
            let count : n ≡ 1 + length bytes = cc in
            let pressed : keys ≡ bytes = d ∙ ap (λ (i : ℕ). drop 1 (take i frame')) count ∙ ap (drop 1) b.1 in
            rw (pressed, holds_standing after r.session image' slots b.3) at m
        by (refused number) b = absurd (let j = sym b.0 ∙ e in let z : ◌≡◌ {A = ℕ} 0 1 = cc in omega arith)

  -- a bad line
  pub bad_made : (number : ℕ) → r.answer ≡ BadLine number → (q : Printout) (out' : List ℕ) → Refuses h number out at q out'
      → Moved (line_move (length out - at) (standing_of h image slots) text) out at q line image' slots out'
  unfolding line_move
  bad_made number e q out' m = by (take_line (standing_of h image slots) text) brings
    where
      by : (t : Taking) → Brings t image slots r image' frame' → Moved (move_by (length out - at) t) out at q line image' slots out'
      by (grown after) b = absurd (let j = sym b.0 ∙ e in let z : ◌≡◌ {A = ℕ} 0 1 = cc in omega arith)
      by (pressing bytes after) b = absurd (let j = sym b.0 ∙ e in let z : ◌≡◌ {A = ℕ} 0 1 = cc in omega arith)
      by (refused other) b =
          let same : BadLine number ≡ BadLine other = sym e ∙ b.0 in
          let count : number ≡ other = cc in
          let still : Ready h line image' slots = rw b.1 k in
          record {
            makes =
                record {
                  after = ap (λ (x : Stream). stand_of x line image' slots) m.stream ∙ stands_stopped h line image' slots;
                  place = m.place ∙ ap (λ (i : ℕ). at + size (bad_line i ∷ [])) count;
                  bytes = m.bytes ∙ ap (λ (i : ℕ). over_at (lines_of (bad_line i ∷ [])) out at) count;
                };
            outs = m.outs;
            sound = rw m.stream (sound_stopped h line image' slots still);
          }

  -- nothing else
  pub line_never : OneOf (3 ∷ 4 ∷ []) (tag_of taken_type r.answer) → ⊥
  line_never o = by (take_line (standing_of h image slots) text) brings
    where
      by : (t : Taking) → Brings t image slots r image' frame' → ⊥
      by (grown after) b = miss (3 ∷ 4 ∷ []) 0 tt (rw b.0 at o)
      by (pressing bytes after) b = miss (3 ∷ 4 ∷ []) 1 tt (rw b.0 at o)
      by (refused number) b = miss (3 ∷ 4 ∷ []) 2 tt (rw b.0 at o)
