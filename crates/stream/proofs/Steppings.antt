-- A step over a piece: bytes taken line after line, until the piece is taken, there is no room, or keys wait.
use Prim.Native.Nat.{ℕ, ◌+◌, ◌-◌, ◌≤◌, ◌<◌}
use mathlib.Core.Path.{◌≡◌, refl, sym, ap, ◌∙◌}
use mathlib.Core.Bool.{Bool, true, false, cond}
use mathlib.Core.List.{List, [], ◌∷◌, ◌++◌, append_assoc}
use native.Mathlib.Omega.{arith}
use lib.Dec.{ltb, eqb}
use lib.ListN.{length, take, drop, length-append, length-drop}
use lib.Seq.{length-take-le, take_all, take_at, drop-drop, drop-length}
use borrow.Author.Tests.{lt-ltb, le-ltb, eq-eqb, ne_eqb}
use Rattle.buffer.specs.Write.{over, over_at}
use Rattle.buffer.proofs.Choices.{then_is, else_is, true_is_not_false}
use Rattle.buffer.proofs.Lending.{length_over_at, over_at_front, over_at_nothing}
use Rattle.frame.specs.House.{ends_in_lF}
use Rattle.session.specs.Prints.{Printed, bad_line, lines_of}
use Rattle.session.specs.Sizes.{key_room}
use Rattle.buffer.specs.Write.{Written}
use Rattle.stream.specs.Bytes.{line_room}
use Rattle.stream.specs.Moves.{Stand, reads, waits, closed, Move, size, line_move, Went, stays, printed, take_some, resume, step_by, press_some}
use Rattle.stream.specs.Held.{reading, busy_with, standing_of, keys_of, stand_of, Ready, Sound, Stepped, last_of, Finished}
use Rattle.stream.specs.Inner.{reach, is_closed, Holding, Makes, Moved, line_of, Takes, Pieced}
use Rattle.stream.specs.declared.standing.Stream.{Stream}
use Rattle.stream.specs.declared.standing.Step.{Step}
use Rattle.stream.specs.declared.standing.Printout.{Printout}
use Rattle.stream.proofs.Making.{Same, same_self, same_on, same_made, same_then, written_fits}
use Rattle.stream.proofs.Reaches.{reach_within, reach_some, reach_room, open_all, open_unended, line_next}

-- a stream that reads, and one that does not
pub reads_so : (s : Stream) → busy_with s ≡ false → (s.over ≡ false) × (ltb s.next s.keys ≡ false)
unfolding busy_with
reads_so s e = by s.over refl e
  where
    by : (b : Bool) → s.over ≡ b → cond b true (ltb s.next s.keys) ≡ false → (s.over ≡ false) × (ltb s.next s.keys ≡ false)
    by true p q = absurd (true_is_not_false q)
    by false p q = (p, q)

module _ (s : Stream) (line image slots : List ℕ) where
  pub stands_reading : s.over ≡ false → ltb s.next s.keys ≡ false → stand_of s line image slots ≡ reads (standing_of s.session image slots) (take s.held line)
  unfolding stand_of
  stands_reading p q = else_is _ _ _ p ∙ else_is _ _ _ q

  pub stands_over : s.over ≡ true → stand_of s line image slots ≡ closed
  unfolding stand_of
  stands_over p = then_is _ _ _ p

  pub stands_waiting : s.over ≡ false → ltb s.next s.keys ≡ true → stand_of s line image slots ≡ waits (standing_of s.session image slots) (keys_of line s.next s.keys)
  unfolding stand_of
  stands_waiting p q = else_is _ _ _ p ∙ then_is _ _ _ q

-- bytes after those that are held, in the buffer for a line
module _ (line : List ℕ) (held : ℕ) (bytes : List ℕ) (count : ℕ) (ended : Bool) (line' : List ℕ) (h : Holding line held bytes count ended line') (whole : length line ≡ line_room) (short : held < line_room) where
  some : length (take (reach held bytes) bytes) ≡ reach held bytes
  some = length-take-le (reach held bytes) bytes (reach_within held bytes)

  pub held_whole : length line' ≡ line_room
  held_whole =
      let n = some in let f = reach_room held bytes short in
      ap length h.left ∙ length_over_at (take (reach held bytes) bytes) line held (omega arith) ∙ whole

  pub held_text : take count line' ≡ take held line ++ take (reach held bytes) bytes
  unfolding over_at over
  held_text =
      let n = some in
      let t : List ℕ = take (reach held bytes) bytes in
      let front : length (take held line ++ t) ≡ count = length-append (take held line) t ∙ (let c = h.counts in let k = length-take-le held line (omega arith) in omega arith) in
      ap (take count) (h.left ∙ sym (append_assoc (take held line) t (drop (length t) (drop held line)))) ∙ take_at (take held line ++ t) (drop (length t) (drop held line)) count front

module _ (s : Stream) (line image slots : List ℕ) (k : Sound s line image slots) (idle : busy_with s ≡ false) (bytes out : List ℕ) (at : ℕ) (count : ℕ) (ended : Bool) (line' : List ℕ) (h : Holding line s.held bytes count ended line') where
  held_is : length (take s.held line) ≡ s.held
  held_is = length-take-le s.held line (let w = k.ready.whole in let l = k.held in omega arith)

  pub early : s.session.lines < 65535
  early = let p = reads_so s idle in k.early p.0 p.1

  pub held_ready : Ready s.session line' image slots
  held_ready =
      record { holds = k.ready.holds; whole = held_whole line s.held bytes count ended line' h k.ready.whole k.held; room = k.ready.room; slot = k.ready.slot }

  pub count_is : count - s.held ≡ reach s.held bytes
  count_is = let c = h.counts in omega arith

  pub count_from : s.held ≤ count
  count_from = let c = h.counts in omega arith

  -- no line is at its end
  pub bytes_held : (took : ℕ) → took + s.held ≡ count → ended ≡ false → (q : Stream) → q ≡ reading s.session count
      → Takes (line_of (length out - at) (standing_of s.session image slots) (take s.held line) bytes) (reach s.held bytes) out at (record { stream = q; took = took; printed = at }) line' image slots out
  unfolding line_of lines_of
  bytes_held took t e q d =
      let open-held : is_closed s.held bytes ≡ false = sym h.closes ∙ e in
      let apart : is_closed (length (take s.held line)) bytes ≡ false = ap (λ (m : ℕ). is_closed m bytes) held_is ∙ open-held in
      let all = open_all s.held bytes open-held k.held in
      let text : take count line' ≡ take s.held line ++ bytes =
      held_text line s.held bytes count ended line' h k.ready.whole k.held ∙ ap (λ (l : List ℕ). take s.held line ++ l) (take_all (reach s.held bytes) bytes (let n = all.0 in omega arith)) in
      rw d
      (record {
        makes =
            rw apart
            (record {
              after = stands_reading (reading s.session count) line' image slots refl refl ∙ ap (reads (standing_of s.session image slots)) text;
              place = omega arith;
              bytes = sym (over_at_nothing out at);
            });
        took = let c = h.counts in omega arith;
        outs = refl;
        sound =
            record {
              ready = held_ready;
              held = let c = h.counts in let n = all.0 in let l = all.1 in omega arith;
              keys = omega arith;
              early = λ x y. early;
              unended = ap ends_in_lF text ∙ open_unended (take s.held line) bytes k.unended apart;
            };
      })

  -- a line is at its end
  pub bytes_line : ended ≡ true → (q : Printout) (line'' image' slots' out' : List ℕ)
      → Moved (line_move (length out - at) (standing_of s.session image slots) (take count line')) out at q line'' image' slots' out'
      → Takes (line_of (length out - at) (standing_of s.session image slots) (take s.held line) bytes) (reach s.held bytes) out at
      (record { stream = q.stream; took = count - s.held; printed = q.printed }) line'' image' slots' out'
  unfolding line_of
  bytes_line e q line'' image' slots' out' m =
      let shut : is_closed (length (take s.held line)) bytes ≡ true = ap (λ (n : ℕ). is_closed n bytes) held_is ∙ sym h.closes ∙ e in
      let text : take count line' ≡ take s.held line ++ take (reach (length (take s.held line)) bytes) bytes =
      held_text line s.held bytes count ended line' h k.ready.whole k.held ∙ ap (λ (n : ℕ). take s.held line ++ take (reach n bytes) bytes) (sym held_is) in
      let made = rw text at m in
      record { makes = rw shut made.makes; took = count_is; outs = made.outs; sound = made.sound }

-- keys that wait are pressed first
module _ (s : Stream) (line image slots : List ℕ) (k : Sound s line image slots) (out : List ℕ) where
  still : (x : Stand) → stand_of s line image slots ≡ x → resume (length out) x ≡ record { prints = []; after = x }
      → Moved (resume (length out) (stand_of s line image slots)) out 0 (record { stream = s; printed = 0 }) line image slots out
  unfolding lines_of
  still x e f =
      rw (ap (resume (length out)) e ∙ f)
      (record { makes = record { after = e; place = refl; bytes = sym (over_at_nothing out 0) }; outs = refl; sound = k })

  pub resume_over : s.over ≡ true → Moved (resume (length out) (stand_of s line image slots)) out 0 (record { stream = s; printed = 0 }) line image slots out
  resume_over e = still closed (stands_over s line image slots e) refl

  pub resume_reading : s.over ≡ false → s.keys ≤ s.next → Moved (resume (length out) (stand_of s line image slots)) out 0 (record { stream = s; printed = 0 }) line image slots out
  resume_reading e l = still _ (stands_reading s line image slots e (le-ltb s.next s.keys l)) refl

  pub resume_waiting : s.over ≡ false → s.next < s.keys → (q : Printout) (slots' out' : List ℕ)
      → Moved (press_some (length out - 0) (standing_of s.session image slots) (keys_of line s.next s.keys)) out 0 q line image slots' out'
      → Moved (resume (length out) (stand_of s line image slots)) out 0 q line image slots' out'
  resume_waiting e l q slots' out' m =
      let n : length out - 0 ≡ length out = omega arith in
      rw (ap (resume (length out)) (stands_waiting s line image slots e (lt-ltb s.next s.keys l))) (rw n at m)

-- a step so far: what is still to be made of the piece comes, with what is made, to the whole step
abbrev On : Went → List ℕ → ℕ → Went → List ℕ → ℕ → Type 0
On w out made w₀ out₀ at₀ = Same w.move out made w₀.move out₀ at₀ × (w.left ≡ w₀.left)

pub record Step-on (piece : List ℕ) (w₀ : Went) (out₀ : List ℕ) (at₀ : ℕ) (line image slots out : List ℕ) (here : Stream) (made took : ℕ) : Type 0 where
  pub sound : Sound here line image slots
  pub fits : made ≤ length out
  pub outs : length out ≡ length out₀
  pub within : took ≤ length piece
  pub ahead : On (take_some (length out - made) (stand_of here line image slots) (drop took piece)) out made w₀ out₀ at₀

-- a move is made, and the rest of the step is ahead
module _ (w₀ : Went) (out₀ : List ℕ) (at₀ : ℕ) (move : Move) (room : ℕ) (bytes out : List ℕ) (made : ℕ) (s : Stand) (made' : ℕ) (out' : List ℕ) (m : Makes move out made s made' out')
    (start : made ≤ length out) (outs : length out' ≡ length out) where
  pub move_fits : made' ≤ length out'
  move_fits = let p = m.place in let f = written_fits (lines_of move.prints) out out' made start m.bytes outs in omega arith

  pub move_on : room ≡ length out - made → On (printed move.prints (take_some (room - size move.prints) move.after bytes)) out made w₀ out₀ at₀
      → On (take_some (length out' - made') s bytes) out' made' w₀ out₀ at₀
  move_on r k =
      let fits : made + size move.prints ≤ length out = written_fits (lines_of move.prints) out out' made start m.bytes outs in
      let left : room - size move.prints ≡ length out' - made' = let p = m.place in omega arith in
      let on : On (take_some (room - size move.prints) move.after bytes) (over_at (lines_of move.prints) out made) (made + size move.prints) w₀ out₀ at₀ =
      (same_on move.prints _ out made w₀.move out₀ at₀ k.0 fits, k.1) in
      rw (left, ← m.after, ← m.place, ← m.bytes) at on

pub step_begins : (s : Stream) (piece line image slots out : List ℕ) (at : ℕ) → Sound s line image slots → at ≤ length out
    → Step-on piece (take_some (length out - at) (stand_of s line image slots) piece) out at line image slots out s at 0
step_begins s piece line image slots out at k fits =
    record { sound = k; fits = fits; outs = refl; within = omega arith; ahead = (same_self _ out at, refl) }

-- keys that waited, then bytes: a whole step
pub step_whole : (s : Stream) (piece out line image slots : List ℕ) (q : Printout) (slots' out' : List ℕ) → Moved (resume (length out) (stand_of s line image slots)) out 0 q line image slots' out'
    → (r : Step) (line'' image'' slots'' out'' : List ℕ) → Pieced (take_some (length out' - q.printed) (stand_of q.stream line image slots') piece) piece out' q.printed r line'' image'' slots'' out''
    → Stepped (step_by (length out) (stand_of s line image slots) piece) piece out r line'' image'' slots'' out''
unfolding step_by
step_whole s piece out line image slots q slots' out' m r line'' image'' slots'' out'' p =
    let w : Went = step_by (length out) (stand_of s line image slots) piece in
    let on = move_on w out 0 (resume (length out) (stand_of s line image slots)) (length out) piece out 0 _ _ out' m.makes (omega arith) m.outs (omega arith) (same_self _ out 0, refl) in
    let made = same_then _ out' q.printed w.move out 0 _ _ out'' on.0 p.makes in
    record {
      after = made.after;
      printed = let n = made.place in omega arith;
      bytes = made.bytes ∙ over_at_front (lines_of w.move.prints) out;
      took = p.took;
      left = p.left ∙ on.1;
      outs = p.outs ∙ m.outs;
      sound = p.sound;
    }

pub step_starts : (s : Stream) (piece out line image slots : List ℕ) (q : Printout) (slots' out' : List ℕ) → Moved (resume (length out) (stand_of s line image slots)) out 0 q line image slots' out'
    → q.printed ≤ length out'
step_starts s piece out line image slots q slots' out' m =
    move_fits (stays closed []) out 0 _ (length out) piece out 0 _ _ out' m.makes (omega arith) m.outs

-- a step is at its end where nothing more is taken
stays_none : (room : ℕ) (s : Stand) → take_some room s [] ≡ stays s []
unfolding take_some
stays_none room s = refl

stays_full : (room : ℕ) (s : Stand) (bytes : List ℕ) → room < key_room → take_some room s bytes ≡ stays s bytes
unfolding take_some
stays_full room s [] h = refl
stays_full room (reads at held) (byte ∷ bytes) h = then_is _ _ _ (lt-ltb room key_room h)
stays_full room (waits at keys) (byte ∷ bytes) h = refl
stays_full room closed (byte ∷ bytes) h = refl

stays_busy : (room : ℕ) (s : Stream) (line image slots bytes : List ℕ) → busy_with s ≡ true → take_some room (stand_of s line image slots) bytes ≡ stays (stand_of s line image slots) bytes
unfolding take_some busy_with
stays_busy room s line image slots [] e = refl
stays_busy room s line image slots (byte ∷ bytes) e = by s.over (ltb s.next s.keys) refl refl e
  where
    by : (b d : Bool) → s.over ≡ b → ltb s.next s.keys ≡ d → cond b true d ≡ true → take_some room (stand_of s line image slots) (byte ∷ bytes) ≡ stays (stand_of s line image slots) (byte ∷ bytes)
    by true d p q t = rw (stands_over s line image slots p) refl
    by false true p q t = rw (stands_waiting s line image slots p q) refl
    by false false p q t = absurd (true_is_not_false (sym t))

module _ (piece : List ℕ) (w₀ : Went) (out₀ : List ℕ) (at₀ : ℕ) (line image slots out : List ℕ) (here : Stream) (made took : ℕ) (k : Step-on piece w₀ out₀ at₀ line image slots out here made took) where
  ends_by : take_some (length out - made) (stand_of here line image slots) (drop took piece) ≡ stays (stand_of here line image slots) (drop took piece)
      → Pieced w₀ piece out₀ at₀ (record { stream = here; took = took; printed = made }) line image slots out
  ends_by e =
      let now = rw e at k.ahead in
      record { makes = same_made (stand_of here line image slots) out made w₀.move out₀ at₀ now.0; took = k.within; left = now.1; outs = k.outs; sound = k.sound }

  pub step_busy : busy_with here ≡ true → Pieced w₀ piece out₀ at₀ (record { stream = here; took = took; printed = made }) line image slots out
  step_busy e = ends_by (stays_busy (length out - made) here line image slots (drop took piece) e)

  pub step_full : length out - made < key_room → Pieced w₀ piece out₀ at₀ (record { stream = here; took = took; printed = made }) line image slots out
  step_full h = ends_by (stays_full (length out - made) (stand_of here line image slots) (drop took piece) h)

  pub step_done : length piece ≤ took → Pieced w₀ piece out₀ at₀ (record { stream = here; took = took; printed = made }) line image slots out
  step_done h =
      let n : took ≡ length piece = let w = k.within in omega arith in
      let none : drop took piece ≡ [] = ap (λ (m : ℕ). drop m piece) n ∙ drop-length piece in
      ends_by (rw none (stays_none (length out - made) (stand_of here line image slots)))

  -- a line more
  module _ (idle : busy_with here ≡ false) (roomy : key_room ≤ length out - made) (bytes : List ℕ) (part : bytes ≡ drop took piece) (r : Step) (line' image' slots' out' : List ℕ)
      (t : Takes (line_of (length out - made) (standing_of here.session image slots) (take here.held line) bytes) (reach here.held bytes) out made r line' image' slots' out') where
    pub more_within : took + r.took ≤ length piece
    more_within =
        let n = t.took in let w = reach_within here.held bytes in let p = ap length part ∙ length-drop took piece in let i = k.within in omega arith

    pub more_some : took < length piece → 0 < r.took
    more_some h = let n = t.took in let s = reach_some here.held bytes (let p = ap length part ∙ length-drop took piece in omega arith) in omega arith

    pub step_goes : Step-on piece w₀ out₀ at₀ line' image' slots' out' r.stream r.printed (took + r.took)
    step_goes =
        let idles = reads_so here idle in
        let held : length (take here.held line) ≡ here.held = length-take-le here.held line (let w = k.sound.ready.whole in let l = k.sound.held in omega arith) in
        let stand : stand_of here line image slots ≡ reads (standing_of here.session image slots) (take here.held line) = stands_reading here line image slots idles.0 idles.1 in
        let move : Move = line_of (length out - made) (standing_of here.session image slots) (take here.held line) bytes in
        let next : take_some (length out - made) (stand_of here line image slots) (drop took piece)
        ≡ printed move.prints (take_some (length out - made - size move.prints) move.after (drop (reach here.held bytes) bytes)) =
        ap (take_some (length out - made) (stand_of here line image slots)) (sym part)
        ∙ ap (λ (s : Stand). take_some (length out - made) s bytes) stand
        ∙ line_next (length out - made) roomy (standing_of here.session image slots) (take here.held line) bytes
        ∙ ap (λ (n : ℕ). printed move.prints (take_some (length out - made - size move.prints) move.after (drop (reach n bytes) bytes))) held in
        let on = move_on w₀ out₀ at₀ move (length out - made) (drop (reach here.held bytes) bytes) out made _ _ out' t.makes k.fits t.outs refl (rw next at k.ahead) in
        let left : drop (reach here.held bytes) bytes ≡ drop (took + r.took) piece =
        ap (λ (n : ℕ). drop n bytes) (sym t.took) ∙ ap (drop r.took) part ∙ drop-drop r.took took piece in
        record {
          sound = t.sound;
          fits = move_fits w₀ out₀ at₀ move (length out - made) bytes out made _ _ out' t.makes k.fits t.outs;
          outs = t.outs ∙ k.outs;
          within = more_within;
          ahead = rw left at on;
        }

-- the input's end
module _ (s : Stream) (out : List ℕ) where
  nothing_more : last_of s ≡ [] → Finished (last_of s) out 0 out
  unfolding lines_of over
  nothing_more e = rw e (record { printed = refl; bytes = refl })

  pub last_busy : busy_with s ≡ true → Finished (last_of s) out 0 out
  unfolding last_of
  last_busy e = nothing_more (then_is _ _ _ e)

  pub last_none : busy_with s ≡ false → s.held ≡ 0 → Finished (last_of s) out 0 out
  unfolding last_of
  last_none e h = nothing_more (else_is _ _ _ e ∙ then_is _ _ _ (eq-eqb s.held 0 h))

  module _ (n : ℕ) (out' : List ℕ) (p : Written (lines_of (bad_line (s.session.lines + 1) ∷ [])) out n out') where
    pub last_bad : busy_with s ≡ false → (s.held ≡ 0 → ⊥) → Finished (last_of s) out n out'
    unfolding last_of
    last_bad e h =
        rw (else_is (busy_with s) [] (cond (eqb s.held 0) [] (bad_line (s.session.lines + 1) ∷ [])) e ∙ else_is _ _ _ (ne_eqb s.held 0 h))
        (record { printed = p.count; bytes = p.bytes })

-- no second answer: what a step took, printed and left of its buffer, and where the stream stands then
pub one_step : (w : Went) (piece out : List ℕ) (r q : Step) (l i s o l' i' s' o' : List ℕ) → Stepped w piece out r l i s o → Stepped w piece out q l' i' s' o'
    → (r.took ≡ q.took) × (r.printed ≡ q.printed) × (o ≡ o') × (stand_of r.stream l i s ≡ stand_of q.stream l' i' s')
one_step w piece out r q l i s o l' i' s' o' a b = (
  (let m = sym (length-drop r.took piece) ∙ ap length (a.left ∙ sym b.left) ∙ length-drop q.took piece in let x = a.took in let y = b.took in omega arith),
  a.printed ∙ sym b.printed,
  a.bytes ∙ sym b.bytes,
  a.after ∙ sym b.after,
)

pub one_finish : (prints : List Printed) (out : List ℕ) (r q : ℕ) (o o' : List ℕ) → Finished prints out r o → Finished prints out q o' → (r ≡ q) × (o ≡ o')
one_finish prints out r q o o' a b = (a.printed ∙ sym b.printed, a.bytes ∙ sym b.bytes)
