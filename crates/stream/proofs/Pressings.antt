-- Keys pressed one after the other: what one prints at a place, a turn of the loop, and its ends.
use Rattle.std.specs.Prelude.{Ok, IsOk}
use Prim.Native.Nat.{ℕ, ◌+◌, ◌-◌, ◌≤◌, ◌<◌}
use mathlib.Core.Path.{◌≡◌, refl, sym, ap, ◌∙◌, subst}
use mathlib.Core.Bool.{Bool, true, false}
use mathlib.Core.List.{List, [], ◌∷◌}
use native.Mathlib.Omega.{arith}
use Rattle.std.proofs.Common.{rules}
use lib.ListN.{length, take, drop, get_or, length-drop}
use borrow.Author.Tests.{lt-ltb, le-ltb}
use borrow.Rule.Slice.PartMut.{put_mid}
use Rattle.buffer.specs.Write.{over_at}
use Rattle.buffer.proofs.Choices.{then_is, else_is}
use Rattle.buffer.proofs.Lending.{rest_lent, rest_written}
use Rattle.session.specs.Prints.{lines_of}
use Rattle.session.specs.Lines.{Standing, press_key}
use Rattle.session.specs.Calls.{Laid, printing as answering}
use Rattle.session.specs.Calls.{PressingKey}
use Rattle.session.specs.Sizes.{key_room}
use Rattle.session.specs.declared.running.Printing.TheVariants.{Goes, Ends}
use Rattle.session.specs.declared.standing.Session.{Session}
use Rattle.session.specs.declared.pressing.Pressing.{Pressing}
use Rattle.session.specs.Held.{Holds}
use Rattle.session.proofs.Held.{key_held}
use Rattle.stream.specs.Bytes.{line_room}
use Rattle.stream.specs.Moves.{waits, closed, after_line, Move, printing, size, press_some}
use Rattle.stream.specs.Held.{waiting, settled, stopped, standing_of, keys_of, Ready}
use Rattle.stream.specs.Inner.{KeyMade, Moved}
use Rattle.stream.specs.declared.pressing.Keyed.{Keyed}
use Rattle.stream.proofs.Making.{Same, same_self, same_as, same_on, same_made, same_then, written_fits}
use Rattle.stream.proofs.Standings.{holds_standing, holds_own, keys_first, keys_none, stands_waiting, stands_stopped, stands_settled, sound_waiting, sound_stopped, sound_settled}

-- a key, where the rest of a buffer is lent: it goes on or ends by its answer, and is never refused
goes_so : (b : Bool) (n m : ℕ) → answering b n ≡ Ok (Goes m) → (b ≡ false) × (n ≡ m)
goes_so true n m e = absurd (let z : ◌≡◌ {A = ℕ} 0 1 = cc in omega arith)
goes_so false n m e = (refl, cc)

ends_so : (b : Bool) (n m : ℕ) → answering b n ≡ Ok (Ends m) → (b ≡ true) × (n ≡ m)
ends_so true n m e = (refl, cc)
ends_so false n m e = absurd (let z : ◌≡◌ {A = ℕ} 0 1 = cc in omega arith)

answering_ok : (b : Bool) (n : ℕ) → IsOk (answering b n)
answering_ok true n = search rules
answering_ok false n = search rules

module _ (h : Session) (image slots : List ℕ) (byte : ℕ) (out : List ℕ) (at : ℕ) (k : Holds (standing_of h image slots) h image slots) (room : at + key_room ≤ length out)
    (r : Pressing) (slots' e : List ℕ) (p : PressingKey h image slots byte (take (length out - at) (drop at out)) r slots' e) where
  lent : key_room ≤ length (take (length out - at) (drop at out))
  lent = rw (rest_lent out at) (rw (length-drop at out) (omega arith))

  told : Laid (press_key (standing_of h image slots) byte).prints (press_key (standing_of h image slots) byte).ends (take (length out - at) (drop at out)) r.answer e
      × Holds (press_key (standing_of h image slots) byte).after r.session image slots'
  told = key_held (standing_of h image slots) h image slots k byte (take (length out - at) (drop at out)) r slots' e lent p

  bytes : put_mid at (length out - at) out e ≡ over_at (lines_of (press_key (standing_of h image slots) byte).prints) out at
  bytes = rest_written _ out e at (omega arith) told.0.bytes

  pub never_refused : IsOk r.answer
  never_refused = subst IsOk (sym told.0.answer) (answering_ok (press_key (standing_of h image slots) byte).ends _)

  module _ (back : length (put_mid at (length out - at) out e) ≡ length out) (slot : length slots' ≡ length slots) where
    fits : at + size (press_key (standing_of h image slots) byte).prints ≤ length out
    fits = written_fits (lines_of (press_key (standing_of h image slots) byte).prints) out (put_mid at (length out - at) out e) at (omega arith) bytes back

    pub goes_fits : (n : ℕ) → r.answer ≡ Ok (Goes n) → at + n ≤ length out
    goes_fits n q = let s = (goes_so (press_key (standing_of h image slots) byte).ends _ n (sym told.0.answer ∙ q)).1 in let f = fits in omega arith

    pub ends_fits : (n : ℕ) → r.answer ≡ Ok (Ends n) → at + n ≤ length out
    ends_fits n q = let s = (ends_so (press_key (standing_of h image slots) byte).ends _ n (sym told.0.answer ∙ q)).1 in let f = fits in omega arith

    made : (n : ℕ) (b : Bool) → b ≡ (press_key (standing_of h image slots) byte).ends → size (press_key (standing_of h image slots) byte).prints ≡ n
        → KeyMade (press_key (standing_of h image slots) byte) image slots out at (record { session = r.session; printed = at + n; ends = b }) slots' (put_mid at (length out - at) out e)
    made n b q s =
        record { ends = q; place = ap (λ (m : ℕ). at + m) (sym s); holds = told.1; bytes = bytes; outs = back; slot = slot }

    pub goes_made : (n : ℕ) → r.answer ≡ Ok (Goes n)
        → KeyMade (press_key (standing_of h image slots) byte) image slots out at (record { session = r.session; printed = at + n; ends = false }) slots' (put_mid at (length out - at) out e)
    goes_made n q = let s = goes_so (press_key (standing_of h image slots) byte).ends _ n (sym told.0.answer ∙ q) in made n false (sym s.0) s.1

    pub ends_made : (n : ℕ) → r.answer ≡ Ok (Ends n)
        → KeyMade (press_key (standing_of h image slots) byte) image slots out at (record { session = r.session; printed = at + n; ends = true }) slots' (put_mid at (length out - at) out e)
    ends_made n q = let s = ends_so (press_key (standing_of h image slots) byte).ends _ n (sym told.0.answer ∙ q) in made n true (sym s.0) s.1

-- the definition, key by key
module _ (room : ℕ) (at : Standing) where
  press_none : press_some room at [] ≡ record { prints = []; after = after_line at }
  unfolding press_some
  press_none = refl

  module _ (byte : ℕ) (keys : List ℕ) where
    press_full : room < key_room → press_some room at (byte ∷ keys) ≡ record { prints = []; after = waits at (byte ∷ keys) }
    unfolding press_some
    press_full h = then_is _ _ _ (lt-ltb room key_room h)

    press_ends : key_room ≤ room → (press_key at byte).ends ≡ true → press_some room at (byte ∷ keys) ≡ record { prints = (press_key at byte).prints; after = closed }
    unfolding press_some
    press_ends h e = else_is _ _ _ (le-ltb room key_room h) ∙ then_is _ _ _ e

    press_goes : key_room ≤ room → (press_key at byte).ends ≡ false
        → press_some room at (byte ∷ keys) ≡ printing (press_key at byte).prints (press_some (room - size (press_key at byte).prints) (press_key at byte).after keys)
    unfolding press_some
    press_goes h e = else_is _ _ _ (le-ltb room key_room h) ∙ else_is _ _ _ e

-- the move that is still to be made, with the keys from a place on
abbrev pub ahead : Session → List ℕ → List ℕ → List ℕ → List ℕ → ℕ → ℕ → ℕ → Move
ahead h line image slots out next keys at = press_some (length out - at) (standing_of h image slots) (keys_of line next keys)

pub record Goes_on (line image : List ℕ) (keys : ℕ) (m₀ : Move) (out₀ : List ℕ) (at₀ : ℕ) (slots out : List ℕ) (here : Session) (next printed : ℕ) : Type 0 where
  pub ready : Ready here line image slots
  pub order : next ≤ keys
  pub fits : printed ≤ length out
  pub outs : length out ≡ length out₀
  pub same : Same (ahead here line image slots out next keys printed) out printed m₀ out₀ at₀

module _ (line image : List ℕ) (keys : ℕ) (m₀ : Move) (out₀ : List ℕ) (at₀ : ℕ) (slots out : List ℕ) (here : Session) (next printed : ℕ)
    (g : Goes_on line image keys m₀ out₀ at₀ slots out here next printed) (few : keys ≤ line_room) where
  module _ (more : next < keys) where
    byte : ℕ
    byte = get_or line next 0

    first : keys_of line next keys ≡ get_or line next 0 ∷ keys_of line (next + 1) keys
    first = keys_first line next keys more (let w = g.ready.whole in omega arith)

    -- no room for a further key
    pub keys_wait : (s : _) → s ≡ waiting here next keys → length out - printed < key_room → Moved m₀ out₀ at₀ (record { stream = s; printed = printed }) line image slots out
    keys_wait s e h =
        rw e
        (record {
          makes =
              same_made _ out printed m₀ out₀ at₀
              (same_as _ _ out printed m₀ out₀ at₀
              (ap (λ (x : _). record { prints = []; after = x }) (stands_waiting here line image slots next keys more ∙ ap (waits (standing_of here image slots)) first)
              ∙ sym (ap (press_some (length out - printed) (standing_of here image slots)) first ∙ press_full (length out - printed) (standing_of here image slots) (get_or line next 0) (keys_of line (next + 1) keys) h))
              g.same);
          outs = g.outs;
          sound = sound_waiting here line image slots g.ready next keys more few;
        })

    module _ (roomy : key_room ≤ length out - printed) (r : Keyed) (slots' out' : List ℕ)
        (k : KeyMade (press_key (standing_of here image slots) (get_or line next 0)) image slots out printed r slots' out') where
      key_fits : printed + size (press_key (standing_of here image slots) (get_or line next 0)).prints ≤ length out
      key_fits = written_fits (lines_of (press_key (standing_of here image slots) (get_or line next 0)).prints) out out' printed g.fits k.bytes k.outs

      key_ready : Ready r.session line image slots'
      key_ready =
          record {
            holds = holds_own (press_key (standing_of here image slots) (get_or line next 0)).after r.session image slots' k.holds;
            whole = g.ready.whole;
            room = g.ready.room;
            slot = k.slot ∙ g.ready.slot;
          }

      -- a key more
      pub keys_go : r.ends ≡ false → Goes_on line image keys m₀ out₀ at₀ slots' out' r.session (next + 1) r.printed
      keys_go e =
          let fits = key_fits in
          let outs = k.outs in
          let place = k.place in
          let course : _ = press_key (standing_of here image slots) (get_or line next 0) in
          let on : Same (press_some (length out - printed - size course.prints) course.after (keys_of line (next + 1) keys)) (over_at (lines_of course.prints) out printed) (printed + size course.prints) m₀ out₀ at₀ =
          same_on course.prints _ out printed m₀ out₀ at₀
          (same_as _ _ out printed m₀ out₀ at₀
          (sym (ap (press_some (length out - printed) (standing_of here image slots)) first ∙ press_goes (length out - printed) (standing_of here image slots) (get_or line next 0) (keys_of line (next + 1) keys) roomy (sym k.ends ∙ e)))
          g.same) fits in
          let left : length out - printed - size course.prints ≡ length out' - r.printed = omega arith in
          let stands : course.after ≡ standing_of r.session image slots' = sym (holds_standing course.after r.session image slots' k.holds) in
          record {
            ready = key_ready;
            order = omega arith;
            fits = omega arith;
            outs = outs ∙ g.outs;
            same = rw (left, stands, ← place, ← k.bytes) at on;
          }

      -- the key that ends the session
      pub keys_end : r.ends ≡ true → (s : _) → s ≡ stopped r.session → Moved m₀ out₀ at₀ (record { stream = s; printed = r.printed }) line image slots' out'
      keys_end e s q =
          let course : _ = press_key (standing_of here image slots) (get_or line next 0) in
          rw q
          (record {
            makes =
                same_then _ out printed m₀ out₀ at₀ _ _ out'
                (same_as _ _ out printed m₀ out₀ at₀
                (sym (ap (press_some (length out - printed) (standing_of here image slots)) first ∙ press_ends (length out - printed) (standing_of here image slots) (get_or line next 0) (keys_of line (next + 1) keys) roomy (sym k.ends ∙ e)))
                g.same)
                (record { after = stands_stopped r.session line image slots'; place = k.place; bytes = k.bytes });
            outs = k.outs ∙ g.outs;
            sound = sound_stopped r.session line image slots' key_ready;
          })

  -- after the last key the line is at its end
  pub keys_done : keys ≤ next → (s : _) → s ≡ settled here → Moved m₀ out₀ at₀ (record { stream = s; printed = printed }) line image slots out
  keys_done h s e =
      rw e
      (record {
        makes =
            same_made _ out printed m₀ out₀ at₀
            (same_as _ _ out printed m₀ out₀ at₀
            (ap (λ (x : _). record { prints = []; after = x }) (stands_settled here line image slots)
            ∙ sym (ap (press_some (length out - printed) (standing_of here image slots)) (keys_none line next keys h) ∙ press_none (length out - printed) (standing_of here image slots)))
            g.same);
        outs = g.outs;
        sound = sound_settled here line image slots g.ready;
      })

pub keys_begin : (h : Session) (line image slots out : List ℕ) (next keys at : ℕ) → Ready h line image slots → next ≤ keys → at ≤ length out
    → Goes_on line image keys (ahead h line image slots out next keys at) out at slots out h next at
keys_begin h line image slots out next keys at k n m = record { ready = k; order = n; fits = m; outs = refl; same = same_self _ out at }
