-- Where a stream stands by what the code holds.
use Prim.Native.Nat.{ℕ, suc, ◌+◌, ◌-◌, ◌≤◌, ◌<◌}
use mathlib.Core.Path.{◌≡◌, refl, sym, ap, ◌∙◌}
use mathlib.Core.Bool.{Bool, true, false, cond}
use mathlib.Core.List.{List, [], ◌∷◌}
use native.Mathlib.Omega.{arith}
use lib.Dec.{ltb, leb}
use lib.ListN.{length, take, drop, get_or}
use borrow.Author.Tests.{lt-ltb, le-ltb, leb-false, leb-true}
use Rattle.buffer.proofs.Choices.{then_is, else_is, true_is_not_false}
use Rattle.buffer.proofs.Lists.{drop_step}
use Rattle.frame.specs.House.{ends_in_lF}
use Rattle.editor.specs.Turns.{State}
use Rattle.buffer.proofs.Zeros.{length_zeros}
use Rattle.history.specs.Journal.{no_entries, slots_of}
use Rattle.history.proofs.Journals.{none_zeros}
use Rattle.keys.specs.declared.standing.Profile.{Profile}
use Rattle.session.specs.Lines.{Standing, beginning}
use Rattle.session.specs.Calls.{fresh}
use Rattle.session.specs.declared.standing.Session.{Session}
use Rattle.session.specs.Held.{Holds}
use Rattle.session.proofs.Held.{holds_state, holds_fresh}
use Rattle.stream.specs.Bytes.{line_room}
use Rattle.stream.specs.Moves.{reads, waits, closed, start, after_line}
use Rattle.stream.specs.Held.{starting, waiting, settled, stopped, standing_of, keys_of, stand_of, Ready, Sound}

-- a session that is held stands where it says
pub holds_standing : (s : Standing) (h : Session) (image slots : List ℕ) → Holds s h image slots → standing_of h image slots ≡ s
holds_standing s h image slots k = parts k.tree k.keyed (holds_state s h image slots k) k.lines
  where
    parts : {i j : List ℕ} {b d : Bool} {t u : State} {m n : ℕ} → i ≡ j → b ≡ d → t ≡ u → m ≡ n
        → ◌≡◌ {A = Standing} (record { image = i; keyed = b; state = t; lines = m }) (record { image = j; keyed = d; state = u; lines = n })
    parts p q u v = cc

pub holds_own : (s : Standing) (h : Session) (image slots : List ℕ) → Holds s h image slots → Holds (standing_of h image slots) h image slots
holds_own s h image slots k = rw (holds_standing s h image slots k) k

-- the first of the keys that wait, and none
pub keys_first : (line : List ℕ) (next keys : ℕ) → next < keys → keys ≤ length line → keys_of line next keys ≡ get_or line next 0 ∷ keys_of line (next + 1) keys
keys_first line next keys h k =
    let n : keys - next ≡ suc (keys - (next + 1)) = omega arith in
    ap (take (keys - next)) (drop_step line next 0 (omega arith)) ∙ ap (λ (m : ℕ). take m (get_or line next 0 ∷ drop (next + 1) line)) n

pub keys_none : (line : List ℕ) (next keys : ℕ) → keys ≤ next → keys_of line next keys ≡ []
keys_none line next keys h = let n : keys - next ≡ 0 = omega arith in ap (λ (m : ℕ). take m (drop next line)) n

module _ (h : Session) (line image slots : List ℕ) where
  pub stands_waiting : (next keys : ℕ) → next < keys → stand_of (waiting h next keys) line image slots ≡ waits (standing_of h image slots) (keys_of line next keys)
  unfolding stand_of
  stands_waiting next keys l = then_is _ _ _ (lt-ltb next keys l)

  pub stands_stopped : stand_of (stopped h) line image slots ≡ closed
  unfolding stand_of
  stands_stopped = refl

  pub stands_settled : stand_of (settled h) line image slots ≡ after_line (standing_of h image slots)
  unfolding stand_of after_line
  stands_settled = by (leb 65535 h.lines) refl
    where
      by : (b : Bool) → leb 65535 h.lines ≡ b
          → cond b closed (cond (ltb 0 0) (waits (standing_of h image slots) (keys_of line 0 0)) (reads (standing_of h image slots) (take 0 line)))
          ≡ cond (ltb h.lines 65535) (reads (standing_of h image slots) []) closed
      by true e = sym (else_is _ _ _ (le-ltb h.lines 65535 (leb-true _ _ e)))
      by false e = sym (then_is _ _ _ (lt-ltb h.lines 65535 (leb-false _ _ e)))

  nothing_held : ends_in_lF (take 0 line) ≡ false
  unfolding ends_in_lF
  nothing_held = refl

  module _ (k : Ready h line image slots) where
    pub sound_waiting : (next keys : ℕ) → next < keys → keys ≤ line_room → Sound (waiting h next keys) line image slots
    sound_waiting next keys l m =
        record {
          ready = k;
          held = omega arith;
          keys = m;
          early = λ e f. absurd (true_is_not_false (sym (lt-ltb next keys l) ∙ f));
          unended = nothing_held;
        }

    pub sound_stopped : Sound (stopped h) line image slots
    sound_stopped =
        record { ready = k; held = omega arith; keys = omega arith; early = λ e f. absurd (true_is_not_false e); unended = nothing_held }

    pub sound_settled : Sound (settled h) line image slots
    sound_settled =
        record { ready = k; held = omega arith; keys = omega arith; early = λ e f. leb-false _ _ e; unended = nothing_held }

-- a fresh stream, with zeros for slots
pub start_sound : (profile : Profile) (line image : List ℕ) → length line ≡ line_room → length image ≡ 32768 → Sound (starting profile) line image (slots_of no_entries)
start_sound profile line image w r =
    record {
      ready = record { holds = holds_own (beginning profile) (fresh profile) image (slots_of no_entries) (holds_fresh profile image); whole = w; room = r; slot = ap length none_zeros ∙ length_zeros 25600 };
      held = omega arith;
      keys = omega arith;
      early = λ e f. omega arith;
      unended = nothing_held (fresh profile) line image (slots_of no_entries);
    }

pub start_stands : (profile : Profile) (line image : List ℕ) → stand_of (starting profile) line image (slots_of no_entries) ≡ start profile
unfolding stand_of
start_stands profile line image =
    ap (λ (s : Standing). reads s []) (holds_standing (beginning profile) (fresh profile) image (slots_of no_entries) (holds_fresh profile image))
