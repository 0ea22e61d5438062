-- What follows from a step: the console stops, goes on with what is left of the piece, or reads the next.
use Prim.Native.Nat.{ℕ, ◌+◌, ◌-◌, ◌≤◌}
use mathlib.Core.Path.{◌≡◌, sym, ap, ◌∙◌}
use mathlib.Core.Bool.{false}
use mathlib.Core.List.{List, []}
use mathlib.Core.Logic.{inl, inr}
use native.Mathlib.Omega.{arith}
use lib.ListN.{length, take, drop, length-drop}
use lib.Seq.{length-take-le, drop-drop, drop-length}
use Rattle.buffer.proofs.Choices.{true_is_not_false}
use Rattle.history.specs.Journal.{no_entries, slots_of}
use Rattle.keys.specs.declared.standing.Profile.{Profile}
use Rattle.stream.specs.Bytes.{line_room}
use Rattle.stream.specs.Moves.{step_by}
use Rattle.stream.specs.Held.{busy_with, stand_of, Sound, Stepped}
use Rattle.stream.specs.declared.standing.Stream.{Stream}
use Rattle.stream.specs.declared.standing.Step.{Step}
use Rattle.stream.proofs.Standings.{start_sound}
use Rattle.stream.proofs.Steppings.{reads_so}
use Rattle.console.specs.Turns.{starting, stopped, piece_of, Ready, ReadOn, Turned}
use Rattle.console.specs.declared.turns.Console.{Console}

-- at the beginning
pub begins : (profile : Profile) (input line image slots out : List ℕ) → length input ≡ 65536 → length line ≡ line_room → length image ≡ 32768 → slots ≡ slots_of no_entries → length out ≡ 262202
    → Ready (starting profile) input line image slots out
begins profile input line image slots out i l m s o =
    record { sound = rw s (start_sound profile line image l m); order = omega arith; within = omega arith; pieces = i; room = o }

-- a line that is not at its end has a number
pub lines_fit : (s : Stream) (line image slots : List ℕ) → Sound s line image slots → busy_with s ≡ false → s.session.lines ≤ 65535
lines_fit s line image slots k idle = let p = reads_so s idle in let e = k.early p.0 p.1 in omega arith

module _ (c : Console) (input line image slots out : List ℕ) (k : Ready c input line image slots out) (piece : List ℕ) (part : piece ≡ piece_of c input) (r : Step) (line' image' slots' out' : List ℕ)
    (s : Stepped (step_by (length out) (stand_of c.stream line image slots) piece) piece out r line' image' slots' out') where
  size : length piece ≡ c.end - c.at
  size = ap length part ∙ length-drop c.at (take c.end input) ∙ (let n = length-take-le c.end input k.within in omega arith)

  pub next_within : c.at + r.took ≤ c.end
  next_within = let n = size in let t = s.took in let o = k.order in omega arith

  room : length out' ≡ 262202
  room = s.outs ∙ k.room

  after : stand_of r.stream line' image' slots' ≡ (step_by (length out) (stand_of c.stream line image slots) (piece_of c input)).move.after
  after = s.after ∙ ap (λ (l : List ℕ). (step_by (length out) (stand_of c.stream line image slots) l).move.after) part

  left : drop r.took piece ≡ (step_by (length out) (stand_of c.stream line image slots) (piece_of c input)).left
  left = s.left ∙ ap (λ (l : List ℕ). (step_by (length out) (stand_of c.stream line image slots) l).left) part

  pub turn_stops : (q : Console) → q ≡ stopped r.stream → Turned (step_by (length out) (stand_of c.stream line image slots) (piece_of c input)) q input line' image' slots' out'
  turn_stops q e =
      rw e
      (record {
        ready = record { sound = s.sound; order = omega arith; within = omega arith; pieces = k.pieces; room = room };
        after = after;
        kept = λ o. absurd (true_is_not_false o);
      })

  pub turn_goes : Turned (step_by (length out) (stand_of c.stream line image slots) (piece_of c input))
      (record { stream = r.stream; at = c.at + r.took; end = c.end; over = false }) input line' image' slots' out'
  turn_goes =
      record {
        ready = record { sound = s.sound; order = next_within; within = k.within; pieces = k.pieces; room = room };
        after = after;
        kept = λ o. inl (sym (drop-drop r.took c.at (take c.end input)) ∙ ap (drop r.took) (sym part) ∙ left);
      }

  pub turn_reads : c.end ≤ c.at + r.took → busy_with r.stream ≡ false → (q : Console) (input' out'' : List ℕ) → ReadOn r.stream input out' q input' out''
      → Turned (step_by (length out) (stand_of c.stream line image slots) (piece_of c input)) q input' line' image' slots' out''
  turn_reads h idle q input' out'' p =
      let all : r.took ≡ length piece = let n = size in let w = next_within in let t = s.took in omega arith in
      let none : drop r.took piece ≡ [] = ap (λ (n : ℕ). drop n piece) all ∙ drop-length piece in
      record {
        ready = record { sound = rw p.stream s.sound; order = p.order; within = let n = p.within in let i = p.inputs in omega arith; pieces = p.inputs ∙ k.pieces; room = p.outs ∙ room };
        after = ap (λ (x : Stream). stand_of x line' image' slots') p.stream ∙ after;
        kept = λ o. inr (sym left ∙ none, ap busy_with p.stream ∙ idle);
      }
