-- A whole control sequence, typed key by key in the profile of ECMA-48, does what ECMA-48's grammar says of it: no more is shown, and nothing else is left.
use Prim.Native.Nat.{ℕ, zero, suc, ◌+◌, ◌≤◌}
use mathlib.Core.Path.{◌≡◌, ap, ◌∙◌}
use mathlib.Core.List.{List, [], ◌∷◌, ◌++◌, append-nil}
use native.Mathlib.Omega.{arith}
use lib.ListN.{length}
use Rattle.keys.specs.declared.standing.Profile.{Profile}
use Rattle.keys.specs.declared.standing.Profile.TheVariants.{Ecma48}
use Rattle.keys.specs.declared.standing.Mode.{Mode}
use Rattle.keys.specs.declared.standing.Mode.TheVariants.{Typing}
use Rattle.keys.specs.declared.standing.Action.{Action}
use Rattle.keys.specs.declared.standing.Action.TheVariants.{Nothing}
use Rattle.keys.specs.Keys.{meaning, mode_after, actions}
use Rattle.keys.specs.Sequences.{ControlSequence, Formed, body, bytes_of, said}
use Rattle.keys.proofs.Grammar.{nothings, sequence_read}
use Rattle.editor.specs.Turns.{State, Turn, in_mode, turn_by, turn_of, after_keys, shown_by}
use Rattle.editor.proofs.KeyTurns.{own_mode}

-- keys that show and leave what one turn does
pub record KeysDo (prompt : List ℕ) (s : State) (keys : List ℕ) (t : Turn) : Type 0 where
  pub after : after_keys prompt s keys ≡ t.after
  pub shown : shown_by prompt s keys ≡ t.screen

heads : {a b : Action} {x y : List Action} → a ∷ x ≡ b ∷ y → (a ≡ b) × (x ≡ y)
heads e = (cc, cc)

-- a key that does nothing before keys, and one key alone
module _ (prompt : List ℕ) (s : State) (m : Mode) (b : ℕ) where
  turn_is : (a : Action) → (meaning s.profile m b).action ≡ a → turn_of prompt (in_mode s m) b ≡ turn_by prompt (in_mode s (meaning s.profile m b).mode) a
  unfolding turn_of
  turn_is a e = ap (λ (x : Action). turn_by prompt (in_mode s (meaning s.profile m b).mode) x) e

  alone : (a : Action) → (meaning s.profile m b).action ≡ a → KeysDo prompt (in_mode s m) (b ∷ []) (turn_by prompt (in_mode s (meaning s.profile m b).mode) a)
  unfolding after_keys shown_by
  alone a e =
      let t = turn_is a e in record { after = ap (λ (x : Turn). x.after) t; shown = append-nil _ ∙ ap (λ (x : Turn). x.screen) t }

  idle : (keys : List ℕ) (t : Turn) → (meaning s.profile m b).action ≡ Nothing → KeysDo prompt (in_mode s (meaning s.profile m b).mode) keys t → KeysDo prompt (in_mode s m) (b ∷ keys) t
  unfolding after_keys shown_by
  idle keys t e c =
      let q = turn_is Nothing e in
      record {
        after = ap (λ (x : Turn). after_keys prompt x.after keys) q ∙ c.after;
        shown = ap (λ (x : Turn). x.screen ++ shown_by prompt x.after keys) q ∙ c.shown;
      }

-- keys of which all but the last do nothing
quiet_then : (prompt : List ℕ) (s : State) (m : Mode) (n : ℕ) (keys : List ℕ) (a : Action) → actions s.profile m keys ≡ nothings n ++ (a ∷ [])
    → KeysDo prompt (in_mode s m) keys (turn_by prompt (in_mode s (mode_after s.profile m keys)) a)
unfolding actions mode_after
quiet_then prompt s m zero [] a e = absurd (let z = ap length e in omega arith)
quiet_then prompt s m (suc n) [] a e = absurd (let z = ap length e in omega arith)
quiet_then prompt s m zero (b ∷ []) a e = alone prompt s m b a (heads e).0
quiet_then prompt s m zero (b ∷ c ∷ keys) a e = absurd (let z = ap length e in omega arith)
quiet_then prompt s m (suc n) (b ∷ keys) a e =
    idle prompt s m b keys _ (heads e).0 (quiet_then prompt s (meaning s.profile m b).mode n keys a (heads e).1)

-- a whole sequence of at most fifteen bytes and its final byte
pub sequence_does : (prompt : List ℕ) (s : State) (q : ControlSequence) → s.profile ≡ Ecma48 → s.mode ≡ Typing → Formed q → length (body q) ≤ 15
    → KeysDo prompt s (bytes_of q) (turn_by prompt s (said q))
sequence_does prompt s q p m f l =
    let r = sequence_read q f l in
    let own = own_mode s Typing m in
    taken own
    (ap (λ (x : Mode). turn_by prompt (in_mode s x) (said q)) (ap (λ (x : Profile). mode_after x Typing (bytes_of q)) p ∙ r.after) ∙ ap (λ (x : State). turn_by prompt x (said q)) own)
    (quiet_then prompt s Typing (2 + length (body q)) (bytes_of q) (said q) (ap (λ (x : Profile). actions x Typing (bytes_of q)) p ∙ r.does))
  where
    taken : {x y : State} {t u : Turn} → x ≡ y → t ≡ u → KeysDo prompt x (bytes_of q) t → KeysDo prompt y (bytes_of q) u
    taken e g c = rw (e, g) at c
