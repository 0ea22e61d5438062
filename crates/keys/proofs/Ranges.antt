-- Laws of the ranges of key bytes: what a byte means, in each mode.
use Prim.Native.Nat.{ℕ, ◌+◌, ◌<◌, ◌≤◌}
use mathlib.Core.Path.{◌≡◌, refl, sym, ◌∙◌}
use mathlib.Core.Bool.{Bool, true, false, cond}
use native.Mathlib.Omega.{arith}
use lib.Dec.{eqb, leb}
use borrow.Author.Tests.{ne_eqb, eqb-true, lt-ltb, le-ltb, lt-leb, le-leb, leb-true}
use Rattle.buffer.proofs.Choices.{then_is, else_is, true_is_not_false}
use Rattle.keys.specs.declared.standing.Profile.{Profile}
use Rattle.keys.specs.declared.standing.Progress.{Progress}
use Rattle.keys.specs.declared.standing.Mode.TheVariants.{Escape, Control}
use Rattle.keys.specs.declared.standing.Action.TheVariants.{Nothing, Enter, Erase, Insert}
use Rattle.keys.specs.Modes.{longest}
use Rattle.keys.specs.Control.{between, goes_on, is_final, ended, further}
use Rattle.keys.specs.Keys.{doing, awaiting, typed, begun, escaped, awaiting_more, controlled}

-- two tests that hold as one
pub each : (t u : Bool) → cond t u false ≡ true → (t ≡ true) × (u ≡ true)
each true u h = (refl, h)
each false u h = absurd (true_is_not_false (sym h))

-- a byte is a certain one, or another
pub met : (P : ℕ → Type 0) (b k : ℕ) → P k → (eqb b k ≡ false → P b) → P b
met P b k p q = by (eqb b k) refl
  where
    by : (t : Bool) → eqb b k ≡ t → P b
    by true e = rw (eqb-true b k e) p
    by false e = q e

module _ (b : ℕ) where
  -- typing
  pub at_cr : b ≡ 0x0D → typed b ≡ doing Enter
  unfolding typed
  at_cr e = rw e

  pub at_lf : b ≡ 0x0A → typed b ≡ doing Enter
  unfolding typed
  at_lf e = rw e

  pub at_bs : b ≡ 0x08 → typed b ≡ doing Erase
  unfolding typed
  at_bs e = rw e

  pub at_del : b ≡ 0x7F → typed b ≡ doing Erase
  unfolding typed
  at_del e = rw e

  pub at_esc : b ≡ 0x1B → typed b ≡ awaiting Escape
  unfolding typed
  at_esc e = rw e

  pub at_tab : b ≡ 0x09 → typed b ≡ doing Nothing
  unfolding typed
  at_tab e = rw e

  module _ (cr : b ≡ 0x0D → ⊥) (lf : b ≡ 0x0A → ⊥) (bs : b ≡ 0x08 → ⊥) (del : b ≡ 0x7F → ⊥) (esc : b ≡ 0x1B → ⊥) where
    pub at_control : b < 0x20 → typed b ≡ doing Nothing
    unfolding typed
    at_control h =
        else_is _ _ _ (ne_eqb b 0x0D cr)
        ∙ else_is _ _ _ (ne_eqb b 0x0A lf)
        ∙ else_is _ _ _ (ne_eqb b 0x08 bs)
        ∙ else_is _ _ _ (ne_eqb b 0x7F del)
        ∙ else_is _ _ _ (ne_eqb b 0x1B esc)
        ∙ then_is _ _ _ (lt-ltb b 0x20 h)

    pub at_rest : 0x20 ≤ b → typed b ≡ doing (Insert b)
    unfolding typed
    at_rest h =
        else_is _ _ _ (ne_eqb b 0x0D cr)
        ∙ else_is _ _ _ (ne_eqb b 0x0A lf)
        ∙ else_is _ _ _ (ne_eqb b 0x08 bs)
        ∙ else_is _ _ _ (ne_eqb b 0x7F del)
        ∙ else_is _ _ _ (ne_eqb b 0x1B esc)
        ∙ else_is _ _ _ (le-ltb b 0x20 h)

  -- after ESC
  pub at_bracket : (p : Profile) → b ≡ 0x5B → escaped p b ≡ awaiting (begun p)
  unfolding escaped
  at_bracket p e = rw e

  pub at_other : (p : Profile) → (b ≡ 0x5B → ⊥) → escaped p b ≡ doing Nothing
  unfolding escaped
  at_other p n = else_is _ _ _ (ne_eqb b 0x5B n)

  -- a range, and what lies outside it
  module _ (low high : ℕ) where
    pub within : low ≤ b → b < high + 1 → between low high b ≡ true
    unfolding between
    within l h = then_is _ _ _ (le-leb low b l) ∙ le-leb b high (omega arith)

    pub below : b < low → between low high b ≡ false
    unfolding between
    below l = else_is _ _ _ (lt-leb low b l)

    pub above : high < b → between low high b ≡ false
    unfolding between
    above h = by (leb low b)
      where
        by : (t : Bool) → cond t (leb b high) false ≡ false
        by true = lt-leb b high h
        by false = refl

    pub within_is : between low high b ≡ true → (low ≤ b) × (b ≤ high)
    unfolding between
    within_is h = let t = each (leb low b) (leb b high) h in (leb-true low b t.0, leb-true b high t.1)

  -- in a control sequence
  module _ (p : Progress) where
    pub at_onward : goes_on b ≡ true → controlled p b ≡ awaiting_more p b
    unfolding controlled
    at_onward h = then_is _ _ _ h

    pub at_final : is_final b ≡ true → controlled p b ≡ doing (ended p.parameter b)
    unfolding controlled
    at_final h = let r = within_is 0x40 0x7E h in else_is _ _ _ (above 0x20 0x3F (omega arith)) ∙ then_is _ _ _ h

    pub at_outside : goes_on b ≡ false → is_final b ≡ false → controlled p b ≡ doing Nothing
    unfolding controlled
    at_outside h k = else_is _ _ _ h ∙ else_is _ _ _ k

    pub at_short : p.read < 15 → awaiting_more p b ≡ awaiting (Control (further p b))
    unfolding awaiting_more longest
    at_short h = then_is _ _ _ (lt-ltb p.read 15 h)

    pub at_long : 15 ≤ p.read → awaiting_more p b ≡ doing Nothing
    unfolding awaiting_more longest
    at_long h = else_is _ _ _ (le-ltb p.read 15 h)
