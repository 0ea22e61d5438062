-- `reader::walk::count_from` meets its contract: the frames passed and those from the place on are all of them.
use Rattle.reader.proofs.Steps.{next_on, frames_on, frames_none, frames_end}
use Rattle.reader.specs.Places.{next_place}
use native.Mathlib.Omega.{arith}
use Prim.Native.Nat.{ℕ}
use mathlib.Core.List.{List}
use mathlib.Core.Path.{◌≡◌, sym, ◌∙◌}
use Rattle.reader.proofs.walk.count_from.Goals as goal

pub loop-place-init : goal.loop-place-init
loop-place-init c = (omega arith, omega arith)

pub returns-then-next-place : goal.returns-then-next-place
returns-then-next-place c =
    let s : List ℕ = c.args.image.now in
    let p : ℕ = c.loop-place.place in
    let none = frames_none s p (sym c.next_at-next.ensures ∙ c.if-next-place.true) (omega arith) in
    omega (arith, none, c.loop-place.invariant.1)

pub loop-place-smaller : goal.loop-place-smaller
loop-place-smaller c =
    let s : List ℕ = c.args.image.now in
    let p : ℕ = c.loop-place.place in
    let e : c.next_at-next.result ≡ next_place s p = c.next_at-next.ensures in
    let on = next_on s p in
    omega (arith, e, on, c.if-next-place.false)

pub loop-place-preserved : goal.loop-place-preserved
loop-place-preserved c =
    let s : List ℕ = c.args.image.now in
    let p : ℕ = c.loop-place.place in
    let e : c.next_at-next.result ≡ next_place s p = c.next_at-next.ensures in
    let on = next_on s p in
    let more = frames_on s p (λ k. c.if-next-place.false (e ∙ k)) in
    (omega (arith, e, on, c.if-next-place.false), rw e (omega (arith, more, c.loop-place.invariant.1)))

pub returns : goal.returns
returns c =
    let s : List ℕ = c.args.image.now in
    let none = frames_end s c.loop-place.place (omega arith) in
    omega (arith, none, c.loop-place.invariant.1)
