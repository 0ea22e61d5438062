-- `history::forgetting::total_of` meets its contract. The sum is that of the entries from start up to i.
use native.Mathlib.Omega.{arith}
use Prim.Native.Nat.{ℕ, ◌-◌}
use mathlib.Core.Path.{◌≡◌, ap, ◌∙◌}
use lib.ListN.{length, take, drop}
use Rattle.history.specs.Entries.{total}
use Rattle.history.specs.Journal.{journal_of}
use Rattle.history.proofs.Journals.{count_held, good_fair, fair_short, good_total}
use Rattle.history.proofs.Totals.{total_none, total_on}
use Rattle.history.proofs.Forgotten.{total_cut}
use Rattle.history.proofs.forgetting.total_of.Goals as goal

pub loop-i-init : goal.loop-i-init
loop-i-init c =
    total_none (journal_of c.args.history c.args.slots.now).entries c.args.start

pub overflow_add-sum : goal.overflow_add-sum
overflow_add-sum c =
    let j = journal_of c.args.history c.args.slots.now in
    let g = good_total c.args.history c.args.slots.now c.requires.0 in
    let t = total_cut c.args.start c.loop-i.i j.entries c.loop-i.auto.i in
    let e = ap length c.recall.ensures in
    let f = fair_short j c.loop-i.i (good_fair c.args.history c.args.slots.now c.requires.0) in
    omega arith

pub loop-i-preserved : goal.loop-i-preserved
loop-i-preserved c =
    let n = count_held c.args.history c.args.slots.now in
    let on = total_on (journal_of c.args.history c.args.slots.now).entries c.args.start c.loop-i.i c.loop-i.auto.i (omega arith) in
    let e = ap length c.recall.ensures in
    omega arith

pub returns : goal.returns
returns c =
    let e : c.loop-i.i ≡ c.args.end = omega arith in
    c.loop-i.invariant ∙ ap (λ (n : ℕ). total (take (n - c.args.start) (drop c.args.start (journal_of c.args.history c.args.slots.now).entries))) e
