-- `quote::quoter::measure` meets its contract: what is counted and what the words still to come add make up the whole.
use Rattle.quote.proofs.Listing.{item_told}
use Rattle.quote.proofs.Counting.{gap_most, word_within, counted_start, counted_cost, counted_turn, counted_bad, counted_end}
use native.Mathlib.Omega.{arith}
use Rattle.std.proofs.lemmas.Result.{err_from_is_err_and}
use mathlib.Core.Path.{◌≡◌, sym, ◌∙◌}
use Rattle.quote.proofs.quoter.measure.Goals as goal

pub loop-at-init : goal.loop-at-init
loop-at-init c = counted_start _

pub returns-in_err-word : goal.returns-in_err-word
returns-in_err-word c =
    let p = err_from_is_err_and c.from_residual.result c.from_residual.ensures.1 in
    let e = c.in_err-word.ensures in
    let stop = counted_bad c.args.words.now _ _ c.loop-at.at c.loop-at.invariant c.loop-at-test.true (sym c.word_at.ensures ∙ e.ok_part) in
    let told = rw e.ok_part at e.value in
    let same : c.in_err-word.field-0.0 ≡ c.loop-at.n = cc in
    rw (p.1, p.2, same) (sym stop)

pub overflow_add-size : goal.overflow_add-size
overflow_add-size c =
    omega (arith, gap_most c.loop-at.n, c.gap_size.ensures, c.loop-at.invariant.cost, c.loop-at-test.true)

pub overflow_add-size-in-loop-at : goal.overflow_add-size-in-loop-at
overflow_add-size-in-loop-at c =
    let i = item_told _ _ (sym c.word_at.ensures ∙ c.in_ok-word.ensures.ok_part) in
    let f = word_within c.args.words.now c.loop-at.at _ i.word in
    let k = counted_cost c.args.words.now _ _ c.loop-at.at c.loop-at.invariant _ _ i c.gap_size.ensures in
    omega arith

pub overflow_add-n : goal.overflow_add-n
overflow_add-n c =
    omega (arith, c.loop-at.invariant.few, c.loop-at-test.true)

pub overflow_add-at : goal.overflow_add-at
overflow_add-at c = omega (arith, c.loop-at-test.true)

pub overflow_add-at-in-loop-at : goal.overflow_add-at-in-loop-at
overflow_add-at-in-loop-at c =
    let f = word_within c.args.words.now c.loop-at.at _ (item_told _ _ (sym c.word_at.ensures ∙ c.in_ok-word.ensures.ok_part)).word in omega arith

pub loop-at-smaller : goal.loop-at-smaller
loop-at-smaller c =
    let f = word_within c.args.words.now c.loop-at.at _ (item_told _ _ (sym c.word_at.ensures ∙ c.in_ok-word.ensures.ok_part)).word in omega (arith, f, c.loop-at-test.true)

pub loop-at-preserved : goal.loop-at-preserved
loop-at-preserved c =
    counted_turn c.args.words.now _ _ c.loop-at.at c.loop-at.invariant _ _ (item_told _ _ (sym c.word_at.ensures ∙ c.in_ok-word.ensures.ok_part)) c.gap_size.ensures

pub returns : goal.returns
returns c =
    sym (counted_end c.args.words.now _ _ c.loop-at.at c.loop-at.invariant c.loop-at-test.false)
