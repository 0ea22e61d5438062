-- `text::utf8::well_formed_prefix` meets its contract. The place reached and the well-formed length of what is left give that of the whole.
use Rattle.text.proofs.Prefix.{prefix_turn, prefix_none, codes_end, ascii_whole}
use Rattle.text.proofs.Letters.{length_fits, length_some, prefix_more, prefix_stop}
use Rattle.text.proofs.TableRows.{decode_ascii}
use native.Mathlib.Omega.{arith}
use lib.ListN.{drop}
use Rattle.text.proofs.utf8.well_formed_prefix.Goals as goal

pub returns-then-greatest_byte-lt128 : goal.returns-then-greatest_byte-lt128
returns-then-greatest_byte-lt128 c = ascii_whole _ _ c.greatest_byte.ensures c.if-greatest_byte-lt128.true

pub loop-at-init : goal.loop-at-init
loop-at-init c = (omega arith, omega arith)

pub loop-at-preserved-then-s-at-lt128 : goal.loop-at-preserved-then-s-at-lt128
loop-at-preserved-then-s-at-lt128 c =
    (omega arith, prefix_turn _ _ _ _ _ (decode_ascii _ _ c.loop-at-test.true c.if-s-at-lt128.true) c.loop-at.invariant.1)

pub longer_length-requires : goal.longer_length-requires
longer_length-requires c = (c.loop-at-test.true, c.if-s-at-lt128.false)

pub returns-in_default : goal.returns-in_default
returns-in_default c =
    prefix_stop c.args.s.now c.loop-at.at _ c.in_default.ensures c.loop-at.invariant.1

pub overflow_add-at-else-s-at-lt128 : goal.overflow_add-at-else-s-at-lt128
overflow_add-at-else-s-at-lt128 c =
    let f = length_fits c.args.s.now c.loop-at.at _ c.in-Some.ensures in omega arith

pub loop-at-smaller : goal.loop-at-smaller
loop-at-smaller c =
    let f = length_fits c.args.s.now c.loop-at.at _ c.in-Some.ensures in
    let g = length_some c.args.s.now c.loop-at.at _ c.in-Some.ensures in omega arith

pub loop-at-preserved : goal.loop-at-preserved
loop-at-preserved c =
    (length_fits c.args.s.now c.loop-at.at _ c.in-Some.ensures, prefix_more c.args.s.now c.loop-at.at _ c.in-Some.ensures _ c.loop-at.invariant.1)

pub returns : goal.returns
returns c =
    let e = prefix_none (drop c.loop-at.at c.args.s.now) (codes_end _ _ c.loop-at-test.false) in omega (arith, c.loop-at.invariant.1, e)
