-- `words::tokenizer::split_roomy` meets its contract.
use Rattle.words.proofs.Answers.{ill_formed_lem, all_words}
use Rattle.words.proofs.Standing.{written_most}
use Rattle.text.specs.Decoding.{well_formed_length}
use Rattle.text.proofs.Prefix.{prefix_fits}
use native.Mathlib.Omega.{arith}
use mathlib.Core.Path.{◌≡◌}
use lib.ListN.{length}
use Rattle.words.proofs.tokenizer.split_roomy.Goals as goal

pub returns-then-place-line : goal.returns-then-place-line
returns-then-place-line c =
    ill_formed_lem _ _ _ c.requires.0 (omega (arith, c.well_formed_prefix-place.ensures, c.if-place-line.true), c.well_formed_prefix-place.ensures)

pub write-requires : goal.write-requires
write-requires c =
    let whole : well_formed_length c.args.line.now ≡ length c.args.line.now =
    omega (arith, c.well_formed_prefix-place.ensures, c.if-place-line.false, prefix_fits c.args.line.now)
    in
    let most = written_most c.args.line.now whole in
    record { line_len_bound = c.requires.0; line_value = whole; line_in_bounds = omega (arith, most, c.requires.1) }

pub returns : goal.returns
returns c =
    let whole : well_formed_length c.args.line.now ≡ length c.args.line.now =
    omega (arith, c.well_formed_prefix-place.ensures, c.if-place-line.false, prefix_fits c.args.line.now)
    in
    let most = written_most c.args.line.now whole in
    all_words _ _ _ c.requires.0 (whole, c.write.ensures.count) _ (omega (arith, most, c.requires.1, c.write.ensures.count)) c.write.ensures.bytes
