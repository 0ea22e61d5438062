-- `parse::required::validate_required_options` meets its contract: what is missing from the place reached is what is missing from the beginning.
use mathlib.Core.Path.{refl, sym, ◌∙◌}
use Rattle.std.proofs.Common.{rules}
use native.Mathlib.Omega.{arith}
use Rattle.table.specs.Inner.{map_of}
use Rattle.parse.proofs.Definitions.{option_step, flag_step, option_missing, option_there, flag_passed, definitions_stop, definitions_end, searched_stop}
use borrow.Enum.Refused.{opened}
use Rattle.parse.proofs.required.validate_required_options.Goals as goal

pub loop-at-init : goal.loop-at-init
loop-at-init c = refl

pub returns-then-is_missing : goal.returns-then-is_missing
returns-then-is_missing c =
    let m = map_of c.args.words.now c.args.node.now c.args.options in
    sym (option_missing c.args.node.now c.loop-at.at m _ _ _ _ _ (sym c.in-Option.ensures) c.part-name.ensures c.is_missing.ensures c.if-is_missing.true) ∙ c.loop-at.invariant

pub overflow_add-at-in-Option : goal.overflow_add-at-in-Option
overflow_add-at-in-Option c =
    let s = option_step c.args.node.now c.loop-at.at (map_of c.args.words.now c.args.node.now c.args.options) _ _ _ c.loop-at-test.true (sym c.in-Option.ensures) in
    let w = s.within in
    omega arith

pub loop-at-smaller-in-Option : goal.loop-at-smaller-in-Option
loop-at-smaller-in-Option c =
    let s = option_step c.args.node.now c.loop-at.at (map_of c.args.words.now c.args.node.now c.args.options) _ _ _ c.loop-at-test.true (sym c.in-Option.ensures) in
    let w = s.within in
    let o = s.some in
    omega arith

pub loop-at-preserved-in-Option : goal.loop-at-preserved-in-Option
loop-at-preserved-in-Option c =
    let m = map_of c.args.words.now c.args.node.now c.args.options in
    sym (option_there c.args.node.now c.loop-at.at m _ _ _ _ _ (sym c.in-Option.ensures) c.part-name.ensures c.is_missing.ensures (search rules)) ∙ c.loop-at.invariant

pub overflow_add-at-in-Flag : goal.overflow_add-at-in-Flag
overflow_add-at-in-Flag c =
    let s = flag_step c.args.node.now c.loop-at.at (map_of c.args.words.now c.args.node.now c.args.options) _ _ c.loop-at-test.true (sym c.in-Flag.ensures) in
    let w = s.within in
    omega arith

pub loop-at-smaller : goal.loop-at-smaller
loop-at-smaller c =
    let s = flag_step c.args.node.now c.loop-at.at (map_of c.args.words.now c.args.node.now c.args.options) _ _ c.loop-at-test.true (sym c.in-Flag.ensures) in
    let w = s.within in
    let o = s.some in
    omega arith

pub loop-at-preserved : goal.loop-at-preserved
loop-at-preserved c =
    let m = map_of c.args.words.now c.args.node.now c.args.options in
    sym (flag_passed c.args.node.now c.loop-at.at m _ _ (sym c.in-Flag.ensures)) ∙ c.loop-at.invariant

pub returns-in_default : goal.returns-in_default
returns-in_default c =
    let m = map_of c.args.words.now c.args.node.now c.args.options in
    searched_stop c.args.node.now m c.args.from c.loop-at.at c.loop-at.invariant (definitions_stop c.args.node.now c.loop-at.at _ (sym c.head_at.ensures) (opened c.in_default.in_default-own.keys3))

pub returns : goal.returns
returns c =
    let m = map_of c.args.words.now c.args.node.now c.args.options in
    searched_stop c.args.node.now m c.args.from c.loop-at.at c.loop-at.invariant (definitions_end c.args.node.now c.loop-at.at c.loop-at-test.false)
