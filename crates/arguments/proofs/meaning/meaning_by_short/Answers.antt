-- `arguments::meaning::meaning_by_short` meets its contract: the definition that was found gives the meaning, its head the place of the name.
use Prim.Native.Nat.{◌+◌, ◌<◌}
use Rattle.std.specs.Prelude.{Some}
use mathlib.Core.Path.{sym, ap, ◌∙◌}
use native.Mathlib.Omega.{arith}
use Rattle.buffer.specs.Numbers.{Bytes}
use Rattle.lookup.specs.Definitions.{has_short}
use Rattle.arguments.proofs.Meanings.{flag_meant, option_meant, nothing_meant, flag_sure, option_sure, flag_name, option_name, flag_small, option_small}
use borrow.Enum.Refused.{opened}
use Rattle.arguments.proofs.meaning.meaning_by_short.Goals as goal

pub returns-in_err-defined : goal.returns-in_err-defined
returns-in_err-defined c =
    rw c.from_residual.ensures (sym (nothing_meant (has_short c.args.code) c.args.image.now c.args.from (sym c.in_err-defined.ensures)), tt)

pub returns-in_default : goal.returns-in_default
unfolding Bytes
returns-in_default c =
    let m = flag_meant (has_short c.args.code) c.args.image.now c.args.from c.in-Flag.p (λ i. (c.type_inv.image i).fits) (sym c.in_ok-defined.ensures ∙ ap Some c.in-Flag.is) in
    absurd (flag_sure (has_short c.args.code) _ _ _ _ (sym c.head_at.ensures) m (opened c.in_default.in_default-own.keys2))

pub overflow_add-result : goal.overflow_add-result
unfolding Bytes
overflow_add-result c =
    let k : c.in-Flag.p + 3 < 0x10000 = (flag_small c.args.image.now _ (λ i. (c.type_inv.image i).fits) (c.requires) _ _ (sym c.in-Flag-head_at.ensures)).0 in
    omega arith

pub returns-in_default-head_at : goal.returns-in_default-head_at
unfolding Bytes
returns-in_default-head_at c =
    let m = option_meant (has_short c.args.code) c.args.image.now c.args.from c.in-Option.p (λ i. (c.type_inv.image i).fits) (sym c.in_ok-defined.ensures ∙ ap Some c.in-Option.is) in
    absurd (option_sure (has_short c.args.code) _ _ _ _ (sym c.head_at-in-Option.ensures) m (opened c.in_default-head_at.in_default-head_at-own.keys2))

pub overflow_add-result-in-Option : goal.overflow_add-result-in-Option
unfolding Bytes
overflow_add-result-in-Option c =
    let k : c.in-Option.p + 4 < 0x10000 = (option_small c.args.image.now _ (λ i. (c.type_inv.image i).fits) (c.requires) _ _ _ (sym c.in-Option-head_at.ensures)).0 in
    omega arith

pub returns-in-Flag-head_at : goal.returns-in-Flag-head_at
unfolding Bytes
returns-in-Flag-head_at c =
    let e = sym c.in-Flag-head_at.ensures in
    let m = flag_meant (has_short c.args.code) c.args.image.now c.args.from c.in-Flag.p (λ i. (c.type_inv.image i).fits) (sym c.in_ok-defined.ensures ∙ ap Some c.in-Flag.is) in
    (flag_name (has_short c.args.code) c.args.image.now _ _ _ _ e m, flag_small c.args.image.now _ (λ i. (c.type_inv.image i).fits) (c.requires) _ _ e)

pub returns-in-Option-head_at : goal.returns-in-Option-head_at
unfolding Bytes
returns-in-Option-head_at c =
    let e = sym c.in-Option-head_at.ensures in
    let m = option_meant (has_short c.args.code) c.args.image.now c.args.from c.in-Option.p (λ i. (c.type_inv.image i).fits) (sym c.in_ok-defined.ensures ∙ ap Some c.in-Option.is) in
    (option_name (has_short c.args.code) c.args.image.now _ _ _ _ _ e m, option_small c.args.image.now _ (λ i. (c.type_inv.image i).fits) (c.requires) _ _ _ e)
