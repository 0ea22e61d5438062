-- `lookup::look::look_option` meets its contract: what is sought decides, then the key.
use Rattle.lookup.proofs.Looks.{option_passed_in, option_keyed}
use Rattle.image.specs.Reading.{option_in}
use native.Mathlib.Omega.{arith}
use borrow.Enum.Refused.{opened}
use Rattle.lookup.proofs.look.look_option.Goals as goal

pub is_keyed-requires : goal.is_keyed-requires
is_keyed-requires c = (omega arith, c.requires)

pub returns-in-OptionKeyed : goal.returns-in-OptionKeyed
unfolding option_in
returns-in-OptionKeyed c = λ q d. option_keyed _ _ _ q d _ _ _ _ _ c.in-OptionKeyed.is c.hit_or_pass.ensures c.is_keyed.ensures

pub returns-in_default : goal.returns-in_default
returns-in_default c =
    λ q d. option_passed_in c.args.sought c.args.key.now c.args.texts.size c.args.s.now c.args.texts q d (opened c.in_default.in_default-own.keys2)
