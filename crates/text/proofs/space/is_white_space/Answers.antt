-- `text::space::is_white_space` meets its contract: its ranges are those of the list.
use Rattle.std.proofs.Common.{rules, ◌≡◌, true, false}
use mathlib.Core.Path.{◌∙◌}
use Rattle.text.specs.Inner.{in_ranges}
use Rattle.text.proofs.Spaces.{ranges_are}
use Rattle.text.proofs.space.is_white_space.Goals as goal

pub returns-in_default : goal.returns-in_default
unfolding in_ranges
returns-in_default c = let e : false ≡ in_ranges c.args.code = search rules in e ∙ ranges_are c.args.code

pub returns-in_default-2 : goal.returns-in_default-2
unfolding in_ranges
returns-in_default-2 c = let e : false ≡ in_ranges c.args.code = search rules in e ∙ ranges_are c.args.code

pub returns-in-9-to-13 : goal.returns-in-9-to-13
unfolding in_ranges
returns-in-9-to-13 c = let e : true ≡ in_ranges c.args.code = search rules in e ∙ ranges_are c.args.code

pub returns-in-9-to-13-2 : goal.returns-in-9-to-13-2
unfolding in_ranges
returns-in-9-to-13-2 c = let e : true ≡ in_ranges c.args.code = search rules in e ∙ ranges_are c.args.code

pub returns-then-code-gt12288 : goal.returns-then-code-gt12288
unfolding in_ranges
returns-then-code-gt12288 c = let e : false ≡ in_ranges c.args.code = search rules in e ∙ ranges_are c.args.code

pub returns-in_default-matches-2 : goal.returns-in_default-matches-2
unfolding in_ranges
returns-in_default-matches-2 c = let e : false ≡ in_ranges c.args.code = search rules in e ∙ ranges_are c.args.code

pub returns-in_default-matches-2-2 : goal.returns-in_default-matches-2-2
unfolding in_ranges
returns-in_default-matches-2-2 c = let e : false ≡ in_ranges c.args.code = search rules in e ∙ ranges_are c.args.code

pub returns-in_default-matches-2-3 : goal.returns-in_default-matches-2-3
unfolding in_ranges
returns-in_default-matches-2-3 c = let e : false ≡ in_ranges c.args.code = search rules in e ∙ ranges_are c.args.code

pub returns-in-133 : goal.returns-in-133
unfolding in_ranges
returns-in-133 c = let e : true ≡ in_ranges c.args.code = search rules in e ∙ ranges_are c.args.code

pub returns-in-133-2 : goal.returns-in-133-2
unfolding in_ranges
returns-in-133-2 c = let e : true ≡ in_ranges c.args.code = search rules in e ∙ ranges_are c.args.code

pub returns-in-133-3 : goal.returns-in-133-3
unfolding in_ranges
returns-in-133-3 c = let e : true ≡ in_ranges c.args.code = search rules in e ∙ ranges_are c.args.code
