-- `lookup::definition::match_first` meets its contract: the head tells the definition at the front, and what is asked for decides.
use Rattle.lookup.proofs.Matches.{matched_option, matched_flag, matched_none, asked_option, asked_flag}
use Rattle.lookup.specs.Inner.{has_asked}
use Rattle.image.proofs.HeadBytes.{view, definition_small}
use Rattle.image.specs.Reading.{option_in, flag_in}
use Rattle.buffer.specs.Numbers.{Bytes}
use native.Mathlib.Omega.{arith}
use mathlib.Core.Path.{sym, ◌∙◌}
use borrow.Enum.Refused.{opened}
use Rattle.lookup.proofs.definition.match_first.Goals as goal

pub is_asked-requires : goal.is_asked-requires
unfolding Bytes
is_asked-requires c =
    let e = sym c.in-Option.ensures in
    (omega arith, definition_small 3 c.args.s.now _ (λ i. (c.shared_slice_known-1.given i).fits) (view _ _ e).texts)

pub is_asked-requires-in-Flag : goal.is_asked-requires-in-Flag
unfolding Bytes
is_asked-requires-in-Flag c =
    let e = sym c.in-Flag.ensures in
    (omega arith, definition_small 2 c.args.s.now _ (λ i. (c.shared_slice_known-1.given i).fits) (view _ _ e).texts)

pub returns-then-is_asked : goal.returns-then-is_asked
unfolding option_in
returns-then-is_asked c =
    rw c.if-is_asked.true at (matched_option (has_asked c.args.asked) c.args.s.now _ _ _ (sym c.in-Option.is ∙ c.head_of.ensures) _ (c.is_asked.ensures ∙ asked_option c.args.s.now _ c.in-Option.texts c.args.asked _))

pub returns-else-is_asked : goal.returns-else-is_asked
unfolding option_in
returns-else-is_asked c =
    rw c.if-is_asked.false at (matched_option (has_asked c.args.asked) c.args.s.now _ _ _ (sym c.in-Option.is ∙ c.head_of.ensures) _ (c.is_asked.ensures ∙ asked_option c.args.s.now _ c.in-Option.texts c.args.asked _))

pub returns-then-is_asked-2 : goal.returns-then-is_asked-2
unfolding flag_in
returns-then-is_asked-2 c =
    rw c.if-is_asked-2.true at (matched_flag (has_asked c.args.asked) c.args.s.now _ _ (sym c.in-Flag.is ∙ c.head_of.ensures) _ (c.is_asked-in-Flag.ensures ∙ asked_flag c.args.s.now _ c.in-Flag.texts c.args.asked))

pub returns-else-is_asked-2 : goal.returns-else-is_asked-2
unfolding flag_in
returns-else-is_asked-2 c =
    rw c.if-is_asked-2.false at (matched_flag (has_asked c.args.asked) c.args.s.now _ _ (sym c.in-Flag.is ∙ c.head_of.ensures) _ (c.is_asked-in-Flag.ensures ∙ asked_flag c.args.s.now _ c.in-Flag.texts c.args.asked))

pub returns-in_default : goal.returns-in_default
returns-in_default c =
    matched_none (has_asked c.args.asked) c.args.s.now _ c.head_of.ensures (opened c.in_default.in_default-own.keys3)
