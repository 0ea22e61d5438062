-- `history::adding::add_tested` meets its contract.
use Rattle.std.specs.Prelude.{Ok, Err, ℕ}
use Rattle.history.proofs.Answers.{formed_whole, answer_long, answer_ill, answer_done, addition}
use Rattle.history.specs.declared.adding.AddRefusal.TheVariants.{TooLong, IllFormed}
use native.Mathlib.Omega.{arith}
use mathlib.Core.Path.{refl, sym, ap, ◌∙◌}
use lib.ListN.{length}
use Rattle.history.proofs.adding.add_tested.Goals as goal

pub returns-then-text-gt255 : goal.returns-then-text-gt255
returns-then-text-gt255 c =
    addition c.args.history c.args.slots.now c.args.text.now (Err (TooLong (length c.args.text.now))) _ _ (answer_long _ _ _ (c.requires) (omega arith)) refl refl

pub returns-then-prefix-text : goal.returns-then-prefix-text
returns-then-prefix-text c =
    let ill = answer_ill c.args.history c.args.slots.now c.args.text.now (c.requires) (omega arith) (λ e. c.if-prefix-text.true (c.well_formed_prefix-prefix.ensures ∙ e)) in
    addition c.args.history c.args.slots.now c.args.text.now (Err (IllFormed c.well_formed_prefix-prefix.result)) _ _ (ill ∙ ap (λ (n : ℕ). Err (IllFormed n)) (sym c.well_formed_prefix-prefix.ensures)) refl refl

pub offer-requires : goal.offer-requires
offer-requires c =
    record { slots_value = c.requires; text_len_bound = omega arith; text_value = formed_whole _ _ c.well_formed_prefix-prefix.ensures c.if-prefix-text.false }

pub returns : goal.returns
returns c =
    let done = answer_done c.args.history c.args.slots.now c.args.text.now (c.requires) (omega arith) (sym c.well_formed_prefix-prefix.ensures ∙ c.if-prefix-text.false) in
    addition c.args.history c.args.slots.now c.args.text.now (Ok tt) _ _ done c.offer.ensures.state c.offer.ensures.bytes
