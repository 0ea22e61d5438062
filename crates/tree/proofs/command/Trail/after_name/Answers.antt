-- `tree::command::Trail::after_name` meets its contract: a child is followed exactly if the next word is its name.
use mathlib.Core.Path.{sym, ◌∙◌}
use native.Mathlib.Omega.{arith}
use Rattle.buffer.specs.Numbers.{Bytes}
use Rattle.frame.proofs.Series.{word_within}
use Rattle.tree.proofs.Trails.{next_framed, after_longer, after_last, after_other, after_named}
use Rattle.tree.proofs.command.Trail.after_name.Goals as goal

pub returns-then-byte_at-bytes : goal.returns-then-byte_at-bytes
unfolding Bytes
returns-then-byte_at-bytes c =
    let w = next_framed _ _ (sym c.requires.next_value ∙ c.requires.at_frame.3) in (after_longer c.args.words.now c.args.image.now (λ i. (c.shared_slice_known-2-1.given i).fits) c.args.at c.requires.at_frame.2 c.args.self c.requires.at_child.0 c.requires.at_child.1 c.requires.at_child.2 w.0 _ w.1 (λ z. c.if-byte_at-bytes.true (c.byte_at.ensures.byte ∙ z)), c.requires.at_frame.3)

pub overflow_add-name : goal.overflow_add-name
overflow_add-name c =
    let w = next_framed _ _ (sym c.requires.next_value ∙ c.requires.at_frame.3) in let h = word_within c.args.words.now c.args.self.place.at w.0 c.args.bytes w.1 in omega arith

pub overflow_add-beyond : goal.overflow_add-beyond
overflow_add-beyond c =
    let w = next_framed _ _ (sym c.requires.next_value ∙ c.requires.at_frame.3) in let h = word_within c.args.words.now c.args.self.place.at w.0 c.args.bytes w.1 in omega arith

pub returns-then-byte_at : goal.returns-then-byte_at
unfolding Bytes
returns-then-byte_at c =
    let w = next_framed _ _ (sym c.requires.next_value ∙ c.requires.at_frame.3) in (after_last c.args.words.now c.args.image.now (λ i. (c.shared_slice_known-2-1.given i).fits) c.args.at c.requires.at_frame.2 c.args.self c.requires.at_child.0 c.requires.at_child.1 c.requires.at_child.2 w.0 _ w.1 (λ z. c.if-byte_at.true (c.byte_at-2.ensures.byte ∙ z ∙ sym c.byte_at-3.ensures.byte)), c.requires.at_frame.3)

pub returns-then-not-same : goal.returns-then-not-same
unfolding Bytes
returns-then-not-same c =
    let w = next_framed _ _ (sym c.requires.next_value ∙ c.requires.at_frame.3) in (after_other c.args.words.now c.args.image.now (λ i. (c.shared_slice_known-2-1.given i).fits) c.args.at c.requires.at_frame.2 c.args.self c.requires.at_child.0 c.requires.at_child.1 c.requires.at_child.2 w.0 _ w.1 _ _ _ c.name_at.ensures c.part.ensures c.same.ensures c.if-not-same.true, c.requires.at_frame.3)

pub returns : goal.returns
unfolding Bytes
returns c =
    let w = next_framed _ _ (sym c.requires.next_value ∙ c.requires.at_frame.3) in (rw c.next_word.ensures (after_named c.args.words.now c.args.image.now (λ i. (c.shared_slice_known-2-1.given i).fits) c.args.at c.requires.at_frame.2 c.args.self c.requires.at_child.0 c.requires.at_child.1 c.requires.at_child.2 w.0 _ w.1 _ _ _ c.name_at.ensures c.part.ensures c.same.ensures (λ i. (c.shared_slice_known-1.given i).fits) c.requires.at_frame.0 c.if-not-same.false), c.next_word.ensures)
