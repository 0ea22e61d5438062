-- `tree::command::Trail::after` meets its contract: a node below a child changes nothing, one that is not below ends the part.
use mathlib.Core.Path.{sym, ◌∙◌}
use native.Mathlib.Omega.{arith}
use Rattle.buffer.specs.Numbers.{Bytes}
use Rattle.tree.proofs.Trails.{after_plain, after_beyond, after_deep, after_above}
use Rattle.tree.proofs.command.Trail.after.Goals as goal

pub returns-then-image-at-ne1 : goal.returns-then-image-at-ne1
unfolding Bytes
returns-then-image-at-ne1 c =
    (after_plain c.args.words.now c.args.image.now (λ i. (c.shared_slice_known-2-1.given i).fits) c.args.at c.requires.2 c.args.self c.if-image-at-ne1.true, c.requires.3)

pub returns-then-self-depth : goal.returns-then-self-depth
unfolding Bytes
returns-then-self-depth c =
    (after_deep c.args.words.now c.args.image.now (λ i. (c.shared_slice_known-2-1.given i).fits) c.args.at c.requires.2 c.args.self c.if-image-at-ne1.false (omega (arith, c.byte_at-depth.ensures.byte, c.if-self-depth.true)), c.requires.3)

pub returns-then-self-image : goal.returns-then-self-image
unfolding Bytes
returns-then-self-image c =
    (after_beyond c.args.words.now c.args.image.now (λ i. (c.shared_slice_known-2-1.given i).fits) c.args.at c.requires.2 c.args.self c.if-self-image.true, c.requires.3)

pub after_child-requires : goal.after_child-requires
after_child-requires c =
    record {
      at_frame = (c.requires.0, c.requires.1, c.requires.2, c.requires.3);
      at_child = (c.if-image-at-ne1.false, sym c.byte_at-depth.ensures.byte ∙ c.if-depth-self.true, c.if-self-image.false, omega (arith, c.byte_at-depth.ensures.small, c.if-depth-self.true));
    }

pub returns : goal.returns
unfolding Bytes
returns c =
    (after_above c.args.words.now c.args.image.now (λ i. (c.shared_slice_known-2-1.given i).fits) c.args.at c.requires.2 c.args.self c.if-image-at-ne1.false (omega (arith, c.byte_at-depth.ensures.byte, c.if-self-depth.false, c.if-depth-self.false)) c.if-self-image.false, c.requires.3)
