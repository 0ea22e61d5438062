-- `tree::command::Trail::after_child` meets its contract: where no word is next, no child is followed.
use Rattle.buffer.specs.Numbers.{Bytes}
use Rattle.tree.proofs.Trails.{after_no_word}
use Rattle.tree.proofs.command.Trail.after_child.Goals as goal

pub after_name-requires : goal.after_name-requires
after_name-requires c =
    record { at_frame = c.requires.at_frame; at_child = c.requires.at_child; next_value = c.in-Some.is }

pub returns-in-None : goal.returns-in-None
unfolding Bytes
returns-in-None c =
    (after_no_word c.args.words.now c.args.image.now (λ i. (c.shared_slice_known-2-1.given i).fits) c.args.at c.requires.at_frame.2 c.args.self c.requires.at_child.0 c.requires.at_child.1 c.requires.at_child.2 c.requires.at_frame.3 c.in-None.is, c.requires.at_frame.3)
