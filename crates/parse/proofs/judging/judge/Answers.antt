-- `parse::judging::judge` meets its contract: what is judged at the place that the words lead to is what the image says of them.
use mathlib.Core.Path.{refl, sym}
use Rattle.buffer.specs.Numbers.{Bytes}
use Rattle.frame.proofs.Series.{texts_stop}
use Rattle.tree.proofs.CommandNodes.{reached_first}
use Rattle.parse.proofs.Judgements.{good_short, words_parted, first_unknown, first_judged, leads_as, judged_as, judged_without, no_words_lem}
use borrow.Enum.Refused.{opened}
use Rattle.parse.proofs.judging.judge.Goals as goal

pub returns-in_default : goal.returns-in_default
returns-in_default c =
    judged_without c.args.words.now c.args.image.now c.args.rest.now _ _ _ _ c.without_command.ensures.0 c.without_command.ensures.1 c.without_command.ensures.2 (λ part path found. no_words_lem c.args.words.now c.args.image.now (texts_stop _ _ (sym c.read_frame.ensures) (opened c.in_default.in_default-own.keys2)))

pub returns-in_default-found : goal.returns-in_default-found
unfolding Bytes
returns-in_default-found c =
    judged_without c.args.words.now c.args.image.now c.args.rest.now _ _ _ _ c.without_command-in_default-found.ensures.0 c.without_command-in_default-found.ensures.1 c.without_command-in_default-found.ensures.2 (λ part path found. first_unknown c.args.words.now c.args.image.now _ c.in-Frame.length (sym c.in-Frame.ensures) (λ i. (c.type_inv.image i).fits) c.requires.2 (leads_as _ _ _ _ _ c.in_default-found.is c.requires.3))

pub judge_arguments-requires : goal.judge_arguments-requires
unfolding Bytes
judge_arguments-requires c =
    let l = leads_as _ _ _ _ _ c.in-Some.is c.requires.3 in (c.requires.0, good_short c.args.image.now (λ i. (c.type_inv.image i).fits) c.requires.2, c.requires.1, l.0.within, rw l.0.frames (reached_first c.args.image.now c.args.words.now l.1), words_parted c.args.words.now c.args.image.now _ c.requires.4 l.0)

pub returns : goal.returns
unfolding Bytes
returns c =
    let l = leads_as _ _ _ _ _ c.in-Some.is c.requires.3 in judged_as _ _ _ _ _ _ _ _ _ (first_judged c.args.words.now c.args.image.now _ c.in-Frame.length (sym c.in-Frame.ensures) (λ i. (c.type_inv.image i).fits) c.requires.2 l.1) refl (c.judge_arguments.ensures _ l.0)
