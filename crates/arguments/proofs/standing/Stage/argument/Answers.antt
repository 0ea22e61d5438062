-- `arguments::standing::Stage::argument` meets its contract: the form of the word, read byte by byte, leads to what each form does.
use Prim.Native.Nat.{ℕ, ◌+◌, ◌-◌, ◌^◌, ◌<◌}
use mathlib.Core.Path.{sym, ap, ◌∙◌}
use mathlib.Core.List.{List}
use native.Mathlib.Omega.{arith}
use lib.ListN.{length, take, drop}
use Rattle.text.specs.Decoding.{codes_in}
use Rattle.buffer.specs.Numbers.{Bytes}
use Rattle.frame.proofs.Series.{word_within, word_length, frame_is}
use Rattle.table.specs.Inner.{part_of}
use Rattle.arguments.specs.Inner.{definitions_at, stored, found_of, held}
use Rattle.arguments.specs.Forms.{long_form}
use Rattle.arguments.specs.Arguments.{Stand, go, form_step, short_steps}
use Rattle.arguments.specs.declared.standing.Progress.TheVariants.{Going}
use Rattle.arguments.proofs.Steps.{stand_by_lem}
use Rattle.arguments.proofs.Walks.{word_after, letters_formed, form_short, form_plain, form_long, form_shorts, kept_as, stepped_as, kept_stepped, moved_stepped}
use Rattle.arguments.proofs.Moves.{fit_as}
use Rattle.arguments.proofs.standing.Stage.argument.Goals as goal

pub overflow_add-start : goal.overflow_add-start
overflow_add-start c =
    let h = word_within c.args.node.words.now c.args.at c.requires.word_there.0.0 c.args.bytes c.requires.word_there.0.1 in
    omega arith

pub overflow_add-end : goal.overflow_add-end
overflow_add-end c =
    let h = word_within c.args.node.words.now c.args.at c.requires.word_there.0.0 c.args.bytes c.requires.word_there.0.1 in
    omega arith

pub slice_bounds-keep-end : goal.slice_bounds-keep-end
slice_bounds-keep-end c =
    let h = word_within c.args.node.words.now c.args.at c.requires.word_there.0.0 c.args.bytes c.requires.word_there.0.1 in
    omega arith

pub returns-then-bytes-lt2 : goal.returns-then-bytes-lt2
unfolding Bytes
returns-then-bytes-lt2 c =
    let l = word_length c.args.node.words.now c.args.at c.requires.word_there.0.0 c.args.bytes c.requires.word_there.0.1 in
    let h = word_within c.args.node.words.now c.args.at c.requires.word_there.0.0 c.args.bytes c.requires.word_there.0.1 in
    let small : length (part_of c.args.node.words.now (c.args.at + 3) c.args.bytes) < 256 ^ 2 = omega arith in
    let k = kept_as _ _ _ _ _ _ (frame_is c.args.node.words.now c.args.at c.requires.word_there.0.0 c.args.bytes c.requires.word_there.0.1 c.args.node.words_bytes) (c.keep.ensures.0 _ _) in
    (stepped_as _ _ _ _ _ _ _ _ _ _ (kept_stepped c.args.node.words.now c.args.node.image.now c.args.rest.now _ (held c.args.options.now c.args.flags.now c.args.self) _ c.requires.word_there.0.0 (part_of c.args.node.words.now (c.args.at + 3) c.args.bytes) c.requires.argument_asks.1 c.requires.argument_asks.0 small k) (ap (λ (n : ℕ). 3 + n) l) (sym (ap (form_step stored (definitions_at c.args.node.image.now c.args.node.from) (found_of c.args.node.words.now c.args.node.image.now c.args.rest.now (held c.args.options.now c.args.flags.now c.args.self)) (part_of c.args.node.words.now (c.args.at + 3) c.args.bytes)) (form_short c.args.node.words.now c.args.at c.requires.word_there.0.0 c.args.bytes c.requires.word_there.0.1 c.if-bytes-lt2.true))), fit_as _ _ _ c.keep.ensures.1 c.requires.argument_asks.3, fit_as _ _ _ c.keep.ensures.2 c.requires.argument_asks.4)

pub bounds-node-start : goal.bounds-node-start
bounds-node-start c =
    let h = word_within c.args.node.words.now c.args.at c.requires.word_there.0.0 c.args.bytes c.requires.word_there.0.1 in
    omega arith

pub slice_bounds-keep-end-then-node-start-ne45 : goal.slice_bounds-keep-end-then-node-start-ne45
slice_bounds-keep-end-then-node-start-ne45 c =
    let h = word_within c.args.node.words.now c.args.at c.requires.word_there.0.0 c.args.bytes c.requires.word_there.0.1 in
    omega arith

pub returns-then-node-start-ne45 : goal.returns-then-node-start-ne45
unfolding Bytes
returns-then-node-start-ne45 c =
    let l = word_length c.args.node.words.now c.args.at c.requires.word_there.0.0 c.args.bytes c.requires.word_there.0.1 in
    let h = word_within c.args.node.words.now c.args.at c.requires.word_there.0.0 c.args.bytes c.requires.word_there.0.1 in
    let small : length (part_of c.args.node.words.now (c.args.at + 3) c.args.bytes) < 256 ^ 2 = omega arith in
    let k = kept_as _ _ _ _ _ _ (frame_is c.args.node.words.now c.args.at c.requires.word_there.0.0 c.args.bytes c.requires.word_there.0.1 c.args.node.words_bytes) (c.keep-then-node-start-ne45.ensures.0 _ _) in
    (stepped_as _ _ _ _ _ _ _ _ _ _ (kept_stepped c.args.node.words.now c.args.node.image.now c.args.rest.now _ (held c.args.options.now c.args.flags.now c.args.self) _ c.requires.word_there.0.0 (part_of c.args.node.words.now (c.args.at + 3) c.args.bytes) c.requires.argument_asks.1 c.requires.argument_asks.0 small k) (ap (λ (n : ℕ). 3 + n) l) (sym (ap (form_step stored (definitions_at c.args.node.image.now c.args.node.from) (found_of c.args.node.words.now c.args.node.image.now c.args.rest.now (held c.args.options.now c.args.flags.now c.args.self)) (part_of c.args.node.words.now (c.args.at + 3) c.args.bytes)) (form_plain c.args.node.words.now c.args.at c.requires.word_there.0.0 c.args.bytes c.requires.word_there.0.1 c.if-bytes-lt2.false c.if-node-start-ne45.true))), fit_as _ _ _ c.keep-then-node-start-ne45.ensures.1 c.requires.argument_asks.3, fit_as _ _ _ c.keep-then-node-start-ne45.ensures.2 c.requires.argument_asks.4)

pub overflow_add-start-2 : goal.overflow_add-start-2
overflow_add-start-2 c =
    let h = word_within c.args.node.words.now c.args.at c.requires.word_there.0.0 c.args.bytes c.requires.word_there.0.1 in
    omega arith

pub bounds-node-start-2 : goal.bounds-node-start-2
bounds-node-start-2 c =
    let h = word_within c.args.node.words.now c.args.at c.requires.word_there.0.0 c.args.bytes c.requires.word_there.0.1 in
    omega arith

pub overflow_add-start-then-node-start-eq45 : goal.overflow_add-start-then-node-start-eq45
overflow_add-start-then-node-start-eq45 c =
    let h = word_within c.args.node.words.now c.args.at c.requires.word_there.0.0 c.args.bytes c.requires.word_there.0.1 in
    omega arith

pub long-requires : goal.long-requires
long-requires c =
    let h = word_within c.args.node.words.now c.args.at c.requires.word_there.0.0 c.args.bytes c.requires.word_there.0.1 in
    (omega arith, omega arith, c.requires.argument_asks.3, c.requires.argument_asks.4)

pub returns-then-node-start-eq45 : goal.returns-then-node-start-eq45
returns-then-node-start-eq45 c = (
  moved_stepped c.args.node.words.now c.args.node.image.now c.args.rest.now (held c.args.options.now c.args.flags.now c.args.self) _ _ _ _ c.requires.argument_asks.0 (c.long.ensures.0 (part_of c.args.node.words.now (c.args.at + 3) c.args.bytes))
      (ap (λ (x : List ℕ). form_step stored (definitions_at c.args.node.image.now c.args.node.from) (found_of c.args.node.words.now c.args.node.image.now c.args.rest.now (held c.args.options.now c.args.flags.now c.args.self)) (part_of c.args.node.words.now (c.args.at + 3) c.args.bytes) (long_form x)) (word_after c.args.node.words.now c.args.at c.requires.word_there.0.0 c.args.bytes c.requires.word_there.0.1 2)
      ∙ sym (ap (form_step stored (definitions_at c.args.node.image.now c.args.node.from) (found_of c.args.node.words.now c.args.node.image.now c.args.rest.now (held c.args.options.now c.args.flags.now c.args.self)) (part_of c.args.node.words.now (c.args.at + 3) c.args.bytes)) (form_long c.args.node.words.now c.args.at c.requires.word_there.0.0 c.args.bytes c.requires.word_there.0.1 c.if-bytes-lt2.false c.if-node-start-ne45.false c.if-node-start-eq45.true))),
  c.long.ensures.1,
  c.long.ensures.2,
)

pub overflow_add-start-3 : goal.overflow_add-start-3
overflow_add-start-3 c =
    let h = word_within c.args.node.words.now c.args.at c.requires.word_there.0.0 c.args.bytes c.requires.word_there.0.1 in
    omega arith

pub shorts-requires : goal.shorts-requires
shorts-requires c =
    let h = word_within c.args.node.words.now c.args.at c.requires.word_there.0.0 c.args.bytes c.requires.word_there.0.1 in
    (omega arith, omega arith, c.requires.argument_asks.0.small, c.requires.argument_asks.4, letters_formed c.args.node.words.now c.args.at c.requires.word_there.0.0 c.args.bytes c.requires.word_there.0.1 c.requires.word_there.1 c.if-bytes-lt2.false c.if-node-start-ne45.false)

pub returns : goal.returns
returns c = (
  moved_stepped c.args.node.words.now c.args.node.image.now c.args.rest.now (held c.args.options.now c.args.flags.now c.args.self) _ _ _ _ c.requires.argument_asks.0 (c.shorts.ensures.0 _)
      (ap (λ (a : Stand). short_steps stored (definitions_at c.args.node.image.now c.args.node.from) a (codes_in (take (c.args.at + 3 + c.args.bytes - (c.args.at + 3 + 1)) (drop (c.args.at + 3 + 1) c.args.node.words.now)))) (stand_by_lem c.args.node.words.now c.args.node.image.now c.args.rest.now (held c.args.options.now c.args.flags.now c.args.self) Going c.requires.argument_asks.1)
      ∙ ap (λ (x : List ℕ). short_steps stored (definitions_at c.args.node.image.now c.args.node.from) (go (found_of c.args.node.words.now c.args.node.image.now c.args.rest.now (held c.args.options.now c.args.flags.now c.args.self))) (codes_in x)) (word_after c.args.node.words.now c.args.at c.requires.word_there.0.0 c.args.bytes c.requires.word_there.0.1 1)
      ∙ sym (ap (form_step stored (definitions_at c.args.node.image.now c.args.node.from) (found_of c.args.node.words.now c.args.node.image.now c.args.rest.now (held c.args.options.now c.args.flags.now c.args.self)) (part_of c.args.node.words.now (c.args.at + 3) c.args.bytes)) (form_shorts c.args.node.words.now c.args.at c.requires.word_there.0.0 c.args.bytes c.requires.word_there.0.1 c.if-bytes-lt2.false c.if-node-start-ne45.false c.if-node-start-eq45.false))),
  fit_as _ _ _ c.shorts.ensures.2 c.requires.argument_asks.3,
  c.shorts.ensures.1,
)
