-- `report::reporter::write_frames` meets its contract: four parts, each into the rest after the one before.
use Rattle.report.proofs.Reports.{report_length, path_written, options_lent, options_written, flags_lent, flags_written, rest_lent, rest_written}
use native.Mathlib.Omega.{arith}
use Rattle.report.proofs.reporter.write_frames.Goals as goal

pub write_words-at-requires : goal.write_words-at-requires
write_words-at-requires c =
    (omega (arith, report_length c.args.words.now c.args.image.now c.args.path.now c.args.options c.args.flags c.args.rest.now, c.requires.0), c.requires.1)

pub slice_bounds-write_pairs-count : goal.slice_bounds-write_pairs-count
slice_bounds-write_pairs-count c =
    let s = path_written c.args.words.now c.args.image.now c.args.path.now c.args.options c.args.flags c.args.rest.now c.args.out.now c.requires.0 _ _ c.write_words-at.ensures in
    omega (arith, s.count, s.same, c.requires.0)

pub slice_bounds-write_pairs-start : goal.slice_bounds-write_pairs-start
slice_bounds-write_pairs-start c =
    let s = path_written c.args.words.now c.args.image.now c.args.path.now c.args.options c.args.flags c.args.rest.now c.args.out.now c.requires.0 _ _ c.write_words-at.ensures in
    omega (arith, s.count, s.same, c.requires.0)

pub write_pairs-at-requires : goal.write_pairs-at-requires
write_pairs-at-requires c =
    let s = path_written c.args.words.now c.args.image.now c.args.path.now c.args.options c.args.flags c.args.rest.now c.args.out.now c.requires.0 _ _ c.write_words-at.ensures in
    options_lent c.args.words.now c.args.image.now c.args.path.now c.args.options c.args.flags c.args.rest.now c.args.out.now c.requires.0 _ _ s

pub overflow_add-at : goal.overflow_add-at
overflow_add-at c =
    let s = path_written c.args.words.now c.args.image.now c.args.path.now c.args.options c.args.flags c.args.rest.now c.args.out.now c.requires.0 _ _ c.write_words-at.ensures in
    let t = options_written c.args.words.now c.args.image.now c.args.path.now c.args.options c.args.flags c.args.rest.now c.args.out.now c.requires.0 _ _ s _ _ c.write_pairs-at.ensures in
    omega (arith, t.count, t.same, c.requires.0)

pub slice_bounds-write_pairs-count-2 : goal.slice_bounds-write_pairs-count-2
slice_bounds-write_pairs-count-2 c =
    let s = path_written c.args.words.now c.args.image.now c.args.path.now c.args.options c.args.flags c.args.rest.now c.args.out.now c.requires.0 _ _ c.write_words-at.ensures in
    let t = options_written c.args.words.now c.args.image.now c.args.path.now c.args.options c.args.flags c.args.rest.now c.args.out.now c.requires.0 _ _ s _ _ c.write_pairs-at.ensures in
    omega (arith, t.count, t.same, c.requires.0)

pub slice_bounds-write_pairs-start-2 : goal.slice_bounds-write_pairs-start-2
slice_bounds-write_pairs-start-2 c =
    let s = path_written c.args.words.now c.args.image.now c.args.path.now c.args.options c.args.flags c.args.rest.now c.args.out.now c.requires.0 _ _ c.write_words-at.ensures in
    let t = options_written c.args.words.now c.args.image.now c.args.path.now c.args.options c.args.flags c.args.rest.now c.args.out.now c.requires.0 _ _ s _ _ c.write_pairs-at.ensures in
    omega (arith, t.count, t.same, c.requires.0)

pub write_pairs-at-requires-2 : goal.write_pairs-at-requires-2
write_pairs-at-requires-2 c =
    let s = path_written c.args.words.now c.args.image.now c.args.path.now c.args.options c.args.flags c.args.rest.now c.args.out.now c.requires.0 _ _ c.write_words-at.ensures in
    let t = options_written c.args.words.now c.args.image.now c.args.path.now c.args.options c.args.flags c.args.rest.now c.args.out.now c.requires.0 _ _ s _ _ c.write_pairs-at.ensures in
    flags_lent c.args.words.now c.args.image.now c.args.path.now c.args.options c.args.flags c.args.rest.now c.args.out.now c.requires.0 _ _ t

pub overflow_add-at-2 : goal.overflow_add-at-2
overflow_add-at-2 c =
    let s = path_written c.args.words.now c.args.image.now c.args.path.now c.args.options c.args.flags c.args.rest.now c.args.out.now c.requires.0 _ _ c.write_words-at.ensures in
    let t = options_written c.args.words.now c.args.image.now c.args.path.now c.args.options c.args.flags c.args.rest.now c.args.out.now c.requires.0 _ _ s _ _ c.write_pairs-at.ensures in
    let u = flags_written c.args.words.now c.args.image.now c.args.path.now c.args.options c.args.flags c.args.rest.now c.args.out.now c.requires.0 _ _ t _ _ c.write_pairs-at-2.ensures in
    omega (arith, u.count, u.same, c.requires.0)

pub slice_bounds-write_words-count : goal.slice_bounds-write_words-count
slice_bounds-write_words-count c =
    let s = path_written c.args.words.now c.args.image.now c.args.path.now c.args.options c.args.flags c.args.rest.now c.args.out.now c.requires.0 _ _ c.write_words-at.ensures in
    let t = options_written c.args.words.now c.args.image.now c.args.path.now c.args.options c.args.flags c.args.rest.now c.args.out.now c.requires.0 _ _ s _ _ c.write_pairs-at.ensures in
    let u = flags_written c.args.words.now c.args.image.now c.args.path.now c.args.options c.args.flags c.args.rest.now c.args.out.now c.requires.0 _ _ t _ _ c.write_pairs-at-2.ensures in
    omega (arith, u.count, u.same, c.requires.0)

pub slice_bounds-write_words-start : goal.slice_bounds-write_words-start
slice_bounds-write_words-start c =
    let s = path_written c.args.words.now c.args.image.now c.args.path.now c.args.options c.args.flags c.args.rest.now c.args.out.now c.requires.0 _ _ c.write_words-at.ensures in
    let t = options_written c.args.words.now c.args.image.now c.args.path.now c.args.options c.args.flags c.args.rest.now c.args.out.now c.requires.0 _ _ s _ _ c.write_pairs-at.ensures in
    let u = flags_written c.args.words.now c.args.image.now c.args.path.now c.args.options c.args.flags c.args.rest.now c.args.out.now c.requires.0 _ _ t _ _ c.write_pairs-at-2.ensures in
    omega (arith, u.count, u.same, c.requires.0)

pub write_words-requires : goal.write_words-requires
write_words-requires c =
    let s = path_written c.args.words.now c.args.image.now c.args.path.now c.args.options c.args.flags c.args.rest.now c.args.out.now c.requires.0 _ _ c.write_words-at.ensures in
    let t = options_written c.args.words.now c.args.image.now c.args.path.now c.args.options c.args.flags c.args.rest.now c.args.out.now c.requires.0 _ _ s _ _ c.write_pairs-at.ensures in
    let u = flags_written c.args.words.now c.args.image.now c.args.path.now c.args.options c.args.flags c.args.rest.now c.args.out.now c.requires.0 _ _ t _ _ c.write_pairs-at-2.ensures in
    (rest_lent c.args.words.now c.args.image.now c.args.path.now c.args.options c.args.flags c.args.rest.now c.args.out.now c.requires.0 _ _ u, c.requires.2)

pub returns : goal.returns
returns c =
    let s = path_written c.args.words.now c.args.image.now c.args.path.now c.args.options c.args.flags c.args.rest.now c.args.out.now c.requires.0 _ _ c.write_words-at.ensures in
    let t = options_written c.args.words.now c.args.image.now c.args.path.now c.args.options c.args.flags c.args.rest.now c.args.out.now c.requires.0 _ _ s _ _ c.write_pairs-at.ensures in
    let u = flags_written c.args.words.now c.args.image.now c.args.path.now c.args.options c.args.flags c.args.rest.now c.args.out.now c.requires.0 _ _ t _ _ c.write_pairs-at-2.ensures in
    rest_written c.args.words.now c.args.image.now c.args.path.now c.args.options c.args.flags c.args.rest.now c.args.out.now c.requires.0 _ _ u _ _ c.write_words.ensures
