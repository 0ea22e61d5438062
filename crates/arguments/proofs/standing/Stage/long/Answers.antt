-- `arguments::standing::Stage::long` meets its contract: the key and the value are parts of the words, and the lookup tells what the key means.
use Prim.Native.Nat.{◌+◌, ◌-◌, ◌≤◌}
use Rattle.std.specs.Prelude.{Some}
use mathlib.Core.Path.{refl, sym, ap, ◌∙◌}
use lib.ListN.{length, take, drop}
use lib.Seq.{length-take-le}
use Rattle.buffer.specs.Numbers.{Bytes}
use Rattle.lookup.specs.Definitions.{has_key}
use Rattle.arguments.specs.Inner.{definitions_at, held}
use Rattle.arguments.proofs.Meanings.{flag_meant, option_meant, nothing_meant, is_option_lem, no_option}
use Rattle.arguments.proofs.Steps.{long_valued, long_valued_unknown, long_flag, long_option, long_unknown, piece_front, piece_whole, piece_after}
use Rattle.arguments.proofs.Moves.{fit_as}
use Rattle.arguments.proofs.standing.Stage.long.Goals as goal

pub slice_bounds-option_of-end : goal.slice_bounds-option_of-end
slice_bounds-option_of-end c =
    sym (length-take-le _ (take (c.args.end - c.args.start) (drop c.args.start c.args.node.words.now)) c.before_equals-equals.ensures.1)

pub returns-in_default : goal.returns-in_default
returns-in_default c = (
  λ w.
      long_valued_unknown c.args.node.words.now c.args.node.image.now (held c.args.options.now c.args.flags.now c.args.self) _ (definitions_at c.args.node.image.now c.args.node.from) w (take (c.args.end - c.args.start) (drop c.args.start c.args.node.words.now)) c.args.start _ c.before_equals-equals.ensures.0 _ (c.at.ensures.0 _ _ _ _) c.if-equals-name.true (no_option _ c.args.node.image.now c.args.node.from (sym c.in_default.ensures)) (piece_front c.args.node.words.now c.args.start c.args.end c.requires.0 c.requires.1 _ c.before_equals-equals.ensures.1) (λ rest. refl),
  fit_as _ _ _ c.at.ensures.1 c.requires.2,
  fit_as _ _ _ c.at.ensures.2 c.requires.3,
)

pub returns-then-equals-name : goal.returns-then-equals-name
unfolding Bytes
returns-then-equals-name c = (
  λ w.
      long_valued c.args.node.words.now c.args.node.image.now (held c.args.options.now c.args.flags.now c.args.self) _ (definitions_at c.args.node.image.now c.args.node.from) w (take (c.args.end - c.args.start) (drop c.args.start c.args.node.words.now)) c.args.start _ c.before_equals-equals.ensures.0 _ (c.with_option.ensures.0 _) c.if-equals-name.true (is_option_lem _ c.args.node.image.now c.args.node.from _ c.args.node.image_bytes (sym c.in-Some.ensures)) (c.args.start + c.before_equals-equals.result + 1) (length (take (c.args.end - c.args.start) (drop c.args.start c.args.node.words.now)) - c.before_equals-equals.result - 1) (piece_front c.args.node.words.now c.args.start c.args.end c.requires.0 c.requires.1 _ c.before_equals-equals.ensures.1) (piece_after c.args.node.words.now c.args.start c.args.end c.requires.0 c.requires.1 _ c.if-equals-name.true) (λ rest. refl),
  c.with_option.ensures.1,
  fit_as _ _ _ c.with_option.ensures.2 c.requires.3,
)

pub returns-in-Some-Flag : goal.returns-in-Some-Flag
unfolding Bytes
returns-in-Some-Flag c = (
  λ w.
      let h : length (take (c.args.end - c.args.start) (drop c.args.start c.args.node.words.now)) ≤ c.before_equals-equals.result = c.if-equals-name.false in
      let m = flag_meant (has_key (take (c.args.end - c.args.start) (drop c.args.start c.args.node.words.now))) c.args.node.image.now c.args.node.from _ c.args.node.image_bytes (sym c.in-Some-Flag.ensures ∙ ap Some c.in-Some-Flag.field-0-is) in
      long_flag c.args.node.words.now c.args.node.image.now (held c.args.options.now c.args.flags.now c.args.self) _ (definitions_at c.args.node.image.now c.args.node.from) w (take (c.args.end - c.args.start) (drop c.args.start c.args.node.words.now)) c.args.start _ c.before_equals-equals.ensures.0 _ (c.with_flag.ensures.0 _) _ h m.is (piece_whole c.args.node.words.now c.args.start c.args.end c.requires.0 c.requires.1 _ c.before_equals-equals.ensures.1 h) (λ rest. refl),
  fit_as _ _ _ c.with_flag.ensures.2 c.requires.2,
  c.with_flag.ensures.1,
)

pub returns-in-Some-Option : goal.returns-in-Some-Option
unfolding Bytes
returns-in-Some-Option c = (
  λ w.
      let h : length (take (c.args.end - c.args.start) (drop c.args.start c.args.node.words.now)) ≤ c.before_equals-equals.result = c.if-equals-name.false in
      let m = option_meant (has_key (take (c.args.end - c.args.start) (drop c.args.start c.args.node.words.now))) c.args.node.image.now c.args.node.from _ c.args.node.image_bytes (sym c.in-Some-Option.ensures ∙ ap Some c.in-Some-Option.field-0-is) in
      long_option c.args.node.words.now c.args.node.image.now (held c.args.options.now c.args.flags.now c.args.self) _ (definitions_at c.args.node.image.now c.args.node.from) w (take (c.args.end - c.args.start) (drop c.args.start c.args.node.words.now)) c.args.start _ c.before_equals-equals.ensures.0 _ (c.at-in-Some-Option.ensures.0 _ _ _ _) _ h m.is (piece_whole c.args.node.words.now c.args.start c.args.end c.requires.0 c.requires.1 _ c.before_equals-equals.ensures.1 h) (λ rest. refl),
  fit_as _ _ _ c.at-in-Some-Option.ensures.1 c.requires.2,
  fit_as _ _ _ c.at-in-Some-Option.ensures.2 c.requires.3,
)

pub returns-in-None : goal.returns-in-None
returns-in-None c = (
  λ w.
      let h : length (take (c.args.end - c.args.start) (drop c.args.start c.args.node.words.now)) ≤ c.before_equals-equals.result = c.if-equals-name.false in
      let m = nothing_meant (has_key (take (c.args.end - c.args.start) (drop c.args.start c.args.node.words.now))) c.args.node.image.now c.args.node.from (sym c.in-None.ensures) in
      long_unknown c.args.node.words.now c.args.node.image.now (held c.args.options.now c.args.flags.now c.args.self) _ (definitions_at c.args.node.image.now c.args.node.from) w (take (c.args.end - c.args.start) (drop c.args.start c.args.node.words.now)) c.args.start _ c.before_equals-equals.ensures.0 _ (c.at-in-None.ensures.0 _ _ _ _) h m (piece_whole c.args.node.words.now c.args.start c.args.end c.requires.0 c.requires.1 _ c.before_equals-equals.ensures.1 h) (λ rest. refl),
  fit_as _ _ _ c.at-in-None.ensures.1 c.requires.2,
  fit_as _ _ _ c.at-in-None.ensures.2 c.requires.3,
)
