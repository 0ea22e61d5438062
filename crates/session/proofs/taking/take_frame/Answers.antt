-- `session::taking::take_frame` meets its contract.
use Rattle.session.proofs.Takings.{takes_keys, takes_late, takes_refused, takes_tree}
use Rattle.session.proofs.taking.take_frame.Goals as goal

pub returns-then-bytes-eq32 : goal.returns-then-bytes-eq32
returns-then-bytes-eq32 c =
    takes_keys c.args.session c.args.image.now c.args.bytes.now c.requires.1 _ c.if-bytes-eq32.true c.with_keys.ensures

pub returns-then-session : goal.returns-then-session
returns-then-session c =
    takes_late c.args.session c.args.image.now c.args.bytes.now c.requires.1 c.if-bytes-eq32.false _ c.if-session.true c.refused.ensures

pub returns-in_default : goal.returns-in_default
returns-in_default c =
    takes_refused c.args.session c.args.image.now c.args.bytes.now c.requires.1 c.if-bytes-eq32.false c.if-session.false _ _ c.in_default.ensures c.refused-in_default.ensures

pub returns : goal.returns
returns c =
    takes_tree c.args.session c.args.image.now c.args.bytes.now c.requires.1 c.if-bytes-eq32.false c.if-session.false _ _ _ c.in-Some.ensures c.with_walk.ensures
