-- `history::stepping::History::save` meets its contract.
use Rattle.history.specs.Saved.{saved_size}
use Rattle.history.proofs.Saved.{saved_two}
use Rattle.history.proofs.stepping.History.save.Goals as goal

pub push-requires : goal.push-requires
unfolding saved_size
push-requires c = c.requires.1

pub returns : goal.returns
returns c =
    rw (← saved_two c.args.self _ c.requires.0.total c.to_be_bytes.ensures) c.push.ensures
