use Rattle.command_line.specs.Replay.{replay_meaning}
use Rattle.command_line.specs.Words.{replay}
use Rattle.predator_cli.proofs.replay.replay.Goals as goal

pub returns-in-Err : goal.returns-in-Err
returns-in-Err g c = c.stop.ensures (replay (replay_meaning c.args.options.now))
    (g.S.Shelf.outside c.args.shelf.now)
    c.in-Err.ensures.stopped
