use Rattle.command_line.specs.Check.{check_meaning}
use Rattle.command_line.specs.Words.{check as asks}
use Rattle.predator_cli.proofs.check.check.Goals as goal

pub returns-in-Ok : goal.returns-in-Ok
returns-in-Ok g c = c.answer.ensures (asks (check_meaning c.args.options.now))
    (g.S.Shelf.outside c.args.shelf.now) (rw c.as_bytes.ensures.value c.in-Ok.ensures.answered)

pub returns-in-Err : goal.returns-in-Err
returns-in-Err g c = c.stop.ensures (asks (check_meaning c.args.options.now))
    (g.S.Shelf.outside c.args.shelf.now) c.in-Err.ensures.stopped
