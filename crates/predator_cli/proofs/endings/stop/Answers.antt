use Rattle.std.proofs.Common.{Some}
use Rattle.predator_cli.proofs.Ends.{stopped_faulty}
use Rattle.predator_cli.proofs.endings.stop.Goals as goal

pub returns : goal.returns
returns g c = λ demand old stopped.
    c.refuse.ensures (Some demand) old (stopped_faulty demand old
    (g.S.Shelf.outside c.args.shelf.now) c.args.status stopped)
