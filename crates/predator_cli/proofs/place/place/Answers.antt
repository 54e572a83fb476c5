use Rattle.command_line.specs.Place.{place_meaning}
use Rattle.command_line.specs.Words.{place as asks}
use Rattle.predator_cli.proofs.place.place.Goals as goal

pub returns-in-Ok : goal.returns-in-Ok
returns-in-Ok g c = c.answer.ensures (asks (place_meaning c.args.options.now))
    (g.S.Shelf.outside c.args.shelf.now) (rw c.deref.ensures.value c.in-Ok.ensures.answered)
