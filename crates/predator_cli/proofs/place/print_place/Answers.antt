use Rattle.command_line.specs.Place.{place_meaning}
use Rattle.command_line.specs.Words.{place as asks}
use Rattle.predator_cli.proofs.PlaceEnds.{answered_ok}
use Rattle.predator_cli.proofs.place.print_place.Goals as goal

pub returns-in-Ok-Some-clause-answered : goal.returns-in-Ok-Some-clause-answered
returns-in-Ok-Some-clause-answered g c =
    answered_ok (λ text. text.items) (asks (place_meaning c.args.options.now))
    (g.S.Shelf.outside c.args.shelf.now) (g.S.Shelf.outside c.seek.new.shelf)
    (g.S.Shelf.outside c.print_object.new.shelf) c.print_object.result c.in-Ok-Some.ensures.sought.accepted.read
    c.print_object.ensures.answered
