use Rattle.command_line.specs.Place.{place_meaning}
use Rattle.command_line.specs.Words.{place as asks}
use Rattle.predator_cli.proofs.PlaceEnds.{answered_ok}
use Rattle.predator_cli.proofs.place.print_object.Goals as goal

pub returns-in-Ok-new-clause-answered : goal.returns-in-Ok-new-clause-answered
returns-in-Ok-new-clause-answered g c =
    answered_ok (λ text. text.items) (asks (place_meaning c.args.options.now))
    (g.S.Shelf.outside c.args.shelf.now) (g.S.Shelf.outside c.own.new.shelf)
    (g.S.Shelf.outside c.print_plan.new.shelf) c.print_plan.result c.in-Ok.ensures.owned.accepted.read
    c.print_plan.ensures.answered
