use Rattle.command_line.specs.Place.{place_meaning}
use Rattle.predator_cli.proofs.PlaceEnds.{object_sought}
use Rattle.predator_cli.proofs.place.seek.Goals as goal

pub returns-in-Ok-see_whole-clause-sought : goal.returns-in-Ok-see_whole-clause-sought
returns-in-Ok-see_whole-clause-sought g c =
    let d = place_meaning c.args.options.now in
    object_sought d (g.S.Shelf.outside c.args.shelf.now) (g.S.Shelf.outside c.see_whole.new.shelf)
    c.in-Ok.finder c.see_whole.new.observer _ c.found.result
    c.in-Ok-see_whole.ensures.accepted c.in-Ok-see_whole.ensures.passed c.in-Ok.ensures
    (λ items seeks. c.found.ensures.object d.name d.at items seeks)
