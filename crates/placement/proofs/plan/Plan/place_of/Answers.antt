-- A place is that of a word.
use Rattle.placement.proofs.GroupSteps.{read_place}
use Rattle.placement.proofs.plan.Plan.place_of.Goals as goal

pub returns-in-Some-clause-whole : goal.returns-in-Some-clause-whole
returns-in-Some-clause-whole c =
    (read_place c.self.inside.places.items c.in-Some.index c.place_in.result c.place_in.ensures
    c.self.invariant.1).0

pub returns-in-Some-clause-fits : goal.returns-in-Some-clause-fits
returns-in-Some-clause-fits c =
    (read_place c.self.inside.places.items c.in-Some.index c.place_in.result c.place_in.ensures
    c.self.invariant.1).1
