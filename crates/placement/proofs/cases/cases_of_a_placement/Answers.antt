use Rattle.placement.specs.Laws.Stated.{stated-large, stated-no_room, stated-none, stated-placed}
use Rattle.placement.proofs.cases.cases_of_a_placement.Goals as goal

pub returns-clause-none : goal.returns-clause-none
returns-clause-none c = stated-none

pub returns-clause-large : goal.returns-clause-large
returns-clause-large c = stated-large

pub returns-clause-no_room : goal.returns-clause-no_room
returns-clause-no_room c = stated-no_room

pub returns-clause-placed : goal.returns-clause-placed
returns-clause-placed c = stated-placed
