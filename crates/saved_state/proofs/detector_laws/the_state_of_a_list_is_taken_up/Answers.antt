use Rattle.saved_state.proofs.ListLaws.{kept_stands, list_taken_up}
use Rattle.saved_state.proofs.SaveLaws.{stands_saved}
use Rattle.saved_state.proofs.detector_laws.the_state_of_a_list_is_taken_up.Goals as goal

pub returns-clause-taken : goal.returns-clause-taken
returns-clause-taken c = list_taken_up

pub returns-clause-stands : goal.returns-clause-stands
returns-clause-stands c = λ g v harts t may. kept_stands g v harts t

pub returns-clause-saved : goal.returns-clause-saved
returns-clause-saved c = λ harts t w good native stands. stands_saved t w harts good native stands
