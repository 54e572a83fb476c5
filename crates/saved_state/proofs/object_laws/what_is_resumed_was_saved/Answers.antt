use Rattle.saved_state.proofs.ObjectPartLaws.{part_again, part_found}
use Rattle.saved_state.proofs.object_laws.what_is_resumed_was_saved.Goals as goal

pub returns-clause-found : goal.returns-clause-found
returns-clause-found c = λ place position part o fits e.
    part_found place position part o fits e

pub returns-clause-again : goal.returns-clause-again
returns-clause-again c = λ place position o low good. part_again place position o low good
