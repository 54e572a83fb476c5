use Rattle.saved_state.specs.Laws.Again.{read_again}
use Rattle.saved_state.specs.Laws.Reading.{read_is_spelled}
use Rattle.saved_state.proofs.state_laws.what_is_read_was_spelled.Goals as goal

pub returns-clause-found : goal.returns-clause-found
returns-clause-found c = λ bytes s place is. read_is_spelled bytes s place is

pub returns-clause-again : goal.returns-clause-again
returns-clause-again c = λ s more good. read_again s more good
