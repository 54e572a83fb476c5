use Rattle.saved_state.specs.Laws.GoodLists.{good-kept, read-kept}
use Rattle.saved_state.proofs.state_laws.the_state_of_a_list_is_good.Goals as goal

pub returns-clause-good : goal.returns-clause-good
returns-clause-good c = λ g v harts t may. good-kept g v harts t may

pub returns-clause-read : goal.returns-clause-read
returns-clause-read c = λ g v harts t more may. read-kept g v harts t more may
