use Rattle.placement.specs.Laws.Groups.{line-sized}
use Rattle.placement.specs.Laws.MovedCounts.{are_harts}
use Rattle.placement.specs.Laws.Saved.{recount_elsewhere, saved, saved_all}
use Rattle.placement.proofs.laws.padding_saves_all_of_the_object.Goals as goal

pub returns-clause-elsewhere : goal.returns-clause-elsewhere
returns-clause-elsewhere c = λ n e t k sized other apart.
    recount_elsewhere n e t k (line-sized n sized) other apart

pub returns-clause-saved : goal.returns-clause-saved
returns-clause-saved c = λ n e t sized harts alone.
    saved n e t (line-sized n sized) (are_harts t harts) alone

pub returns-clause-all : goal.returns-clause-all
returns-clause-all c = λ n e t sized harts alone apart.
    saved_all n e t (line-sized n sized) (are_harts t harts) alone apart
