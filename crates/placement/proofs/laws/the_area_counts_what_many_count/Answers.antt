use Rattle.placement.specs.Laws.Groups.{line-sized}
use Rattle.placement.specs.Laws.MovedCounts.{are_harts, area_is_many}
use Rattle.placement.proofs.laws.the_area_counts_what_many_count.Goals as goal

pub returns : goal.returns
returns c = λ n e t sized harts. area_is_many n e t (line-sized n sized) (are_harts t harts)
