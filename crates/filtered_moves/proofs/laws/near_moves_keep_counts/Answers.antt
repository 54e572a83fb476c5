use Rattle.filtered_counts.specs.Laws.Harts.{same-harts}
use Rattle.filtered_counts.specs.Laws.Same.{same-counts}
use Rattle.trace_files.specs.NearMoves.{moved_near}
use Rattle.filtered_moves.specs.MovedSites.{moved_sited}
use Rattle.filtered_moves.specs.Laws.Moved.{free-whole, moved-sited, moved-without}
use Rattle.trace_files.specs.Moves.{moved_list}
use Rattle.filtered_moves.proofs.laws.near_moves_keep_counts.Goals as goal

pub returns-clause-moved : goal.returns-clause-moved
returns-clause-moved c = λ k table u v le is near w. moved-without k table u v le is near w

pub returns-clause-counts : goal.returns-clause-counts
returns-clause-counts c = λ k table u v g le is near w within.
    same-counts (moved_near k) g within (moved_list table u) (moved_list table v)
    (moved-without k table u v le is near w)

pub returns-clause-sited : goal.returns-clause-sited
returns-clause-sited c = λ k table u w le is near s. moved-sited k table u w le is near s

pub returns-clause-harts : goal.returns-clause-harts
returns-clause-harts c = λ k table u w g le is near s within.
    same-harts (moved_near k) g within (moved_sited table u) (moved_sited table w)
    (moved-sited k table u w le is near s)

pub returns-clause-free : goal.returns-clause-free
returns-clause-free c = λ k table u v is free w. free-whole k table u v is free w
