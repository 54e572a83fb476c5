use Rattle.std.proofs.Common.{refl}
use Rattle.filtered_counts.specs.Laws.Redundant.{is_redundant-push}
use Rattle.filtered_counts.proofs.laws.redundant_accesses_follow_from_the_last.Goals as goal

pub returns-clause-first : goal.returns-clause-first
returns-clause-first c = λ k a. refl

pub returns-clause-next : goal.returns-clause-next
returns-clause-next c = λ k t b a. is_redundant-push k t b a
