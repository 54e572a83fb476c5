-- What bounded caches lose.
use Rattle.finite_cache.specs.Laws.Bounds.{bounded-alike, bounded-below, length-bounded}
use Rattle.finite_cache.specs.Laws.Shapes.{some-ways}
use Rattle.finite_cache.proofs.laws.bounded_caches_lose_no_more_than_they_evict.Goals as goal

pub returns-clause-below : goal.returns-clause-below
returns-clause-below c = bounded-below

pub returns-clause-alike : goal.returns-clause-alike
returns-clause-alike c = λ k t r good. bounded-alike k r (some-ways k good) t

pub returns-clause-short : goal.returns-clause-short
returns-clause-short c = length-bounded
