use Rattle.finite_cache.specs.Laws.Stands.{stands-empty}
use Rattle.finite_cache.proofs.caches.Caches.new.Goals as goal

pub returns-clause-stands : goal.returns-clause-stands
returns-clause-stands c =
    stands-empty c.args.shape c.new.result.entries c.new-2.result.entries c.new-3.result.entries
    c.new.ensures.empty c.new-2.ensures.empty c.new-3.ensures.empty
