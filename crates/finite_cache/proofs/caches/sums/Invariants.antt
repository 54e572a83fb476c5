use Rattle.std.proofs.Common.{◌≡◌, take}
use Rattle.finite_cache.specs.Fits.{bounded_sum, unbounded_sum}
use Rattle.finite_cache.proofs.caches.sums.Given as goal

abbrev pub invariant-loop-index : goal.invariant-loop-index
invariant-loop-index l = record {
  bounded : l.bounded ≡ bounded_sum (take l.index l.rows.entries);
  unbounded : l.unbounded ≡ unbounded_sum (take l.index l.rows.entries);
}
