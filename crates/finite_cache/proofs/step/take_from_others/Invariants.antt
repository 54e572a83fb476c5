use Rattle.std.proofs.Common.{◌≡◌, ℕ, take}
use Rattle.finite_cache.specs.Fits.{HaveWays}
use Rattle.finite_cache.specs.CacheState.{lines_at}
use Rattle.finite_cache.specs.Laws.Cells.{swept}
use Rattle.finite_cache.specs.Sweeps.{had_by_another}
use Rattle.finite_cache.proofs.step.take_from_others.Given as goal

abbrev pub invariant-loop-other : goal.invariant-loop-other
invariant-loop-other l = record {
  found : l.found ≡ had_by_another l.shape (take l.other-index l.harts) l.hart l.line
      (lines_at l.fn.sets.entries);
  out : (c : ℕ) → lines_at l.sets.entries c ≡ swept l.shape l.hart l.line
      (lines_at l.fn.sets.entries) (take l.other-index l.harts) c;
  kept : (n : ℕ) → HaveWays n l.fn.sets.entries → HaveWays n l.sets.entries;
}
