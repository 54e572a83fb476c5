-- the least of those so far, and the first of these
use Rattle.layout_sweep.specs.Laws.Least.{IsFirstLeast}
use Rattle.layout_sweep.proofs.sweep.first_least.Given as goal

abbrev pub invariant-loop-i : goal.invariant-loop-i
invariant-loop-i l = IsFirstLeast l.counts l.i l.least
