use Rattle.std.proofs.Common.{◌≡◌, [], map}
use Rattle.sharing_rules.specs.Places.{below}
use Rattle.layout_sweep.specs.Counts.{swept_of}
use Rattle.layout_sweep.proofs.sweep.blank_counts.Given as goal

abbrev pub invariant-loop-i : goal.invariant-loop-i
invariant-loop-i l = l.counts.items ≡ map (swept_of l.size []) (below l.i)
