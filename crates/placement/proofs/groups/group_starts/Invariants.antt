use Rattle.std.proofs.Common.{◌≡◌, ◌+◌, suc, map}
use Rattle.sharing_rules.specs.Places.{below}
use Rattle.placement.specs.Groups.{group_start}
use Rattle.placement.proofs.groups.group_starts.Given as goal

abbrev pub invariant-loop-group : goal.invariant-loop-group
invariant-loop-group l = record {
  starts : l.starts.items ≡ map (λ g. l.start + group_start l.line l.owners g) (below (suc l.group));
  at : l.at ≡ l.start + group_start l.line l.owners l.group;
}
