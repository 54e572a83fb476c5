use Rattle.std.proofs.Common.{◌≡◌, map, take}
use Rattle.sharing_rules.specs.Places.{below}
use Rattle.placement.specs.Groups.{group_count, group_size}
use Rattle.placement.proofs.groups.group_sizes.Given as goal

abbrev pub invariant-loop-owner : goal.invariant-loop-owner
invariant-loop-owner l = l.sizes.items
    ≡ map (group_size (take l.owner-index l.owners)) (below group_count)
