use Rattle.std.proofs.Common.{◌≡◌, ◌+◌, ◌*◌, suc, map, take}
use Rattle.sharing_rules.specs.Places.{below}
use Rattle.placement.specs.Groups.{group_count, group_size, group_start}
use Rattle.placement.specs.Plans.{ArePlaces, place_from}
use Rattle.placement.proofs.plan.places_of.Given as goal

abbrev pub invariant-loop-owner : goal.invariant-loop-owner
invariant-loop-owner l = record {
  next : l.next.items ≡ map (λ g. l.start + group_start l.line l.owners g
      + 4 * group_size (take l.owner-index l.owners) g) (below (suc group_count));
  places : l.places.items ≡ map (place_from l.line l.start l.owners) (below l.owner-index);
  whole : ArePlaces l.places.items;
}
