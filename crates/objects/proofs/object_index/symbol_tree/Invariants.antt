use Rattle.std.proofs.Common.{◌≡◌, map, take}
use Rattle.objects.specs.AddressTrees.{extent_of}
use Rattle.objects.specs.Extents.{symbol_extents}
use Rattle.objects.proofs.object_index.symbol_tree.Given as goal

abbrev pub invariant-loop-i : goal.invariant-loop-i
invariant-loop-i l = map extent_of l.nodes.items ≡ symbol_extents (take l.i l.objects.symbols)
