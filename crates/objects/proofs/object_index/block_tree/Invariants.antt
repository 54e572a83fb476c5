use Rattle.std.proofs.Common.{◌≡◌, map, take}
use Rattle.objects.specs.AddressTrees.{extent_of}
use Rattle.objects.specs.Extents.{block_extents}
use Rattle.objects.proofs.object_index.block_tree.Given as goal

abbrev pub invariant-loop-block : goal.invariant-loop-block
invariant-loop-block l = map extent_of l.nodes.items ≡ block_extents (take l.block-index l.blocks)
