use Rattle.std.proofs.Common.{length}
use Rattle.objects.proofs.address_tree.+note_reach.Given as goal

abbrev pub decreases-note_reach : goal.decreases-note_reach
decreases-note_reach l = length l.nodes.now
