use Rattle.std.proofs.Common.{length}
use Rattle.guest.proofs.TreeHeights.{few, low_enough, top_low}
use Rattle.guest.proofs.block_tree.BlockTree.insert.Goals as goal

pub fill-requires-clause-low : goal.fill-requires-clause-low
fill-requires-clause-low c =
    let tree = c.args.self.now in
    low_enough tree.1 (length tree.0)
    (rw c.self.view_is at (top_low c.self.inside.root c.self.invariant))
    (few tree.0 c.requires.rising c.requires.ends)
