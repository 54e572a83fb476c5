use Rattle.std.proofs.Common.{◌≡◌, ◌∷◌, max, arith}
use Rattle.guest.proofs.MostFree.{most_free_append}
use Rattle.guest.proofs.TreeHeights.{node_low}
use Rattle.guest.proofs.block_tree.Node.sum.Goals as goal

pub returns-clause-balanced : goal.returns-clause-balanced
returns-clause-balanced c =
    let l = c.args.self.now.left in
    let b = c.args.self.now.block in
    let r = c.args.self.now.right in
    let is : c.max.result ≡ max l.1 r.1 = omega arith in
    record {
      most = omega (arith, most_free_append l.0 (b ∷ r.0));
      height = omega arith;
      fits = omega (arith, c.requires.low);
      level = c.requires.level;
      low = node_low l.1 r.1 c.max.result l.0 b r.0 is c.height.ensures.low c.height-2.ensures.low
          c.requires.level;
    }
