use Rattle.std.proofs.Common.{refl, arith}
use Rattle.guest.proofs.BlockSteps.{grown_right_is, right_shorter, spanned_parts}
use Rattle.guest.proofs.block_tree.BlockTree.+grow_last.Goals as goal

pub grow_last-requires : goal.grow_last-requires
grow_last-requires t c =
    let n = c.in-Some.top.value in
    let is = c.in-Some.ensures.taken in
    let parts = spanned_parts n.left.0 n.block n.right.0 c.args.self.now.0 is in
    rw c.deref_mut-node.ensures.value (
      omega (arith, right_shorter n.left.0 n.block n.right.0 c.args.self.now.0 is, c.decreases),
      omega (arith, parts, c.requires.fits),
    )

pub returns-clause-gap : goal.returns-clause-gap
returns-clause-gap t c =
    let n = c.in-Some.top.value in
    let is = c.in-Some.ensures.taken in
    rw (grown_right_is n.left.0 n.block n.right.0 c.args.self.now.0 is c.args.bytes c.args.gap.now) refl

pub returns-clause-blocks : goal.returns-clause-blocks
returns-clause-blocks t c =
    let n = c.in-Some.top.value in
    let is = c.in-Some.ensures.taken in
    rw (
      grown_right_is n.left.0 n.block n.right.0 c.args.self.now.0 is c.args.bytes c.args.gap.now,
      c.from.ensures,
      c.sum.ensures.block,
      c.sum.ensures.left,
      c.sum.ensures.right,
      c.deref_mut.ensures.value,
      c.grow_last.ensures.blocks,
      c.grow_last.ensures.gap,
      c.deref_mut-node.ensures.value,
    ) refl

pub sum-requires-clause-low : goal.sum-requires-clause-low
sum-requires-clause-low t c =
    let balanced = c.in-Some.ensures.balanced in
    let same = rw c.deref_mut-node.ensures.value at c.grow_last.ensures.height in
    rw (c.deref_mut.ensures.value, c.deref_mut-node.ensures.value)
    (omega (arith, balanced.height, balanced.fits, same))
