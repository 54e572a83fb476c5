use Rattle.std.proofs.Common.{arith}
use Rattle.guest.proofs.block_tree.BlockTree.+take_first.Goals as goal

pub settled-requires-clause-low : goal.settled-requires-clause-low
settled-requires-clause-low t c =
    let balanced = c.in_ok-top.ensures.balanced in
    let shorter = rw c.deref_mut.ensures.value at c.take_first.ensures.height in
    rw c.deref_mut.ensures.value (omega (arith, balanced.height, balanced.fits, shorter))
