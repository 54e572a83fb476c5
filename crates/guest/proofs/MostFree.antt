-- The most that is free behind one of the blocks of a list that is joined of two.
use Rattle.std.proofs.Common.{◌≡◌, List, [], ◌∷◌, ◌++◌, max, arith}
use Rattle.guest.specs.declared.block_tree.LiveBlock.{LiveBlock}
use Rattle.guest.specs.LiveBlocks.{most_free}

pub most_free_append : (xs ys : List LiveBlock) → most_free (xs ++ ys) ≡ max (most_free xs) (most_free ys)
most_free_append [] ys = omega arith
most_free_append (x ∷ xs) ys = omega (arith, most_free_append xs ys)
