-- What a search tree of live blocks is seen as, and how it is balanced.
use Rattle.std.specs.Prelude.{◌≡◌, ◌+◌, ◌/◌, ◌^◌, ◌≤◌, ℕ, max, List, [], ◌∷◌, ◌++◌, length, Option, Some}
use Rattle.std.specs.Prelude.{None, Box}
use Rattle.std.specs.declared.alloc.Global.{Global}
use Rattle.guest.specs.declared.block_tree.LiveBlock.{LiveBlock}
use Rattle.guest.specs.declared.block_tree.Node.{Node}
use Rattle.guest.specs.LiveBlocks.{most_free}

-- the blocks of a node and of what is below it
abbrev pub blocks_of : Node → List LiveBlock
blocks_of n = n.left.0 ++ n.block ∷ n.right.0

-- the blocks of a tree, and its height
abbrev pub seen_below : Option (Box Node Global) → List LiveBlock × ℕ
seen_below None = ([], 0)
seen_below (Some n) = (blocks_of n.value, n.value.height)

-- neither height is more than this above the other
abbrev pub Differ : ℕ → ℕ → ℕ → Type 0
Differ by l r = (l ≤ r + by) × (r ≤ l + by)

-- the second height is the first, or one more
abbrev pub WithinOne : ℕ → ℕ → Type 0
WithinOne low high = (low ≤ high) × (high ≤ low + 1)

-- A node knows the most that is free behind one of its blocks, and its height, which is one more than
-- the greater of its sides'. These differ by one at most, so with each two levels more there are at
-- least twice as many blocks.
pub record IsBalanced (n : Node) : Type 0 where
  pub most : n.most ≡ most_free (blocks_of n)
  pub height : n.height ≡ max n.left.1 n.right.1 + 1
  pub fits : n.height ≤ 255
  pub level : Differ 1 n.left.1 n.right.1
  pub low : 2 ^ (n.height / 2) ≤ length (blocks_of n) + 1

abbrev pub AreBalanced : Option (Box Node Global) → Type 0
AreBalanced None = Unit {0}
AreBalanced (Some n) = IsBalanced n.value

-- The node that this one settles to: it has the same blocks and is balanced, and is as high as the
-- higher side, or one level higher, which it always is where the sides were level.
pub record IsSettled (old new : Node) : Type 0 where
  pub blocks : blocks_of new ≡ blocks_of old
  pub balanced : IsBalanced new
  pub height : WithinOne (max old.left.1 old.right.1) new.height
  pub level : Differ 1 old.left.1 old.right.1 → new.height ≡ max old.left.1 old.right.1 + 1
