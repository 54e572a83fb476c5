-- Rows of a table, found by where their bytes lie. The rows stand by rising first address, and are
-- read as a tree: the middle row is the root, and knows how far the bytes of its part reach.
use Rattle.std.specs.Prelude.{◌≡◌, ℕ, zero, suc, ◌+◌, ◌/◌, nat_le, nat_lt, max, min, Bool, IsTrue}
use Rattle.std.specs.Prelude.{List}
use Rattle.std.specs.Prelude.{[], ◌∷◌, ◌++◌, length, map, filter, ⊤}
use Rattle.std.specs.List.{list_all}
use Rattle.std.specs.List.Sorted.{IsPermutation}
use Rattle.objects.specs.declared.address_tree.Node.{Node}

-- whether `size` bytes from an address on have one of the addresses from one on and below another
abbrev pub meets : ℕ → ℕ → ℕ → ℕ → Bool
meets from to addr size = nat_lt (max from addr) (min to (addr + size))

-- a row by its number, with its first address and its size
pub record Extent : Type 0 where
  pub number : ℕ
  pub addr : ℕ
  pub size : ℕ

-- the rows of a list, numbered from n on
abbrev pub extents_from : {X : Type 0} → (X → ℕ) → (X → ℕ) → ℕ → List X → List Extent
extents_from addr size n [] = []
extents_from addr size n (x ∷ xs) =
    record { number = n; addr = addr x; size = size x } ∷ extents_from addr size (n + 1) xs

-- the numbers of the rows that meet some addresses
abbrev pub numbers_on : ℕ → ℕ → List Extent → List ℕ
numbers_on from to rows =
    map (λ e. e.number) (filter (λ e. meets from to e.addr e.size) rows)

abbrev pub extent_of : Node → Extent
extent_of n = record { number = n.number; addr = n.addr; size = n.size }

abbrev pub ends_by : ℕ → Node → Bool
ends_by high n = nat_le (n.addr + n.size) high

abbrev pub begins_from : ℕ → Node → Bool
begins_from low n = nat_le low n.addr

-- the root of some rows knows how far they reach, and no row to its right begins before it
pub record IsRoot (root : Node) (rows right : List Node) : Type 0 where
  pub reach : IsTrue (list_all (ends_by root.reach) rows)
  pub order : IsTrue (list_all (begins_from root.addr) right)

-- to a depth, the middle row of each part is its root
abbrev pub IsTreeTo : ℕ → List Node → Type 0
IsTreeTo zero rows = ⊤
IsTreeTo (suc depth) rows =
    (left : List Node) (root : Node) (right : List Node) → rows ≡ left ++ root ∷ right
    → length left ≡ length rows / 2
    → IsRoot root rows right × IsTreeTo depth left × IsTreeTo depth right

abbrev pub IsTree : List Node → Type 0
IsTree rows = (depth : ℕ) → IsTreeTo depth rows

-- a tree of rows
pub record IsTreeOf (rows : List Extent) (nodes : List Node) : Type 0 where
  pub tree : IsTree nodes
  pub same : IsPermutation rows (map extent_of nodes)
