-- The symbols and the blocks of a table by where their bytes lie.
use Rattle.std.specs.Prelude.{List}
use Rattle.objects.specs.AddressTrees.{Extent, extents_from}
use Rattle.objects.specs.Symbols.{Symbol}
use Rattle.objects.specs.declared.block.Block.{Block}

abbrev pub symbol_extents : List Symbol → List Extent
symbol_extents symbols = extents_from (λ s. s.addr) (λ s. s.size) 0 symbols

abbrev pub block_extents : List Block → List Extent
block_extents blocks = extents_from (λ b. b.addr) (λ b. b.size) 0 blocks
