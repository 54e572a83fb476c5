-- What a table has.
use Rattle.std.specs.Prelude.{List, []}
use Rattle.objects.specs.declared.block.Block.{Block}
use Rattle.objects.specs.Symbols.{Symbol}

-- the symbols in first-seen order, and all blocks ever made, live or dead, in order of making
pub record Objects : Type 0 where
  pub symbols : List Symbol
  pub blocks : List Block

abbrev pub no_objects : Objects
no_objects = record { symbols = []; blocks = [] }
