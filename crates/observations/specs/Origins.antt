-- From which records of a list its objects came.
use Rattle.std.specs.Prelude.{◌≡◌, ◌≤◌, ℕ, List, length, IfSome}
use Rattle.std.specs.List.{Contains}
use Rattle.base.specs.Names.{name_of}
use Rattle.objects.specs.Symbols.{Symbol}
use Rattle.objects.specs.declared.block.Block.{Block}
use Rattle.trace_format.specs.Rules.{touches_in}
use Rattle.trace_format.specs.declared.record.TraceRecord.{TraceRecord}
use Rattle.trace_format.specs.declared.record.TraceRecord.TheVariants as records

-- a block that records leave
pub record IsBlockOf (items : List TraceRecord) (b : Block) : Type 0 where
  -- one of them made it
  pub made : Contains items (records.Alloc b.addr b.size b.sites)
  -- it was born no later than their end
  pub born : b.born ≤ length (touches_in items)
  -- and died, if it did, between its birth and their end
  pub died : IfSome b.died (λ d. (b.born ≤ d) × (d ≤ length (touches_in items)))

-- a symbol that records leave
pub record IsSymbolOf (items : List TraceRecord) (s : Symbol) : Type 0 where
  -- one of them recorded it, by a name that may be longer
  pub recorded_name : List ℕ
  pub stated : Contains items (records.Symbol s.kind s.addr s.size recorded_name)
  pub name : s.name ≡ name_of recorded_name
