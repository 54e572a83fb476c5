-- Which object a name means in the records of a trace.
use Rattle.std.specs.Prelude.{ℕ, ◌&&◌, ◌==◌, ◌^◌, Bool, nat_lt, List, [], ◌∷◌, filter_map, Option, Some}
use Rattle.std.specs.Prelude.{None, bytes_eq, if◌then◌else◌, option_and_then, slice_get}
use Rattle.std.specs.Option.{option_or}
use Rattle.objects.specs.Symbols.{is_same_kind}
use Rattle.objects.specs.declared.symbol.SymbolKind.TheVariants.{Object}
use Rattle.trace_format.specs.declared.record.TraceRecord.{TraceRecord}
use Rattle.trace_format.specs.declared.record.TraceRecord.TheVariants as records
use Rattle.placement.specs.declared.extent.Extent.{Extent}

-- where the object symbol of a record lies, if the record states one of the name
abbrev pub symbol_named : List ℕ → TraceRecord → Option Extent
symbol_named name (records.Symbol kind addr size stated) =
    if is_same_kind kind Object && bytes_eq stated name
    then Some (record { addr = addr; size = size }) else None
symbol_named name _ = None

abbrev pub symbols_named : List ℕ → List TraceRecord → List Extent
symbols_named name items = filter_map (symbol_named name) items

-- where the block of a record lies, if the record makes one at the address
abbrev pub block_made_at : ℕ → TraceRecord → Option Extent
block_made_at at (records.Alloc addr size sites) =
    if addr == at then Some (record { addr = addr; size = size }) else None
block_made_at at _ = None

abbrev pub blocks_made_at : ℕ → List TraceRecord → List Extent
blocks_made_at at items = filter_map (block_made_at at) items

-- what stands alone in a list
abbrev pub the_only : List Extent → Option Extent
the_only [] = None
the_only (e ∷ []) = Some e
the_only (e ∷ (f ∷ es)) = None

-- a block of no bytes has no words
abbrev pub with_bytes : Extent → Option Extent
with_bytes e = if nat_lt 0 e.size then Some e else None

-- the block that was ever made at an address, if one alone was
abbrev pub block_at : List TraceRecord → ℕ → Option Extent
block_at items at = option_and_then with_bytes (the_only (blocks_made_at at items))

-- The first object symbol of the name. Where there is none, and the name is an address, the block
-- that was ever made there, if one alone was.
abbrev pub object_of : List ℕ → Option ℕ → List TraceRecord → Option Extent
object_of name at items =
    option_or (slice_get (symbols_named name items) 0) (option_and_then (block_at items) at)

-- whether it has more bytes than can be placed
abbrev pub is_too_large : Extent → Bool
is_too_large e = nat_lt (2 ^ 24) e.size
