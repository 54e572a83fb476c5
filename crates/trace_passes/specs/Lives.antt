-- The objects of a list of trace records: the symbols, and the blocks with their lives. A record
-- comes at a position: as many accesses are before it.
use Rattle.std.specs.Prelude.{ℕ, List, [], ◌∷◌, ◌++◌, map, Bool, false, ◌==◌, if◌then◌else◌}
use Rattle.std.specs.Prelude.{Option, Some, None, is_none, not, true}
use Rattle.std.specs.List.{filter_map, list_any}
use Rattle.objects.specs.declared.block.Block.{Block}
use Rattle.objects.specs.Blocks.{blocks_after_alloc, blocks_after_free, newborn}
use Rattle.objects.specs.Objects.{Objects, no_objects}
use Rattle.objects.specs.Symbols.{Symbol, is_in_place_of, kept_symbol, symbols_of}
use Rattle.trace_format.specs.Reading.{counted_after}
use Rattle.trace_format.specs.declared.record.TraceRecord.{TraceRecord}
use Rattle.trace_format.specs.declared.record.TraceRecord.TheVariants as records

-- whether a record frees an address, or makes a block there: a block of that address dies
abbrev pub ends_at : ℕ → TraceRecord → Bool
ends_at addr (records.Alloc other size sites) = addr == other
ends_at addr (records.Free other) = addr == other
ends_at addr _ = false

-- the position of the first record at which a block of an address dies; the list begins at a
-- position
abbrev pub death_in : ℕ → ℕ → List TraceRecord → Option ℕ
death_in addr position [] = None
death_in addr position (item ∷ items) =
    if ends_at addr item then Some position else death_in addr (counted_after position item) items

-- a block with the life that later records leave it
abbrev pub lived : ℕ → List TraceRecord → Block → Block
lived position items b =
    if is_none b.died then record b { died = death_in b.addr position items } else b

-- the block that a record makes, if it makes one, with the life that later records leave it
abbrev pub made_by : ℕ → TraceRecord → List TraceRecord → List Block
made_by position (records.Alloc addr size sites) later =
    lived position later (newborn position addr size sites) ∷ []
made_by position _ later = []

-- the blocks that records make, in order of making
abbrev pub made_in : ℕ → List TraceRecord → List Block
made_in position [] = []
made_in position (item ∷ items) =
    made_by position item items ++ made_in (counted_after position item) items

-- the symbols among records, in order
abbrev pub symbol_in : TraceRecord → Option Symbol
symbol_in (records.Symbol kind addr size name) = Some (kept_symbol kind addr size name)
symbol_in _ = None

abbrev pub symbols_in : List TraceRecord → List Symbol
symbols_in items = filter_map symbol_in items

-- what stands in memory after records that begin at a position, with what stood there before
abbrev pub objects_after : Objects → ℕ → List TraceRecord → Objects
objects_after before position items = record {
  symbols = symbols_of (before.symbols ++ symbols_in items);
  blocks = map (lived position items) before.blocks ++ made_in position items;
}

-- the objects of a whole list
abbrev pub objects_of : List TraceRecord → Objects
objects_of items = objects_after no_objects 0 items

-- the objects once a record came at a position
abbrev pub objects_noted : Objects → TraceRecord → ℕ → Objects
objects_noted o (records.Alloc addr size sites) position =
    record o { blocks = blocks_after_alloc o.blocks position addr size sites }
objects_noted o (records.Free addr) position =
    record o { blocks = blocks_after_free o.blocks position addr }
objects_noted o (records.Symbol kind addr size name) position =
    record o { symbols = symbols_of (o.symbols ++ kept_symbol kind addr size name ∷ []) }
objects_noted o _ position = o

-- whether a record may want memory for the objects: one that makes a block, and a symbol that isn't
-- dropped
abbrev pub objects_want_memory : Objects → TraceRecord → Bool
objects_want_memory o (records.Touch a pc) = false
objects_want_memory o (records.Alloc addr size sites) = true
objects_want_memory o (records.Free addr) = false
objects_want_memory o (records.Symbol kind addr size name) =
    not (list_any (is_in_place_of (kept_symbol kind addr size name)) o.symbols)
objects_want_memory o (records.End e) = false
