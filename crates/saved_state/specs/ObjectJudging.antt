-- What any bytes say as the object part of a saved state: the objects, or the first unit at fault.
use Rattle.std.specs.Prelude.{ℕ, ◌+◌, ◌==◌, ◌&&◌, nat_eq, nat_le, nat_lt, List, [], ◌∷◌, length, drop}
use Rattle.std.specs.Prelude.{take, slice_index, Bool, not, Option, Some, None, Result, Ok, Err}
use Rattle.std.specs.Prelude.{if◌then◌else◌, unwrap_or}
use Rattle.std.specs.List.{list_any}
use Rattle.std.specs.Int.{w16, w32, w64}
use Rattle.base.specs.Names.{longest_name}
use Rattle.objects.specs.declared.block.Block.{Block}
use Rattle.objects.specs.Blocks.{meets_live}
use Rattle.objects.specs.Objects.{Objects, no_objects}
use Rattle.objects.specs.Symbols.{Symbol, is_in_place_of}
use Rattle.objects.specs.declared.symbol.SymbolKind.{SymbolKind}
use Rattle.objects.specs.declared.symbol.SymbolKind.TheVariants.{Object}
use Rattle.base.specs.declared.faults.ResumeFault.{ResumeFault}
use Rattle.base.specs.declared.faults.ResumeFault.TheVariants.{BadState}
use Rattle.trace_format.specs.Judging.{symbol_kind_of}
use Rattle.base.specs.Fields.{number_at}
use Rattle.saved_state.specs.ObjectSpelling.{no_death, spell_block, spell_saved_symbol}
use Rattle.saved_state.specs.Reading.{Units, read_units}
use Rattle.saved_state.specs.Units.{if_spelled}

-- ---- symbols

abbrev pub kind_at : List ℕ → SymbolKind
kind_at bytes = unwrap_or (symbol_kind_of (slice_index bytes 1)) Object

unfoldable pub symbol_at : List ℕ → Symbol
symbol_at bytes = record {
  kind = kind_at bytes;
  addr = number_at w32 2 bytes;
  size = number_at w32 6 bytes;
  name = take (number_at w16 10 bytes) (drop 12 bytes);
}

-- a name that fits and has no zero byte
abbrev pub is_good_name : List ℕ → Bool
is_good_name name = nat_le (length name) longest_name && not (list_any (nat_eq 0) name)

-- It keeps the rules of a trace: it has bytes, and a good name. No two have the same kind, address
-- and size.
abbrev pub is_good_symbol : List Symbol → Symbol → Bool
is_good_symbol before s =
    nat_le 1 s.size && is_good_name s.name && not (list_any (is_in_place_of s) before)

unfoldable pub symbol_in : List Symbol → List ℕ → Option Symbol
symbol_in before bytes =
    if_spelled spell_saved_symbol (is_good_symbol before (symbol_at bytes)) (symbol_at bytes) bytes

-- ---- blocks

abbrev pub death_of : ℕ → Option ℕ
death_of number = if number == no_death then None else Some number

unfoldable pub block_at : List ℕ → Block
block_at bytes = record {
  addr = number_at w32 1 bytes;
  size = number_at w32 5 bytes;
  sites = number_at w32 9 bytes ∷ number_at w32 13 bytes ∷ number_at w32 17 bytes
      ∷ number_at w32 21 bytes ∷ [];
  born = number_at w64 25 bytes;
  died = death_of (number_at w64 33 bytes);
}

-- whether a life from a birth on can be over, or go on, at a position
abbrev pub is_life : ℕ → ℕ → Option ℕ → Bool
is_life position born None = nat_le born position
is_life position born (Some died) = nat_le born died && nat_le died position

-- It was born, and died if it did, in this order up to the position. No two live at one address.
abbrev pub is_good_block : ℕ → List Block → Block → Bool
is_good_block position before b = is_life position b.born b.died && not (meets_live before b)

unfoldable pub block_in : ℕ → List Block → List ℕ → Option Block
block_in position before bytes =
    if_spelled spell_block (is_good_block position before (block_at bytes)) (block_at bytes) bytes

-- ---- the whole

-- those that there are as the units that were read, up to a place with these bytes behind it
abbrev pub symbols_at : Objects → ℕ → List ℕ → Units Symbol
symbols_at o place left = record { read = o.symbols; place = place; left = left }

abbrev pub blocks_at : Objects → ℕ → List ℕ → Units Block
blocks_at o place left = record { read = o.blocks; place = place; left = left }

-- so many more, behind those that there are
abbrev pub symbols_read : ℕ → Objects → ℕ → List ℕ → Result (Units Symbol) ResumeFault
symbols_read n o place left =
    read_units symbol_in spell_saved_symbol n (symbols_at o place left)

abbrev pub blocks_read : ℕ → ℕ → Objects → ℕ → List ℕ → Result (Units Block) ResumeFault
blocks_read position n o place left =
    read_units (block_in position) spell_block n (blocks_at o place left)

-- A byte behind the last unit is one at fault.
abbrev pub all_taken : ℕ → Objects → List ℕ → Result Objects ResumeFault
all_taken place objects [] = Ok objects
all_taken place objects (byte ∷ bytes) = Err (BadState place)

abbrev pub with_blocks : List Symbol → Result (Units Block) ResumeFault
    → Result Objects ResumeFault
with_blocks symbols (Err fault) = Err fault
with_blocks symbols (Ok u) =
    all_taken u.place (record { symbols = symbols; blocks = u.read }) u.left

abbrev pub with_symbols : ℕ → ℕ → Result (Units Symbol) ResumeFault
    → Result Objects ResumeFault
with_symbols position blocks (Err fault) = Err fault
with_symbols position blocks (Ok u) =
    with_blocks u.read (blocks_read position blocks no_objects u.place u.left)

-- what the units of a part say of it that begins at a place, by its counts
abbrev pub units_judged : ℕ → ℕ → List ℕ → Result Objects ResumeFault
units_judged place position part =
    with_symbols position (number_at w64 8 part)
    (symbols_read (number_at w64 0 part) no_objects (place + 16) (drop 16 part))

-- What the bytes of a part say that begins at a place, for a list up to a position. The counts are
-- its first unit.
unfoldable pub objects_judged : ℕ → ℕ → List ℕ → Result Objects ResumeFault
objects_judged place position part =
    if nat_lt (length part) 16 then Err (BadState place) else units_judged place position part
