-- The symbol table of an ELF file, and the symbols of it that are kept.
use Rattle.std.specs.Prelude.{ℕ, ◌/◌, ◌%◌, ◌==◌, Bool, false, not, ◌&&◌, nat_lt, List, [], map}
use Rattle.std.specs.Prelude.{find, filter_map, drop, slice_get, slice_index, Option, Some, None}
use Rattle.std.specs.Prelude.{if◌then◌else◌}
use Rattle.std.specs.Option.{option_map, option_and_then, option_map_or, is_some}
use Rattle.std.specs.List.{list_any, take_while}
use Rattle.objects.specs.declared.symbol.SymbolKind.{SymbolKind}
use Rattle.objects.specs.declared.symbol.SymbolKind.TheVariants.{Object, Function}
use Rattle.objects.specs.Symbols.{Symbol}
use Rattle.program_files.specs.Fields.{lies_in, part, rows, section_offset}
use Rattle.base.specs.Fields.{number_at}
use Rattle.std.specs.Int.{w16, w32}
use Rattle.program_files.specs.Fields.{section_count}
use Rattle.program_files.specs.declared.section.SectionHeader.{SectionHeader}
use Rattle.program_files.specs.declared.symbol.SymbolEntry.{SymbolEntry}

-- ---- sections

-- the header that a row of 40 bytes says
abbrev pub section_header : List ℕ → SectionHeader
section_header row =
    record {
      kind = number_at w32 4 row;
      offset = number_at w32 16 row;
      size = number_at w32 20 row;
      link = number_at w32 24 row;
      entry_size = number_at w32 36 row;
    }

-- the section headers, in their order
abbrev pub section_headers : List ℕ → List SectionHeader
section_headers file = map section_header (rows 40 (section_count file) (section_offset file) file)

-- SHT_SYMTAB
abbrev pub is_symbols : SectionHeader → Bool
is_symbols s = s.kind == 2

-- SHT_STRTAB, in the file
abbrev pub is_names : List ℕ → SectionHeader → Bool
is_names file s = (s.kind == 3) && lies_in file s.offset s.size

-- whole rows of 16 bytes, in the file
abbrev pub is_table : List ℕ → SectionHeader → Bool
is_table file s = (s.entry_size == 16) && ((s.size % 16 == 0) && lies_in file s.offset s.size)

-- ---- the symbol table

-- the symbol that a row of 16 bytes says
abbrev pub symbol_entry : List ℕ → SymbolEntry
symbol_entry row = record {
  name = number_at w32 0 row;
  addr = number_at w32 4 row;
  size = number_at w32 8 row;
  info = slice_index row 12;
  section = number_at w16 14 row;
}

-- the symbols, and the bytes among which their names stand
pub record SymbolTable : Type 0 where
  pub symbols : List SymbolEntry
  pub names : List ℕ

-- the bytes of names that a section has
abbrev pub names_in : List ℕ → SectionHeader → Option (List ℕ)
names_in file s = if is_names file s then Some (part file s.offset s.size) else None

-- the symbol table that a section has, with the names of the section that it links to
abbrev pub table_in : List ℕ → SectionHeader → Option SymbolTable
table_in file s =
    if is_table file s
    then option_map (λ names. record {
      symbols =
          map symbol_entry (rows 16 (s.size / 16) s.offset file);
      names = names;
    })
    (option_and_then (names_in file) (slice_get (section_headers file) s.link))
    else None

-- the table of the first section of symbols: an empty one where there is no such section, and None
-- where it is not laid out as it must be
abbrev pub symbol_table : List ℕ → Option SymbolTable
symbol_table file = option_map_or (table_in file) (find is_symbols (section_headers file))
    (Some (record { symbols = []; names = [] }))

-- ---- symbols that are kept

-- STT_OBJECT and STT_FUNC
abbrev pub kind_of : ℕ → Option SymbolKind
kind_of info = if info % 16 == 1 then Some Object else
    (if info % 16 == 2 then Some Function else None)

-- A symbol is kept if it has one of the two kinds, a section and a size.
abbrev pub kept_kind : SymbolEntry → Option SymbolKind
kept_kind s = if not (s.section == 0) && nat_lt 0 s.size then kind_of s.info else None

-- a zero byte stands at the place or after it
abbrev pub ends : List ℕ → ℕ → Bool
ends names place = list_any (λ b. b == 0) (drop place names)

-- the bytes from the place on, before the first zero byte
abbrev pub name_at : List ℕ → ℕ → List ℕ
name_at names place = take_while (λ b. not (b == 0)) (drop place names)

-- a symbol that is kept, and has a name that does not end
abbrev pub has_open_name : List ℕ → SymbolEntry → Bool
has_open_name names s = is_some (kept_kind s) && not (ends names s.name)

-- the symbol of an entry that is kept
abbrev pub symbol_in : List ℕ → SymbolEntry → Option Symbol
symbol_in names s = option_map (λ kind. record {
  kind = kind;
  addr = s.addr;
  size = s.size;
  name = name_at names s.name;
}) (kept_kind s)

-- the symbols that are kept, in the order of the table
abbrev pub symbols_of : List ℕ → List Symbol
symbols_of file = option_map_or (λ table. filter_map (symbol_in table.names) table.symbols)
    (symbol_table file) []

-- the faults of the symbol table
abbrev pub has_no_table : List ℕ → Bool
has_no_table file = not (is_some (symbol_table file))

abbrev pub has_open_names : List ℕ → Bool
has_open_names file = option_map_or (λ table. list_any (has_open_name table.names) table.symbols)
    (symbol_table file) false
