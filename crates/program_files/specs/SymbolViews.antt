-- Symbols of a program file, as they are lent.
use Rattle.std.specs.Prelude.{map}
use Rattle.objects.specs.Symbols.{Symbol}
use Rattle.program_files.specs.Symbols.{SymbolTable, symbol_entry}
use Rattle.program_files.specs.declared.symbol.SymbolRows.{SymbolRows}
use Rattle.program_files.specs.declared.symbol.SymbolView.{SymbolView}

abbrev pub symbol_shown : SymbolView → Symbol
symbol_shown s = record { kind = s.kind; addr = s.addr; size = s.size; name = s.name.now }

-- the table whose rows and names are lent
abbrev pub table_shown : SymbolRows → SymbolTable
table_shown t = record { symbols = map symbol_entry t.rows.now; names = t.names.now }
