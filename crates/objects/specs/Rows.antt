-- A symbol of a table, as it is lent.
use Rattle.objects.specs.Symbols.{Symbol}
use Rattle.objects.specs.declared.table.SymbolRow.{SymbolRow}

-- what a row shows
abbrev pub symbol_of : SymbolRow → Symbol
symbol_of row = record { kind = row.kind; addr = row.addr; size = row.size; name = row.name.now }
