-- The symbols of a program as a table has them, and how many there are of each kind.
use Rattle.std.specs.Prelude.{ℕ, List, map}
use Rattle.std.specs.List.{count_by}
use Rattle.objects.specs.declared.symbol.SymbolKind.{SymbolKind}
use Rattle.objects.specs.Symbols.{Symbol, is_same_kind, kept_symbol, symbols_of}

-- a symbol with its name cut
abbrev pub kept : Symbol → Symbol
kept s = kept_symbol s.kind s.addr s.size s.name

-- the symbols with their names cut, without those in the place of an earlier one
abbrev pub noted : List Symbol → List Symbol
noted symbols = symbols_of (map kept symbols)

-- how many symbols are of a kind
abbrev pub count_of : SymbolKind → List Symbol → ℕ
count_of kind symbols = count_by (λ s. is_same_kind s.kind kind) symbols
