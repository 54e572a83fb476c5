-- The table has the symbols of a list that what is left to be noted makes up to that of all.
use Rattle.std.proofs.Common.{◌≡◌, List, [], ◌++◌, map, length}
use Rattle.objects.specs.Symbols.{Symbol, symbols_of}
use Rattle.program_files.specs.NotedSymbols.{kept}
use Rattle.program_files.proofs.summary_symbols.note_symbols.Given as goal

abbrev pub invariant-loop-symbol : goal.invariant-loop-symbol
invariant-loop-symbol l =
    (l.table.blocks ≡ [])
    × (seen : List Symbol) × (l.table.symbols ≡ symbols_of seen)
    × (seen ++ map kept l.symbols ≡ map kept l.initial.symbols)

abbrev pub decreases-loop-symbol : goal.decreases-loop-symbol
decreases-loop-symbol l = length l.symbols
