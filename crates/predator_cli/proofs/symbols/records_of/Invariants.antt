-- The records so far and those of the symbols that are left are those of all.
use Rattle.std.proofs.Common.{◌≡◌, ◌++◌, map, length}
use Rattle.std.specs.List.{All}
use Rattle.run_recorder.specs.Recorded.{IsSymbolRecord}
use Rattle.predator_cli.specs.Run.{HasNameAndSize, symbol_record}
use Rattle.predator_cli.proofs.symbols.records_of.Given as goal

abbrev pub invariant-loop-symbol : goal.invariant-loop-symbol
invariant-loop-symbol l =
    (l.records.items ++ map symbol_record l.symbols ≡ map symbol_record l.initial.symbols)
    × All HasNameAndSize l.symbols × All IsSymbolRecord l.records.items

abbrev pub decreases-loop-symbol : goal.decreases-loop-symbol
decreases-loop-symbol l = length l.symbols
