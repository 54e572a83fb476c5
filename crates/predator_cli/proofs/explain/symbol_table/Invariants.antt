use Rattle.std.proofs.Common.{◌≡◌, take}
use Rattle.objects.specs.Symbols.{symbols_of}
use Rattle.trace_passes.specs.Lives.{symbols_in}
use Rattle.predator_cli.proofs.explain.symbol_table.Given as goal

abbrev pub invariant-loop-symbol : goal.invariant-loop-symbol
invariant-loop-symbol l = l.table.symbols ≡ symbols_of (symbols_in (take l.symbol-index l.symbols))
