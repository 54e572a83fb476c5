-- So many of the first symbols are of the kind.
use Rattle.std.proofs.Common.{◌≡◌, ◌≤◌, take}
use Rattle.program_files.specs.NotedSymbols.{count_of}
use Rattle.program_files.proofs.summary_symbols.count_of.Given as goal

abbrev pub invariant-loop-i : goal.invariant-loop-i
invariant-loop-i l = (l.count ≡ count_of l.kind (take l.i l.symbols.symbols)) × (l.count ≤ l.i)
