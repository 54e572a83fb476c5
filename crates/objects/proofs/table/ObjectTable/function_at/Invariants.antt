-- None of the symbols so far is such a function.
use Rattle.std.proofs.Common.{◌≡◌, ◌<◌, ℕ, false}
use Rattle.objects.specs.Indexes.{passes_in}
use Rattle.objects.specs.Symbols.{is_function_at}
use Rattle.objects.proofs.table.ObjectTable.function_at.Given as goal

abbrev pub invariant-loop-i : goal.invariant-loop-i
invariant-loop-i l = (k : ℕ) → k < l.i → passes_in (is_function_at l.pc) l.self.symbols k ≡ false
