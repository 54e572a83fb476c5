-- None of the symbols so far is such a function.
use Rattle.std.proofs.Common.{◌≡◌, None, take}
use Rattle.std.specs.Prelude.{filter_map, slice_get}
use Rattle.objects.specs.Symbols.{function_at}
use Rattle.objects.proofs.object_index.first_function.Given as goal

abbrev pub invariant-loop-number : goal.invariant-loop-number
invariant-loop-number l =
    function_at (filter_map (slice_get l.objects.symbols) (take l.number-index l.numbers)) l.pc
    ≡ None
