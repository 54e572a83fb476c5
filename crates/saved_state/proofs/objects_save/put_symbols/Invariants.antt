-- The symbols so far are appended.
use Rattle.std.proofs.Common.{◌≡◌, ◌++◌, take}
use Rattle.std.specs.List.{flat_map}
use Rattle.saved_state.specs.ObjectSpelling.{spell_saved_symbol}
use Rattle.saved_state.proofs.objects_save.put_symbols.Given as goal

abbrev pub invariant-loop-i : goal.invariant-loop-i
invariant-loop-i l = l.into.items ≡ l.initial.into.items
    ++ flat_map spell_saved_symbol (take l.i l.table.symbols)
