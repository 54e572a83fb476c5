-- So many symbols are read.
use Rattle.std.proofs.Common.{◌≡◌, ◌+◌, length}
use Rattle.saved_state.specs.ObjectJudging.{symbol_in, symbols_at}
use Rattle.saved_state.specs.ObjectSpelling.{spell_saved_symbol}
use Rattle.saved_state.proofs.LoopLaws.{GoesOn}
use Rattle.saved_state.proofs.symbol_units.read_symbols.Given as goal

abbrev pub invariant-loop : goal.invariant-loop
invariant-loop l = record {
  on : GoesOn symbol_in spell_saved_symbol l.count
      (symbols_at l.initial.table l.initial.rest.place l.initial.rest.bytes.now) l.counter
      (symbols_at l.table l.rest.place l.rest.bytes.now);
  few : l.rest.place + length l.rest.bytes.now ≡ l.initial.rest.place
      + length l.initial.rest.bytes.now;
  others : l.table.blocks ≡ l.initial.table.blocks;
}
