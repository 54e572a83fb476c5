-- So many blocks are read.
use Rattle.std.proofs.Common.{◌≡◌, ◌+◌, length}
use Rattle.saved_state.specs.ObjectJudging.{block_in, blocks_at}
use Rattle.saved_state.specs.ObjectSpelling.{spell_block}
use Rattle.saved_state.proofs.LoopLaws.{GoesOn}
use Rattle.saved_state.proofs.block_units.read_blocks.Given as goal

abbrev pub invariant-loop : goal.invariant-loop
invariant-loop l = record {
  on : GoesOn (block_in l.position) spell_block l.count
      (blocks_at l.initial.table l.initial.rest.place l.initial.rest.bytes.now) l.counter
      (blocks_at l.table l.rest.place l.rest.bytes.now);
  few : l.rest.place + length l.rest.bytes.now ≡ l.initial.rest.place
      + length l.initial.rest.bytes.now;
  others : l.table.symbols ≡ l.initial.table.symbols;
}
