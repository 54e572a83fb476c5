use Rattle.std.proofs.Common.{sym, arith}
use Rattle.saved_state.proofs.BlockUnits.{block_in-short}
use Rattle.saved_state.proofs.block_units.read_block.Goals as goal

pub returns-then-bytes-lt-BLOCK_LENGTH-clause-value :
    goal.returns-then-bytes-lt-BLOCK_LENGTH-clause-value
returns-then-bytes-lt-BLOCK_LENGTH-clause-value c = sym (block_in-short c.args.position
    c.args.table.now.blocks c.args.bytes.now (omega (arith, c.if-bytes-lt-BLOCK_LENGTH.true)))
