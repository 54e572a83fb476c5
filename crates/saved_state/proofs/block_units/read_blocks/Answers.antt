use Rattle.std.proofs.Common.{◌∙◌, sym, arith}
use Rattle.saved_state.specs.ObjectJudging.{block_in, blocks_at, blocks_read}
use Rattle.saved_state.specs.ObjectSpelling.{spell_block}
use Rattle.saved_state.proofs.LoopLaws.{steps, stops}
use Rattle.saved_state.proofs.block_units.read_blocks.Goals as goal

pub returns-in-Err-clause-refused : goal.returns-in-Err-clause-refused
returns-in-Err-clause-refused c = λ memory.
    stops (block_in c.args.position) spell_block c.args.count
    (blocks_at c.args.table.now c.args.rest.place c.args.rest.bytes.now) c.loop.counter
    (blocks_at c.loop.table c.loop.rest.place c.loop.rest.bytes.now) c.in-Err.fault c.loop-test.true
    c.loop.invariant.on (λ more. c.in-Err.ensures.refused more memory)

pub loop-preserved : goal.loop-preserved
loop-preserved c =
    let place = c.behind-rest.ensures.place in
    let bytes = c.behind-rest.ensures.bytes in
    record {
      on = steps (block_in c.args.position) spell_block c.args.count
          (blocks_at c.args.table.now c.args.rest.place c.args.rest.bytes.now) c.loop.counter
          (blocks_at c.loop.table c.loop.rest.place c.loop.rest.bytes.now)
          (blocks_at c.next_block.new.table c.behind-rest.result.place
          c.behind-rest.result.bytes.now) c.loop-test.true c.loop.invariant.on
          (λ more. c.in-Ok.ensures.read more ∙ (λ i. blocks_read c.args.position more
          c.next_block.new.table (sym place i) (sym bytes i)));
      few = omega (arith, c.behind-rest.ensures.end, c.loop.invariant.few);
      others = c.in-Ok.ensures.others ∙ c.loop.invariant.others;
    }
