use Rattle.std.proofs.Common.{◌∙◌, sym, arith}
use Rattle.saved_state.specs.ObjectJudging.{symbol_in, symbols_at, symbols_read}
use Rattle.saved_state.specs.ObjectSpelling.{spell_saved_symbol}
use Rattle.saved_state.proofs.LoopLaws.{steps, stops}
use Rattle.saved_state.proofs.symbol_units.read_symbols.Goals as goal

pub returns-in-Err-clause-refused : goal.returns-in-Err-clause-refused
returns-in-Err-clause-refused c = λ memory.
    stops symbol_in spell_saved_symbol c.args.count
    (symbols_at c.args.table.now c.args.rest.place c.args.rest.bytes.now) c.loop.counter
    (symbols_at c.loop.table c.loop.rest.place c.loop.rest.bytes.now) c.in-Err.fault c.loop-test.true
    c.loop.invariant.on (λ more. c.in-Err.ensures.refused more memory)

pub loop-preserved : goal.loop-preserved
loop-preserved c =
    let place = c.behind-rest.ensures.place in
    let bytes = c.behind-rest.ensures.bytes in
    record {
      on = steps symbol_in spell_saved_symbol c.args.count
          (symbols_at c.args.table.now c.args.rest.place c.args.rest.bytes.now) c.loop.counter
          (symbols_at c.loop.table c.loop.rest.place c.loop.rest.bytes.now)
          (symbols_at c.next_symbol.new.table c.behind-rest.result.place
          c.behind-rest.result.bytes.now) c.loop-test.true c.loop.invariant.on
          (λ more. c.in-Ok.ensures.read more ∙ (λ i. symbols_read more
          c.next_symbol.new.table (sym place i) (sym bytes i)));
      few = omega (arith, c.behind-rest.ensures.end, c.loop.invariant.few);
      others = c.in-Ok.ensures.others ∙ c.loop.invariant.others;
    }
