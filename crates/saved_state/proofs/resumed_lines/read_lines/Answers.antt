use Rattle.std.proofs.Common.{◌∙◌, sym, arith}
use Rattle.saved_state.specs.Parts.{header_meant}
use Rattle.saved_state.specs.Spelling.{spell_line}
use Rattle.saved_state.specs.Units.{line_in}
use Rattle.saved_state.specs.Ready.{lines_at, lines_read}
use Rattle.saved_state.proofs.LoopLaws.{steps, stops}
use Rattle.saved_state.proofs.resumed_lines.read_lines.Goals as goal

pub returns-in-Err-clause-refused : goal.returns-in-Err-clause-refused
returns-in-Err-clause-refused g c = λ memory.
    let h = header_meant c.args.header.now in
    stops (line_in h) (spell_line h.grid) c.args.header.now.lines
    (lines_at c.args.detector.now c.args.rest.place c.args.rest.bytes.now) c.loop.counter
    (lines_at c.loop.detector c.loop.rest.place c.loop.rest.bytes.now) c.in-Err.fault
    c.loop-test.true c.loop.invariant.on
    (λ more. c.in-Err.ensures.refused more memory)

pub loop-preserved : goal.loop-preserved
loop-preserved g c =
    let h = header_meant c.args.header.now in
    let place = c.behind-rest.ensures.place in
    let bytes = c.behind-rest.ensures.bytes in
    record {
      on = steps (line_in h) (spell_line h.grid) c.args.header.now.lines
          (lines_at c.args.detector.now c.args.rest.place c.args.rest.bytes.now) c.loop.counter
          (lines_at c.loop.detector c.loop.rest.place c.loop.rest.bytes.now)
          (lines_at c.next_line.new.detector c.behind-rest.result.place
          c.behind-rest.result.bytes.now) c.loop-test.true c.loop.invariant.on
          (λ more. c.in-Ok.ensures.read more ∙ (λ i. lines_read h more c.next_line.new.detector
          (sym place i) (sym bytes i)));
      few = omega (arith, c.behind-rest.ensures.end, c.loop.invariant.few);
      ready = c.in-Ok.ensures.ready;
      due = c.in-Ok.ensures.due;
      last = c.in-Ok.ensures.last;
      tracks = c.in-Ok.ensures.tracks ∙ c.loop.invariant.tracks;
      levels = c.in-Ok.ensures.levels ∙ c.loop.invariant.levels;
    }
