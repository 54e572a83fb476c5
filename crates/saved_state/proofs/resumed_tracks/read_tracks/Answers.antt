use Rattle.std.proofs.Common.{◌∙◌, suc, sym, arith}
use Rattle.saved_state.specs.Parts.{header_meant}
use Rattle.saved_state.specs.Reading.{read_units}
use Rattle.saved_state.specs.Spelling.{spell_track}
use Rattle.saved_state.specs.Units.{track_in}
use Rattle.saved_state.specs.Ready.{tracks_at}
use Rattle.saved_state.specs.Saving.{counted_lines}
use Rattle.saved_state.proofs.LoopLaws.{steps}
use Rattle.saved_state.proofs.resumed_tracks.read_tracks.Goals as goal

pub loop-preserved : goal.loop-preserved
loop-preserved g c =
    let h = header_meant c.args.header.now in
    let w = c.args.detector.now in
    let v = c.loop.detector in
    let place = c.behind-rest.ensures.place in
    let bytes = c.behind-rest.ensures.bytes in
    let same = c.loop.invariant.writes in
    record {
      on = steps (track_in h (counted_lines w.writes)) spell_track c.args.header.now.tracks
          (tracks_at w c.args.rest.place c.args.rest.bytes.now) c.loop.counter
          (tracks_at v c.loop.rest.place c.loop.rest.bytes.now)
          (tracks_at c.next_track.new.detector c.behind-rest.result.place
          c.behind-rest.result.bytes.now) c.loop-test.true
          c.loop.invariant.on
          (λ more.
          (λ i. read_units (track_in h (counted_lines (sym same i))) spell_track (suc more)
          (tracks_at v c.loop.rest.place c.loop.rest.bytes.now))
          ∙ c.in-Ok.ensures.read more
          ∙ (λ i. read_units (track_in h (counted_lines ((c.in-Ok.ensures.writes ∙ same) i)))
          spell_track more
          (tracks_at c.next_track.new.detector (sym place i) (sym bytes i))));
      few = omega (arith, c.behind-rest.ensures.end, c.loop.invariant.few);
      ready = c.in-Ok.ensures.ready;
      writes = c.in-Ok.ensures.writes ∙ same;
      levels = c.in-Ok.ensures.levels ∙ c.loop.invariant.levels;
    }
