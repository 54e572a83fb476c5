-- So many tracks are read.
use Rattle.std.proofs.Common.{◌≡◌, ◌+◌, length}
use Rattle.saved_state.specs.Parts.{header_meant}
use Rattle.saved_state.specs.Spelling.{spell_track}
use Rattle.saved_state.specs.Units.{track_in}
use Rattle.saved_state.specs.Ready.{IsReady, tracks_at}
use Rattle.saved_state.specs.Saving.{counted_lines}
use Rattle.saved_state.proofs.LoopLaws.{GoesOn}
use Rattle.saved_state.proofs.resumed_tracks.read_tracks.Given as goal

abbrev pub invariant-loop : goal.invariant-loop
invariant-loop g l = record {
  on : GoesOn (track_in (header_meant l.header) (counted_lines l.initial.detector.writes))
      spell_track l.header.tracks
      (tracks_at l.initial.detector l.initial.rest.place l.initial.rest.bytes.now) l.counter
      (tracks_at l.detector l.rest.place l.rest.bytes.now);
  few : l.rest.place + length l.rest.bytes.now ≡ l.initial.rest.place
      + length l.initial.rest.bytes.now;
  ready : IsReady (header_meant l.header) l.detector;
  writes : l.detector.writes ≡ l.initial.detector.writes;
  levels : l.detector.levels ≡ l.initial.detector.levels;
}
