-- What the parts that a state is written of mean.
use Rattle.line_tracks.specs.TrackValue.{TrackValue}
use Rattle.saved_state.specs.declared.track_order.TrackRef.{TrackRef}
use Rattle.saved_state.specs.declared.state_parts.StateParts.{StateParts}
use Rattle.saved_state.specs.Spelling.{State}

abbrev pub state_of : StateParts → State
state_of s = record {
  grid = s.layout;
  tracking = s.thresholds.tracking;
  prediction = s.thresholds.prediction;
  harts = s.harts;
  position = s.position;
  lines = s.lines.now;
  tracks = s.tracks.now;
}

-- the track that is meant
abbrev pub track_of : TrackRef → TrackValue
track_of one = one.track.now
