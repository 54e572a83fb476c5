-- How a track's fields stand for what is kept.
use Rattle.std.specs.Prelude.{◌≡◌, ℕ, List, [], Option, Some, None}
use Rattle.line_tracks.specs.declared.track.Started.{Started}
use Rattle.line_tracks.specs.declared.track.Track.TheInside.{Inside}
use Rattle.line_tracks.specs.declared.track.Mark.TheInside.{Inside as MarkInside}
use Rattle.line_tracks.specs.TrackValue.{TrackValue, IsBlank, Marked}

abbrev pub start_of : Option Started → Option ℕ
start_of None = None
start_of (Some b) = Some b.start

abbrev pub entries_of : Option Started → List ℕ
entries_of None = []
entries_of (Some b) = b.history

abbrev pub kept_of : Inside → TrackValue
kept_of t = record {
  kind = t.kind;
  range = t.shadow.range;
  start = start_of t.started;
  entries =
      entries_of t.started;
  count = t.count;
  words = t.shadow.words;
}

-- before its start nothing is counted
abbrev pub IsBlankBefore : Inside → Type 0
IsBlankBefore t = t.started ≡ None → IsBlank (kept_of t)

abbrev pub marked_of : MarkInside → Marked
marked_of m = record {
  start = start_of m.started;
  entries = entries_of m.started;
  count = m.count;
  place = m.place;
  word = m.word;
}
