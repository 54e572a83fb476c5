-- What a list keeps of a line: its track.
use Rattle.sharing_rules.specs.AccessLists.{AccessList}
use Rattle.sharing_rules.specs.Lines.{range_of}
use Rattle.sharing_rules.specs.Opened.{Opened}
use Rattle.sharing_rules.specs.Tracks.{Traced, track_of}
use Rattle.sharing_rules.specs.declared.line_kind.LineKind.{LineKind}
use Rattle.base.specs.declared.layout.Range.{Range}
use Rattle.line_tracks.specs.TrackValue.{TrackValue}

-- a track of a kind and a range
abbrev pub kept_as : LineKind → Range → Traced → TrackValue
kept_as kind r x = record {
  kind = kind;
  range = r;
  start = x.start;
  entries = x.entries;
  count =
      x.count;
  words = x.words;
}

-- what is kept of a line that is observed, or that opened
abbrev pub kept_in : AccessList → Opened → TrackValue
kept_in t o = kept_as o.kind (range_of o.line) (track_of o.line o.from t)
