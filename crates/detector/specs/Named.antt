-- Lines of a layout, and the tracks that stand for them.
use Rattle.std.specs.Prelude.{ℕ, Bool, ◌&&◌, ◌==◌, List, Option}
use Rattle.std.specs.List.{find}
use Rattle.base.specs.Lines.{Grid, line_number}
use Rattle.base.specs.Touch.{Touch}
use Rattle.base.specs.declared.layout.Range.{Range}
use Rattle.sharing_rules.specs.Listed.{rank}
use Rattle.sharing_rules.specs.declared.line_kind.LineKind.{LineKind}
use Rattle.line_tracks.specs.TrackValue.{TrackValue}
use Rattle.sharing_rules.specs.Lines.{number_of_base}

-- the number of the line of an access
abbrev pub number_of : Grid → Touch → ℕ
number_of g a = line_number g.size g.offset a.addr

-- the number of the line in which a range begins
abbrev pub line_of_base : Grid → Range → ℕ
line_of_base g r = number_of_base g r.base

-- Whether a track is the one of a kind and a line: an observed one has the line's range, a shifted
-- one begins in the lower line of its pair, and a doubled one where the lower line of its pair
-- begins.
abbrev pub is_named : Grid → LineKind → ℕ → TrackValue → Bool
is_named g kind k x = (rank x.kind == rank kind) && (line_of_base g x.range == k)

-- the track of a kind and a line
abbrev pub track_named : Grid → LineKind → ℕ → List TrackValue → Option TrackValue
track_named g kind k tracks = find (is_named g kind k) tracks
