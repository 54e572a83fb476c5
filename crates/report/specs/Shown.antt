-- What a report shows of a tracked line, and which lines it lists, in which order.
use Rattle.std.specs.Prelude.{ℕ, Bool, ◌&&◌, ◌||◌, ◌==◌, nat_le, nat_lt, int_lt, List, Option}
use Rattle.std.specs.Prelude.{filter, filter_map, option_map}
use Rattle.base.specs.declared.layout.Range.{Range}
use Rattle.sharing_rules.specs.Listed.{in_order, rank}
use Rattle.sharing_rules.specs.declared.line_kind.LineKind.{LineKind}
use Rattle.sharing_rules.specs.declared.word.Word.{Word}
use Rattle.line_tracks.specs.TrackValue.{TrackValue}

-- a line, with where it starts, its count and its words since
pub record ShownLine : Type 0 where
  pub kind : LineKind
  pub range : Range
  pub start : ℕ
  pub count : ℕ
  pub words : List Word

abbrev pub shown_from : TrackValue → ℕ → ShownLine
shown_from x s = record {
  kind = x.kind;
  range = x.range;
  start = s;
  count = x.count;
  words = x.words;
}

-- a track, where it has a start
abbrev pub shown_of : TrackValue → Option ShownLine
shown_of x = option_map (shown_from x) x.start

-- count falling, then kind, then base rising
abbrev pub is_shown_before : ShownLine → ShownLine → Bool
is_shown_before x y =
    nat_lt y.count x.count
    || ((x.count == y.count)
    && (nat_lt (rank x.kind) (rank y.kind)
    || ((rank x.kind == rank y.kind) && int_lt x.range.base y.range.base)))

-- whether a line reaches the report threshold
abbrev pub reaches : ℕ → ShownLine → Bool
reaches report l = nat_le report l.count

-- those that reach it, in order; lines that tie in all three stay as they stand
abbrev pub listed_of : ℕ → List ShownLine → List ShownLine
listed_of report lines = in_order is_shown_before (filter (reaches report) lines)

-- the listed lines among tracks
abbrev pub listed_tracks : ℕ → List TrackValue → List ShownLine
listed_tracks report tracks = listed_of report (filter_map shown_of tracks)
