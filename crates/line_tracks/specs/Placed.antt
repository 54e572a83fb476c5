-- The order of tracks.
use Rattle.std.specs.Prelude.{Bool, ◌&&◌, ◌||◌, ◌==◌, nat_lt, int_lt, List}
use Rattle.std.specs.List.{IsDistinct}
use Rattle.sharing_rules.specs.Listed.{rank}
use Rattle.sharing_rules.specs.Members.{ties}
use Rattle.line_tracks.specs.TrackValue.{TrackValue}

-- by kind, then by base
abbrev pub is_placed_before : TrackValue → TrackValue → Bool
is_placed_before x y =
    nat_lt (rank x.kind) (rank y.kind)
    || ((rank x.kind == rank y.kind) && int_lt x.range.base y.range.base)

-- no two have one kind and one base
abbrev pub AreApart : List TrackValue → Type 0
AreApart tracks = IsDistinct (ties is_placed_before) tracks
