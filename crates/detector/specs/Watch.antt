-- What a detector has seen: how many accesses under which layout and thresholds, the writes of each
-- line, and what is kept of each line, observed or predicted, in the order in which they came to be
-- kept.
use Rattle.std.specs.Prelude.{ℕ, ◌+◌, ◌%◌, Bool, false, ◌&&◌, ◌||◌, ◌==◌, nat_lt, if◌then◌else◌}
use Rattle.std.specs.Prelude.{List, [], ◌∷◌, ◌++◌, length, map, Option}
use Rattle.std.specs.Option.{option_map_or}
use Rattle.base.specs.Touch.{Touch, is_write}
use Rattle.base.specs.Lines.{Grid}
use Rattle.base.specs.Levels.{Levels}
use Rattle.base.specs.Ranges.{holds_address}
use Rattle.sharing_rules.specs.Lines.{grid_line, range_of}
use Rattle.sharing_rules.specs.declared.line_kind.LineKind.TheVariants.{Observed}
use Rattle.detector.specs.Entries.{Entries}
use Rattle.line_tracks.specs.TrackValue.{TrackValue, note_kept, waiting}
use Rattle.detector.specs.declared.openings.Openings.{Openings}
use Rattle.detector.specs.Counts.{Counts, count_at, counts_of, no_writes, with_write}
use Rattle.detector.specs.Named.{number_of}
use Rattle.detector.specs.Openings.{nothing_opens, opened_tracks, openings}

pub record Watch : Type 0 where
  pub position : ℕ
  pub grid : Grid
  pub levels : Levels
  pub writes : Counts
  pub tracks : List TrackValue

-- what an index and tracks mean under a layout and thresholds, at a position
abbrev pub watch_of : Entries → List TrackValue → Grid → Levels → ℕ → Watch
watch_of m tracks g v position = record {
  position = position;
  grid = g;
  levels = v;
  writes =
      counts_of m;
  tracks = tracks;
}

-- before the first access
abbrev pub nothing_seen : Grid → Levels → Watch
nothing_seen g v = record { position = 0; grid = g; levels = v; writes = no_writes; tracks = [] }

-- a track is noted if its range holds the address
abbrev pub touched : ℕ → Touch → TrackValue → TrackValue
touched position a x = if holds_address x.range a.addr then note_kept x position a else x

-- whether an access of line k is its T-th write, and the track that begins there
abbrev pub begins_track : ℕ → Counts → ℕ → Touch → Bool
begins_track T writes k a = is_write a.kind && (count_at writes k + 1 == T)

abbrev pub begun : Grid → ℕ → ℕ → Touch → TrackValue
begun g k position a = note_kept (waiting Observed (range_of (grid_line g k))) position a

-- the tracks in which an access of line k is noted: those that were there, and the line's own from
-- its T-th write on
abbrev pub tracks_noted : Watch → ℕ → Touch → List TrackValue
tracks_noted w k a =
    map (touched w.position a) w.tracks
    ++ (if begins_track w.levels.tracking w.writes k a then begun w.grid k w.position a ∷ []
    else [])

-- whether an access of line k is a write that brings its writes to a multiple of the prediction
-- threshold
abbrev pub is_search : Option ℕ → Counts → ℕ → Touch → Bool
is_search prediction writes k a = option_map_or
    (λ P. is_write a.kind && ((count_at writes k + 1) % P == 0)) prediction false

-- what opens at an access of line k, over the tracks in which it is noted
abbrev pub opens_at : Watch → ℕ → Touch → List TrackValue → Openings
opens_at w k a noted = if is_search w.levels.prediction w.writes k a then openings w.grid k noted
    else nothing_opens

-- the counts after an access of line k
abbrev pub writes_after : ℕ → Touch → Counts → Counts
writes_after k a writes = if is_write a.kind then with_write writes k else writes

-- the tracks after an access of line k
abbrev pub tracks_after : Watch → ℕ → Touch → List TrackValue
tracks_after w k a = tracks_noted w k a ++ opened_tracks (opens_at w k a (tracks_noted w k a))

-- one access more
abbrev pub watched : Watch → Touch → Watch
watched w a = record {
  position = w.position + 1;
  grid = w.grid;
  levels = w.levels;
  writes = writes_after (number_of w.grid a) a w.writes;
  tracks = tracks_after w (number_of w.grid a) a;
}

-- whether an access of line k is its first write
abbrev pub is_first_write : Counts → ℕ → Touch → Bool
is_first_write writes k a = is_write a.kind && (count_at writes k == 0)

-- only a line's first write, its T-th, and a write at which something opens may take memory
abbrev pub may_take_memory : Watch → ℕ → Touch → Bool
may_take_memory w k a =
    is_first_write w.writes k a
    || begins_track w.levels.tracking w.writes k a
    || nat_lt 0 (length (opened_tracks (opens_at w k a (tracks_noted w k a))))

abbrev pub takes_memory : Watch → Touch → Bool
takes_memory w a = may_take_memory w (number_of w.grid a) a

-- whether the pairs of its line are searched at the next access
abbrev pub searches_at : Watch → Touch → Bool
searches_at w a = is_search w.levels.prediction w.writes (number_of w.grid a) a
