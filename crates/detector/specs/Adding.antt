-- A detector that is made of what was saved of one: at a position, with written lines and tracks
-- added to it.
use Rattle.std.specs.Prelude.{◌≡◌, ℕ, ◌<◌, ◌≤◌, ◌^◌, [], ◌∷◌, ◌++◌, None}
use Rattle.std.specs.FinMap as finite
use Rattle.base.specs.Levels.{Levels}
use Rattle.base.specs.Lines.{Grid}
use Rattle.sharing_rules.specs.declared.line_kind.LineKind.TheVariants.{Observed}
use Rattle.line_tracks.specs.TrackValue.{IsBlank, IsInTime, TrackValue}
use Rattle.detector.specs.Counts.{count_at, no_writes}
use Rattle.detector.specs.Index.{IsShaped}
use Rattle.detector.specs.Named.{line_of_base, track_named}
use Rattle.detector.specs.Watch.{Watch}

-- as many accesses seen, and nothing kept of them
abbrev pub nothing_kept : Grid → Levels → ℕ → Watch
nothing_kept g v position = record {
  position = position;
  grid = g;
  levels = v;
  writes = no_writes;
  tracks = [];
}

-- line k was written n times
abbrev pub with_written : Watch → ℕ → ℕ → Watch
with_written w k n = record w { writes = finite.insert w.writes k n }

-- a track behind the others
abbrev pub with_track : Watch → TrackValue → Watch
with_track w x = record w { tracks = w.tracks ++ x ∷ [] }

-- A line that isn't there yet, and was written no more often than there were accesses.
pub record CanAddLine (w : Watch) (k n : ℕ) : Type 0 where
  pub small : k ≤ 2 ^ 30
  pub some : 0 < n
  pub few : n ≤ w.position
  pub fresh : count_at w.writes k ≡ 0

-- A track of a written line that has none of its kind yet: a line's own where the line was written
-- often enough, in time, and blank without a start.
pub record CanAddTrack (w : Watch) (x : TrackValue) : Type 0 where
  pub fresh : track_named w.grid x.kind (line_of_base w.grid x.range) w.tracks ≡ None
  pub shaped : IsShaped w.grid (line_of_base w.grid x.range) x.kind x.range
  pub written : 0 < count_at w.writes (line_of_base w.grid x.range)
  pub due : x.kind ≡ Observed
      → w.levels.tracking ≤ count_at w.writes (line_of_base w.grid x.range)
  pub in_time : IsInTime x w.position
  pub blank : x.start ≡ None → IsBlank x
