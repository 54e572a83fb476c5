-- What adding a saved track needs of the entries that name the tracks.
use Rattle.std.specs.Prelude.{ℕ, List}
use Rattle.base.specs.Levels.{Levels}
use Rattle.base.specs.Lines.{Grid}
use Rattle.detector.specs.Entries.{Entries, entry_at}
use Rattle.line_tracks.specs.TrackValue.{TrackValue}
use Rattle.detector.specs.Adding.{CanAddTrack}
use Rattle.detector.specs.Index.{IsIndexed}
use Rattle.detector.specs.Watch.{watch_of}

-- the entries name the tracks, and a track may come behind them
pub record IsAddable (m : Entries) (g : Grid) (xs : List TrackValue) (v : Levels) (position : ℕ)
    (x : TrackValue)
    : Type 0 where
  pub indexed : IsIndexed (entry_at m) g xs v.tracking position
  pub can : CanAddTrack (watch_of m xs g v position) x
