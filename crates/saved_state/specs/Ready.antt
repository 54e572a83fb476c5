-- A detector on its way, while the lines and the tracks of a state are read.
use Rattle.std.specs.Prelude.{◌≡◌, ℕ, ◌≤◌, List, map, slice_get, IsTrue, Result, Some}
use Rattle.std.specs.List.{list_all}
use Rattle.base.specs.Lines.{Grid, is_layout}
use Rattle.base.specs.declared.faults.ResumeFault.{ResumeFault}
use Rattle.sharing_rules.specs.Listed.{may_predict}
use Rattle.sharing_rules.specs.Members.{IsRising}
use Rattle.line_tracks.specs.Placed.{is_placed_before}
use Rattle.saved_state.specs.Reading.{Units, read_units}
use Rattle.saved_state.specs.Spelling.{Header, spell_line, spell_track}
use Rattle.saved_state.specs.Units.{due, is_line, line_in, track_in}
use Rattle.saved_state.specs.declared.state_parts.CountedLine.{CountedLine}
use Rattle.line_tracks.specs.TrackValue.{TrackValue}
use Rattle.detector.specs.Index.{IsShaped}
use Rattle.detector.specs.Named.{line_of_base}
use Rattle.detector.specs.Watch.{Watch}
use Rattle.saved_state.specs.Resuming.{counts_in}
use Rattle.saved_state.specs.Saving.{counted_lines}

-- It is at the header's position under the header's layout and thresholds, and its lines and tracks
-- are some of a state's, each behind those before it.
pub record IsReady (h : Header) (w : Watch) : Type 0 where
  pub grid : w.grid ≡ h.grid
  pub tracking : w.levels.tracking ≡ h.tracking
  pub prediction : w.levels.prediction ≡ h.prediction
  pub position : w.position ≡ h.position
  pub layout : IsTrue (is_layout w.grid.size w.grid.offset)
  pub native : IsTrue (may_predict w.grid w.levels)
  pub some : 1 ≤ h.tracking
  pub counts : w.writes ≡ counts_in (counted_lines w.writes)
  pub lines : IsTrue (list_all (λ l. is_line h.grid l.number) (counted_lines w.writes))
  pub rising : IsRising is_placed_before w.tracks

-- the numbers of the lines that are due
abbrev pub due_numbers : Header → Watch → List ℕ
due_numbers h w = map (λ l. l.number) (due h (counted_lines w.writes))

-- its lines as the units that were read, up to a place with these bytes behind it
abbrev pub lines_at : Watch → ℕ → List ℕ → Units CountedLine
lines_at w place left = record { read = counted_lines w.writes; place = place; left = left }

abbrev pub tracks_at : Watch → ℕ → List ℕ → Units TrackValue
tracks_at w place left = record { read = w.tracks; place = place; left = left }

-- so many lines more, behind its own
abbrev pub lines_read : Header → ℕ → Watch → ℕ → List ℕ → Result (Units CountedLine) ResumeFault
lines_read h n w place left =
    read_units (line_in h) (spell_line h.grid) n (lines_at w place left)

abbrev pub tracks_read : Header → ℕ → Watch → ℕ → List ℕ → Result (Units TrackValue) ResumeFault
tracks_read h n w place left =
    read_units (track_in h (counted_lines w.writes)) spell_track n (tracks_at w place left)

-- each track lies where one of its kind may
abbrev pub AreShaped : Grid → List TrackValue → Type 0
AreShaped g tracks = (i : ℕ) (y : TrackValue) → slice_get tracks i ≡ Some y
    → IsShaped g (line_of_base g y.range) y.kind y.range
