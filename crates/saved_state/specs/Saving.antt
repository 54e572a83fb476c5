-- What is saved of a detector.
use Rattle.std.specs.Prelude.{ℕ, List, filter, length, map, nat_lt}
use Rattle.std.specs.FinMap as finite
use Rattle.saved_state.specs.declared.state_parts.CountedLine.{CountedLine}
use Rattle.saved_state.specs.Spelling.{State}
use Rattle.detector.specs.Counts.{Counts}
use Rattle.detector.specs.Watch.{Watch}

-- the lines that were written, in order of their numbers
abbrev pub counted_lines : Counts → List CountedLine
counted_lines writes = map (λ e. record { number = e.0; writes = e.1 })
    (filter (λ e. nat_lt 0 e.1) (finite.entries writes))

-- the whole, with a number of harts
abbrev pub state_of : ℕ → Watch → State
state_of harts w = record {
  grid = w.grid;
  tracking = w.levels.tracking;
  prediction = w.levels.prediction;
  harts = harts;
  position = w.position;
  lines = counted_lines w.writes;
  tracks = w.tracks;
}

abbrev pub line_count : Watch → ℕ
line_count w = length (counted_lines w.writes)
