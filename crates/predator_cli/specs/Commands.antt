-- What a command is to the top call, and the table of the commands, a row each. The names of the
-- files that a command writes stand in the table of its words, in `command_line`.
use Rattle.std.specs.Prelude.{List, Option, Some, None}
use Rattle.command_line.specs.Words.{Demand, replay, check, run, split, gen, convert, sweep}
use Rattle.command_line.specs.Words.{caches, place, relocate, filter, misses, blame, explain}
use Rattle.shelf.specs.Files.{Output}
use Rattle.shelf.specs.Shelf.{Files}
use Rattle.command_io.specs.Readings.{Reading}
use Rattle.command_io.specs.Works.{Work}
use Rattle.predator_cli.specs.Again.{RunRepeats}
use Rattle.predator_cli.specs.Apart.{PlaceKeepsApart}
use Rattle.predator_cli.specs.Blame.{blame_readings, blame_work}
use Rattle.predator_cli.specs.Caches.{caches_readings, caches_work}
use Rattle.predator_cli.specs.Check.{check_readings, check_work}
use Rattle.predator_cli.specs.Convert.{convert_readings, convert_work}
use Rattle.predator_cli.specs.Explain.{as_run, explain_readings, explain_work}
use Rattle.predator_cli.specs.Filter.{FilterRepeats, filter_left, filter_readings, filter_work}
use Rattle.predator_cli.specs.Gen.{gen_readings, gen_work}
use Rattle.predator_cli.specs.ListedCounts.{ReportsListedCount}
use Rattle.predator_cli.specs.Manners.{Manner, judged_before, judged_first, left_of, read_again}
use Rattle.predator_cli.specs.Manners.{read_along}
use Rattle.predator_cli.specs.Misses.{misses_readings, misses_work}
use Rattle.predator_cli.specs.Parts.{SplitRepeats}
use Rattle.predator_cli.specs.Place.{place_readings, place_work}
use Rattle.predator_cli.specs.Recounts.{ReplayIsRecounted, RunIsRecounted}
use Rattle.predator_cli.specs.Relocate.{MoveRepeats, move_left, move_readings, move_work}
use Rattle.predator_cli.specs.Replay.{replay_readings, replay_work}
use Rattle.predator_cli.specs.Run.{RunStaysWithin, run_readings, run_work}
use Rattle.predator_cli.specs.Split.{split_readings, split_work}
use Rattle.predator_cli.specs.Sweep.{sweep_readings, sweep_work}

-- what is asked of a command
pub record Command : Type 1 where
  -- the files that it reads, in the order in which they are judged
  pub readings : List Reading
  -- what it gives where none of them is refused
  pub work : Files → Work
  -- when it begins to write, and what a refusal leaves then
  pub manner : Manner
  -- what other commands repeat of it or of its files, or report alike, once its work is done
  pub repeats : Files → Type 0
  -- it makes at most as many steps as its budget has
  pub within : Files → Type 0
  -- what holds of the counts and the places that it prints: of a report, that a plain recount of
  -- each line that it lists counts no less, and alike after its start
  pub recounts : Files → Type 0

-- a command of which no more is promised than what it answers
abbrev pub plain : List Reading → (Files → Work) → Command
plain readings work = record {
  readings = readings;
  work = work;
  manner = judged_before;
  repeats = λ files. Unit {0};
  within = λ files. Unit {0};
  recounts = λ files. Unit {0};
}

abbrev pub copy : List Reading → (Files → Work) → Command
copy readings work = record (plain readings work) { manner = read_again }

abbrev pub command_of : Demand → Command
command_of (run demand) = record (plain (run_readings demand) (run_work demand)) {
  repeats = RunRepeats demand;
  within = RunStaysWithin demand;
  recounts = RunIsRecounted demand;
}
command_of (replay demand) =
    record (plain (replay_readings demand) (replay_work demand)) {
      recounts = ReplayIsRecounted demand;
    }
command_of (check demand) = plain (check_readings demand) (check_work demand)
command_of (split demand) =
    record (copy (split_readings demand) (split_work demand)) { repeats = SplitRepeats demand }
command_of (gen demand) = plain (gen_readings demand) (λ files. gen_work demand)
command_of (convert demand) = copy (convert_readings demand) (convert_work demand)
command_of (sweep demand) = plain (sweep_readings demand) (sweep_work demand)
command_of (caches demand) = plain (caches_readings demand) (caches_work demand)
command_of (place demand) =
    record (plain (place_readings demand) (place_work demand)) {
      recounts = PlaceKeepsApart demand;
    }
command_of (relocate demand) =
    record (plain (move_readings demand) (move_work demand)) {
      manner = read_along (move_left demand);
      repeats = MoveRepeats demand;
    }
command_of (filter demand) =
    record (plain (filter_readings demand) (filter_work demand)) {
      manner = read_along (filter_left demand);
      repeats = FilterRepeats demand;
    }
command_of (misses demand) = plain (misses_readings demand) (misses_work demand)
command_of (blame demand) = plain (blame_readings demand) (blame_work demand)
command_of (explain demand) =
    record (plain (explain_readings demand) (explain_work demand)) {
      repeats = ReportsListedCount demand;
      within = RunStaysWithin (as_run demand);
    }

-- ---- what follows from the rows

abbrev pub readings_of : Demand → List Reading
readings_of demand = (command_of demand).readings

abbrev pub work_of : Demand → Files → Work
work_of demand = (command_of demand).work

abbrev pub manner_of : Demand → Manner
manner_of demand = (command_of demand).manner

-- the files that are judged before it writes
abbrev pub first_readings_of : Demand → List Reading
first_readings_of demand = judged_first (manner_of demand) (readings_of demand)

-- the outputs that a refusal leaves
abbrev pub leaves : Demand → Files → List Output
leaves demand = left_of (manner_of demand) (readings_of demand)

abbrev pub RepeatsReport : Demand → Files → Type 0
RepeatsReport demand = (command_of demand).repeats

-- the last two, of what words ask for
abbrev pub StaysWithinBudget : Option Demand → Files → Type 0
StaysWithinBudget None files = Unit {0}
StaysWithinBudget (Some demand) files = (command_of demand).within files

abbrev pub ReportIsRecounted : Option Demand → Files → Type 0
ReportIsRecounted None files = Unit {0}
ReportIsRecounted (Some demand) files = (command_of demand).recounts files
