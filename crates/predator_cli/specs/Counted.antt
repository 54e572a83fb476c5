-- What asks for the text of a whole trace, which a counter has.
use Rattle.std.specs.Prelude.{◌≡◌, ℕ, List}
use Rattle.command_line.specs.Words.{Demand}
use Rattle.shelf.specs.Shelf.{Files}
use Rattle.trace_passes.specs.Passes.{Trace}
use Rattle.trace_passes.specs.declared.wanted.Wanted.{Wanted}
use Rattle.predator_cli.specs.Commands.{RepeatsReport, first_readings_of, readings_of, work_of}
use Rattle.predator_cli.specs.Counting.{counted_readings, counted_work}

-- the answer to it is such a text of the trace of a name, as it is wanted
pub record IsCounted (demand : Demand) (wanted : Wanted) (says : Trace → List ℕ) (name : List ℕ) :
    Type 0 where
  -- the trace is all that it reads, and is judged before anything is done
  pub reads : readings_of demand ≡ counted_readings wanted name
  pub first : first_readings_of demand ≡ counted_readings wanted name
  pub works : (files : Files) → work_of demand files ≡ counted_work says name files
  -- no more is promised of it
  pub repeats : (files : Files) → RepeatsReport demand files
