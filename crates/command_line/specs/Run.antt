-- The command `run`: what its words ask for.
use Rattle.std.specs.Prelude.{Bool, ◌&&◌, List, [], ◌∷◌, Option, Some, None, is_none}
use Rattle.std.specs.Prelude.{if◌then◌else◌, option_and_then, option_map, codes}
use Rattle.clap.specs.Words.{App, Row, Text, first_of}
use Rattle.settings.specs.declared.changes.Changes.{Changes}
use Rattle.command_line.specs.Apps.{plain_app, with_flag, with_option, with_word}
use Rattle.command_line.specs.Asked.{asked, is_flagged}
use Rattle.command_line.specs.Demands.{text_of}
use Rattle.command_line.specs.Names.{given}
use Rattle.command_line.specs.Set.{AskedSettings, asked_under, given_changes}
use Rattle.command_line.specs.declared.run.RunOptions.{RunOptions}

abbrev pub run_usage : Text
run_usage =
    codes "usage: predator run PROGRAM [--settings F] [--schedule F] [--trace F] [--pcs] [--output F]\n"

-- run a program under settings: its schedule, and where its trace and its output are written, each
-- if it is named, and whether the trace records the pc of each access
pub record RunDemand : Type 0 where
  pub program : Text
  pub settings : AskedSettings
  pub schedule : Option Text
  pub trace : Option Text
  pub pcs : Bool
  pub output : Option Text

abbrev pub run_app : App
run_app =
    with_flag (with_option (with_option (with_option (with_option (with_option (with_word
    (plain_app (codes "run")) (codes "program")) (codes "settings")) (codes "schedule"))
    (codes "trace")) (codes "output")) (codes "set")) (codes "pcs")

abbrev pub run_with : List Row → Text → Changes → RunDemand
run_with rows program changes = record {
  program = program;
  settings = asked_under (first_of (codes "settings") rows) changes;
  schedule = first_of (codes "schedule") rows;
  trace = first_of (codes "trace") rows;
  pcs = is_flagged (codes "pcs") rows;
  output = first_of (codes "output") rows;
}

-- what its values ask for, unless they name no changes that can be
abbrev pub run_in : List Row → Option RunDemand
run_in rows =
    option_and_then (λ program. option_map (run_with rows program)
    (given_changes (first_of (codes "set") rows)))
    (first_of (codes "program") rows)

-- there is no trace for the pcs that are asked for
abbrev pub lacks_trace : RunDemand → Bool
lacks_trace demand = demand.pcs && is_none demand.trace

-- the same with a trace where pcs are asked for
abbrev pub run_of : List Row → Option RunDemand
run_of rows =
    option_and_then (λ demand. if lacks_trace demand then None else Some demand) (run_in rows)

abbrev pub asked_of_run : List Text → Option RunDemand
asked_of_run words = asked run_app run_of words

-- the files that are read, in the order in which they are, and those that are written, in the order
-- in which they are begun
abbrev pub run_inputs : RunDemand → List Text
run_inputs demand = given demand.settings.file (demand.program ∷ given demand.schedule [])

abbrev pub run_outputs : RunDemand → List Text
run_outputs demand = given demand.trace (given demand.output [])

-- what the code's options ask for
abbrev pub run_meaning : RunOptions → RunDemand
run_meaning options = record {
  program = options.program.now;
  settings = asked_under (text_of options.settings) options.set;
  schedule = text_of options.schedule;
  trace = text_of options.trace;
  pcs = options.pcs;
  output = text_of options.output;
}
