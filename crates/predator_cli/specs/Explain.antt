-- The command `explain`: what it reads, and what it reports of one line of a run.
use Rattle.std.specs.Prelude.{◌≡◌, false, List, [], None}
use Rattle.command_line.specs.Explain.{ExplainDemand}
use Rattle.command_line.specs.Run.{RunDemand}
use Rattle.guest.specs.Runs.{Run}
use Rattle.invalidations.specs.Watched.{sited_run}
use Rattle.objects.specs.Symbols.{symbols_of}
use Rattle.shelf.specs.Shelf.{Files, Outside, Known, content}
use Rattle.sharing_rules.specs.Lines.{line_at}
use Rattle.trace_passes.specs.Lives.{symbols_in}
use Rattle.invalidations.specs.Text.{explain_text}
use Rattle.trace_format.specs.declared.record.TraceRecord.{TraceRecord}
use Rattle.command_io.specs.Readings.{IsAccepted, Reading}
use Rattle.command_io.specs.SettingsFiles.{chosen_settings}
use Rattle.command_io.specs.Works.{Work}
use Rattle.predator_cli.specs.Run.{run_for_demand, run_readings, status_for, symbol_records}

-- the run that is asked for, which writes nothing
abbrev pub as_run : ExplainDemand → RunDemand
as_run demand = record {
  program = demand.program;
  settings = demand.settings;
  schedule = demand.schedule;
  trace = None;
  pcs = false;
  output = None;
}

-- what is read: the files of the run
abbrev pub explain_readings : ExplainDemand → List Reading
explain_readings demand = run_readings (as_run demand)

-- what is reported of the line in a run of a program with these symbols
abbrev pub explained : ExplainDemand → List TraceRecord → Run → Work
explained demand symbols r = record {
  status = status_for r.ending.outcome;
  text = explain_text r.ending (symbols_of (symbols_in symbols))
      (line_at demand.layout demand.base) demand.start (sited_run r);
  outputs = [];
}

abbrev pub explain_work : ExplainDemand → Files → Work
explain_work demand files =
    explained demand (symbol_records (content files demand.program))
    (run_for_demand (as_run demand) (chosen_settings demand.settings files) files)

-- what was read for a run of this demand: the run and the symbols are what the files ask for, and
-- nothing was changed
pub record IsToExplain (demand : ExplainDemand) (symbols : List TraceRecord) (r : Run)
    (old now : Outside) : Type 0 where
  pub accepted : IsAccepted (explain_readings demand) old now
  pub works : Known now.held (λ files. explain_work demand files ≡ explained demand symbols r)
