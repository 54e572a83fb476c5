-- How the command ends that explains one line of a run.
use Rattle.std.proofs.Common.{◌≡◌, List, Ok, ap, refl, sym, ◌∙◌}
use Rattle.std.specs.Prelude.{IsTrue}
use Rattle.base.specs.Lines.{is_layout}
use Rattle.command_line.specs.Explain.{ExplainDemand}
use Rattle.command_line.specs.Words.{explain}
use Rattle.guest.specs.Runs.{Run}
use Rattle.settings.specs.declared.values.Settings.{Settings}
use Rattle.shelf.specs.Laws.Known.{known_both}
use Rattle.shelf.specs.Shelf.{Files, Outside, Known, content}
use Rattle.trace_format.specs.declared.record.TraceRecord.{TraceRecord}
use Rattle.command_io.specs.Laws.Settings.{settings_chosen}
use Rattle.command_io.specs.Readings.{IsAccepted}
use Rattle.command_io.specs.SettingsFiles.{settings_in}
use Rattle.predator_cli.specs.Explain.{IsToExplain, as_run, explain_readings, explain_work}
use Rattle.predator_cli.specs.Explain.{explained}
use Rattle.predator_cli.specs.Meets.{IsWorked}
use Rattle.predator_cli.specs.Run.{run_for_demand, symbol_records}
use Rattle.predator_cli.proofs.Ends.{known_worked}
use Rattle.predator_cli.proofs.ListedCounts.{reports_listed}

-- the work of the files is that of the run and the symbols that they give
work_is : (d : ExplainDemand) (s : Settings) (files : Files) (symbols : List TraceRecord) (r : Run)
    → settings_in d.settings files ≡ Ok s
    → r ≡ run_for_demand (as_run d) s files
    → symbols ≡ symbol_records (content files d.program)
    → explain_work d files ≡ explained d symbols r
work_is d s files symbols r is runs named =
    ap (λ x. explained d (symbol_records (content files d.program))
    (run_for_demand (as_run d) x files))
    (settings_chosen d.settings files s is)
    ∙ ap (explained d (symbol_records (content files d.program))) (sym runs)
    ∙ ap (λ x. explained d x r) (sym named)

pub to_explain : (d : ExplainDemand) (s : Settings) (symbols : List TraceRecord) (r : Run)
    (old now : Outside) → IsAccepted (explain_readings d) old now
    → Known now.held (λ files. settings_in d.settings files ≡ Ok s)
    → Known now.held (λ files. r ≡ run_for_demand (as_run d) s files)
    → Known now.held (λ files. symbols ≡ symbol_records (content files d.program))
    → IsToExplain d symbols r old now
to_explain d s symbols r old now accepted read runs named =
    let both : Known now.held (λ files. settings_in d.settings files ≡ Ok s
    → explain_work d files ≡ explained d symbols r) =
    known_both now.held (λ files x y e. work_is d s files symbols r e x y) runs named in
    record {
      accepted = accepted;
      works = known_both now.held (λ files e f. f e) read both;
    }

-- what was done before the text is printed
pub explain_worked : (d : ExplainDemand) (symbols : List TraceRecord) (r : Run) (old now : Outside)
    → IsTrue (is_layout d.layout.size d.layout.offset) → IsToExplain d symbols r old now
    → IsWorked (explain d) old now (explained d symbols r).status (explained d symbols r).text
explain_worked d symbols r old now allowed ready =
    known_worked (explain d) old now (explained d symbols r) refl ready.accepted ready.works
    (reports_listed d allowed)
