-- What is promised of `explain`: of a line that a run of the same files lists, it reports the count
-- that is listed.
use Rattle.std.specs.Prelude.{◌≡◌, ℕ, Bool, List, ◌∷◌, ◌++◌, Option, None}
use Rattle.base.specs.TextLines.{text_of}
use Rattle.base.specs.declared.ending.Ending.{Ending}
use Rattle.command_line.specs.Explain.{ExplainDemand}
use Rattle.command_line.specs.Run.{RunDemand}
use Rattle.report.specs.Lines.{TextLine}
use Rattle.report.specs.Reports.{outcome_lines}
use Rattle.sharing_rules.specs.Lines.{Line, line_at, range_of}
use Rattle.sharing_rules.specs.Listed.{Finding, listed}
use Rattle.sharing_rules.specs.Members.{Member}
use Rattle.shelf.specs.Shelf.{Files}
use Rattle.invalidations.specs.Text.{counted_line, title_line}
use Rattle.trace_format.specs.Rules.{touches_in}
use Rattle.trace_passes.specs.Passes.{all_records}
use Rattle.command_io.specs.SettingsFiles.{chosen_settings, levels_of, native_of}
use Rattle.predator_cli.specs.Explain.{as_run, explain_work}
use Rattle.predator_cli.specs.Run.{trace_for_demand}

-- the lines that the report of a run lists
abbrev pub listed_by_run : RunDemand → Files → List Finding
listed_by_run demand files =
    let settings = chosen_settings demand.settings files in
    listed (native_of settings) (levels_of None settings)
    (touches_in (all_records (trace_for_demand demand settings files)))

-- the run of the same program under the same settings and schedule, whatever it writes
abbrev pub run_beside : ExplainDemand → Option (List ℕ) → Bool → Option (List ℕ) → RunDemand
run_beside demand trace pcs output =
    record (as_run demand) { trace = trace; pcs = pcs; output = output }

-- the row of a line in a text of `explain`, behind the title and how the run ended, has this count
abbrev pub ReportsCount : Line → ℕ → ℕ → List ℕ → Type 0
ReportsCount l start count text = (ending : Ending) × (rest : List TextLine) ×
    (text ≡ text_of ((title_line ∷ outcome_lines ending) ++ counted_line l start count ∷ rest))

-- Where a run of the same files lists a line with the base, the size and the start that are asked
-- about, the count that is reported is the one that it lists.
abbrev pub ReportsListedCount : ExplainDemand → Files → Type 0
ReportsListedCount demand files =
    let l = line_at demand.layout demand.base in
    (trace output : Option (List ℕ)) (pcs : Bool) (f : Finding)
    → Member f (listed_by_run (run_beside demand trace pcs output) files)
    → range_of f.line ≡ range_of l → f.start ≡ demand.start
    → ReportsCount l demand.start f.count (explain_work demand files).text
