-- The command `gen`: the trace that it writes, and the summary that it prints of the trace.
use Rattle.std.specs.Prelude.{ℕ, List, [], ◌∷◌, None, codes}
use Rattle.std.specs.Fmt.{decimal}
use Rattle.command_line.specs.Gen.{GenDemand}
use Rattle.sharing_rules.specs.AccessLists.{AccessList}
use Rattle.base.specs.TextLines.{text_of}
use Rattle.trace_format.specs.Rules.{touches_in}
use Rattle.trace_files.specs.Made.{made, made_file}
use Rattle.trace_passes.specs.Passes.{all_records}
use Rattle.detector.specs.TotalsOf.{totals_of}
use Rattle.detector.specs.declared.totals.Totals.{Totals}
use Rattle.command_io.specs.Readings.{Reading}
use Rattle.command_io.specs.SettingsFiles.{levels_of, native_of, usual_settings}
use Rattle.command_io.specs.Works.{Work}
use Rattle.command_io.specs.declared.status.Status.TheVariants as status

-- nothing is read
abbrev pub gen_readings : GenDemand → List Reading
gen_readings demand = []

-- how many accesses were made, and what their lines come to
abbrev pub summary_text : ℕ → Totals → List ℕ
summary_text count totals = text_of (
    (codes "generated" ∷ decimal count ∷ [])
    ∷ (codes "tracked" ∷ decimal totals.tracked ∷ [])
    ∷ (codes "listed" ∷ decimal totals.listed ∷ [])
    ∷ (codes "invalidations" ∷ decimal totals.invalidations ∷ [])
    ∷ (codes "end" ∷ []) ∷ [])

-- the accesses of the made trace
abbrev pub made_accesses : ℕ → AccessList
made_accesses count = touches_in (all_records (made count))

-- the summary of the made trace, under the usual settings and the native layout
unfoldable pub summary_of : ℕ → List ℕ
summary_of count =
    summary_text count
    (totals_of (native_of usual_settings) (levels_of None usual_settings) (made_accesses count))

abbrev pub gen_work : GenDemand → Work
gen_work demand = record {
  status = status.Done;
  text = summary_of demand.count;
  outputs = made_file demand.file demand.count;
}
