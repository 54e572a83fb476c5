-- What a list of trace records has shown, and its report.
use Rattle.std.specs.Prelude.{◌≡◌, ℕ, ◌<◌, List, IsTrue}
use Rattle.base.specs.Levels.{Levels}
use Rattle.base.specs.Lines.{Grid, is_layout}
use Rattle.base.specs.Touch.{Touch}
use Rattle.base.specs.declared.ending.Ending.{Ending}
use Rattle.objects.specs.Symbols.{NoTwoAlike}
use Rattle.sharing_rules.specs.Listed.{may_predict}
use Rattle.detector.specs.Standing.{StandsFor}
use Rattle.report.specs.OfLists.{report_of}
use Rattle.trace_format.specs.Rules.{touch_in, touches_in}
use Rattle.trace_format.specs.declared.record.TraceRecord.{TraceRecord}
use Rattle.trace_passes.specs.Accounts.{Account, BeginsAt, CameBy}
use Rattle.trace_passes.specs.Lives.{objects_after, objects_of}
use Rattle.observations.specs.ObservedTraces.{ObservedTrace, observed_after}

-- how it accounts for the accesses of a trace: under a layout and thresholds
abbrev pub watch_account : Account ObservedTrace Touch (Grid × Levels)
watch_account = record {
  listed = touch_in;
  StandsFor = λ t s. StandsFor t s.watch;
  position = λ s. s.watch.position;
  setting = λ s. (s.watch.grid, s.watch.levels);
}

-- from what was seen first, what is seen now came by these records
pub record HasSeen (begun now : ObservedTrace) (items : List TraceRecord) : Type 0 where
  -- each of them was noted, in order
  pub value : now ≡ observed_after begun items
  -- by their accesses
  pub accesses : CameBy watch_account begun now items
  -- the objects that stood there before, and those of the records
  pub objects : now.objects ≡ objects_after begun.objects begun.watch.position items

-- its first access has this position
abbrev pub begins_at : ObservedTrace → ℕ → Type 0
begins_at = BeginsAt watch_account

-- under a layout and thresholds as a detector has them, with no two symbols alike
pub record IsNotable (s : ObservedTrace) : Type 0 where
  pub layout : IsTrue (is_layout s.watch.grid.size s.watch.grid.offset)
  pub native : IsTrue (may_predict s.watch.grid s.watch.levels)
  pub some : 0 < s.watch.levels.tracking
  pub apart : NoTwoAlike s.objects.symbols

-- the report of a list of records with an end, under a layout and thresholds
unfoldable pub report_of_records : Ending → Grid → Levels → List TraceRecord → List ℕ
report_of_records ending g v items = report_of ending g v (objects_of items) (touches_in items)
