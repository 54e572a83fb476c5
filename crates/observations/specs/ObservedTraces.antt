-- What is seen of trace records: what the accesses show, and what stands in memory.
use Rattle.std.specs.Prelude.{ℕ, List, [], ◌∷◌, Bool}
use Rattle.base.specs.Levels.{Levels}
use Rattle.base.specs.Lines.{Grid}
use Rattle.base.specs.declared.ending.Ending.{Ending}
use Rattle.objects.specs.Objects.{Objects, no_objects}
use Rattle.detector.specs.Watch.{Watch, nothing_seen, takes_memory, watched}
use Rattle.report.specs.Reports.{report_lines}
use Rattle.report.specs.Shown.{listed_tracks}
use Rattle.base.specs.TextLines.{text_of}
use Rattle.trace_passes.specs.Lives.{objects_noted, objects_want_memory}
use Rattle.trace_format.specs.declared.record.TraceRecord.{TraceRecord}
use Rattle.trace_format.specs.declared.record.TraceRecord.TheVariants as records

pub record ObservedTrace : Type 0 where
  pub watch : Watch
  pub objects : Objects

-- before the first record
abbrev pub nothing_observed : Grid → Levels → ObservedTrace
nothing_observed g v = record { watch = nothing_seen g v; objects = no_objects }

-- what the accesses show once a record came
abbrev pub watch_noted : Watch → TraceRecord → Watch
watch_noted w (records.Touch a pc) = watched w a
watch_noted w _ = w

-- one record more
abbrev pub noted : ObservedTrace → TraceRecord → ObservedTrace
noted s item = record {
  watch = watch_noted s.watch item;
  objects = objects_noted s.objects item s.watch.position;
}

-- some records more, one after the other
abbrev pub observed_after : ObservedTrace → List TraceRecord → ObservedTrace
observed_after s [] = s
observed_after s (item ∷ items) = observed_after (noted s item) items

-- the report of what is seen, with an end: the tracks that reach the report threshold
unfoldable pub report_of_observed : Ending → ObservedTrace → List ℕ
report_of_observed ending s =
    text_of (report_lines ending s.watch.grid s.watch.levels s.objects
    (listed_tracks s.watch.levels.report s.watch.tracks))

-- whether a record may want memory
abbrev pub wants_memory : ObservedTrace → TraceRecord → Bool
wants_memory s (records.Touch a pc) = takes_memory s.watch a
wants_memory s item = objects_want_memory s.objects item
