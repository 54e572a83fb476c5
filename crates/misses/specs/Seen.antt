-- What trace records show of the misses of each line, and what stands in memory.
use Rattle.std.specs.Prelude.{◌≡◌, ℕ, Bool, false, not, ◌||◌, List, []}
use Rattle.base.specs.Lines.{Grid, line_number}
use Rattle.base.specs.Touch.{Touch}
use Rattle.misses.specs.MissCounts.{MissCounts, StandsFor, has_come_to, kept_of, note_access}
use Rattle.objects.specs.Objects.{no_objects}
use Rattle.trace_format.specs.Rules.{touch_in}
use Rattle.trace_format.specs.declared.record.TraceRecord.{TraceRecord}
use Rattle.trace_format.specs.declared.record.TraceRecord.TheVariants as records
use Rattle.trace_passes.specs.Accounts.{Account, BeginsAt, CameBy}
use Rattle.trace_passes.specs.Lives.{objects_after, objects_noted, objects_want_memory}
use Rattle.misses.specs.declared.observer.MissObservations.{MissObservations}

-- before the first record
abbrev pub nothing_missed : Grid → MissObservations
nothing_missed g = record { misses = kept_of g []; objects = no_objects }

-- what the accesses show once a record came
abbrev pub misses_noted : MissCounts → TraceRecord → MissCounts
misses_noted k (records.Touch a pc) = note_access k a
misses_noted k _ = k

-- one record more
abbrev pub missed : MissObservations → TraceRecord → MissObservations
missed s item = record {
  misses = misses_noted s.misses item;
  objects = objects_noted s.objects item s.misses.position;
}

-- whether a record may want memory: an access by a hart that is new to its line, and a record for
-- which the objects may
abbrev pub misses_want_memory : MissCounts → TraceRecord → Bool
misses_want_memory k (records.Touch a pc) =
    not (has_come_to k.lines (line_number k.grid.size k.grid.offset a.addr) a.hart)
misses_want_memory k _ = false

abbrev pub wants_memory : MissObservations → TraceRecord → Bool
wants_memory s item = misses_want_memory s.misses item || objects_want_memory s.objects item

-- how it accounts for the accesses of a trace: under a layout
abbrev pub miss_account : Account MissObservations Touch Grid
miss_account = record {
  listed = touch_in;
  StandsFor = λ t s. StandsFor t s.misses;
  position = λ s. s.misses.position;
  setting = λ s. s.misses.grid;
}

-- from what was seen first, what is seen now came by these records
pub record HasMissed (begun now : MissObservations) (items : List TraceRecord) : Type 0 where
  -- by their accesses
  pub accesses : CameBy miss_account begun now items
  -- the objects that stood there before, and those of the records
  pub objects : now.objects ≡ objects_after begun.objects begun.misses.position items

-- its first access has this position
abbrev pub misses_begin_at : MissObservations → ℕ → Type 0
misses_begin_at = BeginsAt miss_account
