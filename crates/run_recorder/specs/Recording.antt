-- How far the recording of a run has come.
use Rattle.std.specs.Prelude.{◌≡◌, ℕ, Bool, true, false, ◌||◌, List, [], ◌∷◌, map}
use Rattle.shelf.specs.Shelf.{Outside}
use Rattle.shelf.specs.declared.shelf.ShelfError.{ShelfError}
use Rattle.shelf.specs.Files.{AreCut}
use Rattle.shelf.specs.OneFile.{Waiting}
use Rattle.shelf.specs.OnTheirWay.{IsOutputs}
use Rattle.trace_format.specs.declared.record.TraceRecord.{TraceRecord}
use Rattle.trace_format.specs.declared.record.TraceRecord.TheVariants as records
use Rattle.trace_format.specs.declared.record.Version.{Version}
use Rattle.trace_format.specs.Rules.{touches_in}
use Rattle.trace_format.specs.Spelling.{nothing_before, spell_record, spell_records}
use Rattle.trace_format.specs.Writing.{Writing, before_behind, begun_with}
use Rattle.guest.specs.Configs.{Config}
use Rattle.guest.specs.SeenTurns.{IsSeen, seen}
use Rattle.guest.specs.Runs.{bytes_in}
use Rattle.guest.specs.declared.turn.Event.{Event}
use Rattle.guest.specs.declared.turn.Touched.{Touched}
use Rattle.guest.specs.declared.turn.Turn.TheVariants.{Ran}
use Rattle.run_recorder.specs.declared.run_file.Content.{Content}
use Rattle.run_recorder.specs.declared.run_file.Content.TheVariants as content
use Rattle.run_recorder.specs.declared.run_file.RunFile.{RunFile}
use Rattle.run_recorder.specs.Recorded.{near_for, outputs_of, pc_for, record_in}

-- ---- what a file gets

-- of bytes that a record is spelled in, by its content
abbrev pub trace_part : List ℕ → Content → List ℕ
trace_part bytes content.Trace = bytes
trace_part bytes content.Output = []

-- of a record, as the writer spells it that comes to it
abbrev pub record_part : Writing → TraceRecord → Content → List ℕ
record_part w item = trace_part (spell_record w.version w.before item)

-- of several records, each spelled against those before it
abbrev pub records_part : Writing → List TraceRecord → Content → List ℕ
records_part w items = trace_part (spell_records w.version w.before items)

-- of bytes that the guest puts out
abbrev pub output_part : List ℕ → Content → List ℕ
output_part bytes content.Trace = []
output_part bytes content.Output = bytes

-- one of the files is a trace
abbrev pub is_trace : Content → Bool
is_trace content.Trace = true
is_trace content.Output = false

abbrev pub has_trace : List RunFile → Bool
has_trace [] = false
has_trace (f ∷ files) = is_trace f.content || has_trace files

-- ---- a step

-- the records of a step that leaves this configuration, and the bytes that it puts out
unfoldable pub event_records : Version → Config → Event → List TraceRecord
event_records v config event = record_in v (seen config.memory event)

unfoldable pub event_bytes : Config → Event → List ℕ
event_bytes config event = bytes_in (seen config.memory event)

-- the records of accesses
abbrev pub touch_records : Version → List Touched → List TraceRecord
touch_records v touches = map (λ t. records.Touch t.access (pc_for v t.pc)) touches

-- what is known of it
unfoldable pub IsRecorded : ℕ → Event → Config → Type 0
IsRecorded harts event config = IsSeen harts (Ran event) config

-- ---- a run

-- the bytes of a file once these records were noted and these bytes put out
abbrev pub bytes_so_far : Version → ℕ → List TraceRecord → List ℕ → Content → List ℕ
bytes_so_far v harts items put content.Trace =
    begun_with v (record { first = 0; harts = harts; near = near_for v }) items
bytes_so_far v harts items put content.Output = put

-- a writer that has spelled these records
abbrev pub behind_records : Version → List TraceRecord → Writing
behind_records v items = record { version = v; before = before_behind nothing_before items }

-- The files got these records and these bytes. Where one is a trace, the writer has spelled them.
pub record AreNoted (v : Version) (harts : ℕ) (items : List TraceRecord) (put : List ℕ)
    (files : List RunFile) (waiting : List Waiting) (w : Writing) (before now : Outside)
    : Type 0 where
  pub outputs : IsOutputs waiting (outputs_of files (bytes_so_far v harts items put)) before now
  pub writer : has_trace files ≡ true → w ≡ behind_records v items

-- and are cut where the call gave up that was to note the last of them
abbrev pub AreCutAfter : Version → ℕ → List TraceRecord → List ℕ → List RunFile → Outside → Outside
    → ShelfError → Type 0
AreCutAfter v harts items put files before now error =
    AreCut (outputs_of files (bytes_so_far v harts items put)) before now error

-- an observer may begin with the first access of a run, and was given records without an access
pub record HasStarted {A : Type 0} (begins : A → ℕ → Type 0) (given : A → A → List TraceRecord
    → Type 0) (now : A) :
    Type 0 where
  pub begun : A
  pub earlier : List TraceRecord
  pub begins_there : begins begun 0
  pub given_so_far : given begun now earlier
  pub untouched : touches_in earlier ≡ []
