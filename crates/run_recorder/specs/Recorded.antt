-- What a run leaves: its trace, and what it puts out, in files.
use Rattle.std.specs.Prelude.{◌≡◌, ℕ, List, [], ◌∷◌, ◌++◌, Option, None, Some, map}
use Rattle.std.specs.List.{filter_map}
use Rattle.base.specs.Touch.{Touch}
use Rattle.shelf.specs.Files.{Output as AnOutput}
use Rattle.trace_format.specs.declared.record.TraceRecord.{TraceRecord}
use Rattle.trace_format.specs.declared.record.TraceRecord.TheVariants as records
use Rattle.base.specs.declared.ending.Ending.{Ending}
use Rattle.trace_format.specs.declared.record.TraceEnd.{TraceEnd}
use Rattle.trace_format.specs.Ends.{unfiltered}
use Rattle.trace_format.specs.declared.record.Version.{Version}
use Rattle.trace_format.specs.declared.record.Version.TheVariants.{One, Three, Four}
use Rattle.trace_format.specs.Pcs.{without_pcs}
use Rattle.trace_format.specs.Rules.{IsGoodSymbol, IsGoodTrace, touches_in}
use Rattle.trace_passes.specs.Passes.{Trace as ATrace, spell_trace}
use Rattle.guest.specs.GuestCalls.{RunEvent, quiet, touch, alloc, free, output}
use Rattle.guest.specs.Runs.{Run, output_of, sited_of}
use Rattle.run_recorder.specs.declared.run_file.Content.{Content}
use Rattle.run_recorder.specs.declared.run_file.Content.TheVariants.{Trace, Output}
use Rattle.run_recorder.specs.declared.run_file.RunFile.{RunFile}

-- ---- the records of a run

-- a symbol as a trace may record it
abbrev pub IsSymbolRecord : TraceRecord → Type 0
IsSymbolRecord (records.Symbol kind addr size name) = IsGoodSymbol addr size name
IsSymbolRecord _ = ⊥

-- versions 3 and 4 alone record the pc of an access
abbrev pub pc_for : Version → ℕ → Option ℕ
pc_for Three pc = Some pc
pc_for Four pc = Some pc
pc_for _ pc = None

-- what a trace of a version records of an event
abbrev pub record_in : Version → RunEvent → List TraceRecord
record_in v quiet = []
record_in v (touch a pc) = records.Touch a (pc_for v pc) ∷ []
record_in v (alloc at size sites) = records.Alloc at size sites ∷ []
record_in v (free at) = records.Free at ∷ []
record_in v (output at bytes) = []

abbrev pub records_in : Version → List RunEvent → List TraceRecord
records_in v [] = []
records_in v (e ∷ events) = record_in v e ++ records_in v events

-- the symbols of the program, and then the records of the events
abbrev pub records_of : Version → List TraceRecord → Run → List TraceRecord
records_of v symbols r = symbols ++ records_in v r.events

-- A trace of version 4 that has all accesses of a run leaves out none, however large the regions.
abbrev pub near_for : Version → ℕ
near_for Four = 16
near_for _ = 0

abbrev pub end_for : Version → Ending → TraceEnd
end_for Four e = record (unfiltered e) { whole = Some e.accesses }
end_for _ e = unfiltered e

-- the trace of a version of a run of so many harts, of a program with these symbols
abbrev pub trace_for : Version → ℕ → List TraceRecord → Run → ATrace
trace_for v harts symbols r = record {
  version = v;
  header = record { first = 0; harts = harts; near = near_for v };
  items = records_of v symbols r;
  ending = end_for v r.ending;
}

-- a trace keeps the rules of the format
abbrev pub IsKept : ATrace → Type 0
IsKept t = IsGoodTrace t.version t.header t.items t.ending

-- ---- its files

-- all bytes of a file with this content
abbrev pub bytes_of : Version → ℕ → List TraceRecord → Run → Content → List ℕ
bytes_of v harts symbols r Trace = spell_trace (trace_for v harts symbols r)
bytes_of v harts symbols r Output = output_of r

-- the names of the files
abbrev pub names_of : List RunFile → List (List ℕ)
names_of files = map (λ f. f.name.now) files

-- the files, with the bytes that each content has
abbrev pub outputs_of : List RunFile → (Content → List ℕ) → List AnOutput
outputs_of files bytes = map (λ f. record { name = f.name.now; bytes = bytes f.content }) files

-- the files that a run leaves, each trace among them of this version
abbrev pub outputs_for : Version → ℕ → List TraceRecord → Run → List RunFile → List AnOutput
outputs_for v harts symbols r files = outputs_of files (bytes_of v harts symbols r)

-- ---- the accesses with their pcs

-- an access and the pc that is recorded of it, where one is
abbrev pub sited_with : Touch → Option ℕ → Option (Touch × ℕ)
sited_with a None = None
sited_with a (Some pc) = Some (a, pc)

abbrev pub sited_record : TraceRecord → Option (Touch × ℕ)
sited_record (records.Touch a pc) = sited_with a pc
sited_record _ = None

-- the accesses of which records state the pc, each with its pc, in order
abbrev pub sited_records : List TraceRecord → List (Touch × ℕ)
sited_records items = filter_map sited_record items

-- A trace records a run with the pc of each access: it is the trace of version 1 but for the pcs,
-- and its accesses with their pcs are those of the run, in order.
pub record RecordsRun (harts : ℕ) (symbols : List TraceRecord) (r : Run) (t : ATrace) : Type 0 where
  pub header : t.header ≡ (trace_for One harts symbols r).header
  pub records : without_pcs t.items ≡ (trace_for One harts symbols r).items
  pub accesses : touches_in t.items ≡ touches_in (trace_for One harts symbols r).items
  pub ending : t.ending ≡ (trace_for One harts symbols r).ending
  pub sites : sited_records t.items ≡ sited_of r
