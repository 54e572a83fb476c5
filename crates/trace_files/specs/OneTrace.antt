-- One trace on its way to the file of a name.
use Rattle.std.specs.Prelude.{◌≡◌, ℕ, List, length}
use Rattle.shelf.specs.Files.{Output, one_file}
use Rattle.shelf.specs.Shelf.{Outside}
use Rattle.shelf.specs.OnTheirWay.{IsOutputs}
use Rattle.trace_format.specs.declared.record.Header.{Header}
use Rattle.trace_format.specs.declared.record.TraceRecord.{TraceRecord}
use Rattle.trace_format.specs.declared.record.Version.{Version}
use Rattle.trace_format.specs.Spelling.{nothing_before}
use Rattle.trace_format.specs.Writing.{before_behind, begun_with}
use Rattle.trace_files.specs.declared.trace_file.TraceFile.{TraceFile}

-- the file of a name that has the header and these records
abbrev pub trace_so_far : List ℕ → Version → Header → List TraceRecord → List Output
trace_so_far name v header seen = one_file name (begun_with v header seen)

abbrev pub so_far : TraceFile → List TraceRecord → List Output
so_far f = trace_so_far f.name.now f.version f.header

-- these records were put, and the next is spelled behind them
pub record HasPut (f : TraceFile) (seen : List TraceRecord) : Type 0 where
  pub writer : f.writer ≡ record { version = f.version; before = before_behind nothing_before seen }
  pub count : length f.files ≡ 1

-- they are on their way since a shelf was as it was then
pub record IsOnItsWay (f : TraceFile) (seen : List TraceRecord) (before now : Outside)
    : Type 0 where
  pub came : HasPut f seen
  pub outputs : IsOutputs f.files (so_far f seen) before now
