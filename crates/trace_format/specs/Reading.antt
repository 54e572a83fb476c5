-- What any bytes say of a trace: its records that are whole in them, and the first fault. A byte
-- after the other is taken, so
-- it does not matter in which pieces they come.
use Rattle.std.specs.Prelude.{ℕ, ◌+◌, ◌==◌, nat_lt, List, [], ◌∷◌, ◌++◌, length, Option, Some, None}
use Rattle.std.specs.Prelude.{is_some, Result, Ok, Err, if◌then◌else◌}
use Rattle.trace_format.specs.declared.record.TraceEnd.{TraceEnd}
use Rattle.trace_format.specs.declared.fault.TraceFault.{TraceFault}
use Rattle.trace_format.specs.declared.fault.TraceFault.TheVariants as faults
use Rattle.trace_format.specs.declared.record.TraceRecord.{TraceRecord}
use Rattle.trace_format.specs.declared.record.TraceRecord.TheVariants as records
use Rattle.trace_format.specs.declared.record.Version.{Version}
use Rattle.trace_format.specs.declared.read_so_far.ReadSoFar.{ReadSoFar}
use Rattle.trace_format.specs.Spelling.{before_after}
use Rattle.trace_format.specs.Rules.{longest_trace}
use Rattle.trace_format.specs.Judging.{header_judged, header_length, record_extent, record_judged}
use Rattle.trace_format.specs.Judging.{version_at}

-- how far some bytes are read
pub record Reading : Type 0 where
  -- what the records so far say, once the header is accepted
  pub progress : Option ReadSoFar
  -- the bytes after the last whole record
  pub pending : List ℕ
  -- the end record
  pub ending : Option TraceEnd
  -- the first fault
  pub fault : Option TraceFault

-- before the first byte
abbrev pub begin : Reading
begin = record { progress = None; pending = []; ending = None; fault = None }

-- a fault ends the reading
abbrev pub with_fault : Reading → TraceFault → Reading
with_fault r fault = record r { pending = []; fault = Some fault }

-- how many bytes were taken
abbrev pub place_reached : Option ReadSoFar → ℕ
place_reached None = 0
place_reached (Some p) = p.place

abbrev pub taken : Reading → ℕ
taken r = place_reached r.progress + length r.pending

-- The version whose magic the bytes begin with: until the header is accepted they wait.
abbrev pub magic_at : Option ReadSoFar → List ℕ → Option Version
magic_at None pending = version_at pending
magic_at (Some p) pending = Some p.version

abbrev pub magic_in : Reading → Option Version
magic_in r = magic_at r.progress r.pending

-- how many accesses there are once a record is read
abbrev pub counted_after : ℕ → TraceRecord → ℕ
counted_after counted (records.Touch a pc) = counted + 1
counted_after counted _ = counted

abbrev pub progress_after : ReadSoFar → TraceRecord → ℕ → ReadSoFar
progress_after p item size = record p {
  counted = counted_after p.counted item;
  before = before_after p.before item;
  place = p.place + size;
}

abbrev pub ending_in : TraceRecord → Option TraceEnd
ending_in (records.End e) = Some e
ending_in _ = None

-- What begins here is judged once so many bytes are there. After the end each byte is one too
-- many.
abbrev pub extent_at : Option ReadSoFar → Option TraceEnd → List ℕ → ℕ
extent_at None ending bytes = header_length
extent_at (Some p) None bytes = record_extent p.version bytes
extent_at (Some p) (Some ending) bytes = 1

abbrev pub extent : Reading → List ℕ → ℕ
extent r bytes = extent_at r.progress r.ending bytes

abbrev pub header_read : Reading → Result ReadSoFar TraceFault → List TraceRecord × Reading
header_read r (Err fault) = ([], with_fault r fault)
header_read r (Ok p) = ([], record r { progress = Some p; pending = [] })

abbrev pub record_read : Reading → ReadSoFar → ℕ → Result TraceRecord TraceFault
    → List TraceRecord × Reading
record_read r p size (Err fault) = ([], with_fault r fault)
record_read r p size (Ok item) = (
  item ∷ [],
  record r
      { progress = Some (progress_after p item size); pending = []; ending = ending_in item },
)

-- the header, or one record, once all its bytes are there
abbrev pub part_at : Reading → Option ReadSoFar → Option TraceEnd → List ℕ
    → List TraceRecord × Reading
part_at r None ending bytes = header_read r (header_judged bytes)
part_at r (Some p) None bytes = record_read r p (length bytes) (record_judged p bytes)
part_at r (Some p) (Some ending) bytes = ([], with_fault r (faults.AfterEnd p.place))

abbrev pub part_read : Reading → List ℕ → List TraceRecord × Reading
part_read r bytes = part_at r r.progress r.ending bytes

-- One more byte. None has place 2^44.
unfoldable pub byte_read : Reading → ℕ → List TraceRecord × Reading
byte_read r byte =
    let bytes = r.pending ++ byte ∷ [] in
    if is_some r.fault then ([], r)
    else (if taken r == longest_trace then ([], with_fault r faults.TooLong)
    else (if nat_lt (length bytes) (extent r bytes) then ([], record r { pending = bytes })
    else part_read r bytes))

-- the records that become whole in more bytes, and how far all are read then
unfoldable pub read_on : Reading → List ℕ → List TraceRecord × Reading
read_on r [] = ([], r)
read_on r (byte ∷ bytes) =
    let now = byte_read r byte in
    let later = read_on now.1 bytes in
    (now.0 ++ later.0, later.1)

-- what some bytes say
abbrev pub reading_of : List ℕ → List TraceRecord × Reading
reading_of bytes = read_on begin bytes

-- the end of the trace that the bytes are, or why they are none
abbrev pub ending_at : Option TraceFault → Option TraceEnd → ℕ → Result TraceEnd TraceFault
ending_at (Some fault) ending size = Err fault
ending_at None (Some ending) size = Ok ending
ending_at None None size = Err (faults.Truncated size)

abbrev pub ending_of : Reading → Result TraceEnd TraceFault
ending_of r = ending_at r.fault r.ending (taken r)
