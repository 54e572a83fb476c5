-- How a reader keeps what it knows, and what is true of it.
use Rattle.std.specs.Prelude.{◌≡◌, ◌≤◌, ℕ, List, [], ◌++◌, length, take, Option, Some, None, Result}
use Rattle.std.specs.Prelude.{Ok, Err, option_map, IsSome}
use Rattle.trace_format.specs.declared.record.TraceEnd.{TraceEnd}
use Rattle.trace_format.specs.declared.read_so_far.ReadSoFar.{ReadSoFar}
use Rattle.trace_format.specs.Faults.{HasFault}
use Rattle.trace_format.specs.Found.{IsTraceOf}
use Rattle.trace_format.specs.declared.fault.TraceFault.{TraceFault}
use Rattle.trace_format.specs.declared.record.TraceRecord.{TraceRecord}
use Rattle.trace_format.specs.declared.record.TraceRecord.TheVariants as records
use Rattle.trace_format.specs.Judging.{record_extent, record_judged}
use Rattle.trace_format.specs.Reading.{Reading, extent_at, part_at, read_on, reading_of}
use Rattle.base.specs.Touch.{Touch}
use Rattle.trace_format.specs.declared.reader_state.State.{State}

-- a state with some bytes after its whole records
abbrev pub reading_with : State → List ℕ → Reading
reading_with s bytes = record {
  progress = s.progress;
  pending = bytes;
  ending = s.ending;
  fault =
      s.fault;
}

-- a trace that is read so far, with no end and no fault
abbrev pub reading_at : ReadSoFar → Reading
reading_at p = record { progress = Some p; pending = []; ending = None; fault = None }

-- how many bytes a state waits for
abbrev pub extent_in : State → List ℕ → ℕ
extent_in s bytes = extent_at s.progress s.ending bytes

-- The header or a record is read whose bytes are all there, and the records stand behind those
-- before.
pub record ReadsPart (old : State) (bytes : List ℕ) (new : State) (before after : List TraceRecord)
    : Type 0 where
  pub reading : reading_with new [] ≡
      (part_at (reading_with old []) old.progress old.ending bytes).1
  pub records : after ≡ before ++ (part_at (reading_with old []) old.progress old.ending bytes).0

-- what a call answers at a reading
abbrev pub answer_at : Option TraceFault → Result (Unit {0}) TraceFault
answer_at None = Ok tt
answer_at (Some fault) = Err fault

-- the access that a record is, and its pc
abbrev pub shown_in : TraceRecord → Option (Touch × Option ℕ)
shown_in (records.Touch a pc) = Some (a, pc)
shown_in _ = None

-- an access with this pc stands at the front of some bytes, in so many of them
pub record HasAccess (p : ReadSoFar) (bytes : List ℕ) (a : Touch) (pc : Option ℕ) (size : ℕ)
    : Type 0 where
  pub extent : size ≡ record_extent p.version bytes
  pub there : size ≤ length bytes
  pub judged : record_judged p (take size bytes) ≡ Ok (records.Touch a pc)

-- More bytes are read, and the records that became whole stand behind those before.
pub record ReadsOn (old : Reading) (bytes : List ℕ) (new : Reading)
    (before after : List TraceRecord) : Type 0 where
  pub reading : new ≡ (read_on old bytes).1
  pub records : after ≡ before ++ (read_on old bytes).0

-- All but a rest of some bytes is read: to read them all is to read the rest from there on, behind
-- the records so far.
pub record ReadsBut (old : Reading) (bytes : List ℕ) (new : Reading) (rest : List ℕ)
    (before after : List TraceRecord) : Type 0 where
  pub since : List TraceRecord
  pub records : after ≡ before ++ since
  pub reading : read_on old bytes ≡ (since ++ (read_on new rest).0, (read_on new rest).1)

-- some of the records that became whole stand behind those before
abbrev pub AddsSome : Reading → List ℕ → List TraceRecord → List TraceRecord → Type 0
AddsSome old bytes before after = (k : ℕ) × (after ≡ before ++ take k (read_on old bytes).0)

-- The bytes so far are read, and the records that are whole in them stand behind the first ones.
pub record HasRead (bytes : List ℕ) (first : List TraceRecord) (now : Reading)
    (items : List TraceRecord) : Type 0 where
  pub reading : now ≡ (reading_of bytes).1
  pub records : items ≡ first ++ (reading_of bytes).0

-- The bytes are a trace with this end, and its records stand behind the first ones.
pub record ReadsTrace (bytes : List ℕ) (first items : List TraceRecord) (e : TraceEnd) : Type 0 where
  pub records : List TraceRecord
  pub behind : items ≡ first ++ records
  pub trace : IsTraceOf bytes records e

-- The bytes have this first fault, and their records stand behind the first ones.
pub record ReadsFault (bytes : List ℕ) (first items : List TraceRecord) (f : TraceFault) : Type 0
  where
    pub records : List TraceRecord
    pub behind : items ≡ first ++ records
    pub fault : HasFault bytes records f

-- they have the same version and header, or neither has any
pub record SameHead (p q : Option ReadSoFar) : Type 0 where
  pub version : option_map (λ r. r.version) p ≡ option_map (λ r. r.version) q
  pub header : option_map (λ r. r.header) p ≡ option_map (λ r. r.header) q

-- they have the same version and header
pub record HasSameHead (p q : ReadSoFar) : Type 0 where
  pub version : p.version ≡ q.version
  pub header : p.header ≡ q.header

-- The version and the header, once known, are known still, and those that are known are those of
-- the bytes.
pub record KeepsHead (old : Reading) (bytes : List ℕ) (new : Reading) : Type 0 where
  pub stays : IsSome old.progress → SameHead new.progress old.progress
  pub stated : IsSome new.progress → SameHead new.progress (read_on old bytes).1.progress
