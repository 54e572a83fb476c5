-- Which trace some bytes are, how one is refused that is not wanted, and what a pass over it says.
use Rattle.std.specs.Prelude.{◌≡◌, ℕ, ◌-◌, ◌≤◌, ◌==◌, ◌^◌, nat_le, List, [], ◌∷◌, ◌++◌, length, take, Option}
use Rattle.std.specs.Prelude.{Some, None, Result, Ok, Err, IsErrOf, if◌then◌else◌, option_map}
use Rattle.std.specs.Prelude.{Bool, true}
use Rattle.std.specs.Option.{ForSome, option_or}
use Rattle.trace_format.specs.declared.record.TraceEnd.{TraceEnd}
use Rattle.shelf.specs.Shelf.{Files, Outside, Rose, Known, content}
use Rattle.trace_format.specs.declared.fault.TraceFault.{TraceFault}
use Rattle.trace_format.specs.declared.record.Header.{Header}
use Rattle.trace_format.specs.declared.record.Version.{Version}
use Rattle.trace_format.specs.declared.record.Version.TheVariants.{One, Two, Three, Four}
use Rattle.trace_format.specs.declared.record.TraceRecord.{TraceRecord}
use Rattle.trace_format.specs.declared.record.TraceRecord.TheVariants as records
use Rattle.trace_format.specs.declared.read_so_far.ReadSoFar.{ReadSoFar}
use Rattle.trace_format.specs.Judging.{version_at}
use Rattle.trace_format.specs.Reading.{ending_of, reading_of}
use Rattle.trace_format.specs.Spelling.{spell}
use Rattle.trace_passes.specs.declared.passes.PassFault.{PassFault}
use Rattle.trace_passes.specs.declared.passes.PassFault.TheVariants as faults
use Rattle.trace_passes.specs.declared.passes.Passed.{Passed}
use Rattle.trace_passes.specs.declared.wanted.Refusal.{Refusal}
use Rattle.trace_passes.specs.declared.wanted.Refusal.TheVariants as refusals
use Rattle.trace_passes.specs.declared.wanted.Wanted.{Wanted}

-- ---- which trace some bytes are

-- the parts of a trace; the end record stands beside the others
pub record Trace : Type 0 where
  pub version : Version
  pub header : Header
  pub items : List TraceRecord
  pub ending : TraceEnd

-- all records, the end included
abbrev pub all_records : Trace → List TraceRecord
all_records t = t.items ++ records.End t.ending ∷ []

-- the spelling of a trace
abbrev pub spell_trace : Trace → List ℕ
spell_trace t = spell t.version t.header t.items t.ending

-- the records before the last one
abbrev pub before_last : List TraceRecord → List TraceRecord
before_last all = take (length all - 1) all

abbrev pub trace_at : List TraceRecord → Option ReadSoFar → Result TraceEnd TraceFault → Option Trace
trace_at all (Some p) (Ok e) =
    Some (record { version = p.version; header = p.header; items = before_last all; ending = e })
trace_at all None (Ok e) = None
trace_at all progress (Err fault) = None

-- the trace that the bytes are, None where they are none
abbrev pub trace_of : List ℕ → Option Trace
trace_of bytes =
    let now = reading_of bytes in
    trace_at now.0 now.1.progress (ending_of now.1)

-- ---- how a trace is refused

-- Where pcs are wanted, a version that has none is refused.
abbrev pub version_refusal : Bool → Option Version → Option Refusal
version_refusal true (Some One) = Some refusals.NoPcs
version_refusal true (Some Two) = Some refusals.NoPcs
version_refusal _ _ = None

-- these versions have pcs
abbrev pub HasPcs : Version → Type 0
HasPcs Three = Unit {0}
HasPcs Four = Unit {0}
HasPcs _ = ⊥

-- how bytes are refused for their version, by the magic that they begin with, whatever is behind it
abbrev pub pcs_refusal : Wanted → List ℕ → Option Refusal
pcs_refusal w bytes = version_refusal w.pcs (version_at bytes)

-- the header has what is wanted, where something is
pub record IsWanted (w : Wanted) (h : Header) : Type 0 where
  pub harts : ForSome w.harts (λ harts. h.harts ≡ harts)
  pub first : ForSome w.first (λ first. h.first ≡ first)

abbrev pub harts_refusal : Option ℕ → ℕ → Option Refusal
harts_refusal None harts = None
harts_refusal (Some wanted) harts = if harts == wanted then None else Some refusals.Harts

abbrev pub first_refusal : Option ℕ → ℕ → Option Refusal
first_refusal None first = None
first_refusal (Some wanted) first = if first == wanted then None
    else Some (refusals.Position wanted first)

-- A filtered trace is refused where none is wanted, and where the lines have more bytes than its
-- regions.
abbrev pub lines_refusal : Option ℕ → ℕ → Option Refusal
lines_refusal None near = Some refusals.Filtered
lines_refusal (Some size) near = if nat_le size (2 ^ near) then None else Some refusals.TooWide

abbrev pub near_refusal : Option ℕ → ℕ → Option Refusal
near_refusal lines near = if near == 0 then None else lines_refusal lines near

-- the header, once it is accepted
abbrev pub head_of : Option ReadSoFar → Option Header
head_of progress = option_map (λ p. p.header) progress

-- how an accepted header is refused: for its regions, then for its harts, then for its first position
abbrev pub header_refusal : Wanted → Option Header → Option Refusal
header_refusal w None = None
header_refusal w (Some h) = option_or (near_refusal w.lines h.near)
    (option_or (harts_refusal w.harts h.harts) (first_refusal w.first h.first))

abbrev pub trace_refusal : Result TraceEnd TraceFault → Option Refusal
trace_refusal (Ok e) = None
trace_refusal (Err fault) = Some (refusals.Trace fault)

-- how bytes are refused: for having no pcs, else for their header, else for the first fault; None
-- where they are a trace as wanted
abbrev pub refusal_of : Wanted → List ℕ → Option Refusal
refusal_of w bytes =
    let now = (reading_of bytes).1 in
    option_or (pcs_refusal w bytes)
    (option_or (header_refusal w (head_of now.progress)) (trace_refusal (ending_of now)))

-- ---- what a pass says

-- the parts that a pass gives, with these records before the end
abbrev pub trace_with : Passed → List TraceRecord → Trace
trace_with passed items =
    record {
      version = passed.version;
      header = passed.header;
      items = items;
      ending =
          passed.ending;
    }

-- these bytes are a trace of the parts that a pass gives
abbrev pub HasParts : Passed → List ℕ → Type 0
HasParts passed bytes =
    (items : List TraceRecord) × (trace_of bytes ≡ Some (trace_with passed items))

-- There are bytes, the held ones of the name where these are known, that are such a trace, whose
-- records were given.
pub record HasPassed (held : Option Files) (name : List ℕ) (passed : Passed)
    (given : List TraceRecord → Type 0) :
    Type 0 where
  pub bytes : List ℕ
  pub whole : Known held (λ files. bytes ≡ content files name)
  pub items : List TraceRecord
  pub is : trace_of bytes ≡ Some (trace_with passed items)
  pub saw : given (all_records (trace_with passed items))

-- The faults of reading don't fall, rose at the name where the answer is `ReadFault`, and are the
-- same at each other answer.
pub record HasPassCause {T : Type 0} (name : List ℕ) (old new : Outside)
    (result : Result T PassFault) : Type 0 where
  pub later : (n : List ℕ) → old.read_faults n ≤ new.read_faults n
  pub failed : IsErrOf result faults.ReadFault → Rose (old.read_faults name) (new.read_faults name)
  pub quiet : (IsErrOf result faults.ReadFault → ⊥) → new.read_faults ≡ old.read_faults
