-- Which traces a copy writes, and what stands where it gave up.
use Rattle.std.specs.Prelude.{◌≡◌, ◌≢◌, ◌⊎◌, ◌≤◌, ℕ, ◌==◌, List, [], ◌∷◌, Option, Some, None}
use Rattle.std.specs.Prelude.{if◌then◌else◌, false}
use Rattle.std.specs.Option.{option_and_then, option_or}
use Rattle.shelf.specs.Agreeing.{HasShown}
use Rattle.shelf.specs.Shelf.{Files, Given, Goes, Narrows, Outside, Rose, Known, content}
use Rattle.shelf.specs.Files.{Output, AreWritten, BegunInOrder, one_file}
use Rattle.shelf.specs.OnTheirWay.{IsNew}
use Rattle.trace_format.specs.declared.fault.TraceFault.TheVariants as faults
use Rattle.trace_format.specs.declared.record.Version.{Version}
use Rattle.trace_format.specs.declared.record.Version.TheVariants.{One, Two, Three, Four}
use Rattle.trace_format.specs.declared.record.TraceRecord.{TraceRecord}
use Rattle.trace_format.specs.Pcs.{without_pcs}
use Rattle.trace_passes.specs.declared.wanted.Wanted.{Wanted}
use Rattle.trace_passes.specs.declared.passes.Passed.{Passed}
use Rattle.trace_passes.specs.declared.wanted.Refusal.{Refusal}
use Rattle.trace_passes.specs.declared.wanted.Refusal.TheVariants as refusals
use Rattle.trace_passes.specs.Passes.{Trace, all_records, header_refusal, near_refusal, refusal_of}
use Rattle.trace_passes.specs.Passes.{spell_trace}
use Rattle.trace_passes.specs.Passes.{trace_of}
use Rattle.trace_format.specs.Splits.{begin_split, endings_of, halves_of, headers_of}
use Rattle.trace_files.specs.declared.copy_fault.CopyFault.{CopyFault}
use Rattle.trace_files.specs.declared.copy_fault.CopyFault.TheVariants.{ReadFault, WriteFault}

-- any trace will do, and no line is too wide for its regions
abbrev pub any : Wanted
any = record { harts = None; first = None; pcs = false; lines = Some 0 }

-- any will do that isn't filtered
abbrev pub unfiltered : Wanted
unfiltered = record any { lines = None }

-- it isn't filtered
abbrev pub IsUnfiltered : Trace → Type 0
IsUnfiltered t = near_refusal None t.header.near ≡ None

-- ---- the copies

-- a filtered trace has no other version
abbrev pub other_version : Version → Version
other_version One = Two
other_version Two = One
other_version Three = Two
other_version Four = Four

-- the records in the other version, which has no place for the pcs of version 3
abbrev pub other_items : Version → List TraceRecord → List TraceRecord
other_items Three items = without_pcs items
other_items _ items = items

-- the trace in the other version
abbrev pub converted : Trace → Trace
converted t = record t {
  version = other_version t.version;
  items = other_items t.version t.items;
}

-- The half before access number `at`, which has not ended.
abbrev pub first_half : ℕ → Trace → Trace
first_half at t =
    let s = begin_split t.header t.ending.accesses at in
    record {
      version = t.version;
      header = (headers_of s).0;
      items = (halves_of s.cut (all_records t)).0;
      ending = (endings_of s t.ending).0;
    }

-- The half from that access on, which ends as the whole.
abbrev pub second_half : ℕ → Trace → Trace
second_half at t =
    let s = begin_split t.header t.ending.accesses at in
    record {
      version = t.version;
      header = (headers_of s).1;
      items = (halves_of s.cut (all_records t)).1;
      ending = (endings_of s t.ending).1;
    }

-- the files of each copy, by the trace
abbrev pub conversion : List ℕ → Trace → List Output
conversion name t = one_file name (spell_trace (converted t))

abbrev pub halves : ℕ → List ℕ → List ℕ → Trace → List Output
halves at first second t =
    record { name = first; bytes = spell_trace (first_half at t) }
    ∷ record { name = second; bytes = spell_trace (second_half at t) } ∷ []

-- ---- two readings that differ

abbrev pub version_difference : Version → Version → Option Refusal
version_difference One One = None
version_difference Two Two = None
version_difference Three Three = None
version_difference Four Four = None
version_difference _ _ = Some (refusals.Trace faults.BadMagic)

abbrev pub count_difference : ℕ → ℕ → Option Refusal
count_difference first second =
    if first == second then None else Some (refusals.Trace (faults.CountMismatch first second))

-- How a trace that is read again is refused beside the first reading: for another version, then for
-- its header, of which as many harts and the same first position are wanted, then for another
-- number of accesses.
abbrev pub difference : Passed → Passed → Option Refusal
difference first second =
    option_or (version_difference first.version second.version)
    (option_or (header_refusal
    (record any { harts = Some first.header.harts; first = Some first.header.first })
    (Some second.header))
    (count_difference first.ending.accesses second.ending.accesses))

-- what is stated of a trace that was read
abbrev pub passed_of : Trace → Passed
passed_of t = record { version = t.version; header = t.header; ending = t.ending }

-- how bytes are refused that are read again: where they are no trace, as such; else beside the
-- first reading
abbrev pub refusal_again : Passed → List ℕ → Option Refusal
refusal_again first bytes =
    option_or (refusal_of unfiltered bytes)
    (option_and_then (λ t. difference first (passed_of t)) (trace_of bytes))

-- what the reads since then have given of the name is refused so behind such a first reading
abbrev pub IsOther : List ℕ → Passed → Refusal → List Given → List Given → Type 0
IsOther name first refusal before now =
    HasShown name (λ file. refusal_again first file ≡ Some refusal) before now

-- ---- what a call says

-- There are bytes, the held ones of the name where these are still known, that are a trace, of
-- which this is stated, and whose outputs are written.
pub record HasCopied (held : Option Files) (name : List ℕ) (outputs : Trace → List Output)
    (says : Trace → Type 0)
    (before now : Outside) : Type 0 where
  pub bytes : List ℕ
  pub whole : Known held (λ files. bytes ≡ content files name)
  pub trace : Trace
  pub is : trace_of bytes ≡ Some trace
  pub stated : says trace
  pub written : AreWritten (outputs trace) before now

-- how the name's bytes are refused as a trace, if they are
abbrev pub IsJudged : Option Files → List ℕ → Option Refusal → Type 0
IsJudged held name judged =
    Known held (λ files. refusal_of unfiltered (content files name) ≡ judged)

-- where they are, each file is as it was
abbrev pub StaysWhereRefused : Option Files → List ℕ → Outside → Outside → Type 0
StaysWhereRefused held name before now = Known held (λ files. (refusal : Refusal)
    → refusal_of unfiltered (content files name) ≡ Some refusal
    → Goes before.written now.written (λ old new. (n : List ℕ) → new n ≡ old n))

-- one of the numbers of faults rose that these names have
abbrev pub RoseAt : List (List ℕ) → (List ℕ → ℕ) → (List ℕ → ℕ) → Type 0
RoseAt [] before now = ⊥
RoseAt (n ∷ names) before now = Rose (before n) (now n) ⊎ RoseAt names before now

-- No number of faults falls. Those of reading the name rose at a fault of reading, those of
-- writing an output at a fault of writing, and else they stay.
pub record HasCopyCause (name : List ℕ) (outputs : List (List ℕ)) (before now : Outside)
    (fault : CopyFault) : Type 0 where
  pub reads : (n : List ℕ) → before.read_faults n ≤ now.read_faults n
  pub writes : (n : List ℕ) → before.write_faults n ≤ now.write_faults n
  pub read_failed : fault ≡ ReadFault → Rose (before.read_faults name) (now.read_faults name)
  pub write_failed : fault ≡ WriteFault → RoseAt outputs before.write_faults now.write_faults
  pub read_quiet : fault ≢ ReadFault → now.read_faults ≡ before.read_faults
  pub write_quiet : fault ≢ WriteFault → now.write_faults ≡ before.write_faults

-- A copy gave up. Its outputs are begun in their order, each a front of its bytes, where the trace is
-- still known, and each other file is as it was; it is known who is the cause.
pub record HasStopped (held : Option Files) (name : List ℕ) (names : List (List ℕ))
    (outputs : Trace → List Output)
    (before now : Outside) (fault : CopyFault) : Type 0 where
  pub fronts : Known held (λ files. (t : Trace) → trace_of (content files name) ≡ Some t
      → Goes before.written now.written (BegunInOrder (outputs t)))
  pub others : Goes before.written now.written
      (λ old new. (n : List ℕ) → IsNew n names → new n ≡ old n)
  pub cause : HasCopyCause name names before now fault
  pub held_stay : Narrows before.held now.held
  pub printed : now.printed ≡ before.printed
  pub print_faults : now.print_faults ≡ before.print_faults
