-- Which file one pass over a trace writes that filters it, and what stands where it gives up.
use Rattle.std.specs.Prelude.{◌≡◌, ◌≢◌, ◌++◌, ℕ, ◌<◌, ◌≤◌, ◌^◌, List, [], length, Option, Some, None}
use Rattle.std.specs.Prelude.{Bool, true, false}
use Rattle.std.specs.Option.{IfSome, option_or}
use Rattle.sharing_rules.specs.Filtered.{filtered}
use Rattle.shelf.specs.declared.shelf.ShelfError.{ShelfError}
use Rattle.shelf.specs.declared.shelf.ShelfError.TheVariants as errors
use Rattle.shelf.specs.Files.{AreCut, AreWritten, BegunInOrder, Output, one_file}
use Rattle.shelf.specs.Shelf.{Files, Goes, HasRead, Narrows, Outside, Rose, Known, content}
use Rattle.trace_format.specs.declared.fault.TraceFault.TheVariants as trace_faults
use Rattle.trace_format.specs.declared.record.Header.{Header}
use Rattle.trace_format.specs.declared.record.TraceRecord.{TraceRecord}
use Rattle.trace_format.specs.declared.record.Version.{Version}
use Rattle.trace_format.specs.declared.record.Version.TheVariants.{Three}
use Rattle.trace_format.specs.Reading.{reading_of}
use Rattle.trace_format.specs.Rules.{IsGoodHeader, touches_in}
use Rattle.trace_passes.specs.declared.wanted.Refusal.{Refusal}
use Rattle.trace_passes.specs.declared.wanted.Refusal.TheVariants as refusals
use Rattle.trace_passes.specs.declared.wanted.Wanted.{Wanted}
use Rattle.trace_passes.specs.Cursors.{version_and_header}
use Rattle.trace_passes.specs.Passes.{Trace, head_of, header_refusal, pcs_refusal, refusal_of}
use Rattle.trace_passes.specs.Passes.{spell_trace}
use Rattle.trace_files.specs.Copies.{any}
use Rattle.trace_files.specs.Movers.{Follows}
use Rattle.trace_filter.specs.declared.filter_fault.FilterFault.{FilterFault}
use Rattle.trace_filter.specs.declared.filter_fault.FilterFault.TheVariants.{NoMemory, ReadFault}
use Rattle.trace_filter.specs.declared.filter_fault.FilterFault.TheVariants.{Refused, WriteFault}
use Rattle.trace_filter.specs.declared.filter_file.FilterFile.{FilterFile}
use Rattle.trace_filter.specs.declared.filter_pass.Filtered.{Filtered as FilteredCounts}
use Rattle.trace_filter.specs.Files.{IsUnderWay, filtered_so_far}
use Rattle.trace_filter.specs.Filtering.{filtered_trace}

-- ---- any bytes

-- what is wanted: a trace with pcs that isn't filtered
abbrev pub sited : Wanted
sited = record any { pcs = true; lines = None }

-- how bytes are refused before any record of theirs is looked at
abbrev pub early_refusal : List ℕ → Option Refusal
early_refusal bytes =
    option_or (pcs_refusal sited bytes)
    (header_refusal sited (head_of (reading_of bytes).1.progress))

-- the header that a file is begun for: one that is accepted, and not refused
abbrev pub begun_for : Option Refusal → Option (Version × Header) → Option (Version × Header)
begun_for None head = head
begun_for (Some refusal) head = None

-- the file of a name as far as it is written: none before a header is accepted; then the filtered
-- header, and what stays of these records
abbrev pub so_far : ℕ → List ℕ → Option (Version × Header) → List TraceRecord → List Output
so_far k name None seen = []
so_far k name (Some head) seen = filtered_so_far k name head.1 seen

-- What is written of bytes: their header, unless they are refused early, and what stays of the
-- records that are read.
abbrev pub written_of : ℕ → List ℕ → List ℕ → List Output
written_of k name bytes =
    let now = reading_of bytes in
    so_far k name (begun_for (early_refusal bytes) (version_and_header now.1.progress)) now.0

-- ---- what the call says

-- the file of a whole trace
abbrev pub filtering : ℕ → List ℕ → Trace → List Output
filtering k name t = one_file name (spell_trace (filtered_trace k t))

-- the trace has pcs and isn't filtered, and so many accesses it has, and are kept
pub record IsFilteredTrace (k : ℕ) (made : FilteredCounts) (t : Trace) : Type 0 where
  pub version : t.version ≡ Three
  pub whole : made.whole ≡ length (touches_in t.items)
  pub kept : made.kept ≡ length (filtered k (touches_in t.items))

-- No number of faults falls. Those of reading the trace rose at a fault of reading, those of writing
-- the file at a fault of writing, and else they stay.
pub record HasFilterCause (name file : List ℕ) (before now : Outside) (fault : FilterFault) : Type 0
  where
    pub reads : (n : List ℕ) → before.read_faults n ≤ now.read_faults n
    pub writes : (n : List ℕ) → before.write_faults n ≤ now.write_faults n
    pub read_failed : fault ≡ ReadFault → Rose (before.read_faults name) (now.read_faults name)
    pub write_failed : fault ≡ WriteFault → Rose (before.write_faults file) (now.write_faults file)
    pub read_quiet : fault ≢ ReadFault → now.read_faults ≡ before.read_faults
    pub write_quiet : fault ≢ WriteFault → now.write_faults ≡ before.write_faults

-- The bytes are refused so, and all is written that is written of them; they are the held ones of
-- the name, where these are known.
pub record IsRefused (held : Option Files) (name file : List ℕ) (k : ℕ) (before now : Outside)
    (refusal : Refusal) : Type 0 where
  pub bytes : List ℕ
  pub whole : Known held (λ files. bytes ≡ content files name)
  pub refused : refusal_of sited bytes ≡ Some refusal
  pub written : AreWritten (written_of k file bytes) before now

-- It gave up. The file is a front of what is written of the bytes, where these are known, and each
-- other file is as it was; it is known who is the cause. Where the trace is refused, the file is
-- all that is written of it.
pub record HasGivenUp (held : Option Files) (name file : List ℕ) (k : ℕ) (before now : Outside)
    (fault : FilterFault) : Type 0 where
  pub fronts : Known held (λ files. Goes before.written now.written
      (BegunInOrder (written_of k file (content files name))))
  pub others : Goes before.written now.written
      (λ old new. (n : List ℕ) → n ≢ file → new n ≡ old n)
  pub cause : HasFilterCause name file before now fault
  pub held_stay : Narrows before.held now.held
  pub printed : now.printed ≡ before.printed
  pub print_faults : now.print_faults ≡ before.print_faults
  pub refused : (refusal : Refusal) → fault ≡ Refused refusal
      → IsRefused held name file k before now refusal
  pub memory : fault ≢ Refused (refusals.Trace trace_faults.NoMemory)

-- ---- on the way

-- what is wanted next: nothing more of a header once the file is begun for it
abbrev pub wanted_next : Option FilterFile → Wanted
wanted_next None = sited
wanted_next (Some file) = any

-- These records came, and the file is begun where the header is known.
abbrev pub IsOnItsWay : ℕ → List ℕ → Option FilterFile → Option (Version × Header)
    → List TraceRecord → Outside → Outside → Type 0
IsOnItsWay k name None None seen before now = HasRead before now
IsOnItsWay k name None (Some head) seen before now = ⊥
IsOnItsWay k name (Some file) None seen before now = ⊥
IsOnItsWay k name (Some file) (Some head) seen before now =
    IsUnderWay k name head.1 file seen before now

-- it is no trace
abbrev pub is_fault : Refusal → Bool
is_fault (refusals.Trace fault) = true
is_fault _ = false

-- some records came, and more may come once their header is known
pub record MayTake (k : ℕ) (name : List ℕ) (file : Option FilterFile)
    (head : Option (Version × Header)) (more : List TraceRecord) (now : Outside) : Type 0 where
  pub known : Option (Version × Header)
  pub seen : List TraceRecord
  pub before : Outside
  pub way : IsOnItsWay k name file known seen before now
  pub follows : Follows known seen head more
  pub room : length (touches_in (seen ++ more)) < 2 ^ 63
  pub good : IfSome head (λ h. IsGoodHeader h.1)

-- the file was cut as the first of these records came
pub record IsCutAt (k : ℕ) (name : List ℕ) (head : Option (Version × Header))
    (all : List TraceRecord) (before now : Outside) (error : ShelfError) : Type 0 where
  pub put : List TraceRecord
  pub more : List TraceRecord
  pub first : all ≡ put ++ more
  pub cut : AreCut (so_far k name head put) before now error

abbrev pub write_fault : ShelfError → FilterFault
write_fault errors.Failed = WriteFault
write_fault errors.NoMemory = NoMemory
