-- How far a copy is, in the clauses of this crate's own functions.
use Rattle.std.specs.Prelude.{None, ◌≡◌, ℕ, List, [], ◌∷◌, ◌++◌, length, Option, Some}
use Rattle.shelf.specs.Agreeing.{HasShown}
use Rattle.shelf.specs.Shelf.{Files, Given, Narrows, Outside, Known, content}
use Rattle.shelf.specs.declared.shelf.ShelfError.{ShelfError}
use Rattle.shelf.specs.declared.shelf.ShelfError.TheVariants as errors
use Rattle.shelf.specs.Files.{Output, AreCut}
use Rattle.shelf.specs.OneFile.{Waiting}
use Rattle.shelf.specs.OnTheirWay.{IsOutputs}
use Rattle.shelf.specs.Laws.Files.{output_names}
use Rattle.trace_format.specs.declared.record.TraceRecord.{TraceRecord}
use Rattle.trace_format.specs.declared.record.Version.{Version}
use Rattle.trace_format.specs.Reading.{reading_of}
use Rattle.trace_format.specs.Spelling.{nothing_before}
use Rattle.trace_format.specs.Writing.{before_behind, begun_with}
use Rattle.trace_passes.specs.declared.passes.PassFault.{PassFault}
use Rattle.trace_passes.specs.declared.passes.PassFault.TheVariants as passes
use Rattle.trace_passes.specs.declared.passes.Passed.{Passed}
use Rattle.trace_passes.specs.declared.wanted.Refusal.{Refusal}
use Rattle.trace_passes.specs.Passes.{near_refusal}
use Rattle.trace_passes.specs.Passes.{HasParts, all_records, trace_of, trace_with}
use Rattle.trace_format.specs.Splits.{HasSeen, Split, halves_of, headers_of}
use Rattle.trace_files.specs.declared.split.Splitting.{Splitting}
use Rattle.trace_files.specs.declared.copy_fault.CopyFault.{CopyFault}
use Rattle.trace_files.specs.declared.copy_fault.CopyFault.TheVariants.{Refused, Changed, ReadFault}
use Rattle.trace_files.specs.declared.copy_fault.CopyFault.TheVariants.{WriteFault, NoMemory}
use Rattle.trace_files.specs.Copies.{HasCopyCause, IsOther}

-- ---- faults

abbrev pub first_fault : PassFault → CopyFault
first_fault (passes.Refused refusal) = Refused refusal
first_fault passes.ReadFault = ReadFault
first_fault passes.NoMemory = NoMemory

abbrev pub second_fault : PassFault → CopyFault
second_fault (passes.Refused refusal) = Changed refusal
second_fault passes.ReadFault = ReadFault
second_fault passes.NoMemory = NoMemory

abbrev pub write_fault : ShelfError → CopyFault
write_fault errors.Failed = WriteFault
write_fault errors.NoMemory = NoMemory

-- ---- two halves on their way

-- the files of two halves of a trace that is cut so, with these records
abbrev pub halves_with : List ℕ → List ℕ → Version → Split
    → List TraceRecord × List TraceRecord → List Output
halves_with first second v s halves =
    record { name = first; bytes = begun_with v (headers_of s).0 halves.0 }
    ∷ record { name = second; bytes = begun_with v (headers_of s).1 halves.1 } ∷ []

-- once these records of the whole came
abbrev pub halves_so_far : List ℕ → List ℕ → Version → Split → List TraceRecord → List Output
halves_so_far first second v s seen = halves_with first second v s (halves_of s.cut seen)

-- its splitter is behind these records, and each writer behind those of its half
pub record HasSplit (s : Splitting) (seen : List TraceRecord) : Type 0 where
  pub splitter : HasSeen seen s.splitter
  pub first : s.first_writer
      ≡ record {
        version = s.version;
        before = before_behind nothing_before (halves_of s.splitter.cut seen).0;
      }
  pub second : s.second_writer
      ≡ record {
        version = s.version;
        before = before_behind nothing_before (halves_of s.splitter.cut seen).1;
      }
  pub count : length s.files ≡ 2

-- ---- two readings

-- There are bytes, the held ones where these are known, that are a trace of these parts, which
-- isn't filtered.
pub record IsAccepted (held : Option Files) (name : List ℕ) (passed : Passed) : Type 0 where
  pub bytes : List ℕ
  pub whole : Known held (λ files. bytes ≡ content files name)
  pub items : List TraceRecord
  pub is : trace_of bytes ≡ Some (trace_with passed items)
  pub plain : near_refusal None passed.header.near ≡ None

-- The reads since then are two readings of the name, one after the other. What the first gave is a
-- trace of these parts, and what the second gave is refused so beside it.
pub record HasChanged (name : List ℕ) (refusal : Refusal) (before now : List Given) : Type 0 where
  pub first : Passed
  pub between : List Given
  pub accepted : HasShown name (HasParts first) before between
  pub other : IsOther name first refusal between now

-- two readings stated the same version, header and number of accesses
pub record AreAlike (first second : Passed) : Type 0 where
  pub version : second.version ≡ first.version
  pub header : second.header ≡ first.header
  pub accesses : second.ending.accesses ≡ first.ending.accesses

-- some records came to the target, and its files are on their way since a shelf was as it was then
pub record IsUnderWay (waiting : List Waiting) (files : List TraceRecord → List Output)
    (has : List TraceRecord → Type 0)
    (now : Outside) : Type 0 where
  pub seen : List TraceRecord
  pub before : Outside
  pub came : has seen
  pub outputs : IsOutputs waiting (files seen) before now

-- All records of a trace came to the target, which the held bytes are where these are still known.
pub record IsCopied (held : Option Files) (name : List ℕ) (passed : Passed)
    (files : List TraceRecord → List Output)
    (has : List TraceRecord → Type 0) (waiting : List Waiting)
    (before now : Outside) : Type 0 where
  pub bytes : List ℕ
  pub whole : Known held (λ files. bytes ≡ content files name)
  pub items : List TraceRecord
  pub is : trace_of bytes ≡ Some (trace_with passed items)
  pub came : has (all_records (trace_with passed items))
  pub outputs : IsOutputs waiting (files (all_records (trace_with passed items))) before now

-- these are the first records that the held bytes have, where these are known
abbrev pub AreFirst : Option Files → List ℕ → List TraceRecord → Type 0
AreFirst held name seen =
    Known held (λ files. (more : List TraceRecord)
    × ((reading_of (content files name)).0 ≡ seen ++ more))

-- It gave up as these records came, and a call that reads may have failed behind the last that
-- writes.
pub record IsCutShort (held : Option Files) (name : List ℕ)
    (files : List TraceRecord → List Output) (before now : Outside)
    (fault : CopyFault) : Type 0 where
  pub seen : List TraceRecord
  pub first : AreFirst held name seen
  pub last : Outside
  pub error : ShelfError
  pub cut : AreCut (files seen) before last error
  pub written : now.written ≡ last.written
  pub cause : HasCopyCause name (output_names (files seen)) before now fault
  pub held_stay : Narrows before.held now.held
  pub printed : now.printed ≡ before.printed
  pub print_faults : now.print_faults ≡ before.print_faults
