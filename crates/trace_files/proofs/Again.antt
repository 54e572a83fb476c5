-- What is left of a copy, by what its second reading says.
use Rattle.std.proofs.Common.{◌≡◌, ℕ, List, [], Option, Some, sym, subst}
use Rattle.shelf.specs.Shelf.{Files, Outside, Known, content}
use Rattle.shelf.specs.declared.shelf.ShelfError.{ShelfError}
use Rattle.shelf.specs.Files.{AreCut, GoOn, Output}
use Rattle.shelf.specs.OneFile.{Waiting}
use Rattle.shelf.specs.OnTheirWay.{IsOutputs}
use Rattle.shelf.specs.Laws.Files.{output_names}
use Rattle.trace_format.specs.declared.record.TraceRecord.{TraceRecord}
use Rattle.trace_passes.specs.Passes.{Trace, trace_of}
use Rattle.trace_files.specs.declared.copy_fault.CopyFault.{CopyFault}
use Rattle.trace_files.specs.Copies.{HasStopped}
use Rattle.trace_files.specs.Copying.{AreFirst, IsCutShort, write_fault}
use Rattle.trace_files.proofs.Readings.{short_write}
use Rattle.trace_files.proofs.Stopped.{stopped}

module _ (held : Option Files) (name : List ℕ) (names : List (List ℕ))
    (outputs : Trace → List Output)
    (so_far : List TraceRecord → List Output)
    (named : (seen : List TraceRecord) → output_names (so_far seen) ≡ names)
    (goes : (seen : List TraceRecord) → AreFirst held name seen
    → Known held (λ fs. (t : Trace) → trace_of (content fs name) ≡ Some t
    → GoOn (so_far seen) (outputs t)))
  where
    -- within a call that writes, once these records came
    pub stopped_writing : (seen : List TraceRecord) → AreFirst held name seen
        → (before now : Outside) (error : ShelfError)
        → AreCut (so_far seen) before now error → HasStopped held name names outputs before now
        (write_fault error)
    stopped_writing seen are before now error cut =
        stopped held name names outputs so_far before now (write_fault error) named goes
        (short_write held name so_far seen before now error are cut)

    -- within the second reading
    pub stopped_reading : (files : List TraceRecord → List Output) → files ≡ so_far
        → (before now : Outside) (fault : CopyFault) → IsCutShort held name files before now fault
        → HasStopped held name names outputs before now fault
    stopped_reading files is before now fault short =
        stopped held name names outputs so_far before now fault named goes
        (subst (λ (f : List TraceRecord → List Output). IsCutShort held name f before now fault) is
        short)

-- the files that the target was begun with
pub begun_as : {so_far files : List TraceRecord → List Output} {waiting : List Waiting}
    {before now : Outside} → files ≡ so_far
    → IsOutputs waiting (so_far []) before now → IsOutputs waiting (files []) before now
begun_as {waiting = waiting} {before = before} {now = now} is on =
    subst (λ (f : List TraceRecord → List Output). IsOutputs waiting (f []) before now) (sym is) on
