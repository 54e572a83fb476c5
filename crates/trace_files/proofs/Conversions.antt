-- A conversion on its way to the file that it would be.
use Rattle.std.proofs.Common.{None, ◌≡◌, ℕ, List, [], ◌∷◌, ◌++◌, length, Option, Some, refl, sym, ap, ◌∙◌}
use Rattle.std.proofs.Common.{subst}
use Rattle.shelf.specs.Shelf.{Files, Narrows, Outside, Known, content}
use Rattle.shelf.specs.declared.shelf.ShelfError.{ShelfError}
use Rattle.shelf.specs.Files.{AreCut, AreWritten, GoOn, Output}
use Rattle.shelf.specs.OneFile.{Waiting}
use Rattle.shelf.specs.Laws.Known.{known_both, known_still}
use Rattle.trace_format.specs.declared.record.Version.{Version}
use Rattle.trace_format.specs.declared.record.TraceRecord.{TraceRecord}
use Rattle.trace_format.specs.Rules.{touches_in}
use Rattle.trace_format.specs.Laws.Writing.{begun-all, begun_on}
use Rattle.trace_passes.specs.declared.passes.Passed.{Passed}
use Rattle.trace_format.specs.declared.record.Header.{Header}
use Rattle.trace_passes.specs.Passes.{near_refusal, Trace, all_records, trace_of, trace_with}
use Rattle.trace_passes.specs.Laws.Passes.{trace-parts, trace-records}
use Rattle.trace_files.specs.declared.copy_fault.CopyFault.{CopyFault}
use Rattle.trace_files.specs.Copies.{IsUnfiltered, HasCopied, HasStopped, conversion, other_version}
use Rattle.trace_files.specs.Copying.{AreAlike, AreFirst, IsAccepted, IsCopied, IsCutShort}
use Rattle.trace_files.specs.Copying.{write_fault}
use Rattle.trace_files.specs.OneTrace.{trace_so_far}
use Rattle.trace_files.proofs.Again.{stopped_reading, stopped_writing}
use Rattle.trace_files.proofs.Others.{spelled_other}
use Rattle.trace_files.proofs.Stopped.{first_all, known_parts}

module _ (held : Option Files) (name output : List ℕ) (first : Passed)
    (accepted : IsAccepted held name first) where
  abbrev pub so_far : List TraceRecord → List Output
  so_far seen = trace_so_far output (other_version first.version) first.header seen

  goes_on : (t : Trace) (items seen more : List TraceRecord) → t ≡ trace_with first items
      → all_records t ≡ seen ++ more
      → GoOn (so_far seen) (conversion output t)
  goes_on t items seen more is all =
      let on = begun_on (other_version t.version) t.header t.items seen more t.ending all in
      subst (λ (x : Passed). GoOn (trace_so_far output (other_version x.version) x.header seen)
      (conversion output t))
      (λ i. record { version = (is i).version; header = (is i).header; ending = (is i).ending })
      (refl, (on.0, spelled_other t.version t.header t.items t.ending ∙ on.1), tt)

  pub goes : (seen : List TraceRecord) → AreFirst held name seen
      → Known held (λ fs. (t : Trace) → trace_of (content fs name) ≡ Some t
      → GoOn (so_far seen) (conversion output t))
  goes seen are =
      known_both held (λ fs parts more t is.
      let same = parts t is in
      goes_on t same.0 seen more.0 same.1 (sym (trace-records (content fs name) t is) ∙ more.1))
      (known_parts held name first accepted) are

  -- once all records of a trace came, the file is that of the trace
  whole : (second : Passed) (items : List TraceRecord) → AreAlike first second
      → so_far (all_records (trace_with second items)) ≡ conversion output (trace_with second items)
  whole second items alike =
      (λ i. trace_so_far output (other_version (sym alike.version i)) (sym alike.header i)
      (all_records (trace_with second items)))
      ∙ ap (λ (l : List ℕ). let o : List Output = record { name = output; bytes = l } ∷ [] in o)
      (begun-all (other_version second.version) second.header items second.ending
      ∙ sym (spelled_other second.version second.header items second.ending))

  -- within a call that writes, once these records came
  pub stopped_put : (seen : List TraceRecord) → AreFirst held name seen
      → (before now : Outside) (error : ShelfError)
      → AreCut (so_far seen) before now error → HasStopped held name (output ∷ [])
      (conversion output) before now (write_fault error)
  stopped_put = stopped_writing held name (output ∷ []) (conversion output) so_far
      (λ seen. refl) goes

  -- what the second reading says of its target
  module _ (v : Version) (is : v ≡ other_version first.version)
      (files : List TraceRecord → List Output)
      (named : files ≡ trace_so_far output v first.header) (before : Outside)
    where
      so_named : files ≡ so_far
      so_named = named ∙ (λ i seen. trace_so_far output (is i) first.header seen)

      pub stopped_again : (now : Outside) (fault : CopyFault)
          → IsCutShort held name files before now fault
          → HasStopped held name (output ∷ []) (conversion output) before now fault
      stopped_again =
          stopped_reading held name (output ∷ []) (conversion output) so_far
          (λ seen. refl) goes files so_named before

      -- once it is done
      module _ (second : Passed) (alike : AreAlike first second) (has : List TraceRecord → Type 0)
          (waiting : List Waiting)
          (mid : Outside) (narrow : Narrows mid.held held)
          (copied : IsCopied mid.held name second files has waiting before mid) (now : Outside)
        where
          abbrev trace : Trace
          trace = trace_with second copied.items

          stated : Known held (λ fs. copied.bytes ≡ content fs name)
          stated = known_still (λ fs. copied.bytes ≡ content fs name) mid.held held narrow
              copied.whole

          pub copied_whole : AreWritten (files (all_records trace)) before now
              → HasCopied held name (conversion output)
              (λ t. (v ≡ other_version t.version)
              × (second.ending.accesses ≡ length (touches_in t.items)) × IsUnfiltered t) before now
          copied_whole written = record {
            bytes = copied.bytes;
            whole = stated;
            trace = trace;
            is = copied.is;
            stated = (
              is ∙ ap other_version (sym alike.version),
              (trace-parts copied.bytes trace copied.is).counted,
              ap (λ (h : Header). near_refusal None h.near) alike.header ∙ accepted.plain,
            );
            written = subst (λ (l : List Output). AreWritten l before now)
                (ap (λ (f : List TraceRecord → List Output). f (all_records trace)) so_named
                ∙ whole second copied.items alike) written;
          }

          -- what waits could not be written
          pub stopped_ending : (error : ShelfError)
              → AreCut (files (all_records trace)) before now error
              → HasStopped held name (output ∷ []) (conversion output) before now
              (write_fault error)
          stopped_ending error cut =
              stopped_put (all_records trace)
              (first_all held name copied.bytes trace stated copied.is) before now error
              (subst (λ (f : List TraceRecord → List Output). AreCut (f (all_records trace)) before
              now error) so_named cut)
