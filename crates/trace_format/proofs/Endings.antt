-- An end is given exactly where the bytes so far are a trace, and else their first fault.
use Rattle.std.proofs.Common.{◌≡◌, ℕ, List, Ok, Err, sym, ap, ◌∙◌}
use Rattle.trace_format.specs.declared.record.TraceEnd.{TraceEnd}
use Rattle.trace_format.specs.declared.fault.TraceFault.{TraceFault}
use Rattle.trace_format.specs.declared.record.TraceRecord.{TraceRecord}
use Rattle.trace_format.specs.Faults.{HasFault}
use Rattle.trace_format.specs.Found.{IsTraceOf}
use Rattle.trace_format.specs.Reading.{Reading, ending_of, reading_of}
use Rattle.trace_format.specs.Laws.Traces.{trace_again}
use Rattle.trace_format.specs.ReaderStates.{HasRead, ReadsFault, ReadsTrace}

module _ (now : Reading) (bytes : List ℕ) (first items : List TraceRecord) (e : TraceEnd)
    (has : HasRead bytes first now items) where
  pub end_is_of_trace : (ending_of (reading_of bytes).1 ≡ Ok e
      → IsTraceOf bytes (reading_of bytes).0 e) → ending_of now ≡ Ok e
      → ReadsTrace bytes first items e
  end_is_of_trace law ends =
      record {
        records = (reading_of bytes).0;
        behind = has.records;
        trace =
            law (ap ending_of (sym has.reading) ∙ ends);
      }

  pub trace_has_end : ReadsTrace bytes first items e → ending_of now ≡ Ok e
  trace_has_end reads =
      let t = reads.trace in
      ap ending_of has.reading ∙ (trace_again bytes t.version t.header t.items e t.trace).1

pub fault_is_of_bytes : (now : Reading) (bytes : List ℕ) (first items : List TraceRecord)
    → HasRead bytes first now items → (f : TraceFault)
    → (ending_of (reading_of bytes).1 ≡ Err f → HasFault bytes (reading_of bytes).0 f)
    → ending_of now ≡ Err f → ReadsFault bytes first items f
fault_is_of_bytes now bytes first items has f law ends =
    record {
      records = (reading_of bytes).0;
      behind = has.records;
      fault = law (ap ending_of (sym has.reading) ∙ ends);
    }
