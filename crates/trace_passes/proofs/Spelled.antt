-- A trace that was found in bytes is the one that they are.
use Rattle.std.proofs.Common.{◌≡◌, ℕ, List, Some, subst}
use Rattle.trace_format.specs.Found.{IsTraceOf}
use Rattle.trace_format.specs.Reading.{reading_of}
use Rattle.trace_format.specs.Rules.{IsTrace}
use Rattle.trace_passes.specs.Passes.{Trace, trace_of}
use Rattle.trace_passes.specs.Laws.Spelled.{trace-spelled}

pub spelled_as : (bytes : List ℕ) (t : Trace) → IsTraceOf bytes (reading_of bytes).0 t.ending
    → trace_of bytes ≡ Some t
    → IsTrace bytes t.version t.header t.items t.ending
spelled_as bytes t found is =
    let made : Trace = record {
      version = found.version;
      header = found.header;
      items = found.items;
      ending = t.ending;
    } in
    let there : trace_of bytes ≡ Some made = trace-spelled bytes found.version found.header
    found.items t.ending found.trace in
    let same : made ≡ t = cc in
    subst (λ (x : Trace). IsTrace bytes x.version x.header x.items x.ending) same found.trace
