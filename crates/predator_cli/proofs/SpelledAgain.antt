-- The trace that a run wrote is read again as it was.
use Rattle.std.proofs.Common.{◌≡◌, ℕ, Option, Some, None, Result, refl, ap, ◌∙◌}
use Rattle.std.specs.Option.{option_or}
use Rattle.trace_format.specs.declared.record.TraceEnd.{TraceEnd}
use Rattle.trace_format.specs.declared.fault.TraceFault.{TraceFault}
use Rattle.trace_format.specs.declared.read_so_far.ReadSoFar.{ReadSoFar}
use Rattle.trace_format.specs.Reading.{ending_of, reading_of}
use Rattle.trace_format.specs.Rules.{IsTrace}
use Rattle.trace_format.specs.Laws.Traces.{head_again, trace_again}
use Rattle.trace_passes.specs.Passes.{Trace, first_refusal, head_of, header_refusal, near_refusal}
use Rattle.trace_passes.specs.Passes.{refusal_of}
use Rattle.trace_passes.specs.Passes.{spell_trace, trace_of, trace_refusal}
use Rattle.trace_passes.specs.Laws.Spelled.{trace-spelled}
use Rattle.trace_passes.specs.declared.wanted.Wanted.{Wanted}
use Rattle.run_recorder.specs.Recorded.{IsKept}
use Rattle.predator_cli.specs.Replay.{whole}

is_spelled : (t : Trace) → IsKept t → IsTrace (spell_trace t) t.version t.header t.items t.ending
is_spelled t good = record { good = good; spelled = refl }

-- it is that trace,
pub spelled_again : (t : Trace) → IsKept t → trace_of (spell_trace t) ≡ Some t
spelled_again t good = trace-spelled (spell_trace t) t.version t.header t.items t.ending
    (is_spelled t good)

first_wanted : (lines : Option ℕ) (near first : ℕ) → near ≡ 0 → first ≡ 0
    → option_or (option_or (near_refusal lines near)
    (option_or None (first_refusal (Some 0) first))) None ≡ None
first_wanted lines near first plain is = rw (plain, is) refl

-- and a whole one, if it begins at position 0, whichever filtered traces are taken beside it
pub spelled_wanted : (lines : Option ℕ) (t : Trace) → IsKept t → t.header.near ≡ 0
    → t.header.first ≡ 0
    → refusal_of (record whole { lines = lines }) (spell_trace t) ≡ None
spelled_wanted lines t good plain first =
    let wanted : Wanted = record whole { lines = lines } in
    let is = is_spelled t good in
    let read = trace_again (spell_trace t) t.version t.header t.items t.ending is in
    let head = head_again (spell_trace t) t.version t.header t.items t.ending is in
    let begins : head.0.header.first ≡ 0 = ap (λ h. h.first) head.3 ∙ first in
    let now = (reading_of (spell_trace t)).1 in
    ap (λ (p : Option ReadSoFar). option_or (header_refusal wanted (head_of p))
    (trace_refusal (ending_of now))) head.1
    ∙ ap (λ (r : Result TraceEnd TraceFault). option_or (header_refusal wanted (Some head.0.header))
    (trace_refusal r)) read.1
    ∙ first_wanted lines head.0.header.near head.0.header.first (ap (λ h. h.near) head.3 ∙ plain) begins
