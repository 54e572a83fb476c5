-- Which bytes are copied: those that are a trace, whatever its header says.
use Rattle.std.proofs.Common.{◌≡◌, List, ℕ, Option, Some, None, Result, Ok, Err, refl, sym, ◌∙◌}
use Rattle.std.proofs.Common.{eqb, eqb-true, cond, Bool, true, false, leb, ap, ◌^◌, arith}
use Rattle.trace_format.specs.declared.record.TraceEnd.{TraceEnd}
use Rattle.trace_format.specs.declared.fault.TraceFault.{TraceFault}
use Rattle.trace_format.specs.declared.read_so_far.ReadSoFar.{ReadSoFar}
use Rattle.trace_format.specs.declared.record.Header.{Header}
use Rattle.trace_format.specs.declared.record.TraceRecord.{TraceRecord}
use Rattle.trace_format.specs.Reading.{ending_of, reading_of}
use Rattle.trace_passes.specs.Passes.{Trace, head_of, header_refusal, refusal_of, trace_at}
use Rattle.trace_passes.specs.Passes.{lines_refusal, near_refusal, trace_of, trace_refusal}
use Rattle.trace_passes.specs.declared.wanted.Refusal.{Refusal}
use Rattle.trace_passes.specs.declared.wanted.Refusal.TheVariants as refusals
use Rattle.std.specs.Option.{option_or}
use Rattle.std.specs.Prelude.{option_map}
use Rattle.std.proofs.lemmas.Bool.Decides.{nat_tests}
use Rattle.trace_passes.specs.Laws.Passes.{accepted_at_end, refusal_at_end, trace-ending}
use Rattle.trace_passes.specs.Laws.Passes.{IsTaken, not_refused, whole_at_end}
use Rattle.trace_files.specs.Copies.{any, unfiltered}

near_any : (near : ℕ) (is : Bool) → cond is None (lines_refusal (Some 0) near) ≡ None
near_any near true = refl
near_any near false =
    let fits : leb 0 (2 ^ near) ≡ true = grind (arith, nat_tests) in
    rw fits refl

pub any_header : (h : Option Header) → header_refusal any h ≡ None
any_header None = refl
any_header (Some h) = ap (λ (o : Option Refusal). option_or o None)
    (near_any h.near (eqb h.near 0))

-- a trace is not refused
pub trace_unrefused : (bytes : List ℕ) (t : Trace) → trace_of bytes ≡ Some t
    → refusal_of any bytes ≡ None
trace_unrefused bytes t is =
    accepted_at_end any bytes t.ending refl (any_header (head_of (reading_of bytes).1.progress))
    (trace-ending bytes t is)

found_at : (all : List TraceRecord) (p : Option ReadSoFar) (r : Result TraceEnd TraceFault)
    → trace_refusal r ≡ None
    → ((e : TraceEnd) → r ≡ Ok e → (now : ReadSoFar) × (p ≡ Some now))
    → (t : Trace) × (trace_at all p r ≡ Some t)
found_at all (Some p) (Ok e) none known = (_, refl)
found_at all None (Ok e) none known =
    let so = known e refl in
    let no : None ≡ Some so.0 = so.1 in
    absurd cc
found_at all p (Err fault) none known = absurd cc

-- and what is not refused is one
pub trace_found : (bytes : List ℕ) → refusal_of any bytes ≡ None
    → (t : Trace) × (trace_of bytes ≡ Some t)
trace_found bytes none =
    let now = reading_of bytes in
    found_at now.0 now.1.progress (ending_of now.1)
    (sym (refusal_at_end any bytes refl (any_header (head_of now.1.progress))) ∙ none)
    (λ e is. let whole = whole_at_end bytes e is in (whole.now, whole.known))

-- ---- what isn't filtered

head_at : (all : List TraceRecord) (p : Option ReadSoFar) (r : Result TraceEnd TraceFault)
    (t : Trace) → trace_at all p r ≡ Some t → head_of p ≡ Some t.header
head_at all (Some p) (Ok e) t is = ap (option_map (λ (x : Trace). x.header)) is
head_at all None (Ok e) t is = absurd cc
head_at all p (Err fault) t is = absurd cc

zero_if : (near : ℕ) (is : Bool) → eqb near 0 ≡ is
    → cond is None (Some refusals.Filtered) ≡ None → near ≡ 0
zero_if near true is e = eqb-true near 0 is
zero_if near false is e = absurd cc

-- it has no regions
pub plain_zero : (near : ℕ) → near_refusal None near ≡ None → near ≡ 0
plain_zero near e = zero_if near (eqb near 0) refl e

-- a trace that isn't filtered is not refused
pub plain_unrefused : (bytes : List ℕ) (t : Trace) → trace_of bytes ≡ Some t
    → near_refusal None t.header.near ≡ None → refusal_of unfiltered bytes ≡ None
plain_unrefused bytes t is plain =
    let now = reading_of bytes in
    accepted_at_end unfiltered bytes t.ending refl
    (ap (header_refusal unfiltered) (head_at now.0 now.1.progress (ending_of now.1) t is)
    ∙ ap (λ (o : Option Refusal). option_or o None) plain) (trace-ending bytes t is)

-- and what is not refused is such a trace
pub plain_found : (bytes : List ℕ) → refusal_of unfiltered bytes ≡ None → IsTaken unfiltered bytes
plain_found bytes none = not_refused unfiltered bytes none
