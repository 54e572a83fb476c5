-- A trace with pcs that isn't filtered isn't refused, and its whole filtered trace is written of it.
use Rattle.std.proofs.Common.{◌≡◌, ℕ, List, Option, Some, None, true, refl, sym, ap, ◌∙◌, subst}
use Rattle.trace_format.specs.declared.read_so_far.ReadSoFar.{ReadSoFar}
use Rattle.trace_format.specs.declared.record.Header.{Header}
use Rattle.trace_format.specs.declared.record.Version.{Version}
use Rattle.trace_format.specs.declared.record.Version.TheVariants.{Three}
use Rattle.trace_format.specs.Laws.Counts.{counted_so_far}
use Rattle.trace_format.specs.Laws.Magic.{has_version}
use Rattle.trace_format.specs.Reading.{reading_of}
use Rattle.trace_format.specs.Rules.{HasRegions}
use Rattle.trace_passes.specs.declared.wanted.Refusal.{Refusal}
use Rattle.trace_passes.specs.Cursors.{version_and_header}
use Rattle.trace_passes.specs.Laws.Passes.{not_refused}
use Rattle.trace_passes.specs.Passes.{Trace, head_of, header_refusal, near_refusal, refusal_of}
use Rattle.trace_passes.specs.Passes.{trace_of, version_refusal}
use Rattle.std.specs.Option.{option_or}
use Rattle.trace_files.specs.Laws.Copies.{trace_unrefused}
use Rattle.trace_filter.specs.FilterPass.{begun_for, filtering, sited, so_far, written_of}
use Rattle.trace_filter.proofs.Sited.{IsSited, head_version, is_three, not_early, same_refusal}
use Rattle.trace_filter.proofs.Stopping.{file_of_whole, head_of_trace}

-- the header of a trace without regions isn't refused
no_regions : (h : Header) → h.near ≡ 0 → header_refusal sited (Some h) ≡ None
no_regions h none = ap (λ n. option_or (near_refusal None n) None) none

-- neither the version nor the header is refused
is_accepted : (bytes : List ℕ) (t : Trace) → trace_of bytes ≡ Some t → t.version ≡ Three
    → IsSited bytes
is_accepted bytes t is three =
    let head = head_of_trace bytes t is in
    let p = head_version (reading_of bytes).1.progress (t.version, t.header) head in
    let now = p.0 in
    let version : now.version ≡ Three = p.2 ∙ three in
    let regions : now.header.near ≡ 0 =
    subst (λ (v : Version). HasRegions v now.header) version
    (counted_so_far bytes now p.1).regions in
    record {
      pcs = ap (version_refusal true) ((has_version bytes now p.1).version
          ∙ ap (λ (v : Version). Some v) version);
      header = ap (λ (q : Option ReadSoFar). header_refusal sited (head_of q)) p.1
          ∙ no_regions now.header regions;
    }

pub accepts : (bytes : List ℕ) (t : Trace) → trace_of bytes ≡ Some t → t.version ≡ Three
    → refusal_of sited bytes ≡ None
accepts bytes t is three =
    sym (same_refusal bytes (is_accepted bytes t is three)) ∙ trace_unrefused bytes t is

pub found : (bytes : List ℕ) → refusal_of sited bytes ≡ None
    → (t : Trace) × (trace_of bytes ≡ Some t) × (t.version ≡ Three)
found bytes none =
    let taken = not_refused sited bytes none in (
      taken.trace,
      taken.is,
      is_three taken.trace.version (taken.sited refl) (taken.unfiltered refl),
    )

pub whole : (k : ℕ) (file bytes : List ℕ) (t : Trace) → trace_of bytes ≡ Some t
    → t.version ≡ Three → written_of k file bytes ≡ filtering k file t
whole k file bytes t is three =
    let now = reading_of bytes in
    ap (λ (o : Option Refusal). so_far k file (begun_for o (version_and_header now.1.progress)) now.0)
    (not_early bytes (is_accepted bytes t is three))
    ∙ file_of_whole k file bytes t is
