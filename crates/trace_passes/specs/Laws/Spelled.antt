-- What good parts spell is the trace of those parts.
use Rattle.std.proofs.Common.{◌≡◌, ℕ, List, [], ◌++◌, length, take, drop, Option, Some, None, Ok}
use Rattle.std.proofs.Common.{refl, sym, ap, subst, ◌∙◌, arith}
use Rattle.std.proofs.lemmas.List.{drop_all, take_all}
use Rattle.trace_format.specs.declared.record.TraceEnd.{TraceEnd}
use Rattle.trace_format.specs.declared.record.Header.{Header}
use Rattle.trace_format.specs.declared.record.Version.{Version}
use Rattle.trace_format.specs.declared.record.Version.TheVariants.{One, Two, Three, Four}
use Rattle.trace_format.specs.declared.record.TraceRecord.{TraceRecord}
use Rattle.trace_format.specs.declared.read_so_far.ReadSoFar.{ReadSoFar}
use Rattle.trace_format.specs.Judging.{begun, header_judged}
use Rattle.trace_format.specs.Reading.{Reading, begin, header_read, read_on, reading_of}
use Rattle.trace_format.specs.Laws.Reading.{part_then, then_read}
use Rattle.trace_format.specs.Laws.Extents.{fronts_wait_at}
use Rattle.trace_format.specs.Laws.Again.{header_again}
use Rattle.trace_format.specs.Laws.Traces.{trace_again}
use Rattle.trace_format.specs.Rules.{IsTrace}
use Rattle.trace_format.specs.Spelling.{nothing_before, spell, spell_ending, spell_header}
use Rattle.trace_format.specs.Spelling.{spell_records}
use Rattle.trace_passes.specs.Passes.{trace_of}
use Rattle.trace_passes.specs.Laws.Passes.{HeadStays, before_last-is, head_of_front, trace_there}
use Rattle.trace_passes.specs.Laws.Passes.{whole_at_end}

twenty : (v : Version) (h : Header) → length (spell_header v h) ≡ 20
unfolding spell_header
twenty One h = refl
twenty Two h = refl
twenty Three h = refl
twenty Four h = refl

-- bytes of a header alone
header_alone : (bytes : List ℕ) (p : ReadSoFar) → length bytes ≡ 20 → header_judged bytes ≡ Ok p
    → (reading_of bytes).1.progress ≡ Some p
unfolding read_on
header_alone bytes p len judged =
    let first = part_then None None bytes (fronts_wait_at None None bytes) 20 refl (omega arith)
    (omega arith) (omega arith) in
    let all : take 20 bytes ≡ bytes = take_all 20 bytes (omega arith) in
    let none : drop 20 bytes ≡ [] = drop_all 20 bytes (omega arith) in
    ap (λ (x : List TraceRecord × Reading). x.1.progress) (first
    ∙ ap (λ (xs : List ℕ). then_read (header_read begin (header_judged xs)) (drop 20 bytes)) all
    ∙ ap (λ (xs : List ℕ). then_read (header_read begin (header_judged bytes)) xs) none)
    ∙ rw judged refl

same_head : (p : ReadSoFar) (now : Option ReadSoFar) (stated : ReadSoFar) → HeadStays (Some p) now
    → now ≡ Some stated
    → (stated.version ≡ p.version) × (stated.header ≡ p.header)
same_head p None stated stays is = absurd cc
same_head p (Some q) stated stays is =
    let same : q ≡ stated = cc in
    let version = stays.0 in
    let header = stays.1 in
    subst (λ (x : ReadSoFar). (x.version ≡ p.version) × (x.header ≡ p.header)) same (cc, cc)

-- The bytes of a good trace are a trace of its parts.
pub trace-spelled : (bytes : List ℕ) (v : Version) (h : Header) (items : List TraceRecord)
    (e : TraceEnd) → IsTrace bytes v h items e
    → trace_of bytes ≡ Some (record { version = v; header = h; items = items; ending = e })
unfolding spell
trace-spelled bytes v h items e is =
    let again = trace_again bytes v h items e is in
    let whole = whole_at_end bytes e again.1 in
    let front = spell_header v h in
    let later = spell_records v nothing_before items ++ spell_ending v e in
    let begins = header_alone front (begun v h) (twenty v h)
    (header_again v h is.good.header is.good.regions) in
    let stays : HeadStays (Some (begun v h)) (reading_of bytes).1.progress =
    subst (λ (xs : List ℕ). HeadStays (Some (begun v h)) (reading_of xs).1.progress)
    (sym is.spelled)
    (subst (λ (p : Option ReadSoFar). HeadStays p (reading_of (front ++ later)).1.progress) begins
    (head_of_front front later)) in
    let head = same_head (begun v h) (reading_of bytes).1.progress whole.now stays whole.known in
    let before = before_last-is (reading_of bytes).0 items _ again.0 in
    trace_there bytes whole.now e whole.known again.1
    ∙ (λ i. Some (record { version = head.0 i; header = head.1 i; items = before i; ending = e }))
