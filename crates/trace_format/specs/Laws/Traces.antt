-- What a good trace spells is read as its records and its end.
use Rattle.std.proofs.Common.{◌≡◌, ℕ, ◌+◌, ◌≤◌, List, [], ◌∷◌, ◌++◌, length, take, drop}
use Rattle.std.proofs.Common.{All, Option, Some, None, Ok, refl, sym, ap, ◌∙◌, arith}
use Rattle.std.proofs.lemmas.List.{drop_all, length-append, take_all}
use Rattle.std.proofs.lemmas.List.Elements.{All-head, All-tail}
use Rattle.trace_format.specs.declared.record.TraceEnd.{TraceEnd}
use Rattle.trace_format.specs.declared.before.Before.{Before}
use Rattle.trace_format.specs.declared.record.Header.{Header}
use Rattle.trace_format.specs.declared.record.Version.{Version}
use Rattle.trace_format.specs.declared.record.Version.TheVariants.{One, Two, Three, Four}
use Rattle.trace_format.specs.declared.record.TraceRecord.{TraceRecord}
use Rattle.trace_format.specs.declared.record.TraceRecord.TheVariants as records
use Rattle.trace_format.specs.declared.read_so_far.ReadSoFar.{ReadSoFar}
use Rattle.trace_format.specs.Spelling.{before_after, nothing_before, spell, spell_ending}
use Rattle.trace_format.specs.Spelling.{spell_header}
use Rattle.trace_format.specs.Spelling.{spell_record, spell_records}
use Rattle.trace_format.specs.Rules.{IsGoodBefore, IsGoodRecord, IsInner, IsTrace, last_position}
use Rattle.trace_format.specs.Rules.{longest_trace, touches_in}
use Rattle.trace_format.specs.Judging.{begun}
use Rattle.trace_format.specs.Reading.{Reading, begin, counted_after, ending_in, ending_of}
use Rattle.trace_format.specs.Reading.{extent_at, part_at, place_reached, progress_after, read_on}
use Rattle.trace_format.specs.Reading.{reading_of}
use Rattle.trace_format.specs.Laws.Reading.{part_then, read_on-append, then_read, waiting}
use Rattle.trace_format.specs.Laws.Before.{after_good, nothing_good}
use Rattle.trace_format.specs.Laws.Extents.{extent_is_some, fronts_wait_at}
use Rattle.trace_format.specs.Laws.Spelling.{record_whole}
use Rattle.trace_format.specs.Laws.Again.{ComesAt, header_again, record_again}
use Rattle.trace_format.specs.Laws.Writing.{begun-ended}
use Rattle.trace_format.specs.Faults.{IsOpenTrace, behind}
use Rattle.trace_format.specs.Writing.{before_behind, begun_with}

-- bytes that are judged whole are read at once
pub part_alone : (p : Option ReadSoFar) (e : Option TraceEnd) (bytes : List ℕ)
    → length bytes ≡ extent_at p e bytes → place_reached p + length bytes ≤ longest_trace
    → read_on (waiting p e []) bytes ≡ (
      (part_at (waiting p e []) p e bytes).0 ++ [],
      (part_at (waiting p e []) p e bytes).1,
    )
unfolding read_on
part_alone p e bytes whole low =
    let n = length bytes in
    let all : take n bytes ≡ bytes = take_all n bytes (omega arith) in
    let none : drop n bytes ≡ [] = drop_all n bytes (omega arith) in
    part_then p e bytes (fronts_wait_at p e bytes) n whole (omega
    (arith, extent_is_some p e bytes)) (omega arith) low
    ∙ ap (λ (xs : List ℕ). then_read (part_at (waiting p e []) p e xs) (drop n bytes)) all
    ∙ ap (λ (xs : List ℕ). then_read (part_at (waiting p e []) p e bytes) xs) none

unfoldable pub after_one : ReadSoFar → TraceRecord → ReadSoFar
after_one p item = progress_after p item (length (spell_record p.version p.before item))

one_alone : (p : ReadSoFar) (item : TraceRecord) → p.header.harts ≤ 256 → IsGoodBefore p.before
    → IsGoodRecord p.version p.header.harts item → ComesAt p item
    → p.place + length (spell_record p.version p.before item) ≤ longest_trace
    → read_on (waiting (Some p) None []) (spell_record p.version p.before item) ≡ (
      item ∷ [],
      waiting (Some (after_one p item)) (ending_in item) [],
    )
unfolding after_one
one_alone p item few low good there short =
    let bytes = spell_record p.version p.before item in
    part_alone (Some p) None bytes (sym (record_whole p.version p.header.harts p.before item good))
    short
    ∙ rw (record_again p item few low good there) refl

-- an inner record counts where it is an access, and ends nothing
record IsInnerAt (p : ReadSoFar) (item : TraceRecord) (items : List TraceRecord) : Type 0 where
  open_still : ending_in item ≡ None
  counts : counted_after p.counted item + length (touches_in items) ≡ p.counted + length
      (touches_in (item ∷ items))
  low : IsGoodBefore (before_after p.before item)
  there : ComesAt p item

inner_at : (p : ReadSoFar) (item : TraceRecord) (items : List TraceRecord) → IsInner item
    → IsGoodRecord p.version p.header.harts item → IsGoodBefore p.before
    → p.header.first + (p.counted + length (touches_in (item ∷ items))) ≤ last_position
    → IsInnerAt p item items
inner_at p (records.Touch a pc) items inner good low fits =
    record {
      open_still = refl;
      counts = omega arith;
      low = after_good p.version p.header.harts p.before (records.Touch a pc) low good;
      there =
          omega arith;
    }
inner_at p (records.Alloc addr size sites) items inner good low fits =
    record { open_still = refl; counts = refl; low = low; there = tt }
inner_at p (records.Free addr) items inner good low fits =
    record { open_still = refl; counts = refl; low = low; there = tt }
inner_at p (records.Symbol kind addr size name) items inner good low fits =
    record { open_still = refl; counts = refl; low = low; there = tt }
inner_at p (records.End e) items inner good low fits = absurd inner

-- ---- records that come behind others

progress_with : (v : Version) (h : Header) (before : Before) (c d n m : ℕ) → c ≡ d → n ≡ m
    → (let p : ReadSoFar = record { version = v; header = h; counted = c; before = before; place = n }
    in
    p ≡ record { version = v; header = h; counted = d; before = before; place = m })
progress_with v h before c d n m counted place =
    λ i. let p : ReadSoFar =
    record { version = v; header = h; counted = counted i; before = before; place = place i } in p

abbrev after_items : ReadSoFar → List TraceRecord → ReadSoFar
after_items p items = record {
  version = p.version;
  header = p.header;
  counted = p.counted + length (touches_in items);
  before = before_behind p.before items;
  place = p.place + length (spell_records p.version p.before items);
}

records_again : (items : List TraceRecord) (p : ReadSoFar) → p.header.harts ≤ 256
    → IsGoodBefore p.before → All (IsGoodRecord p.version p.header.harts) items → All IsInner items
    → p.header.first + (p.counted + length (touches_in items)) ≤ last_position
    → p.place + length (spell_records p.version p.before items) ≤ longest_trace
    → (read_on (waiting (Some p) None []) (spell_records p.version p.before items)
    ≡ (items, waiting (Some (after_items p items)) None [])) × (IsGoodBefore (before_behind p.before items))
unfolding read_on after_one
records_again [] p few low good inner fits short =
    let same : p ≡ after_items p [] =
    progress_with p.version p.header p.before p.counted (p.counted + 0) p.place (p.place + 0)
    (omega arith) (omega arith) in
    (ap (λ (q : ReadSoFar). ([], waiting (Some q) None [])) same, low)
records_again (item ∷ items) p few low good inner fits short =
    let v = p.version in
    let first = spell_record v p.before item in
    let later = spell_records v (before_after p.before item) items in
    let at =
    inner_at p item items (All-head IsInner item items inner) (All-head
    (IsGoodRecord p.version p.header.harts) item items good) low fits in
    let counts = at.counts in
    let both : length (first ++ later) ≡ length first + length later = length-append first later in
    let one =
    one_alone p item few low (All-head (IsGoodRecord p.version p.header.harts) item items good) at.there
    (omega arith) in
    let open_one : read_on (waiting (Some p) None []) first ≡ (
      item ∷ [],
      waiting
          (Some (after_one p item)) None [],
    ) = one
    ∙ ap (λ (x : Option TraceEnd). (item ∷ [], waiting (Some (after_one p item)) x []))
    at.open_still in
    let rest =
    records_again items (after_one p item) few at.low (All-tail (IsGoodRecord p.version p.header.harts)
    item items good) (All-tail IsInner item items inner) (omega arith) (omega arith) in
    let same : after_items (after_one p item) items ≡ after_items p (item ∷ items) =
    progress_with v p.header (before_behind (before_after p.before item) items) _ _ _ _ counts
    (omega arith) in (
      read_on-append (waiting (Some p) None []) first later
          ∙ ap (λ (x : List TraceRecord × Reading). then_read x later) open_one
          ∙ ap (λ (x : List TraceRecord × Reading). (item ∷ x.0, x.1)) rest.0
          ∙ ap (λ (q : ReadSoFar). (item ∷ items, waiting (Some q) None [])) same,
      rest.1,
    )

-- ---- a trace from its header on

header_length : (v : Version) (h : Header) → length (spell_header v h) ≡ 20
unfolding spell_header
header_length One h = refl
header_length Two h = refl
header_length Three h = refl
header_length Four h = refl

module _ (v : Version) (h : Header) (items : List TraceRecord) (good : IsOpenTrace v h items)
    (short : length (begun_with v h items) ≤ longest_trace) where
  -- A header and records are read as these records, and what the next access is spelled against
  -- are numbers of 32 bits.
  pub begun_again : (reading_of (begun_with v h items)
      ≡ (items, waiting (Some (behind v h items)) None [])) × (IsGoodBefore (before_behind nothing_before items))
  begun_again =
      let front = spell_header v h in
      let later = spell_records v nothing_before items in
      let size : length (front ++ later) ≡ length front + length later =
      length-append front later in
      let twenty = header_length v h in
      let few = good.header.few in
      let positions = good.positions in
      let head : read_on begin front ≡ ([], waiting (Some (begun v h)) None []) =
      part_alone None None front twenty (omega arith)
      ∙ rw (header_again v h good.header good.regions) refl in
      let rest =
      records_again items (begun v h) few nothing_good good.records good.inner (omega arith)
      (omega arith) in
      let same : after_items (begun v h) items ≡ behind v h items =
      progress_with v h (before_behind nothing_before items) _ _ _ _ (omega arith) (omega arith) in (
        read_on-append begin front later
            ∙ ap (λ (x : List TraceRecord × Reading). then_read x later) head ∙ rest.0
            ∙ ap (λ (q : ReadSoFar). (items, waiting (Some q) None [])) same,
        rest.1,
      )

-- what is read of a whole trace
abbrev pub read_whole : Version → Header → List TraceRecord → TraceEnd → ReadSoFar
read_whole v h items e = after_one (behind v h items) (records.End e)

-- The bytes of a good trace are read as its records and its end.
pub read_again : (bytes : List ℕ) (v : Version) (h : Header) (items : List TraceRecord) (e :
    TraceEnd)
    → IsTrace bytes v h items e
    → reading_of bytes ≡ (
      items ++ records.End e ∷ [],
      waiting
          (Some (read_whole v h items e)) (Some e) [],
    )
read_again bytes v h items e is =
    let good = is.good in
    let front = begun_with v h items in
    let later = spell_ending v e in
    let whole : front ++ later ≡ spell v h items e = begun-ended v h items e in
    let size : length front + length later ≡ length (spell v h items e) =
    sym (length-append front later) ∙ ap length whole in
    let positions = good.positions in
    let short = good.short in
    let few = good.header.few in
    let open_trace : IsOpenTrace v h items =
    record {
      header = good.header;
      regions = good.regions;
      records = good.records;
      inner = good.inner;
      positions = good.positions;
    } in
    let begun = begun_again v h items open_trace (omega arith) in
    let last =
    one_alone (behind v h items) (records.End e) few begun.1 good.ending good.counted (omega arith)
    in
    ap reading_of (is.spelled ∙ sym whole) ∙ read_on-append begin front later
    ∙ ap (λ (x : List TraceRecord × Reading). then_read x later) begun.0
    ∙ ap (λ (x : List TraceRecord × Reading). (items ++ x.0, x.1)) last

-- However they are cut, the records and the end are those that were spelled,
pub trace_again : (bytes : List ℕ) (v : Version) (h : Header) (items : List TraceRecord) (e :
    TraceEnd)
    → IsTrace bytes v h items e
    → ((reading_of bytes).0 ≡ items ++ records.End e ∷ []) × (ending_of (reading_of bytes).1 ≡ Ok
    e)
trace_again bytes v h items e is =
    let whole = read_again bytes v h items e is in (
      ap (λ (x : List TraceRecord × Reading). x.0) whole,
      ap
          (λ (x : List TraceRecord × Reading). ending_of x.1) whole,
    )

-- and so are the version and the header.
pub head_again : (bytes : List ℕ) (v : Version) (h : Header) (items : List TraceRecord) (e :
    TraceEnd)
    → IsTrace bytes v h items e
    → (p : ReadSoFar) × ((reading_of bytes).1.progress ≡ Some p) × (p.version ≡ v) × (p.header ≡ h)
unfolding after_one
head_again bytes v h items e is =
    let whole = read_again bytes v h items e is in (
      read_whole v h items e,
      ap (λ (x : List TraceRecord × Reading). x.1.progress) whole,
      refl,
      refl,
    )
