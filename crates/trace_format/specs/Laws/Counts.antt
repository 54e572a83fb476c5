-- What is true of the records of any bytes: their header is good, their accesses are counted and
-- have positions of a trace, and an end record is the last.
use Rattle.std.proofs.Common.{◌≡◌, ℕ, ◌+◌, ◌≤◌, ◌<◌, Bool, true, false, cond, ◌&&◌, eqb, ltb, leb}
use Rattle.std.proofs.Common.{List, [], ◌∷◌, ◌++◌, length, All, Option, Some, None, Result, Ok, Err}
use Rattle.std.proofs.Common.{refl, sym, ap, subst, ◌∙◌, append_assoc, arith}
use Rattle.std.proofs.lemmas.Bool.{and_parts}
use Rattle.std.proofs.lemmas.Bool.Decides.{nat_tests}
use Rattle.std.proofs.lemmas.List.{append-nil, length-append}
use Rattle.std.proofs.lemmas.List.Elements.{All-nil, All-push, filter_map-append}
use Rattle.std.specs.Int.{w16, w64}
use Rattle.trace_format.specs.declared.record.TraceEnd.{TraceEnd}
use Rattle.trace_format.specs.declared.fault.TraceFault.{TraceFault}
use Rattle.trace_format.specs.declared.fault.TraceFault.TheVariants as faults
use Rattle.trace_format.specs.declared.record.Version.{Version}
use Rattle.trace_format.specs.declared.record.TraceRecord.{TraceRecord}
use Rattle.trace_format.specs.declared.record.TraceRecord.TheVariants as records
use Rattle.trace_format.specs.declared.read_so_far.ReadSoFar.{ReadSoFar}
use Rattle.trace_format.specs.Rules.{HasRegions, IsGoodHeader, IsInner, IsWritable}
use Rattle.trace_format.specs.Rules.{last_position}
use Rattle.trace_format.specs.Rules.{longest_trace, touches_in}
use Rattle.trace_format.specs.Judging.{begun, fields_judged, header_judged, highest_first, is_near}
use Rattle.trace_format.specs.Judging.{is_unused}
use Rattle.trace_format.specs.Laws.Headers.{first_low, regions_found}
use Rattle.base.specs.Fields.{number_at}
use Rattle.trace_format.specs.Judging.{record_judged, version_at}
use Rattle.trace_format.specs.Reading.{Reading, begin, byte_read, counted_after, ending_in}
use Rattle.trace_format.specs.Reading.{extent_at, header_read, part_at, place_reached}
use Rattle.trace_format.specs.Reading.{progress_after}
use Rattle.trace_format.specs.Reading.{read_on, reading_of, record_read, with_fault}
use Rattle.trace_format.specs.Laws.Reading.{waiting}
use Rattle.trace_format.specs.Laws.Again.{ComesAt}
use Rattle.trace_format.specs.Laws.Records.{IsItem, granted, not_refused, record_item, same_Ok}

-- ---- accesses of records

pub touches_in-append : (xs ys : List TraceRecord) → touches_in (xs ++ ys) ≡ touches_in xs
    ++ touches_in ys
touches_in-append xs ys = filter_map-append _ xs ys

-- records before others have no more accesses than all together
pub touches_in-front : (xs ys : List TraceRecord)
    → length (touches_in xs) ≤ length (touches_in (xs ++ ys))
touches_in-front xs ys =
    omega (
      arith,
      ap length (touches_in-append xs ys),
      length-append (touches_in xs)
          (touches_in ys),
    )

-- ---- what is true of the records so far

-- the header is good, each record may be written, and the accesses are counted and have positions
-- of a trace
pub record IsCounted (p : ReadSoFar) (items : List TraceRecord) : Type 0 where
  pub header : IsGoodHeader p.header
  pub regions : HasRegions p.version p.header
  pub writable : All IsWritable items
  pub counted : p.counted ≡ length (touches_in items)
  pub positions : p.header.first + p.counted ≤ last_position

-- this end is the last record and the only one of its kind, and states how many accesses there are
pub record EndsWith (items : List TraceRecord) (e : TraceEnd) : Type 0 where
  pub before : List TraceRecord
  pub inner : All IsInner before
  pub stated : e.accesses ≡ length (touches_in before)
  pub is : items ≡ before ++ records.End e ∷ []

abbrev pub IsSoFar : Option ReadSoFar → Option TraceEnd → List TraceRecord → Type 0
IsSoFar None e items = (items ≡ []) × (e ≡ None)
IsSoFar (Some p) None items = IsCounted p items × All IsInner items
IsSoFar (Some p) (Some e) items = IsCounted p items × EndsWith items e

-- what an accepted header leaves to be read
record IsBegun (p : ReadSoFar) : Type 0 where
  header : IsGoodHeader p.header
  regions : HasRegions p.version p.header
  counted : p.counted ≡ 0
  place : p.place ≡ 20

fields_begin : (v : Option Version) (first harts last : ℕ) (p : ReadSoFar)
    → fields_judged v first harts last ≡ Ok p → IsBegun p
fields_begin None first harts last p e = absurd cc
fields_begin (Some v) first harts last p e =
    let a = not_refused (ltb (highest_first v) first) _ _ p e in
    let b = granted ((leb 1 harts && leb harts 256) && is_unused v last) _ _ p a.1 in
    let c = granted (is_near v last) _ _ p b.1 in
    let both = and_parts (leb 1 harts && leb harts 256) (is_unused v last) b.0 in
    let range = and_parts (leb 1 harts) (leb harts 256) both.0 in
    let low : leb 1 harts ≡ true = range.0 in
    let high : leb harts 256 ≡ true = range.1 in
    let fits : first ≤ last_position = first_low v first a.0 in
    let some : 1 ≤ harts = grind (arith, nat_tests) in
    let few : harts ≤ 256 = grind (arith, nat_tests) in
    let header : IsGoodHeader (record { first = first; harts = harts; near = last }) =
    record { position = fits; some = some; few = few } in
    subst IsBegun (same_Ok (begun v (record { first = first; harts = harts; near = last })) p c.1)
    (record {
      header = header;
      regions = regions_found v first harts last a.0 both.1 c.0;
      counted = refl;
      place = refl;
    })

header_begins : (bytes : List ℕ) (p : ReadSoFar) → header_judged bytes ≡ Ok p → IsBegun p
unfolding header_judged
header_begins bytes p e = fields_begin (version_at bytes) (number_at w64 8 bytes)
    (number_at w16 16 bytes) (number_at w16 18 bytes) p e

counted_first : (p : ReadSoFar) → IsBegun p → IsCounted p []
counted_first p is =
    let position = is.header.position in
    record {
      header = is.header;
      regions = is.regions;
      writable = All-nil IsWritable;
      counted = is.counted;
      positions = omega (arith, is.counted);
    }

-- one record more, which counts where it is an access
pub touches_in-more : (items : List TraceRecord) (item : TraceRecord)
    → counted_after (length (touches_in items)) item ≡ length (touches_in (items ++ item ∷ []))
touches_in-more items (records.Touch a pc) =
    omega (
      arith,
      ap length (touches_in-append items (records.Touch a pc ∷ [])),
      length-append (touches_in items) (a ∷ []),
    )
touches_in-more items (records.Alloc addr size sites) =
    omega (
      arith,
      ap length (touches_in-append items (records.Alloc addr size sites ∷ [])),
      length-append (touches_in items) [],
    )
touches_in-more items (records.Free addr) =
    omega (
      arith,
      ap length (touches_in-append items (records.Free addr ∷ [])),
      length-append (touches_in items) [],
    )
touches_in-more items (records.Symbol kind addr size name) =
    omega (
      arith,
      ap length (touches_in-append items (records.Symbol kind addr size name ∷ [])),
      length-append (touches_in items) [],
    )
touches_in-more items (records.End e) =
    omega (
      arith,
      ap length (touches_in-append items (records.End e ∷ [])),
      length-append (touches_in items) [],
    )

positions_after : (p : ReadSoFar) (item : TraceRecord) → ComesAt p item
    → p.header.first + p.counted ≤ last_position
    → p.header.first + counted_after p.counted item ≤ last_position
positions_after p (records.Touch a pc) there fits = omega arith
positions_after p (records.Alloc addr size sites) there fits = fits
positions_after p (records.Free addr) there fits = fits
positions_after p (records.Symbol kind addr size name) there fits = fits
positions_after p (records.End e) there fits = fits

counts_one : (p : ReadSoFar) (items : List TraceRecord) (item : TraceRecord) (size : ℕ)
    → IsCounted p items → IsItem p item
    → IsCounted (progress_after p item size) (items ++ item ∷ [])
counts_one p items item size is one =
    record {
      header = is.header;
      regions = is.regions;
      writable = All-push IsWritable items item is.writable one.writable;
      counted = ap (λ (n : ℕ). counted_after n item) is.counted ∙ touches_in-more items item;
      positions = positions_after p item one.there is.positions;
    }

one_more : (p : ReadSoFar) (items : List TraceRecord) (item : TraceRecord) (size : ℕ)
    → IsCounted (progress_after p item size) (items ++ item ∷ [])
    → p.counted ≡ length (touches_in items) → ComesAt p item
    → All IsInner items → IsSoFar (Some (progress_after p item size)) (ending_in item)
    (items ++ item ∷ [])
one_more p items (records.Touch a pc) size is counted there inner =
    (is, All-push IsInner items (records.Touch a pc) inner tt)
one_more p items (records.Alloc addr n sites) size is counted there inner =
    (is, All-push IsInner items (records.Alloc addr n sites) inner tt)
one_more p items (records.Free addr) size is counted there inner =
    (is, All-push IsInner items (records.Free addr) inner tt)
one_more p items (records.Symbol kind addr n name) size is counted there inner =
    (is, All-push IsInner items (records.Symbol kind addr n name) inner tt)
one_more p items (records.End e) size is counted there inner =
    (is, record { before = items; inner = inner; stated = there ∙ counted; is = refl })

-- ---- one byte more

pub by_test : {A : Type 0} (P : A → Type 0) (b : Bool) (x y : A) → (b ≡ true → P x) → (b ≡ false → P y)
    → P (cond b x y)
by_test P true x y on off = on refl
by_test P false x y on off = off refl

-- what more is read keeps it
abbrev IsThen : List TraceRecord → List TraceRecord × Reading → Type 0
IsThen items now = IsSoFar now.1.progress now.1.ending (items ++ now.0)

none_more : (p : Option ReadSoFar) (e : Option TraceEnd) (items : List TraceRecord)
    → IsSoFar p e items
    → IsSoFar p e (items ++ [])
none_more p e items is = subst (λ (xs : List TraceRecord). IsSoFar p e xs) (sym (append-nil items))
    is

header_then : (items : List TraceRecord) (e : Option TraceEnd) (pending bytes : List ℕ)
    (j : Result ReadSoFar TraceFault)
    → header_judged bytes ≡ j → IsSoFar None e items
    → IsThen items (header_read (waiting None e pending) j)
header_then items e pending bytes (Err fault) known is = none_more None e items is
header_then items e pending bytes (Ok p) known is =
    let first : IsSoFar (Some p) None [] =
    (counted_first p (header_begins bytes p known), All-nil IsInner) in
    none_more (Some p) e items (subst (λ (x : Option TraceEnd). IsSoFar (Some p) x items) (sym is.1)
    (subst (λ (xs : List TraceRecord). IsSoFar (Some p) None xs) (sym is.0) first))

record_then : (items : List TraceRecord) (p : ReadSoFar) (pending bytes : List ℕ)
    (j : Result TraceRecord TraceFault)
    → record_judged p bytes ≡ j → IsSoFar (Some p) None items
    → IsThen items (record_read (waiting (Some p) None pending) p (length bytes) j)
record_then items p pending bytes (Err fault) known is = none_more (Some p) None items is
record_then items p pending bytes (Ok item) known is =
    let one = record_item p bytes item known in
    let counted = is.0 in
    one_more p items item (length bytes) (counts_one p items item (length bytes) counted one)
    counted.counted one.there is.1

part_then : (items : List TraceRecord) (p : Option ReadSoFar) (e : Option TraceEnd)
    (pending bytes : List ℕ) → IsSoFar p e items
    → IsThen items (part_at (waiting p e pending) p e bytes)
part_then items None e pending bytes is = header_then items e pending bytes (header_judged bytes)
    refl is
part_then items (Some p) None pending bytes is = record_then items p pending bytes
    (record_judged p bytes) refl is
part_then items (Some p) (Some e) pending bytes is = none_more (Some p) (Some e) items is

byte_then : (items : List TraceRecord) (f : Option TraceFault) (p : Option ReadSoFar)
    (e : Option TraceEnd) (pending : List ℕ) (b : ℕ)
    → IsSoFar p e items
    → IsThen items
    (byte_read (record { progress = p; pending = pending; ending = e; fault = f }) b)
unfolding byte_read
byte_then items (Some fault) p e pending b is = none_more p e items is
byte_then items None p e pending b is =
    let r = waiting p e pending in
    let more = pending ++ b ∷ [] in
    by_test (IsThen items) (eqb (place_reached p + length pending) longest_trace)
    ([], with_fault r faults.TooLong) _
    (λ last. none_more p e items is)
    (λ room. by_test (IsThen items) (ltb (length more) (extent_at p e more))
    ([], record r { pending = more }) (part_at r p e more)
    (λ short. none_more p e items is) (λ long. part_then items p e pending more is))

-- ---- all bytes

pub so_far_on : (bytes : List ℕ) (r : Reading) (items : List TraceRecord)
    → IsSoFar r.progress r.ending items
    → (let now = read_on r bytes in IsSoFar now.1.progress now.1.ending (items ++ now.0))
unfolding read_on
so_far_on [] r items is = none_more r.progress r.ending items is
so_far_on (b ∷ bytes) r items is =
    let now = byte_read r b in
    let one = byte_then items r.fault r.progress r.ending r.pending b is in
    let later = read_on now.1 bytes in
    subst (λ (xs : List TraceRecord). IsSoFar later.1.progress later.1.ending xs)
    (append_assoc items now.0 later.0)
    (so_far_on bytes now.1 (items ++ now.0) one)

-- What any bytes say is so, also before a fault.
pub so_far : (bytes : List ℕ)
    → (let now = reading_of bytes in IsSoFar now.1.progress now.1.ending now.0)
so_far bytes = so_far_on bytes begin [] (refl, refl)

counted_in : (p : Option ReadSoFar) (e : Option TraceEnd) (items : List TraceRecord)
    → IsSoFar p e items → (now : ReadSoFar)
    → p ≡ Some now → IsCounted now items
counted_in None e items is now known = absurd cc
counted_in (Some p) None items is now known = subst (λ (x : ReadSoFar). IsCounted x items)
    (let same : p ≡ now = cc in same) is.0
counted_in (Some p) (Some e) items is now known =
    subst (λ (x : ReadSoFar). IsCounted x items) (let same : p ≡ now = cc in same) is.0

-- Once the header is accepted it is good, and the accesses so far are counted and have positions of
-- a trace.
pub counted_so_far : (bytes : List ℕ) (p : ReadSoFar) → (reading_of bytes).1.progress ≡ Some p
    → IsCounted p (reading_of bytes).0
counted_so_far bytes p known =
    let now = reading_of bytes in
    counted_in now.1.progress now.1.ending now.0 (so_far bytes) p known

-- no access has a position of no trace
pub few_accesses : (bytes : List ℕ) (p : ReadSoFar) → (reading_of bytes).1.progress ≡ Some p
    → p.header.first + length (touches_in (reading_of bytes).0) ≤ last_position
few_accesses bytes p known =
    let is = counted_so_far bytes p known in
    omega (arith, is.counted, is.positions)

-- ---- how many bytes there are

abbrev IsWithin : Option TraceFault → Option ReadSoFar → List ℕ → ℕ → Type 0
IsWithin (Some fault) p pending n = Unit {0}
IsWithin None None pending n = (length pending ≡ n) × (n < 20)
IsWithin None (Some p) pending n = (p.place + length pending ≡ n) × (n ≤ longest_trace)

abbrev IsWithinAt : Reading → ℕ → Type 0
IsWithinAt r n = IsWithin r.fault r.progress r.pending n

header_within : (e : Option TraceEnd) (pending bytes : List ℕ) (n : ℕ)
    (j : Result ReadSoFar TraceFault) → header_judged bytes ≡ j → n ≡ 20
    → IsWithinAt (header_read (waiting None e pending) j).1 n
header_within e pending bytes n (Err fault) known is = tt
header_within e pending bytes n (Ok p) known is =
    let begun = header_begins bytes p known in
    let place = begun.place in (omega arith, omega arith)

record_within : (p : ReadSoFar) (pending bytes : List ℕ) (n : ℕ) (j : Result TraceRecord TraceFault)
    → p.place + length bytes ≡ n
    → n ≤ longest_trace
    → IsWithinAt (record_read (waiting (Some p) None pending) p (length bytes) j).1 n
record_within p pending bytes n (Err fault) is low = tt
record_within p pending bytes n (Ok item) is low = (omega arith, low)

byte_within : (f : Option TraceFault) (p : Option ReadSoFar) (e : Option TraceEnd) (pending : List ℕ)
    (b n : ℕ) → IsWithin f p pending n
    → IsWithinAt (byte_read (record { progress = p; pending = pending; ending = e; fault = f }) b).1
    (n + 1)
unfolding byte_read
byte_within (Some fault) p e pending b n is = tt
byte_within None None e pending b n is =
    let r = waiting None e pending in
    let more = pending ++ b ∷ [] in
    let longer : length more ≡ length pending + 1 = length-append pending (b ∷ []) in
    let P : List TraceRecord × Reading → Type 0 = λ now. IsWithinAt now.1 (n + 1) in
    by_test P (eqb (0 + length pending) longest_trace) ([], with_fault r faults.TooLong) _
    (λ last. tt)
    (λ room. by_test P (ltb (length more) 20) ([], record r { pending = more })
    (header_read r (header_judged more))
    (λ short. (omega (arith, is.0), grind (arith, nat_tests, is.0)))
    (λ long. header_within e pending more (n + 1) (header_judged more) refl
    (grind (arith, nat_tests, is.0, is.1))))
byte_within None (Some p) None pending b n is =
    let r = waiting (Some p) None pending in
    let more = pending ++ b ∷ [] in
    let longer : length more ≡ length pending + 1 = length-append pending (b ∷ []) in
    let P : List TraceRecord × Reading → Type 0 = λ now. IsWithinAt now.1 (n + 1) in
    by_test P (eqb (p.place + length pending) longest_trace) ([], with_fault r faults.TooLong) _
    (λ last. tt)
    (λ room. by_test P (ltb (length more) (extent_at (Some p) None more))
    ([], record r { pending = more })
    (record_read r p (length more) (record_judged p more))
    (λ short. (omega (arith, is.0), grind (arith, nat_tests, is.0, is.1)))
    (λ long. record_within p pending more (n + 1) (record_judged p more) (omega (arith, is.0))
    (grind (arith, nat_tests, is.0, is.1))))
byte_within None (Some p) (Some e) pending b n is =
    let r = waiting (Some p) (Some e) pending in
    let more = pending ++ b ∷ [] in
    let longer : length more ≡ length pending + 1 = length-append pending (b ∷ []) in
    let P : List TraceRecord × Reading → Type 0 = λ now. IsWithinAt now.1 (n + 1) in
    by_test P (eqb (p.place + length pending) longest_trace) ([], with_fault r faults.TooLong) _
    (λ last. tt)
    (λ room. by_test P (ltb (length more) 1) ([], record r { pending = more })
    ([], with_fault r (faults.AfterEnd p.place))
    (λ short. (omega (arith, is.0), grind (arith, nat_tests, is.0, is.1))) (λ long. tt))

within_on : (bytes : List ℕ) (r : Reading) (n : ℕ) → IsWithinAt r n
    → IsWithinAt (read_on r bytes).1 (n + length bytes)
unfolding read_on
within_on [] r n is =
    let same : n ≡ n + 0 = omega arith in
    subst (IsWithinAt r) same is
within_on (b ∷ bytes) r n is =
    let now = (byte_read r b).1 in
    let one = byte_within r.fault r.progress r.ending r.pending b n is in
    let same : (n + 1) + length bytes ≡ n + length (b ∷ bytes) = omega arith in
    subst (λ (k : ℕ). IsWithinAt (read_on now bytes).1 k) same (within_on bytes now (n + 1) one)

low_in : (f : Option TraceFault) (p : Option ReadSoFar) (pending : List ℕ) (n : ℕ)
    → IsWithin f p pending n → f ≡ None → n ≤ longest_trace
low_in (Some fault) p pending n is clean = absurd cc
low_in None None pending n is clean = omega (arith, is.1)
low_in None (Some p) pending n is clean = is.1

-- bytes with no fault are no more than a trace may have
pub few_bytes : (bytes : List ℕ) → (reading_of bytes).1.fault ≡ None → length bytes ≤ longest_trace
few_bytes bytes clean =
    let r = (reading_of bytes).1 in
    let first : IsWithinAt begin 0 = (refl, omega arith) in
    let is = low_in r.fault r.progress r.pending (0 + length bytes) (within_on bytes begin 0 first)
    clean in
    omega (arith, is)
