-- What is read with no fault up to an end is a trace.
use Rattle.std.proofs.Common.{◌≡◌, ℕ, ◌+◌, ◌≤◌, ◌<◌, inl, inr, Bool, true, false, cond, eqb}
use Rattle.std.proofs.Common.{ltb, List, [], ◌∷◌, ◌++◌, length, take}
use Rattle.std.proofs.Common.{All, Option, Some, None, Result, Ok, Err, refl, sym, ap, subst, ◌∙◌}
use Rattle.std.proofs.Common.{append_assoc, arith}
use Rattle.std.proofs.lemmas.Bool.Decides.{nat_tests}
use Rattle.std.proofs.lemmas.Bool.{cases_lt}
use Rattle.std.proofs.lemmas.List.{append-nil, length-append, take-append-le}
use Rattle.std.proofs.lemmas.List.Elements.{All-append, All-cons, All-head, All-nil, All-tail}
use Rattle.trace_format.specs.declared.record.TraceEnd.{TraceEnd}
use Rattle.trace_format.specs.declared.fault.TraceFault.{TraceFault}
use Rattle.trace_format.specs.declared.fault.TraceFault.TheVariants as faults
use Rattle.trace_format.specs.declared.record.TraceRecord.{TraceRecord}
use Rattle.trace_format.specs.declared.record.TraceRecord.TheVariants as records
use Rattle.trace_format.specs.declared.read_so_far.ReadSoFar.{ReadSoFar}
use Rattle.trace_format.specs.Spelling.{before_after, nothing_before, spell, spell_header}
use Rattle.trace_format.specs.Spelling.{spell_record}
use Rattle.trace_format.specs.Rules.{HasRegions, IsGoodBefore, IsGoodHeader, IsGoodRecord, IsInner}
use Rattle.trace_format.specs.Rules.{last_position}
use Rattle.trace_format.specs.Rules.{longest_trace, touches_in}
use Rattle.trace_format.specs.Judging.{header_judged, record_extent, record_judged}
use Rattle.trace_format.specs.Reading.{Reading, begin, byte_read, counted_after, ending_in}
use Rattle.trace_format.specs.Reading.{ending_of, extent_at, header_read, part_at}
use Rattle.trace_format.specs.Reading.{place_reached, progress_after, read_on, reading_of}
use Rattle.trace_format.specs.Reading.{record_read}
use Rattle.trace_format.specs.Reading.{with_fault}
use Rattle.trace_format.specs.Laws.Reading.{waiting}
use Rattle.trace_format.specs.Laws.Extents.{extent_is_some, fronts_wait_at}
use Rattle.trace_format.specs.declared.before.Before.{Before}
use Rattle.trace_format.specs.Laws.Again.{ComesAt}
use Rattle.trace_format.specs.Laws.Before.{after_good, nothing_good}
use Rattle.trace_format.specs.Laws.Writing.{before_more, begun-ended, begun-more}
use Rattle.trace_format.specs.Faults.{HasFault, IsOpenTrace, ended, nothing, unended}
use Rattle.trace_format.specs.Found.{IsFound, IsTraceOf}
use Rattle.trace_format.specs.Writing.{before_behind, begun_with}
use Rattle.trace_format.specs.Laws.Bytes.{bytes_of}
use Rattle.trace_format.specs.Laws.Touches.{counted-one, touched-push}
use Rattle.trace_format.proofs.FoundEnds.{header_found}
use Rattle.trace_format.proofs.FoundRecord.{record_found}
use Rattle.trace_format.proofs.Stops.{Stops, has_stopped, is_behind, stops_longer}

-- ---- lists of records

counted-more : (xs : List TraceRecord) (x : TraceRecord) → counted_after (length (touches_in xs)) x
    ≡ length (touches_in (xs ++ x ∷ []))
counted-more xs x =
    counted-one (length (touches_in xs)) x ∙ sym (touched-push xs x)

-- ---- what waits is judged as soon as its bytes are there

grown : (p : Option ReadSoFar) (e : Option TraceEnd) (xs : List ℕ) (b : ℕ)
    → length xs < extent_at p e xs
    → length xs < extent_at p e (xs ++ b ∷ [])
grown p e xs b waits =
    let n = extent_at p e (xs ++ b ∷ []) in
    let size : length (xs ++ b ∷ []) ≡ length xs + 1 = length-append xs (b ∷ []) in
    let some : 1 ≤ n = extent_is_some p e (xs ++ b ∷ []) in
    elim (cases_lt (length xs) n) [
      | inl lt ↦ lt
      | inr le ↦
          let front : take n (xs ++ b ∷ []) ≡ take n xs = take-append-le n xs (b ∷ []) le in
          let whole = (fronts_wait_at p e (xs ++ b ∷ [])).whole n some (omega arith) refl in
          let short = (fronts_wait_at p e xs).short n some le (omega arith) in
          absurd (omega (arith, whole, short, ap (extent_at p e) front))
    ]

-- ---- what is true of each reading

-- records so far, and bytes that wait
record IsOpen (bytes : List ℕ) (items : List TraceRecord) (pending : List ℕ)
    (p : ReadSoFar) : Type 0 where
  header : IsGoodHeader p.header
  regions : HasRegions p.version p.header
  good : All (IsGoodRecord p.version p.header.harts) items
  inner : All IsInner items
  positions : p.header.first + p.counted ≤ last_position
  counted : p.counted ≡ length (touches_in items)
  last : p.before ≡ before_behind nothing_before items
  low : IsGoodBefore p.before
  place : p.place ≡ length (begun_with p.version p.header items)
  spelled : bytes ≡ begun_with p.version p.header items ++ pending
  room : p.place + length pending ≤ longest_trace
  waits : length pending < record_extent p.version pending
  fits : All (λ b. b < 256) pending

record IsBefore (bytes : List ℕ) (items : List TraceRecord) (pending : List ℕ)
    (e : Option TraceEnd) : Type 0 where
  none : items ≡ []
  no_end : e ≡ None
  same : bytes ≡ pending
  waits : length pending < 20
  fits : All (λ b. b < 256) pending

-- a whole trace, and nothing that waits
record IsClosed (bytes : List ℕ) (items : List TraceRecord) (pending : List ℕ) (p : ReadSoFar)
    (e : TraceEnd) : Type 0 where
  trace : IsTraceOf bytes items e
  place : p.place ≡ length bytes
  alone : pending ≡ []

abbrev Keeps : Option ReadSoFar → Option TraceEnd → List ℕ → List TraceRecord → List ℕ → Type 0
Keeps None e bytes items pending = IsBefore bytes items pending e
Keeps (Some p) None bytes items pending = IsOpen bytes items pending p
Keeps (Some p) (Some e) bytes items pending = IsClosed bytes items pending p e

abbrev Stands : Option TraceFault → Option ReadSoFar → Option TraceEnd → List ℕ → List TraceRecord
    → List ℕ → Type 0
Stands (Some fault) p e bytes items pending = Stops bytes items fault
Stands None p e bytes items pending = Keeps p e bytes items pending

abbrev StandsAt : List ℕ → List TraceRecord → Reading → Type 0
StandsAt bytes items r = Stands r.fault r.progress r.ending bytes items r.pending

open_parts : (bytes : List ℕ) (items : List TraceRecord) (pending : List ℕ) (p : ReadSoFar)
    → IsOpen bytes items pending p → IsOpenTrace p.version p.header items
open_parts bytes items pending p k =
    let positions = k.positions in
    let counted = k.counted in
    record {
      header = k.header;
      regions = k.regions;
      records = k.good;
      inner = k.inner;
      positions = omega arith;
    }

-- ---- one more byte

by_test : {A : Type 0} (P : A → Type 0) (b : Bool) (x y : A) → (b ≡ true → P x) → (b ≡ false → P y)
    → P (cond b x y)
by_test P true x y on off = on refl
by_test P false x y on off = off refl

byte_is : (b : ℕ) → b < 256 → All (λ b. b < 256) (b ∷ [])
byte_is b small = All-cons (λ b. b < 256) b [] small (All-nil (λ b. b < 256))

-- an inner record takes a position at most
positions_after : (p : ReadSoFar) (item : TraceRecord) → ComesAt p item
    → p.header.first + p.counted ≤ last_position
    → p.header.first + counted_after p.counted item ≤ last_position
positions_after p (records.Touch a pc) there fits = omega arith
positions_after p (records.Alloc addr size sites) there fits = fits
positions_after p (records.Free addr) there fits = fits
positions_after p (records.Symbol kind addr size name) there fits = fits
positions_after p (records.End e) there fits = fits

module _ (before : List ℕ) (items : List TraceRecord) (pending : List ℕ) (b : ℕ)
    (small : b < 256) where
  -- the bytes with one more, and those that wait
  bytes : List ℕ
  bytes = before ++ b ∷ []

  more : List ℕ
  more = pending ++ b ∷ []

  longer : length more ≡ length pending + 1
  unfolding more
  longer = length-append pending (b ∷ [])

  waits_still : (p : Option ReadSoFar) (e : Option TraceEnd) → Keeps p e before items pending
      → eqb (place_reached p + length pending) longest_trace ≡ false
      → ltb (length more) (extent_at p e more) ≡ true → Keeps p e bytes (items ++ []) more
  unfolding bytes more
  waits_still None e k room short =
      record {
        none = append-nil items ∙ k.none;
        no_end = k.no_end;
        same = ap (λ (xs : List ℕ). xs ++ b ∷ []) k.same;
        waits = grind (arith, nat_tests);
        fits = All-append (λ b. b < 256) pending (b ∷ []) k.fits (byte_is b small);
      }
  waits_still (Some p) None k room short =
      let kept = k.room in
      let waits : length more < record_extent p.version more = grind (arith, nat_tests) in
      let front = begun_with p.version p.header items in
      let now : IsOpen bytes items more p =
      record {
        header = k.header;
        regions = k.regions;
        good = k.good;
        inner = k.inner;
        positions = k.positions;
        counted = k.counted;
        last = k.last;
        low = k.low;
        place = k.place;
        spelled = ap (λ (xs : List ℕ). xs ++ b ∷ []) k.spelled
            ∙ append_assoc front pending (b ∷ []);
        room = grind (arith, nat_tests, longer);
        waits = waits;
        fits = All-append (λ b. b < 256) pending (b ∷ []) k.fits (byte_is b small);
      } in
      subst (λ (xs : List TraceRecord). IsOpen bytes xs more p) (sym (append-nil items)) now
  waits_still (Some p) (Some e) k room short = absurd (grind (arith, nat_tests, longer))

  header_stands : (e : Option TraceEnd) → IsBefore before items pending e → length more ≡ 20
      → (j : Result ReadSoFar TraceFault)
      → header_judged more ≡ j
      → (let now = header_read (waiting None e pending) j in StandsAt bytes (items ++ now.0) now.1)
  unfolding bytes more
  header_stands e k len (Err fault) known =
      let size : length more ≡ 20 = len in
      record {
        before = nothing;
        unit = more;
        rest = [];
        good = tt;
        records = append-nil items ∙ k.none;
        spelled = ap (λ (xs : List ℕ). xs ++ b ∷ []) k.same ∙ sym (append-nil more);
        judged = inl (record { whole = len; places = omega arith; says = known });
      }
  header_stands e k len (Ok p) known =
      let is : All (λ b. b < 256) more = All-append (λ b. b < 256) pending (b ∷ []) k.fits
      (byte_is b small) in
      let found = header_found more p len (bytes_of more is) known in
      let same : bytes ≡ spell_header p.version p.header ++ [] =
      ap (λ (xs : List ℕ). xs ++ b ∷ []) k.same ∙ found.spelled
      ∙ sym (append-nil (spell_header p.version p.header)) in
      let size : 20 ≡ length (spell_header p.version p.header ++ []) =
      sym len ∙ ap length (found.spelled ∙ sym (append-nil (spell_header p.version p.header))) in
      let fresh = found.fresh in
      let position = found.good.position in
      let counted : p.counted ≡ 0 = ap (λ (x : ReadSoFar). x.counted) fresh in
      let last : p.before ≡ nothing_before = ap (λ (x : ReadSoFar). x.before) fresh in
      let place : p.place ≡ 20 = ap (λ (x : ReadSoFar). x.place) fresh in
      let now : IsOpen bytes [] [] p =
      record {
        header = found.good;
        regions = found.regions;
        good = All-nil (IsGoodRecord p.version p.header.harts);
        inner = All-nil IsInner;
        positions = omega arith;
        counted = counted;
        last = last;
        low = subst IsGoodBefore (sym last) nothing_good;
        place = place ∙ size;
        spelled = same ∙ sym (append-nil (spell_header p.version p.header ++ []));
        room = omega arith;
        waits = omega (arith, extent_is_some (Some p) None []);
        fits = All-nil (λ b. b < 256);
      } in
      subst (λ (x : Option TraceEnd). Keeps (Some p) x bytes (items ++ []) []) (sym k.no_end)
      (subst (λ (xs : List TraceRecord). IsOpen bytes xs [] p) (sym (append-nil items ∙ k.none))
      now)

  module _ (p : ReadSoFar) (k : IsOpen before items pending p)
      (room : p.place + length more ≤ longest_trace) where
    front : List ℕ
    front = begun_with p.version p.header items

    joined : bytes ≡ front ++ more
    unfolding bytes more front
    joined = ap (λ (xs : List ℕ). xs ++ b ∷ []) k.spelled
        ∙ append_assoc (begun_with p.version p.header items) pending (b ∷ [])

    size : length bytes ≡ p.place + length more
    unfolding front
    size = ap length joined ∙ length-append front more ∙ ap (λ (n : ℕ). n + length more)
        (sym k.place)

    -- the bytes once a record is found
    with_record : (item : TraceRecord) → IsFound p more item
        → bytes ≡ begun_with p.version p.header (items ++ item ∷ [])
    unfolding front
    with_record item found =
        let v = p.version in
        let last : spell_record v p.before item
        ≡ spell_record v (before_behind nothing_before items) item =
        ap (λ (x : Before). spell_record v x item) k.last in
        joined ∙ ap (λ (xs : List ℕ). front ++ xs) (found.spelled ∙ last)
        ∙ begun-more v p.header items item

    open_after : (item : TraceRecord) → IsInner item → IsFound p more item
        → IsOpen bytes (items ++ item ∷ []) [] (progress_after p item (length more))
    open_after item inner found =
        let P : TraceRecord → Type 0 = IsGoodRecord p.version p.header.harts in
        let whole = with_record item found in
        let all = begun_with p.version p.header (items ++ item ∷ []) in
        record {
          header = k.header;
          regions = k.regions;
          good = All-append P items (item ∷ []) k.good (All-cons P item [] found.good (All-nil P));
          inner = All-append IsInner items (item ∷ []) k.inner
              (All-cons IsInner item [] inner (All-nil IsInner));
          positions = positions_after p item found.there k.positions;
          counted = ap (λ (n : ℕ). counted_after n item) k.counted ∙ counted-more items item;
          last = ap (λ (x : Before). before_after x item) k.last
              ∙ sym (before_more nothing_before items item);
          low = after_good p.version p.header.harts p.before item k.low found.good;
          place = sym size ∙ ap length whole;
          spelled = whole ∙ sym (append-nil all);
          room = omega arith;
          waits = omega (arith, extent_is_some (Some p) None []);
          fits = All-nil (λ b. b < 256);
        }

    closed_after : (e : TraceEnd) → IsFound p more (records.End e)
        → IsClosed bytes (items ++ records.End e ∷ []) [] (progress_after p (records.End e)
        (length more)) e
    unfolding front
    closed_after e found =
        let whole : bytes ≡ spell p.version p.header items e = joined
        ∙ ap (λ (xs : List ℕ). front ++ xs) found.spelled
        ∙ begun-ended p.version p.header items e in
        let positions = k.positions in
        let counted = k.counted in
        record {
          trace = record {
            version = p.version;
            header = p.header;
            items = items;
            trace = record {
              good = record {
                header = k.header;
                regions = k.regions;
                records = k.good;
                inner = k.inner;
                ending = found.good;
                positions = omega arith;
                counted = found.there ∙ k.counted;
                short = omega (arith, size, ap length whole);
              };
              spelled = whole;
            };
            records = refl;
          };
          place = sym size;
          alone = refl;
        }

    item_stands : (item : TraceRecord) → IsFound p more item
        → Keeps (Some (progress_after p item (length more))) (ending_in item) bytes
        (items ++ item ∷ []) []
    item_stands (records.Touch a pc) found = open_after (records.Touch a pc) tt found
    item_stands (records.Alloc addr n sites) found = open_after (records.Alloc addr n sites) tt
        found
    item_stands (records.Free addr) found = open_after (records.Free addr) tt found
    item_stands (records.Symbol kind addr n name) found = open_after
        (records.Symbol kind addr n name) tt found
    item_stands (records.End e) found = closed_after e found

    more_fits : All (λ b. b < 256) more
    unfolding more
    more_fits = All-append (λ b. b < 256) pending (b ∷ []) k.fits (byte_is b small)

    record_stands : length more ≡ record_extent p.version more → (j : Result TraceRecord TraceFault)
        → record_judged p more ≡ j
        → (let now = record_read (waiting (Some p) None pending) p (length more) j in StandsAt bytes
        (items ++ now.0) now.1)
    unfolding front
    record_stands len (Err fault) known =
        let v = p.version in
        let there = is_behind p items k.counted k.last k.place in
        record {
          before = unended v p.header items;
          unit = more;
          rest = [];
          good = open_parts before items pending p k;
          records = append-nil items;
          spelled = joined ∙ ap (λ (xs : List ℕ). front ++ xs) (sym (append-nil more));
          judged = inl (record {
            whole = len;
            places = omega (arith, size, ap length joined);
            says = subst (λ (q : ReadSoFar). record_judged q more ≡ Err fault) there known;
          });
        }
    record_stands len (Ok item) known = item_stands item
        (record_found p more item k.header.few k.low (bytes_of more more_fits) len known)

  -- a byte behind a whole trace
  after_end : (p : ReadSoFar) (e : TraceEnd) → IsClosed before items pending p e
      → eqb (p.place + length pending) longest_trace ≡ false
      → Stops bytes (items ++ []) (faults.AfterEnd p.place)
  unfolding bytes
  after_end p e k room =
      let t = k.trace in
      let good = t.trace.good in
      let whole : length before ≡ length (spell t.version t.header t.items e) =
      ap length t.trace.spelled in
      let none : length pending ≡ 0 = ap length k.alone in
      let place = k.place in
      let short = good.short in
      let some : p.place < longest_trace = grind (arith, nat_tests) in
      record {
        before = ended t.version t.header t.items e;
        unit = b ∷ [];
        rest = [];
        good = good;
        records = append-nil items ∙ t.records;
        spelled = ap (λ (xs : List ℕ). xs ++ b ∷ []) t.trace.spelled;
        judged = inl (record {
          whole = refl;
          places = omega (arith, length-append (spell t.version t.header t.items e) (b ∷ []));
          says = ap (λ (n : ℕ). faults.AfterEnd n) (sym (k.place ∙ whole));
        });
      }

  -- a byte that no trace has a place for
  last_place : (p : Option ReadSoFar) (e : Option TraceEnd) → Keeps p e before items pending
      → place_reached p + length pending ≡ longest_trace
      → Stops bytes (items ++ []) faults.TooLong
  unfolding bytes
  last_place None e k last =
      let waits = k.waits in
      absurd (omega arith)
  last_place (Some p) None k last =
      let front = begun_with p.version p.header items in
      let place = k.place in
      record {
        before = unended p.version p.header items;
        unit = pending;
        rest = b ∷ [];
        good = open_parts before items pending p k;
        records = append-nil items;
        spelled = ap (λ (xs : List ℕ). xs ++ b ∷ []) k.spelled
            ∙ append_assoc front pending (b ∷ []);
        judged = inr (record {
          part = k.waits;
          last = omega (arith, length-append front pending);
          more = omega arith;
          fault = refl;
        });
      }
  last_place (Some p) (Some e) k last =
      let t = k.trace in
      let all = spell t.version t.header t.items e in
      let whole : length before ≡ length all = ap length t.trace.spelled in
      let none : length pending ≡ 0 = ap length k.alone in
      let place = k.place in
      record {
        before = ended t.version t.header t.items e;
        unit = [];
        rest = b ∷ [];
        good = t.trace.good;
        records = append-nil items ∙ t.records;
        spelled = ap (λ (xs : List ℕ). xs ++ b ∷ []) t.trace.spelled;
        judged = inr (record {
          part = omega arith;
          last = omega (arith, length-append all []);
          more = omega arith;
          fault = refl;
        });
      }

  part_stands : (p : Option ReadSoFar) (e : Option TraceEnd) → Keeps p e before items pending
      → eqb (place_reached p + length pending) longest_trace ≡ false
      → ltb (length more) (extent_at p e more) ≡ false
      → (let now = part_at (waiting p e pending) p e more in StandsAt bytes (items ++ now.0) now.1)
  unfolding more
  part_stands None e k room long =
      let waits = k.waits in
      header_stands e k (grind (arith, nat_tests, longer)) (header_judged more) refl
  part_stands (Some p) None k room long =
      let waits = k.waits in
      let kept = k.room in
      let grew : length pending < record_extent p.version more = grown (Some p) None pending b waits
      in
      record_stands p k (grind (arith, nat_tests, longer)) (grind (arith, nat_tests, longer))
      (record_judged p more) refl
  part_stands (Some p) (Some e) k room long = after_end p e k room

  byte_stands : (f : Option TraceFault) (p : Option ReadSoFar) (e : Option TraceEnd)
      → Stands f p e before items pending
      → (let now = byte_read (record { progress = p; pending = pending; ending = e; fault = f })
      b in StandsAt bytes (items ++ now.0) now.1)
  unfolding byte_read more bytes
  byte_stands (Some fault) p e stands = stops_longer before (b ∷ []) items fault stands
  byte_stands None p e stands =
      let r = waiting p e pending in
      let P : List TraceRecord × Reading → Type 0 = λ now. StandsAt bytes (items ++ now.0) now.1 in
      by_test P (eqb (place_reached p + length pending) longest_trace) ([], with_fault r faults.TooLong)
      _ (λ last. last_place p e stands (grind (arith, nat_tests)))
      (λ room. by_test P (ltb (length more) (extent_at p e more)) ([], record r { pending = more })
      (part_at r p e more)
      (λ short. waits_still p e stands room short) (λ long. part_stands p e stands room long))

-- ---- all bytes

stands_on : (bytes before : List ℕ) (items : List TraceRecord) (r : Reading)
    → All (λ b. b < 256) bytes → StandsAt before items r
    → StandsAt (before ++ bytes) (items ++ (read_on r bytes).0) (read_on r bytes).1
unfolding read_on bytes
stands_on [] before items r small stands =
    subst (λ (x : List ℕ). StandsAt x (items ++ []) r) (sym (append-nil before))
    (subst (λ (xs : List TraceRecord). StandsAt before xs r) (sym (append-nil items)) stands)
stands_on (b ∷ bytes) before items r small stands =
    let now = byte_read r b in
    let one = byte_stands before items r.pending b (All-head (λ b. b < 256) b bytes small) r.fault
    r.progress r.ending stands in
    let later = stands_on bytes (before ++ b ∷ []) (items ++ now.0) now.1
    (All-tail (λ b. b < 256) b bytes small) one in
    let all = read_on now.1 bytes in
    subst (λ (x : List ℕ). StandsAt x (items ++ (now.0 ++ all.0)) all.1)
    (append_assoc before (b ∷ []) bytes)
    (subst (λ (xs : List TraceRecord). StandsAt ((before ++ b ∷ []) ++ bytes) xs all.1)
    (append_assoc items now.0 all.0) later)

ends : (bytes : List ℕ) (items : List TraceRecord) (f : Option TraceFault) (p : Option ReadSoFar)
    (ending : Option TraceEnd) (pending : List ℕ)
    (e : TraceEnd)
    → Stands f p ending bytes items pending
    → ending_of (record { progress = p; pending = pending; ending = ending; fault = f }) ≡ Ok e
    → IsTraceOf bytes items e
ends bytes items (Some fault) p ending pending e stands is = absurd cc
ends bytes items None None ending pending e stands is = absurd cc
ends bytes items None (Some p) None pending e stands is = absurd cc
ends bytes items None (Some p) (Some e') pending e stands is = subst (IsTraceOf bytes items)
    (let same : e' ≡ e = cc in same) stands.trace

same_fault : (a b : TraceFault) → (let r : Result TraceEnd TraceFault = Err a in r ≡ Err b) → a ≡ b
same_fault a b is = cc

fault_in : (bytes : List ℕ) (items : List TraceRecord) (f : Option TraceFault)
    (p : Option ReadSoFar) (ending : Option TraceEnd) (pending : List ℕ) (fault : TraceFault)
    → Stands f p ending bytes items pending
    → ending_of (record { progress = p; pending = pending; ending = ending; fault = f })
    ≡ Err fault
    → HasFault bytes items fault
fault_in bytes items (Some first) p ending pending fault stands is =
    subst (HasFault bytes items) (same_fault first fault is) (has_stopped bytes items first stands)
fault_in bytes items None None None pending fault stands is =
    let waits = stands.waits in
    record {
      before = nothing;
      unit = pending;
      rest = [];
      good = tt;
      records = stands.none;
      spelled = stands.same ∙ sym (append-nil pending);
      judged = inr (inl (record {
        wanted = tt;
        part = stands.waits;
        places = omega arith;
        no_more = refl;
        fault = sym (same_fault _ fault is)
            ∙ ap (λ (n : ℕ). faults.Truncated n) (let none : 0 + length pending ≡ length pending =
            omega arith in none);
      }));
    }
fault_in bytes items None None (Some e) pending fault stands is = absurd cc
fault_in bytes items None (Some p) None pending fault stands is =
    let front = begun_with p.version p.header items in
    let place = stands.place in
    let room = stands.room in
    let size : length (front ++ pending) ≡ p.place + length pending = omega
    (arith, length-append front pending) in
    record {
      before = unended p.version p.header items;
      unit = pending;
      rest = [];
      good = open_parts bytes items pending p stands;
      records = refl;
      spelled = stands.spelled ∙ ap (λ (xs : List ℕ). front ++ xs) (sym (append-nil pending));
      judged = inr (inl (record {
        wanted = tt;
        part = stands.waits;
        places = omega arith;
        no_more = refl;
        fault = sym (same_fault _ fault is) ∙ ap (λ (n : ℕ). faults.Truncated n) (sym size);
      }));
    }
fault_in bytes items None (Some p) (Some e) pending fault stands is = absurd cc

-- What is true of all bytes, read from the first on.
stands_from_the_first : (bytes : List ℕ) → All (λ b. b < 256) bytes
    → StandsAt bytes (reading_of bytes).0 (reading_of bytes).1
stands_from_the_first bytes small =
    let first : StandsAt [] [] begin =
    record {
      none = refl;
      no_end = refl;
      same = refl;
      waits = omega arith;
      fits = All-nil (λ b. b < 256);
    } in
    stands_on bytes [] [] begin small first

pub trace_found : (bytes : List ℕ) (e : TraceEnd) → All (λ b. b < 256) bytes
    → ending_of (reading_of bytes).1 ≡ Ok e
    → IsTraceOf bytes (reading_of bytes).0 e
trace_found bytes e small is =
    let r = (reading_of bytes).1 in
    ends bytes (reading_of bytes).0 r.fault r.progress r.ending r.pending e
    (stands_from_the_first bytes small) is

pub fault_found : (bytes : List ℕ) (f : TraceFault) → All (λ b. b < 256) bytes
    → ending_of (reading_of bytes).1 ≡ Err f
    → HasFault bytes (reading_of bytes).0 f
fault_found bytes f small is =
    let r = (reading_of bytes).1 in
    fault_in bytes (reading_of bytes).0 r.fault r.progress r.ending r.pending f
    (stands_from_the_first bytes small) is
