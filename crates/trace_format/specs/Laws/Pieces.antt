-- What follows for any bytes: a header that is known stays known, and accesses are few.
use Rattle.std.proofs.Common.{◌≡◌, ℕ, ◌+◌, ◌≤◌, ◌<◌, Bool, true, false, cond, ◌&&◌, eqb, ltb, List, []}
use Rattle.std.proofs.Common.{◌∷◌, ◌++◌, length, drop, Option, Some, None, IsSome, Result, Ok, Err}
use Rattle.std.proofs.Common.{refl, sym, ap, subst, ◌∙◌, append_assoc, arith}
use Rattle.std.proofs.lemmas.Bool.Decides.{nat_tests}
use Rattle.std.proofs.lemmas.List.{append-nil, length-append}
use Rattle.std.proofs.lemmas.List.Elements.{filter_map-append}
use Rattle.std.specs.Int.{w16, w32, w64}
use Rattle.std.specs.List.{list_any}
use Rattle.base.specs.Names.{longest_name}
use Rattle.base.specs.Touch.{Touch}
use Rattle.trace_format.specs.declared.record.TraceEnd.{TraceEnd}
use Rattle.base.specs.declared.ending.Outcome.{Outcome}
use Rattle.objects.specs.declared.symbol.SymbolKind.{SymbolKind}
use Rattle.trace_format.specs.declared.fault.TraceFault.{TraceFault}
use Rattle.trace_format.specs.declared.fault.TraceFault.TheVariants as faults
use Rattle.trace_format.specs.declared.record.Version.{Version}
use Rattle.trace_format.specs.declared.record.TraceRecord.{TraceRecord}
use Rattle.trace_format.specs.declared.record.TraceRecord.TheVariants as records
use Rattle.trace_format.specs.declared.tag.Tag.{Tag}
use Rattle.trace_format.specs.declared.tag.Tag.TheVariants as tags
use Rattle.trace_format.specs.declared.read_so_far.ReadSoFar.{ReadSoFar}
use Rattle.trace_format.specs.Rules.{last_position, longest_trace, touch_in, touches_in}
use Rattle.trace_format.specs.Judging.{alloc_at, begun, end_counted, fields_judged, header_judged}
use Rattle.trace_format.specs.Judging.{record_judged, symbol_judged, symbol_with}
use Rattle.base.specs.Fields.{number_at}
use Rattle.trace_format.specs.Judging.{end_with, highest_first, is_near, is_unused, is_whole}
use Rattle.trace_format.specs.Judging.{version_at, tagged_if, touch_counted}
use Rattle.base.specs.Levels.{is_from_to}
use Rattle.trace_format.specs.Laws.Headers.{first_low}
use Rattle.trace_format.specs.declared.record.Header.{Header}
use Rattle.trace_format.specs.Reading.{Reading, begin, byte_read, counted_after, header_read}
use Rattle.trace_format.specs.Reading.{part_at, place_reached, progress_after, read_on, reading_of}
use Rattle.trace_format.specs.Reading.{record_read}
use Rattle.trace_format.specs.ReaderStates.{SameHead}

by_test : {A : Type 0} (P : A → Type 0) (b : Bool) (x y : A) → (b ≡ true → P x) → (b ≡ false → P y)
    → P (cond b x y)
by_test P true x y on off = on refl
by_test P false x y on off = off refl

-- ---- what a header and each record keep is true of all bytes

module _ (Q : List TraceRecord → Option ReadSoFar → Type 0)
    (by_header : (items : List TraceRecord) (bytes : List ℕ) (p : ReadSoFar) → Q items None
    → header_judged bytes ≡ Ok p → Q items (Some p))
    (by_record : (items : List TraceRecord) (p : ReadSoFar) (bytes : List ℕ) (item : TraceRecord)
    → Q items (Some p) → record_judged p bytes ≡ Ok item
    → Q (items ++ item ∷ []) (Some (progress_after p item (length bytes)))) where
  abbrev Holds : List TraceRecord → List TraceRecord × Reading → Type 0
  Holds items now = Q (items ++ now.0) now.1.progress

  nothing_new : (items : List TraceRecord) (p : Option ReadSoFar) → Q items p → Q (items ++ []) p
  nothing_new items p q = subst (λ (xs : List TraceRecord). Q xs p) (sym (append-nil items)) q

  header_keeps : (items : List TraceRecord) (xs bytes : List ℕ) (e : Option TraceEnd)
      (f : Option TraceFault)
      (j : Result ReadSoFar TraceFault)
      → header_judged bytes ≡ j → Q items None
      → Holds items (header_read (record { progress = None; pending = xs; ending = e; fault = f })
      j)
  header_keeps items xs bytes e f (Err fault) is q = nothing_new items None q
  header_keeps items xs bytes e f (Ok p) is q = nothing_new items (Some p)
      (by_header items bytes p q is)

  record_keeps : (items : List TraceRecord) (p : ReadSoFar) (xs bytes : List ℕ) (e : Option TraceEnd)
      (f : Option TraceFault)
      (j : Result TraceRecord TraceFault)
      → record_judged p bytes ≡ j → Q items (Some p)
      → Holds items (record_read (record { progress = Some p; pending = xs; ending = e; fault = f })
      p (length bytes) j)
  record_keeps items p xs bytes e f (Err fault) is q = nothing_new items (Some p) q
  record_keeps items p xs bytes e f (Ok item) is q = by_record items p bytes item q is

  part_keeps : (items : List TraceRecord) (p : Option ReadSoFar) (xs bytes : List ℕ)
      (e : Option TraceEnd) (f : Option TraceFault)
      → Q items p →
      Holds items (part_at (record { progress = p; pending = xs; ending = e; fault = f }) p e
      bytes)
  part_keeps items None xs bytes e f q = header_keeps items xs bytes e f (header_judged bytes) refl
      q
  part_keeps items (Some p) xs bytes None f q = record_keeps items p xs bytes None f
      (record_judged p bytes) refl q
  part_keeps items (Some p) xs bytes (Some e) f q = nothing_new items (Some p) q

  byte_keeps : (items : List TraceRecord) (p : Option ReadSoFar) (xs : List ℕ) (e : Option TraceEnd)
      (f : Option TraceFault) (b : ℕ)
      → Q items p →
      Holds items (byte_read (record { progress = p; pending = xs; ending = e; fault = f }) b)
  unfolding byte_read
  byte_keeps items p xs e (Some fault) b q = nothing_new items p q
  byte_keeps items p xs e None b q =
      let P : List TraceRecord × Reading → Type 0 = λ now. Q (items ++ now.0) now.1.progress in
      by_test P (eqb (place_reached p + length xs) longest_trace) _ _ (λ _. nothing_new items p q)
      (λ _. by_test P _ _ _ (λ _. nothing_new items p q)
      (λ _. part_keeps items p xs (xs ++ b ∷ []) e None q))

  over_bytes : (items : List TraceRecord) (r : Reading) (bytes : List ℕ) → Q items r.progress
      → Holds items (read_on r bytes)
  unfolding read_on
  over_bytes items r [] q = nothing_new items r.progress q
  over_bytes items r (b ∷ bytes) q =
      let now = byte_read r b in
      let one : Q (items ++ now.0) now.1.progress = byte_keeps items r.progress r.pending r.ending
      r.fault b q in
      let later = over_bytes (items ++ now.0) now.1 bytes one in
      let last = read_on now.1 bytes in
      subst (λ (xs : List TraceRecord). Q xs last.1.progress) (append_assoc items now.0 last.0)
      later

-- ---- the header

pub same_head : (p : Option ReadSoFar) → SameHead p p
same_head p = record { version = refl; header = refl }

none_stated : (p : Option ReadSoFar) → IsSome p → SameHead None p → ⊥
none_stated None some same = cc
none_stated (Some p) some same = let version = same.version in cc

module _ (stated : Option ReadSoFar) (some : IsSome stated) where
  header_same : (items : List TraceRecord) (bytes : List ℕ) (p : ReadSoFar) → SameHead None stated
      → header_judged bytes ≡ Ok p
      → SameHead (Some p) stated
  header_same items bytes p none is = absurd (none_stated stated some none)

  record_same : (items : List TraceRecord) (p : ReadSoFar) (bytes : List ℕ) (item : TraceRecord)
      → SameHead (Some p) stated
      → record_judged p bytes ≡ Ok item
      → SameHead (Some (progress_after p item (length bytes))) stated
  record_same items p bytes item same is = record { version = same.version; header = same.header }

-- Once known, a header stays with each part that is read, and whatever bytes follow.
pub part_at-head : (r : Reading) (bytes : List ℕ) → IsSome r.progress
    → SameHead (part_at r r.progress r.ending bytes).1.progress r.progress
part_at-head r bytes some =
    part_keeps (λ items p. SameHead p r.progress) (header_same r.progress some)
    (record_same r.progress some)
    [] r.progress r.pending bytes r.ending r.fault (same_head r.progress)

pub read_on-head : (r : Reading) (bytes : List ℕ) → IsSome r.progress
    → SameHead (read_on r bytes).1.progress r.progress
read_on-head r bytes some =
    over_bytes (λ items p. SameHead p r.progress) (header_same r.progress some)
    (record_same r.progress some)
    [] r bytes (same_head r.progress)

-- ---- the accesses

-- An access that is judged good has a position.
record HasPosition (p : ReadSoFar) (judged : Result TraceRecord TraceFault) : Type 0 where
  position : (a : Touch) (pc : Option ℕ) → judged ≡ Ok (records.Touch a pc)
      → p.header.first + p.counted < last_position

at_fault : (p : ReadSoFar) (fault : TraceFault) → HasPosition p (Err fault)
at_fault p fault = record { position = λ a pc is. absurd cc }

touch_placed : (p : ReadSoFar) (a : Touch) (pc : Option ℕ)
    → ltb (p.header.first + p.counted) last_position ≡ true
    → HasPosition p (Ok (records.Touch a pc))
touch_placed p a pc low = record { position = λ b other is. grind (arith, nat_tests) }

symbol_placed : (p : ReadSoFar) (kind : SymbolKind) (addr size : ℕ) (name : List ℕ)
    → HasPosition p (Ok (records.Symbol kind addr size name))
symbol_placed p kind addr size name = record { position = λ a pc is. absurd cc }

end_placed : (p : ReadSoFar) (e : TraceEnd) → HasPosition p (Ok (records.End e))
end_placed p e = record { position = λ a pc is. absurd cc }

touch_there : (p : ReadSoFar) (j : Result (Touch × Option ℕ) TraceFault)
    → HasPosition p (touch_counted p j)
touch_there p (Err fault) = at_fault p fault
touch_there p (Ok sited) =
    by_test (HasPosition p) _ _ _ (λ low. touch_placed p sited.0 sited.1 low) (λ high. at_fault p faults.TooLong)

symbol_there : (p : ReadSoFar) (place : ℕ) (bytes : List ℕ) (kind : Option SymbolKind)
    → HasPosition p (symbol_with place bytes kind)
symbol_there p place bytes None = at_fault p _
symbol_there p place bytes (Some kind) =
    by_test (HasPosition p) (eqb (number_at w32 6 bytes) 0) _ _ (λ _. at_fault p _)
    (λ _. by_test (HasPosition p) (ltb longest_name (number_at w16 10 bytes)) _ _
    (λ _. at_fault p _)
    (λ _. by_test (HasPosition p) (list_any (eqb 0) (drop 12 bytes)) _ _ (λ _. at_fault p _)
    (λ _. symbol_placed p kind _ _ _)))

end_there : (p : ReadSoFar) (bytes : List ℕ) (j : Result Outcome TraceFault)
    → HasPosition p (end_counted p bytes j)
end_there p bytes (Err fault) = at_fault p fault
end_there p bytes (Ok outcome) =
    let e = end_with p.version bytes outcome in
    by_test (HasPosition p) (eqb e.accesses p.counted)
    (cond (is_whole e.accesses e.whole) (Ok (records.End e)) (Err (faults.BadField (p.place + 25))))
    (Err (faults.CountMismatch e.accesses p.counted))
    (λ _. by_test (HasPosition p) (is_whole e.accesses e.whole) (Ok (records.End e))
    (Err (faults.BadField (p.place + 25))) (λ _. end_placed p e) (λ _. at_fault p _))
    (λ _. at_fault p _)

tagged_there : (p : ReadSoFar) (bytes : List ℕ) (tag : Option Tag)
    → HasPosition p (tagged_if p tag bytes)
unfolding alloc_at symbol_judged
tagged_there p bytes None = at_fault p _
tagged_there p bytes (Some (tags.Touch kind)) = touch_there p _
tagged_there p bytes (Some (tags.ShortTouch kind size)) = touch_there p _
tagged_there p bytes (Some (tags.SitedTouch kind size)) = touch_there p _
tagged_there p bytes (Some tags.Alloc) = record { position = λ a pc is. absurd cc }
tagged_there p bytes (Some tags.Free) = record { position = λ a pc is. absurd cc }
tagged_there p bytes (Some tags.Symbol) = symbol_there p p.place bytes _
tagged_there p bytes (Some tags.End) = end_there p bytes _

record_there : (p : ReadSoFar) (bytes : List ℕ) → HasPosition p (record_judged p bytes)
unfolding record_judged
record_there p bytes = tagged_there p bytes _

-- the beginning of a trace counts no access, and its first position is one of a trace
record IsFresh (p : ReadSoFar) : Type 0 where
  counted : p.counted ≡ 0
  first : p.header.first ≤ last_position

record BeginsFresh (judged : Result ReadSoFar TraceFault) : Type 0 where
  fresh : (p : ReadSoFar) → judged ≡ Ok p → IsFresh p

begins_at_fault : (fault : TraceFault) → BeginsFresh (Err fault)
begins_at_fault fault = record { fresh = λ p is. absurd cc }

begins_fresh : (v : Version) (first harts near : ℕ) → ltb (highest_first v) first ≡ false
    → BeginsFresh (Ok (begun v (record { first = first; harts = harts; near = near })))
begins_fresh v first harts near low =
    let header : Header = record { first = first; harts = harts; near = near } in
    let begins : IsFresh (begun v header) = record {
      counted = refl;
      first = first_low v first low;
    } in
    record {
      fresh = λ p is. (let same : begun v header ≡ p = cc in subst IsFresh same begins);
    }

fields_fresh : (v : Option Version) (first harts near : ℕ)
    → BeginsFresh (fields_judged v first harts near)
fields_fresh None first harts near = begins_at_fault _
fields_fresh (Some v) first harts near =
    let made = begun v (record { first = first; harts = harts; near = near }) in
    let sized : Result ReadSoFar TraceFault = cond (is_near v near) (Ok made)
    (Err (faults.BadField 18)) in
    let used = is_from_to 1 256 harts && is_unused v near in
    by_test BeginsFresh (ltb (highest_first v) first) (Err (faults.BadField 8))
    (cond used sized (Err faults.BadHarts)) (λ _. begins_at_fault _)
    (λ low. by_test BeginsFresh used sized (Err faults.BadHarts)
    (λ _. by_test BeginsFresh (is_near v near) (Ok made) (Err (faults.BadField 18))
    (λ _. begins_fresh v first harts near low) (λ _. begins_at_fault _))
    (λ _. begins_at_fault _))

header_fresh : (bytes : List ℕ) → BeginsFresh (header_judged bytes)
unfolding header_judged
header_fresh bytes = fields_fresh (version_at bytes) (number_at w64 8 bytes)
    (number_at w16 16 bytes) (number_at w16 18 bytes)

-- what the records so far say of how many accesses there are
record IsCounted (items : List TraceRecord) (p : ReadSoFar) : Type 0 where
  counted : p.counted ≡ length (touches_in items)
  few : p.header.first + p.counted ≤ last_position

abbrev Counts : List TraceRecord → Option ReadSoFar → Type 0
Counts items None = items ≡ []
Counts items (Some p) = IsCounted items p

counted_one : (n : ℕ) (item : TraceRecord) → counted_after n item ≡ n + length
    (touches_in (item ∷ []))
counted_one n (records.Touch a pc) = refl
counted_one n (records.Alloc addr size sites) = omega arith
counted_one n (records.Free addr) = omega arith
counted_one n (records.Symbol kind addr size name) = omega arith
counted_one n (records.End e) = omega arith

few_after : (p : ReadSoFar) (item : TraceRecord) → HasPosition p (Ok item)
    → p.header.first + p.counted ≤ last_position
    → p.header.first + counted_after p.counted item ≤ last_position
few_after p (records.Touch a pc) there few = omega (arith, there.position a pc refl)
few_after p (records.Alloc addr size sites) there few = few
few_after p (records.Free addr) there few = few
few_after p (records.Symbol kind addr size name) there few = few
few_after p (records.End e) there few = few

begins_counted : (items : List TraceRecord) (bytes : List ℕ) (p : ReadSoFar) → items ≡ []
    → header_judged bytes ≡ Ok p
    → IsCounted items p
begins_counted items bytes p none is =
    let fresh = (header_fresh bytes).fresh p is in
    let counted = fresh.counted in
    let first = fresh.first in
    record {
      counted = counted ∙ sym (ap (λ (xs : List TraceRecord). length (touches_in xs)) none);
      few = omega arith;
    }

goes_on_counted : (items : List TraceRecord) (p : ReadSoFar) (bytes : List ℕ) (item : TraceRecord)
    → IsCounted items p
    → record_judged p bytes ≡ Ok item
    → IsCounted (items ++ item ∷ []) (progress_after p item (length bytes))
goes_on_counted items p bytes item so_far is =
    let there : HasPosition p (Ok item) = subst (HasPosition p) is (record_there p bytes) in
    let more : length (touches_in (items ++ item ∷ [])) ≡ length (touches_in items) + length
    (touches_in (item ∷ [])) =
    ap length (filter_map-append touch_in items (item ∷ []))
    ∙ length-append (touches_in items) (touches_in (item ∷ [])) in
    record {
      counted = counted_one p.counted item ∙ ap (λ (n : ℕ). n + length (touches_in (item ∷ [])))
          so_far.counted ∙ sym more;
      few = few_after p item there so_far.few;
    }

counts : (bytes : List ℕ) → Counts (reading_of bytes).0 (reading_of bytes).1.progress
counts bytes = over_bytes Counts begins_counted goes_on_counted [] begin bytes refl

of_some : (q : Option ReadSoFar) (p : ReadSoFar) (items : List TraceRecord) → q ≡ Some p
    → Counts items q → IsCounted items p
of_some q p items is so_far = subst (Counts items) is so_far

-- The accesses that any bytes have come at positions below 2^40.
pub few_accesses : (bytes : List ℕ) (p : ReadSoFar) → (reading_of bytes).1.progress ≡ Some p
    → p.header.first + length (touches_in (reading_of bytes).0) ≤ last_position
few_accesses bytes p is =
    let so_far = of_some (reading_of bytes).1.progress p (reading_of bytes).0 is (counts bytes) in
    let counted = so_far.counted in
    let few = so_far.few in
    omega arith
