-- What follows of traces and refusals: what pieces say of the whole, and which parts a trace has.
use Rattle.std.proofs.Common.{◌≡◌, ◌≢◌, ℕ, ◌+◌, ◌-◌, ◌≤◌, Bool, true, false, cond, eqb, eqb-true, ltb}
use Rattle.std.proofs.Common.{List, [], ◌∷◌, ◌++◌, length, take, All, Option, Some, None, Result}
use Rattle.std.proofs.Common.{Ok, Err, refl, sym, ap, subst, ◌∙◌, arith}
use Rattle.std.proofs.lemmas.List.{length-append}
use Rattle.std.proofs.Math.Seq.{take-append_seam}
use Rattle.std.specs.Option.{ForSome, option_map, option_or}
use Rattle.trace_format.specs.declared.record.TraceEnd.{TraceEnd}
use Rattle.trace_format.specs.declared.fault.TraceFault.{TraceFault}
use Rattle.trace_format.specs.declared.fault.TraceFault.TheVariants as faults
use Rattle.trace_format.specs.declared.record.Header.{Header}
use Rattle.trace_format.specs.declared.record.Version.{Version}
use Rattle.trace_format.specs.declared.record.Version.TheVariants.{One, Two, Three, Four}
use Rattle.trace_format.specs.declared.record.TraceRecord.{TraceRecord}
use Rattle.trace_format.specs.declared.record.TraceRecord.TheVariants as records
use Rattle.trace_format.specs.declared.read_so_far.ReadSoFar.{ReadSoFar}
use Rattle.trace_format.specs.Rules.{HasRegions, IsGoodHeader, IsInner, IsWritable, last_position}
use Rattle.trace_format.specs.Rules.{longest_trace, touches_in}
use Rattle.trace_format.specs.Judging.{record_judged, version_at}
use Rattle.trace_format.specs.Reading.{Reading, byte_read, ending_at, ending_of, extent_at}
use Rattle.trace_format.specs.Reading.{part_at, place_reached, read_on, reading_of, record_read}
use Rattle.trace_format.specs.Reading.{taken}
use Rattle.trace_format.specs.Reading.{with_fault}
use Rattle.trace_format.specs.Laws.Magic.{fault_is_late, has_version, version_kept, version_stays}
use Rattle.trace_format.specs.Laws.Reading.{read_on-fault, read_on-pieces, waiting}
use Rattle.trace_passes.specs.declared.wanted.Refusal.{Refusal}
use Rattle.trace_passes.specs.declared.wanted.Refusal.TheVariants as refusals
use Rattle.trace_passes.specs.declared.wanted.Wanted.{Wanted}
use Rattle.trace_passes.specs.Passes.{Trace, IsWanted, all_records, before_last, first_refusal}
use Rattle.trace_passes.specs.Passes.{harts_refusal, head_of, header_refusal, pcs_refusal}
use Rattle.trace_passes.specs.Passes.{HasPcs, near_refusal, refusal_of}
use Rattle.trace_passes.specs.Passes.{trace_at, trace_of, trace_refusal, version_refusal}
use Rattle.trace_format.specs.Laws.Counts.{EndsWith, IsCounted, IsSoFar, so_far, touches_in-append}

by_test : {A : Type 0} (P : A → Type 0) (b : Bool) (x y : A) → P x → P y → P (cond b x y)
by_test P true x y px py = px
by_test P false x y px py = py

-- ---- the header, once known, is known still

-- the version and the header, once known, are known still
abbrev pub HeadStays : Option ReadSoFar → Option ReadSoFar → Type 0
HeadStays None now = Unit {0}
HeadStays (Some p) now =
    (option_map (λ q. q.version) now ≡ Some p.version)
    × (option_map (λ q. q.header) now ≡ Some p.header)

same_head : (p : Option ReadSoFar) → HeadStays p p
same_head None = tt
same_head (Some p) = (refl, refl)

later_head : (p q r : Option ReadSoFar) → HeadStays p q → HeadStays q r → HeadStays p r
later_head None q r first then = tt
later_head (Some p) None r first then = let none = first.0 in absurd cc
later_head (Some p) (Some q) r first then =
    let version = first.0 in
    let header = first.1 in (then.0 ∙ version, then.1 ∙ header)

head_after_record : (p : ReadSoFar) (pending : List ℕ) (size : ℕ)
    (j : Result TraceRecord TraceFault)
    → HeadStays (Some p) (record_read (waiting (Some p) None pending) p size j).1.progress
head_after_record p pending size (Err fault) = (refl, refl)
head_after_record p pending size (Ok item) = (refl, refl)

head_after_part : (p : Option ReadSoFar) (e : Option TraceEnd) (pending bytes : List ℕ)
    → HeadStays p (part_at (waiting p e pending) p e bytes).1.progress
head_after_part None e pending bytes = tt
head_after_part (Some p) None pending bytes = head_after_record p pending (length bytes)
    (record_judged p bytes)
head_after_part (Some p) (Some e) pending bytes = (refl, refl)

head_after_byte : (f : Option TraceFault) (p : Option ReadSoFar) (e : Option TraceEnd)
    (pending : List ℕ) (b : ℕ)
    → HeadStays p (byte_read (record { progress = p; pending = pending; ending = e; fault = f })
    b).1.progress
unfolding byte_read
head_after_byte (Some fault) p e pending b = same_head p
head_after_byte None p e pending b =
    let r = waiting p e pending in
    let more = pending ++ b ∷ [] in
    let P : List TraceRecord × Reading → Type 0 = λ now. HeadStays p now.1.progress in
    by_test P (eqb (place_reached p + length pending) longest_trace) ([], with_fault r faults.TooLong) _
    (same_head p)
    (by_test P (ltb (length more) (extent_at p e more)) ([], record r { pending = more })
    (part_at r p e more) (same_head p)
    (head_after_part p e pending more))

head_stays : (bytes : List ℕ) (r : Reading) → HeadStays r.progress (read_on r bytes).1.progress
unfolding read_on
head_stays [] r = same_head r.progress
head_stays (b ∷ bytes) r =
    let now = (byte_read r b).1 in
    later_head r.progress now.progress (read_on now bytes).1.progress
    (head_after_byte r.fault r.progress r.ending r.pending b) (head_stays bytes now)

-- More bytes leave the version and the header that some bytes state.
pub head_of_front : (bytes more : List ℕ) → HeadStays (reading_of bytes).1.progress
    (reading_of (bytes ++ more)).1.progress
head_of_front bytes more =
    subst (λ (x : List TraceRecord × Reading). HeadStays (reading_of bytes).1.progress x.1.progress)
    (sym (read_on-pieces bytes more)) (head_stays more (reading_of bytes).1)

-- ---- how a front is refused, the whole is

same_header : (p q : Option ReadSoFar) → HeadStays p q → (w : Wanted) (x : Refusal)
    → header_refusal w (head_of p) ≡ Some x
    → header_refusal w (head_of q) ≡ Some x
same_header None q stays w x e = absurd cc
same_header (Some p) q stays w x e = ap (header_refusal w) stays.1 ∙ e

or_first : (a b : Option Refusal) (x : Refusal) → a ≡ Some x → option_or a b ≡ Some x
or_first None b x e = absurd cc
or_first (Some a) b x e = e

or_second : (a b : Option Refusal) → a ≡ None → option_or a b ≡ b
or_second None b e = refl
or_second (Some a) b e = absurd cc

version_refused : (pcs : Bool) (a b : Option Version) (x : Refusal)
    → ((v : Version) → a ≡ Some v → b ≡ Some v) → version_refusal pcs a ≡ Some x
    → version_refusal pcs b ≡ Some x
version_refused false a b x kept e = absurd cc
version_refused true None b x kept e = absurd cc
version_refused true (Some v) b x kept e = ap (version_refusal true) (kept v refl) ∙ e

-- A magic that is refused refuses all that begins so.
pub refused_for_pcs : (w : Wanted) (bytes more : List ℕ) (x : Refusal)
    → pcs_refusal w bytes ≡ Some x → refusal_of w (bytes ++ more) ≡ Some x
refused_for_pcs w bytes more x e =
    or_first (pcs_refusal w (bytes ++ more)) _ x
    (version_refused w.pcs (version_at bytes) (version_at (bytes ++ more)) x
    (version_kept bytes more) e)

-- A magic that is there and isn't refused is not refused with more bytes.
pub pcs_taken : (w : Wanted) (bytes more : List ℕ) → 8 ≤ length bytes → pcs_refusal w bytes ≡ None
    → pcs_refusal w (bytes ++ more) ≡ None
pcs_taken w bytes more long sited = ap (version_refusal w.pcs) (version_stays bytes more long)
    ∙ sited

-- a header that is refused is there
refused_header : (w : Wanted) (p : Option ReadSoFar) (x : Refusal)
    → header_refusal w (head_of p) ≡ Some x → (now : ReadSoFar) × (p ≡ Some now)
refused_header w None x e = absurd cc
refused_header w (Some p) x e = (p, refl)

-- A header that is refused once it is accepted refuses all that begins so.
pub refused_for_header : (w : Wanted) (bytes more : List ℕ) (x : Refusal)
    → pcs_refusal w bytes ≡ None
    → header_refusal w (head_of (reading_of bytes).1.progress) ≡ Some x
    → refusal_of w (bytes ++ more) ≡ Some x
refused_for_header w bytes more x sited e =
    let now = (reading_of (bytes ++ more)).1 in
    let head = refused_header w (reading_of bytes).1.progress x e in
    let long = (has_version bytes head.0 head.1).long in
    or_second (pcs_refusal w (bytes ++ more)) _ (pcs_taken w bytes more (omega (arith, long)) sited)
    ∙ or_first (header_refusal w (head_of now.progress)) (trace_refusal (ending_of now)) x
    (same_header (reading_of bytes).1.progress now.progress (head_of_front bytes more) w x e)

fault_in : (r : Reading) (bytes : List ℕ) (f : Option TraceFault) (fault : TraceFault) → r.fault ≡ f
    → f ≡ Some fault
    → (read_on r bytes).1 ≡ r
fault_in r bytes None fault is e = absurd cc
fault_in r bytes (Some g) fault is e =
    let family : Option TraceFault → Type 0 =
    λ f. (let now : Reading = record {
      progress = r.progress;
      pending = r.pending;
      ending =
          r.ending;
      fault = f;
    } in
    (read_on now bytes).1 ≡ now) in
    subst family (sym is)
    (ap (λ (x : List TraceRecord × Reading). x.1)
    (read_on-fault r.progress r.pending r.ending g bytes))

-- After a fault more bytes change nothing.
pub fault_stays : (bytes more : List ℕ) (fault : TraceFault)
    → (reading_of bytes).1.fault ≡ Some fault
    → (reading_of (bytes ++ more)).1 ≡ (reading_of bytes).1
fault_stays bytes more fault e =
    let r = (reading_of bytes).1 in
    ap (λ (x : List TraceRecord × Reading). x.1) (read_on-pieces bytes more)
    ∙ fault_in r more r.fault fault refl e

fault_ends : (r : Reading) (f : Option TraceFault) (fault : TraceFault) → r.fault ≡ f
    → f ≡ Some fault → ending_of r ≡ Err fault
fault_ends r None fault is e = absurd cc
fault_ends r (Some g) fault is e = ap (λ (f : Option TraceFault). ending_at f r.ending (taken r))
    (is ∙ e)

-- Bytes whose magic and header are not refused are refused for what they end with.
pub refusal_at_end : (w : Wanted) (bytes : List ℕ) → pcs_refusal w bytes ≡ None
    → header_refusal w (head_of (reading_of bytes).1.progress) ≡ None
    → refusal_of w bytes ≡ trace_refusal (ending_of (reading_of bytes).1)
refusal_at_end w bytes sited unrefused =
    let now = (reading_of bytes).1 in
    or_second (pcs_refusal w bytes) _ sited
    ∙ or_second (header_refusal w (head_of now.progress)) (trace_refusal (ending_of now)) unrefused

pub refused_at_end : (w : Wanted) (bytes : List ℕ) (fault : TraceFault)
    → pcs_refusal w bytes ≡ None
    → header_refusal w (head_of (reading_of bytes).1.progress) ≡ None
    → ending_of (reading_of bytes).1 ≡ Err fault
    → refusal_of w bytes ≡ Some (refusals.Trace fault)
refused_at_end w bytes fault sited unrefused e = refusal_at_end w bytes sited unrefused
    ∙ ap trace_refusal e

-- A fault of a front whose magic and header are not refused is that of the whole.
pub refused_for_fault : (w : Wanted) (bytes more : List ℕ) (fault : TraceFault)
    → pcs_refusal w bytes ≡ None
    → header_refusal w (head_of (reading_of bytes).1.progress) ≡ None
    → (reading_of bytes).1.fault ≡ Some fault
    → refusal_of w (bytes ++ more) ≡ Some (refusals.Trace fault)
refused_for_fault w bytes more fault sited unrefused e =
    let same = fault_stays bytes more fault e in
    let r = (reading_of bytes).1 in
    let long = fault_is_late bytes fault e in
    refused_at_end w (bytes ++ more) fault (pcs_taken w bytes more (omega (arith, long)) sited)
    (ap (λ (x : Reading). header_refusal w (head_of x.progress)) same ∙ unrefused)
    (ap ending_of same ∙ fault_ends r r.fault fault refl e)

-- What is a trace with a magic and a header that are not refused is not refused.
pub accepted_at_end : (w : Wanted) (bytes : List ℕ) (e : TraceEnd) → pcs_refusal w bytes ≡ None
    → header_refusal w (head_of (reading_of bytes).1.progress) ≡ None
    → ending_of (reading_of bytes).1 ≡ Ok e
    → refusal_of w bytes ≡ None
accepted_at_end w bytes e sited unrefused is = refusal_at_end w bytes sited unrefused
    ∙ ap trace_refusal is

-- ---- which header is as wanted

by_none : (b : Bool) (x : Refusal) → (let r : Option Refusal = cond b None (Some x) in r ≡ None)
    → b ≡ true
by_none true x e = refl
by_none false x e = absurd cc

wanted_harts : (w : Option ℕ) (harts : ℕ) → harts_refusal w harts ≡ None
    → ForSome w (λ n. harts ≡ n)
wanted_harts None harts e = λ n is. absurd cc
wanted_harts (Some m) harts e =
    let same = eqb-true harts m (by_none (eqb harts m) refusals.Harts e) in
    λ n is. cc

wanted_first : (w : Option ℕ) (first : ℕ) → first_refusal w first ≡ None
    → ForSome w (λ n. first ≡ n)
wanted_first None first e = λ n is. absurd cc
wanted_first (Some m) first e =
    let same = eqb-true first m (by_none (eqb first m) (refusals.Position m first) e) in
    λ n is. cc

pub neither : (a b : Option Refusal) → option_or a b ≡ None → (a ≡ None) × (b ≡ None)
neither None b e = (refl, e)
neither (Some a) b e = absurd cc

-- a header that is not refused is as wanted
pub is_wanted : (w : Wanted) (h : Header) → header_refusal w (Some h) ≡ None → IsWanted w h
is_wanted w h e =
    let later = neither (near_refusal w.lines h.near) _ e in
    let both = neither (harts_refusal w.harts h.harts) (first_refusal w.first h.first) later.1 in
    record {
      harts = wanted_harts w.harts h.harts both.0;
      first =
          wanted_first w.first h.first both.1;
    }

-- and its regions are as large as is wanted
pub is_near : (w : Wanted) (h : Header) → header_refusal w (Some h) ≡ None
    → near_refusal w.lines h.near ≡ None
is_near w h e = (neither (near_refusal w.lines h.near) _ e).0

none_near : (near : ℕ) (is : Bool) → eqb near 0 ≡ is
    → cond is None (Some refusals.Filtered) ≡ None → near ≡ 0
none_near near true is e = eqb-true near 0 is
none_near near false is e = absurd cc

filtered_not : (v : Version) (h : Header) → HasRegions v h → h.near ≡ 0 → v ≢ Four
filtered_not One h regions none is = absurd cc
filtered_not Two h regions none is = absurd cc
filtered_not Three h regions none is = absurd cc
filtered_not Four h regions none is = omega (arith, regions.1.0, none)

-- Where no filtered trace is wanted, none is taken.
pub is_unfiltered : (w : Wanted) (v : Version) (h : Header) → HasRegions v h
    → near_refusal w.lines h.near ≡ None → w.lines ≡ None → v ≢ Four
is_unfiltered w v h regions near none =
    filtered_not v h regions (none_near h.near (eqb h.near 0) refl
    (ap (λ (l : Option ℕ). near_refusal l h.near) (sym none) ∙ near))

sited_version : (pcs : Bool) (v : Version) → version_refusal pcs (Some v) ≡ None → pcs ≡ true
    → HasPcs v
sited_version false v e is = absurd cc
sited_version true One e is = absurd cc
sited_version true Two e is = absurd cc
sited_version true Three e is = tt
sited_version true Four e is = tt

-- a trace that isn't refused for having no pcs has them where they are wanted
pub is_sited : (w : Wanted) (bytes : List ℕ) (p : ReadSoFar) → pcs_refusal w bytes ≡ None
    → (reading_of bytes).1.progress ≡ Some p → w.pcs ≡ true → HasPcs p.version
is_sited w bytes p sited known =
    let version = (has_version bytes p known).version in
    sited_version w.pcs p.version (ap (version_refusal w.pcs) (sym version) ∙ sited)

-- ---- the parts of a trace

before_last-of : (before : List TraceRecord) (x : TraceRecord)
    → before_last (before ++ x ∷ []) ≡ before
before_last-of before x =
    let n : length (before ++ x ∷ []) - 1 ≡ length before =
    omega (arith, length-append before (x ∷ [])) in
    ap (λ (k : ℕ). take k (before ++ x ∷ [])) n ∙ take-append_seam before (x ∷ [])

pub before_last-is : (all before : List TraceRecord) (x : TraceRecord) → all ≡ before ++ x ∷ []
    → before_last all ≡ before
before_last-is all before x is = ap before_last is ∙ before_last-of before x

-- what bytes say that are a trace with this end
pub record IsWhole (all : List TraceRecord) (progress : Option ReadSoFar)
    (e : TraceEnd) : Type 0 where
  pub now : ReadSoFar
  pub known : progress ≡ Some now
  pub counted : IsCounted now all
  pub ends : EndsWith all e

whole_in : (all : List TraceRecord) (f : Option TraceFault) (p : Option ReadSoFar)
    (end : Option TraceEnd) (n : ℕ) (e : TraceEnd)
    → IsSoFar p end all → ending_at f end n ≡ Ok e → IsWhole all p e
whole_in all (Some fault) p end n e is known = absurd cc
whole_in all None p None n e is known = absurd cc
whole_in all None None (Some end) n e is known = let none = is.1 in absurd cc
whole_in all None (Some p) (Some end) n e is known =
    let same : end ≡ e = cc in
    record { now = p; known = refl; counted = is.0; ends = subst (EndsWith all) same is.1 }

-- Bytes that end well had a header, and their records end with that end.
pub whole_at_end : (bytes : List ℕ) (e : TraceEnd) → ending_of (reading_of bytes).1 ≡ Ok e
    → IsWhole (reading_of bytes).0 (reading_of bytes).1.progress e
whole_at_end bytes e known =
    let now = reading_of bytes in
    whole_in now.0 now.1.fault now.1.progress now.1.ending (taken now.1) e (so_far bytes) known

-- what a trace was read from
record WasRead (all : List TraceRecord) (progress : Option ReadSoFar)
    (ended : Result TraceEnd TraceFault) (t : Trace) : Type 0 where
  now : ReadSoFar
  known : progress ≡ Some now
  end : ended ≡ Ok t.ending
  header : t.header ≡ now.header
  items : t.items ≡ before_last all

was_read : (all : List TraceRecord) (p : Option ReadSoFar) (j : Result TraceEnd TraceFault)
    (t : Trace)
    → trace_at all p j ≡ Some t
    → WasRead all p j t
was_read all (Some p) (Ok e) t is =
    let made : Trace = record {
      version = p.version;
      header = p.header;
      items = before_last all;
      ending = e;
    } in
    let same : made ≡ t = cc in
    subst (WasRead all (Some p) (Ok e)) same
    (record { now = p; known = refl; end = refl; header = refl; items = refl })
was_read all None (Ok e) t is = absurd cc
was_read all (Some p) (Err fault) t is = absurd cc
was_read all None (Err fault) t is = absurd cc

pub trace-ending : (bytes : List ℕ) (t : Trace) → trace_of bytes ≡ Some t
    → ending_of (reading_of bytes).1 ≡ Ok t.ending
trace-ending bytes t is =
    let now = reading_of bytes in
    (was_read now.0 now.1.progress (ending_of now.1) t is).end

-- The records that are read of a trace are all its records.
pub trace-records : (bytes : List ℕ) (t : Trace) → trace_of bytes ≡ Some t
    → (reading_of bytes).0 ≡ all_records t
trace-records bytes t is =
    let now = reading_of bytes in
    let was = was_read now.0 now.1.progress (ending_of now.1) t is in
    let whole = whole_at_end bytes t.ending was.end in
    let items : t.items ≡ whole.ends.before = was.items
    ∙ before_last-is now.0 whole.ends.before _ whole.ends.is in
    whole.ends.is ∙ ap (λ (xs : List TraceRecord). xs ++ records.End t.ending ∷ []) (sym items)

-- The header is good, each record may be written, no other is an end, positions are those of a
-- trace, and the end states how many accesses there are.
pub record HasParts (t : Trace) : Type 0 where
  pub header : IsGoodHeader t.header
  pub writable : All IsWritable (all_records t)
  pub inner : All IsInner t.items
  pub positions : t.header.first + length (touches_in t.items) ≤ last_position
  pub counted : t.ending.accesses ≡ length (touches_in t.items)

touches_before : (items : List TraceRecord) (e : TraceEnd)
    → length (touches_in (items ++ records.End e ∷ [])) ≡ length (touches_in items)
touches_before items e =
    omega (
      arith,
      ap length (touches_in-append items (records.End e ∷ [])),
      length-append (touches_in items) [],
    )

pub trace-parts : (bytes : List ℕ) (t : Trace) → trace_of bytes ≡ Some t → HasParts t
trace-parts bytes t is =
    let now = reading_of bytes in
    let was = was_read now.0 now.1.progress (ending_of now.1) t is in
    let whole = whole_at_end bytes t.ending was.end in
    let ends = whole.ends in
    let items : t.items ≡ ends.before = was.items ∙ before_last-is now.0 ends.before _ ends.is in
    let same : whole.now ≡ was.now = let a = whole.known in let b = was.known in cc in
    let header : t.header ≡ whole.now.header = was.header
    ∙ ap (λ (p : ReadSoFar). p.header) (sym same) in
    let counted = whole.counted in
    let size : length (touches_in now.0) ≡ length (touches_in ends.before) =
    ap (λ (xs : List TraceRecord). length (touches_in xs)) ends.is
    ∙ touches_before ends.before t.ending in
    let size_items : length (touches_in t.items) ≡ length (touches_in ends.before) =
    ap (λ (xs : List TraceRecord). length (touches_in xs)) items in
    record {
      header = subst IsGoodHeader (sym header) counted.header;
      writable = subst (All IsWritable) (trace-records bytes t is) counted.writable;
      inner = subst (All IsInner) (sym items) ends.inner;
      positions = omega (
        arith,
        ap (λ (h : Header). h.first) header,
        counted.counted,
        counted.positions,
        size,
        size_items,
      );
      counted = ends.stated ∙ sym size_items;
    }

-- what bytes that end well are a trace of
pub trace_there : (bytes : List ℕ) (p : ReadSoFar) (e : TraceEnd)
    → (reading_of bytes).1.progress ≡ Some p
    → ending_of (reading_of bytes).1 ≡ Ok e
    → trace_of bytes ≡ Some
    (record {
      version = p.version;
      header = p.header;
      items = before_last (reading_of bytes).0;
      ending = e;
    })
trace_there bytes p e known end = λ i. trace_at (reading_of bytes).0 (known i) (end i)

-- What is not refused is a trace as wanted.
pub record IsTaken (w : Wanted) (bytes : List ℕ) : Type 0 where
  pub trace : Trace
  pub is : trace_of bytes ≡ Some trace
  pub wanted : IsWanted w trace.header
  pub sited : w.pcs ≡ true → HasPcs trace.version
  pub near : near_refusal w.lines trace.header.near ≡ None
  pub unfiltered : w.lines ≡ None → trace.version ≢ Four

no_fault : (j : Result TraceEnd TraceFault) → trace_refusal j ≡ None → (e : TraceEnd) × (j ≡ Ok e)
no_fault (Ok e) is = (e, refl)
no_fault (Err fault) is = absurd cc

pub not_refused : (w : Wanted) (bytes : List ℕ) → refusal_of w bytes ≡ None → IsTaken w bytes
not_refused w bytes is =
    let now = (reading_of bytes).1 in
    let front = neither (pcs_refusal w bytes) _ is in
    let both = neither (header_refusal w (head_of now.progress)) (trace_refusal (ending_of now))
    front.1 in
    let end = no_fault (ending_of now) both.1 in
    let whole = whole_at_end bytes end.0 end.1 in
    let head : header_refusal w (Some whole.now.header) ≡ None =
    ap (λ (p : Option ReadSoFar). header_refusal w (head_of p)) (sym whole.known) ∙ both.0 in
    record {
      trace = _;
      is = trace_there bytes whole.now end.0 whole.known end.1;
      wanted = is_wanted w whole.now.header head;
      sited = is_sited w bytes whole.now front.0 whole.known;
      near = is_near w whole.now.header head;
      unfiltered = is_unfiltered w whole.now.version whole.now.header whole.counted.regions
          (is_near w whole.now.header head);
    }
