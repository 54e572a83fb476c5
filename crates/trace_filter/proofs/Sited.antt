-- Bytes whose header is accepted and not refused.
use Rattle.std.proofs.Common.{◌≡◌, ◌≢◌, ◌<◌, ◌^◌, ℕ, List, [], ◌∷◌, ◌++◌, length, Option, Some}
use Rattle.std.proofs.Common.{None, Result, Ok, Err, refl, sym, ap, ◌∙◌, subst, arith}
use Rattle.std.specs.List.{All}
use Rattle.std.specs.Option.{IfSome, option_or}
use Rattle.std.proofs.lemmas.List.{take-append-drop}
use Rattle.std.proofs.Common.{drop}
use Rattle.std.proofs.lemmas.List.Elements.{All-nil, All-tail}
use Rattle.std.proofs.lemmas.List.{take_all}
use Rattle.shelf.specs.Fetch.{IsFront}
use Rattle.shelf.specs.Laws.Known.{known_map}
use Rattle.shelf.specs.Shelf.{Files, Known, content}
use Rattle.trace_format.specs.declared.fault.TraceFault.{TraceFault}
use Rattle.trace_format.specs.declared.read_so_far.ReadSoFar.{ReadSoFar}
use Rattle.trace_format.specs.declared.record.Header.{Header}
use Rattle.trace_format.specs.declared.record.TraceEnd.{TraceEnd}
use Rattle.trace_format.specs.declared.record.TraceRecord.{TraceRecord}
use Rattle.trace_format.specs.declared.record.Version.{Version}
use Rattle.trace_format.specs.declared.record.Version.TheVariants.{One, Two, Three, Four}
use Rattle.trace_format.specs.Laws.Counts.{IsSoFar, counted_so_far, few_accesses, so_far}
use Rattle.trace_format.specs.Laws.Magic.{has_version}
use Rattle.trace_format.specs.Laws.Reading.{read_on-pieces}
use Rattle.trace_format.specs.Reading.{Reading, ending_of, reading_of}
use Rattle.trace_format.specs.Rules.{IsGoodHeader, IsWritable, touches_in}
use Rattle.trace_passes.specs.declared.wanted.Refusal.{Refusal}
use Rattle.trace_passes.specs.declared.wanted.Refusal.TheVariants as refusals
use Rattle.trace_passes.specs.Cursors.{version_and_header}
use Rattle.trace_passes.specs.Laws.Passes.{HeadStays, head_of_front, is_near, is_sited}
use Rattle.trace_passes.specs.Laws.Passes.{is_unfiltered, pcs_taken, refusal_at_end}
use Rattle.trace_passes.specs.Passes.{HasPcs, Trace, head_of, header_refusal, pcs_refusal}
use Rattle.trace_passes.specs.Passes.{refusal_of, trace_at, trace_refusal}
use Rattle.trace_files.specs.Copies.{any}
use Rattle.trace_files.specs.Laws.Copies.{any_header}
use Rattle.trace_files.specs.Movers.{Follows}
use Rattle.trace_filter.specs.FilterPass.{early_refusal, sited}

-- neither the version nor the header is refused
pub record IsSited (bytes : List ℕ) : Type 0 where
  pub pcs : pcs_refusal sited bytes ≡ None
  pub header : header_refusal sited (head_of (reading_of bytes).1.progress) ≡ None

-- ---- the header

pub progress_of : (p : Option ReadSoFar) (h : Version × Header) → version_and_header p ≡ Some h
    → (now : ReadSoFar) × (p ≡ Some now)
progress_of None h is = absurd cc
progress_of (Some p) h is = (p, refl)

known_stays : (p q : Option ReadSoFar) (h : Version × Header) → version_and_header p ≡ Some h
    → HeadStays p q → version_and_header q ≡ Some h
known_stays None q h is stays = absurd cc
known_stays (Some p) None h is stays = let no_head = stays.0 in absurd cc
known_stays (Some p) (Some q) h is stays =
    let version = stays.0 in
    let header = stays.1 in
    let v : q.version ≡ p.version = cc in
    let w : q.header ≡ p.header = cc in
    (λ i. Some (v i, w i)) ∙ is

pub header_stays : (bytes more : List ℕ) (h : Version × Header)
    → version_and_header (reading_of bytes).1.progress ≡ Some h
    → version_and_header (reading_of (bytes ++ more)).1.progress ≡ Some h
header_stays bytes more h is =
    known_stays (reading_of bytes).1.progress (reading_of (bytes ++ more)).1.progress h is
    (head_of_front bytes more)

head_kept : (p q : Option ReadSoFar) (h : Version × Header) → version_and_header p ≡ Some h
    → HeadStays p q → head_of q ≡ head_of p
head_kept None q h is stays = absurd cc
head_kept (Some p) q h is stays = stays.1

-- once the header is accepted, more bytes change nothing of that
pub still_sited : (bytes more : List ℕ) (h : Version × Header)
    → version_and_header (reading_of bytes).1.progress ≡ Some h → IsSited bytes
    → IsSited (bytes ++ more)
still_sited bytes more h is good =
    let now = progress_of (reading_of bytes).1.progress h is in
    let long = (has_version bytes now.0 now.1).long in
    record {
      pcs = pcs_taken sited bytes more (omega (arith, long)) good.pcs;
      header = ap (header_refusal sited) (head_kept (reading_of bytes).1.progress
          (reading_of (bytes ++ more)).1.progress h is (head_of_front bytes more)) ∙ good.header;
    }

-- bytes that some begin with
pub front_whole : (all bytes : List ℕ) → IsFront all bytes → all ≡ bytes ++ drop (length bytes) all
front_whole all bytes front =
    let rest = drop (length bytes) all in
    sym (ap (λ (xs : List ℕ). xs ++ rest) front.same ∙ take-append-drop (length bytes) all)

-- the records of a front are the first ones
pub front_first : (all bytes : List ℕ) → IsFront all bytes
    → (more : List TraceRecord) × ((reading_of all).0 ≡ (reading_of bytes).0 ++ more)
front_first all bytes front =
    let rest = drop (length bytes) all in (
      _,
      ap (λ (xs : List ℕ). (reading_of xs).0) (front_whole all bytes front)
          ∙ ap (λ (x : List TraceRecord × Reading). x.0) (read_on-pieces bytes rest),
    )

pub front_of_all : (held : Option Files) (trace all : List ℕ)
    → Known held (λ fs. all ≡ content fs trace) → Known held (λ fs. IsFront (content fs trace) all)
front_of_all held trace all whole =
    known_map held (λ fs same.
    subst (λ (l : List ℕ). IsFront l all) same
    (record { within = omega arith; same = sym (take_all (length all) all (omega arith)) })) whole

-- ---- refusals

none_or : (a b : Option Refusal) → a ≡ None → b ≡ None → option_or a b ≡ None
none_or None b first then = then
none_or (Some x) b first then = absurd cc

pub not_early : (bytes : List ℕ) → IsSited bytes → early_refusal bytes ≡ None
not_early bytes is =
    none_or (pcs_refusal sited bytes)
    (header_refusal sited (head_of (reading_of bytes).1.progress)) is.pcs is.header

-- bytes that are sited are refused as any are
pub same_refusal : (bytes : List ℕ) → IsSited bytes → refusal_of any bytes ≡ refusal_of sited bytes
same_refusal bytes is =
    refusal_at_end any bytes refl (any_header (head_of (reading_of bytes).1.progress))
    ∙ sym (refusal_at_end sited bytes is.pcs is.header)

-- any trace that is refused has a fault
of_ending : (r : Result TraceEnd TraceFault) (refusal : Refusal)
    → trace_refusal r ≡ Some refusal → (fault : TraceFault) × (refusal ≡ refusals.Trace fault)
of_ending (Ok e) refusal is = absurd cc
of_ending (Err fault) refusal is = (fault, cc)

pub is_trace_fault : (bytes : List ℕ) (refusal : Refusal) → refusal_of any bytes ≡ Some refusal
    → (fault : TraceFault) × (refusal ≡ refusals.Trace fault)
is_trace_fault bytes refusal is =
    of_ending (ending_of (reading_of bytes).1) refusal
    (sym (refusal_at_end any bytes refl (any_header (head_of (reading_of bytes).1.progress))) ∙ is)

-- ---- the records

no_record : (p : Option ReadSoFar) (e : Option TraceEnd) (items : List TraceRecord)
    → IsSoFar p e items → version_and_header p ≡ None → items ≡ []
no_record None e items is none = is.0
no_record (Some p) e items is none = absurd cc

-- before a header is known there is no record
pub none_read : (bytes : List ℕ) → version_and_header (reading_of bytes).1.progress ≡ None
    → (reading_of bytes).0 ≡ []
none_read bytes none =
    no_record (reading_of bytes).1.progress (reading_of bytes).1.ending (reading_of bytes).0
    (so_far bytes) none

both_empty : (xs ys : List TraceRecord) → xs ++ ys ≡ [] → (xs ≡ []) × (ys ≡ [])
both_empty [] ys is = (refl, is)
both_empty (x ∷ xs) ys is = absurd cc

follows_by : (known now : Option (Version × Header)) (seen items all : List TraceRecord)
    → all ≡ seen ++ items
    → ((h : Version × Header) → known ≡ Some h → now ≡ Some h)
    → (known ≡ None → seen ≡ []) → (now ≡ None → all ≡ []) → Follows known seen now items
follows_by None None seen items all is stays first later =
    (first refl, (both_empty seen items (sym is ∙ later refl)).1)
follows_by None (Some h) seen items all is stays first later = first refl
follows_by (Some g) None seen items all is stays first later =
    let no_head = stays g refl in absurd cc
follows_by (Some g) (Some h) seen items all is stays first later =
    let same = stays g refl in cc

-- how the header of more bytes follows
pub follows_of : (bytes all : List ℕ) (items : List TraceRecord)
    → (more : List ℕ) × (all ≡ bytes ++ more)
    → (reading_of all).0 ≡ (reading_of bytes).0 ++ items
    → Follows (version_and_header (reading_of bytes).1.progress) (reading_of bytes).0
    (version_and_header (reading_of all).1.progress) items
follows_of bytes all items behind records =
    follows_by (version_and_header (reading_of bytes).1.progress)
    (version_and_header (reading_of all).1.progress) (reading_of bytes).0 items (reading_of all).0
    records
    (λ h is. ap (λ (l : List ℕ). version_and_header (reading_of l).1.progress) behind.1
    ∙ header_stays bytes behind.0 h is)
    (none_read bytes) (none_read all)

pub good_in : (all : List ℕ) (p : Option ReadSoFar) → (reading_of all).1.progress ≡ p
    → IfSome (version_and_header p) (λ h. IsGoodHeader h.1)
good_in all None is = tt
good_in all (Some p) is = (counted_so_far all p is).header

pub few_in : (all : List ℕ) (p : Option ReadSoFar) → (reading_of all).1.progress ≡ p
    → length (touches_in (reading_of all).0) < 2 ^ 63
few_in all None is =
    let none = ap (λ (l : List TraceRecord). length (touches_in l))
    (none_read all (ap version_and_header is)) in
    omega (arith, none)
few_in all (Some p) is = let few = few_accesses all p is in omega (arith, few)

writable_in : (p : Option ReadSoFar) (e : Option TraceEnd) (items : List TraceRecord)
    → IsSoFar p e items → All IsWritable items
writable_in None e items is = subst (All IsWritable) (sym is.0) (All-nil IsWritable)
writable_in (Some p) None items is = is.0.writable
writable_in (Some p) (Some e) items is = is.0.writable

all_behind : {A : Type 0} (P : A → Type 0) (xs ys : List A) → All P (xs ++ ys) → All P ys
all_behind P [] ys is = is
all_behind P (x ∷ xs) ys is = all_behind P xs ys (All-tail P x (xs ++ ys) is)

pub writable_behind : (bytes all : List ℕ) (items : List TraceRecord)
    → (reading_of all).0 ≡ (reading_of bytes).0 ++ items → All IsWritable items
writable_behind bytes all items records =
    let whole = reading_of all in
    all_behind IsWritable (reading_of bytes).0 items
    (subst (All IsWritable) records
    (writable_in whole.1.progress whole.1.ending whole.0 (so_far all)))

-- ---- the version

pub is_three : (v : Version) → HasPcs v → v ≢ Four → v ≡ Three
is_three One pcs other = absurd pcs
is_three Two pcs other = absurd pcs
is_three Three pcs other = refl
is_three Four pcs other = absurd (other refl)

pub trace_head : (all : List TraceRecord) (p : Option ReadSoFar) (r : Result TraceEnd TraceFault)
    (t : Trace) → trace_at all p r ≡ Some t → version_and_header p ≡ Some (t.version, t.header)
trace_head all None (Ok e) t is = absurd cc
trace_head all None (Err fault) t is = absurd cc
trace_head all (Some p) (Err fault) t is = absurd cc
trace_head all (Some p) (Ok e) t is = cc

some_same : {A : Type 0} (x y : A) → Some x ≡ Some y → x ≡ y
some_same x y is = cc

pub head_version : (p : Option ReadSoFar) (h : Version × Header)
    → version_and_header p ≡ Some h → (now : ReadSoFar) × (p ≡ Some now) × (now.version ≡ h.0)
head_version None h is = absurd cc
head_version (Some p) h is =
    let same : (p.version, p.header) ≡ h = some_same (p.version, p.header) h is in
    (p, refl, ap (λ (x : Version × Header). x.0) same)

pub version_three : (bytes : List ℕ) (v : Version) (h : Header)
    → version_and_header (reading_of bytes).1.progress ≡ Some (v, h) → IsSited bytes → v ≡ Three
version_three bytes v h is good =
    let p = head_version (reading_of bytes).1.progress (v, h) is in
    let now = p.0 in
    let known = p.1 in
    let header : header_refusal sited (Some now.header) ≡ None =
    ap (λ (q : Option ReadSoFar). header_refusal sited (head_of q)) (sym known) ∙ good.header in
    sym p.2
    ∙ is_three now.version (is_sited sited bytes now good.pcs known refl)
    (is_unfiltered sited now.version now.header (counted_so_far bytes now known).regions
    (is_near sited now.header header) refl)
