-- What a piece says, once it is read behind the bytes before it.
use Rattle.std.proofs.Common.{◌≡◌, ◌≢◌, ◌⊎◌, inl, inr, ℕ, ◌+◌, ◌≤◌, ◌<◌, Bool, true, false, cond}
use Rattle.std.proofs.Common.{eqb, leb, List, ◌^◌}
use Rattle.std.proofs.Common.{[], ◌∷◌, ◌++◌, length, All, Option, Some}
use Rattle.std.proofs.Common.{None, Ok, Err, refl, sym, ap, subst, ◌∙◌, unwrap_or, arith}
use Rattle.std.proofs.lemmas.Bool.{cases_Bool, cases_lt}
use Rattle.std.proofs.lemmas.List.{length-append}
use Rattle.std.proofs.lemmas.List.Elements.{All-nil, All-tail}
use Rattle.trace_format.specs.declared.fault.TraceFault.{TraceFault}
use Rattle.trace_format.specs.declared.fault.TraceFault.TheVariants as faults
use Rattle.trace_format.specs.declared.read_so_far.ReadSoFar.{ReadSoFar}
use Rattle.trace_format.specs.declared.record.Header.{Header}
use Rattle.trace_format.specs.declared.record.Version.{Version}
use Rattle.trace_format.specs.declared.record.Version.TheVariants.{One, Two, Three, Four}
use Rattle.trace_format.specs.declared.record.TraceRecord.{TraceRecord}
use Rattle.std.specs.Option.{option_or}
use Rattle.trace_format.specs.declared.record.TraceEnd.{TraceEnd}
use Rattle.trace_format.specs.Judging.{version_at}
use Rattle.trace_format.specs.Reading.{Reading, magic_in, read_on, reading_of}
use Rattle.trace_format.specs.Laws.Magic.{fault_is_late, magic_of_bytes}
use Rattle.trace_format.specs.Laws.Reading.{read_on-pieces, then_read}
use Rattle.trace_format.specs.Rules.{IsGoodHeader, IsWritable, touches_in}
use Rattle.trace_format.specs.ReaderStates.{ReadsOn, answer_at}
use Rattle.trace_passes.specs.declared.wanted.Refusal.{Refusal}
use Rattle.trace_passes.specs.declared.wanted.Refusal.TheVariants as refusals
use Rattle.trace_passes.specs.declared.wanted.Wanted.{Wanted}
use Rattle.trace_passes.specs.Passes.{IsWanted, first_refusal, harts_refusal, head_of}
use Rattle.trace_passes.specs.Passes.{lines_refusal, near_refusal}
use Rattle.trace_passes.specs.Passes.{header_refusal, pcs_refusal, refusal_of, version_refusal}
use Rattle.trace_format.specs.Laws.Counts.{IsSoFar, counted_so_far, few_accesses, so_far}
use Rattle.trace_passes.specs.Laws.Passes.{is_wanted, neither, pcs_taken, refused_for_fault}
use Rattle.trace_passes.specs.Laws.Passes.{refused_for_header, refused_for_pcs}
use Rattle.trace_passes.specs.Rooms.{HasRoom}
use Rattle.trace_passes.specs.Cursors.{IsRead, StopsAtMagic}

-- an answer is no error
pub ok_is_no_err : {T E : Type 0} (t : T) (e : E) → Ok t ≢ Err e
ok_is_no_err t e = λ same. cc

pub no_fault : (f : Option TraceFault) (u : Unit {0}) → Ok u ≡ answer_at f → f ≡ None
no_fault None u e = refl
no_fault (Some fault) u e = absurd cc

pub that_fault : (f : Option TraceFault) (fault : TraceFault) → Err fault ≡ answer_at f → f
    ≡ Some fault
that_fault None fault e = absurd cc
that_fault (Some g) fault e = cc

pub is_memory : (fault : TraceFault) → (fault ≡ faults.NoMemory) ⊎ (fault ≢ faults.NoMemory)
is_memory faults.BadMagic = inr (λ e. cc)
is_memory faults.BadHarts = inr (λ e. cc)
is_memory (faults.BadTag place) = inr (λ e. cc)
is_memory (faults.BadField place) = inr (λ e. cc)
is_memory (faults.Truncated size) = inr (λ e. cc)
is_memory (faults.CountMismatch stated counted) = inr (λ e. cc)
is_memory (faults.AfterEnd place) = inr (λ e. cc)
is_memory faults.TooLong = inr (λ e. cc)
is_memory faults.NoMemory = inl refl

-- a header is refused for no fault of the trace
chosen_not : (b : Bool) (x : Refusal) (fault : TraceFault) → x ≢ refusals.Trace fault
    → (let r : Option Refusal = cond b None (Some x) in r ≡ Some (refusals.Trace fault)) → ⊥
chosen_not true x fault other e = cc
chosen_not false x fault other e = other cc

harts_not : (w : Option ℕ) (harts : ℕ) (fault : TraceFault) → harts_refusal w harts
    ≡ Some (refusals.Trace fault) → ⊥
harts_not None harts fault e = cc
harts_not (Some n) harts fault e = chosen_not (eqb harts n) refusals.Harts fault (λ e. cc) e

first_not : (w : Option ℕ) (first : ℕ) (fault : TraceFault) → first_refusal w first
    ≡ Some (refusals.Trace fault) → ⊥
first_not None first fault e = cc
first_not (Some n) first fault e = chosen_not (eqb first n) (refusals.Position n first) fault
    (λ e. cc) e

lines_not : (lines : Option ℕ) (near : ℕ) (fault : TraceFault)
    → lines_refusal lines near ≡ Some (refusals.Trace fault) → ⊥
lines_not None near fault e = absurd cc
lines_not (Some size) near fault e = chosen_not (leb size (2 ^ near)) refusals.TooWide fault
    (λ e. cc) e

near_if : (is : Bool) (lines : Option ℕ) (near : ℕ) (fault : TraceFault)
    → cond is None (lines_refusal lines near) ≡ Some (refusals.Trace fault) → ⊥
near_if true lines near fault e = absurd cc
near_if false lines near fault e = lines_not lines near fault e

near_not : (lines : Option ℕ) (near : ℕ) (fault : TraceFault)
    → near_refusal lines near ≡ Some (refusals.Trace fault) → ⊥
near_not lines near fault e = near_if (eqb near 0) lines near fault e

either_not : (a b : Option Refusal) (x : Refusal) → (a ≡ Some x → ⊥) → (b ≡ Some x → ⊥)
    → option_or a b ≡ Some x → ⊥
either_not None b x first second e = second e
either_not (Some a) b x first second e = first e

pub header_not : (w : Wanted) (h : Option Header) (fault : TraceFault) → header_refusal w h
    ≡ Some (refusals.Trace fault) → ⊥
header_not w None fault e = cc
header_not w (Some h) fault e =
    either_not (near_refusal w.lines h.near)
    (option_or (harts_refusal w.harts h.harts) (first_refusal w.first h.first))
    (refusals.Trace fault) (near_not w.lines h.near fault)
    (either_not (harts_refusal w.harts h.harts) (first_refusal w.first h.first)
    (refusals.Trace fault) (harts_not w.harts h.harts fault)
    (first_not w.first h.first fault)) e

pub first_not_memory : (w : Wanted) (h : Option Header) (stated : Option Refusal) (fault : TraceFault)
    → stated ≡ header_refusal w h
    → fault ≢ faults.NoMemory → unwrap_or stated (refusals.Trace fault) ≢ refusals.Trace
    faults.NoMemory
first_not_memory w h None fault is other = λ e. other cc
first_not_memory w h (Some x) fault is other = λ e. header_not w h faults.NoMemory
    (sym is ∙ ap (λ (y : Refusal). Some y) e)

-- records come after a header
head_in : (p : Option ReadSoFar) (e : Option TraceEnd) (items : List TraceRecord) → IsSoFar p e items
    → 0 < length items
    → (now : ReadSoFar) × (p ≡ Some now)
head_in None e items is some = let none = ap length is.0 in absurd (omega arith)
head_in (Some p) e items is some = (p, refl)

all_behind : {A : Type 0} (P : A → Type 0) (xs ys : List A) → All P (xs ++ ys) → All P ys
all_behind P [] ys is = is
all_behind P (x ∷ xs) ys is = all_behind P xs ys (All-tail P x (xs ++ ys) is)

writable_in : (p : Option ReadSoFar) (e : Option TraceEnd) (items : List TraceRecord)
    → IsSoFar p e items → All IsWritable items
writable_in None e items is = subst (All IsWritable) (sym is.0) (All-nil IsWritable)
writable_in (Some p) None items is = is.0.writable
writable_in (Some p) (Some e) items is = is.0.writable

long_enough : (n m : ℕ) → (n < 8 → n + m ≤ 8) → 20 ≤ n + m → 8 ≤ n
long_enough n m stops long =
    elim (cases_lt n 8) [
      | inl short ↦ let few = stops short in absurd (omega (arith, few, long))
      | inr le ↦ le
    ]

-- a magic or a header is never refused as a fault of the trace
by_harts : (b : Bool) (fault : TraceFault)
    → cond b None (Some refusals.Harts) ≡ Some (refusals.Trace fault) → ⊥
by_harts true fault e = absurd cc
by_harts false fault e = absurd cc

harts_no_trace : (w : Option ℕ) (harts : ℕ) (fault : TraceFault)
    → harts_refusal w harts ≡ Some (refusals.Trace fault) → ⊥
harts_no_trace None harts fault e = absurd cc
harts_no_trace (Some n) harts fault e = by_harts (eqb harts n) fault e

by_first_test : (b : Bool) (saved first : ℕ) (fault : TraceFault)
    → cond b None (Some (refusals.Position saved first)) ≡ Some (refusals.Trace fault) → ⊥
by_first_test true saved first fault e = absurd cc
by_first_test false saved first fault e = absurd cc

first_no_trace : (w : Option ℕ) (first : ℕ) (fault : TraceFault)
    → first_refusal w first ≡ Some (refusals.Trace fault) → ⊥
first_no_trace None first fault e = absurd cc
first_no_trace (Some n) first fault e = by_first_test (eqb first n) n first fault e

either_no_trace : (a b : Option Refusal) (fault : TraceFault)
    → (a ≡ Some (refusals.Trace fault) → ⊥) → (b ≡ Some (refusals.Trace fault) → ⊥)
    → option_or a b ≡ Some (refusals.Trace fault) → ⊥
either_no_trace None b fault left right e = right e
either_no_trace (Some x) b fault left right e = left e

header_no_trace : (w : Wanted) (h : Option Header) (fault : TraceFault)
    → header_refusal w h ≡ Some (refusals.Trace fault) → ⊥
header_no_trace w None fault e = absurd cc
header_no_trace w (Some h) fault e =
    either_no_trace (near_refusal w.lines h.near)
    (option_or (harts_refusal w.harts h.harts) (first_refusal w.first h.first)) fault
    (near_not w.lines h.near fault)
    (either_no_trace (harts_refusal w.harts h.harts) (first_refusal w.first h.first) fault
    (harts_no_trace w.harts h.harts fault) (first_no_trace w.first h.first fault)) e

version_no_trace : (pcs : Bool) (v : Option Version) (fault : TraceFault)
    → version_refusal pcs v ≡ Some (refusals.Trace fault) → ⊥
version_no_trace false v fault e = absurd cc
version_no_trace true None fault e = absurd cc
version_no_trace true (Some One) fault e = absurd cc
version_no_trace true (Some Two) fault e = absurd cc
version_no_trace true (Some Three) fault e = absurd cc
version_no_trace true (Some Four) fault e = absurd cc

pub no_trace_front : (w : Wanted) (v : Option Version) (h : Option Header) (fault : TraceFault)
    → option_or (version_refusal w.pcs v) (header_refusal w h) ≡ Some (refusals.Trace fault) → ⊥
no_trace_front w v h fault e =
    either_no_trace (version_refusal w.pcs v) (header_refusal w h) fault
    (version_no_trace w.pcs v fault) (header_no_trace w h fault) e

pub trace_alone : (w : Wanted) (h : Option Header) (stated : Option Refusal) (fault wrong : TraceFault)
    → stated ≡ header_refusal w h → unwrap_or stated (refusals.Trace fault) ≡ refusals.Trace wrong
    → fault ≡ wrong
trace_alone w h None fault wrong is e = cc
trace_alone w h (Some x) fault wrong is e =
    absurd (header_no_trace w h wrong (sym is ∙ ap (λ (y : Refusal). Some y) e))

module _ (old new : Reading) (piece : List ℕ) (after : List TraceRecord)
    (on : ReadsOn old piece new [] after) where
  module _ (bytes : List ℕ) (from : old ≡ (reading_of bytes).1) where
    both : reading_of (bytes ++ piece) ≡ then_read (reading_of bytes) piece
    both = read_on-pieces bytes piece

    pub now_read : new ≡ (reading_of (bytes ++ piece)).1
    now_read = on.reading ∙ ap (λ (r : Reading). (read_on r piece).1) from
        ∙ sym (ap (λ (x : List TraceRecord × Reading). x.1) both)

    pub now_seen : (reading_of bytes).0 ++ after ≡ (reading_of (bytes ++ piece)).0
    now_seen =
        ap (λ (xs : List TraceRecord). (reading_of bytes).0 ++ xs)
        (on.records ∙ ap (λ (r : Reading). (read_on r piece).0) from)
        ∙ sym (ap (λ (x : List TraceRecord × Reading). x.0) both)

    -- the magic is known where there is no fault
    pub magic_now : new.fault ≡ None → magic_in new ≡ version_at (bytes ++ piece)
    magic_now clean = ap magic_in now_read
        ∙ magic_of_bytes (bytes ++ piece) (ap (λ (r : Reading). r.fault) (sym now_read) ∙ clean)

    refused_now : (w : Wanted) (more : List ℕ) (x : Refusal) → pcs_refusal w (bytes ++ piece) ≡ None
        → header_refusal w (head_of new.progress) ≡ Some x
        → refusal_of w ((bytes ++ piece) ++ more) ≡ Some x
    refused_now w more x sited e =
        refused_for_header w (bytes ++ piece) more x sited
        (ap (λ (r : Reading). header_refusal w (head_of r.progress)) (sym now_read) ∙ e)

    -- for the magic before the header
    refused_either : (w : Wanted) (more : List ℕ) (x : Refusal) (first : Option Refusal)
        → pcs_refusal w (bytes ++ piece) ≡ first
        → option_or first (header_refusal w (head_of new.progress)) ≡ Some x
        → refusal_of w ((bytes ++ piece) ++ more) ≡ Some x
    refused_either w more x None first e = refused_now w more x first e
    refused_either w more x (Some y) first e = refused_for_pcs w (bytes ++ piece) more x (first ∙ e)

    pub refused_in_front : (w : Wanted) (more : List ℕ) (x : Refusal) → new.fault ≡ None
        → option_or (version_refusal w.pcs (magic_in new))
        (header_refusal w (head_of new.progress)) ≡ Some x
        → refusal_of w ((bytes ++ piece) ++ more) ≡ Some x
    refused_in_front w more x clean e =
        refused_either w more x (pcs_refusal w (bytes ++ piece)) refl
        (ap (λ (v : Option Version). option_or (version_refusal w.pcs v)
        (header_refusal w (head_of new.progress))) (sym (magic_now clean)) ∙ e)

    -- a piece with a fault doesn't stop at the magic
    sited_at_fault : (w : Wanted) (fault : TraceFault) → StopsAtMagic w bytes piece
        → new.fault ≡ Some fault → pcs_refusal w (bytes ++ piece) ≡ None
    sited_at_fault w fault stops e =
        let late = fault_is_late (bytes ++ piece) fault
        (ap (λ (r : Reading). r.fault) (sym now_read) ∙ e) in
        let size = length-append bytes piece in
        elim (cases_Bool w.pcs) [
          | inl pcs ↦ pcs_taken w bytes piece
              (long_enough (length bytes) (length piece) (stops.stops pcs) (omega (arith, late, size)))
              stops.sited
          | inr any ↦ ap (λ (pcs : Bool). version_refusal pcs (version_at (bytes ++ piece))) any
        ]

    -- for the header before any fault
    pub refused_first : (w : Wanted) (more : List ℕ) (fault : TraceFault) (stated : Option Refusal)
        → StopsAtMagic w bytes piece → stated ≡ header_refusal w (head_of new.progress) → new.fault ≡ Some fault
        → refusal_of w ((bytes ++ piece) ++ more) ≡ Some (unwrap_or stated (refusals.Trace fault))
    refused_first w more fault None stops is e =
        refused_for_fault w (bytes ++ piece) more fault (sited_at_fault w fault stops e)
        (ap (λ (r : Reading). header_refusal w (head_of r.progress)) (sym now_read) ∙ sym is)
        (ap (λ (r : Reading). r.fault) (sym now_read) ∙ e)
    refused_first w more fault (Some x) stops is e =
        refused_now w more x (sited_at_fault w fault stops e) (sym is)

    pub read_now : (w : Wanted) → new.fault ≡ None
        → option_or (version_refusal w.pcs (magic_in new))
        (header_refusal w (head_of new.progress)) ≡ None
        → IsRead w (bytes ++ piece) new
    read_now w clean unrefused =
        let both = neither (version_refusal w.pcs (magic_in new)) _ unrefused in
        record {
          reading = now_read;
          clean = clean;
          sited = ap (version_refusal w.pcs) (sym (magic_now clean)) ∙ both.0;
          unrefused = both.1;
        }

-- what came behind other bytes
module _ (bytes more : List ℕ) (after : List TraceRecord) (records : (reading_of (bytes ++ more)).0
    ≡ (reading_of bytes).0 ++ after)
  where
    -- the records that became whole may be written
    pub all_writable : All IsWritable after
    all_writable =
        let whole = reading_of (bytes ++ more) in
        all_behind IsWritable (reading_of bytes).0 after
        (subst (All IsWritable) records (writable_in whole.1.progress whole.1.ending whole.0
        (so_far (bytes ++ more))))

    -- there is room for the records that became whole
    pub room_for_all : {A : Type 0} (begins : A → ℕ → Type 0)
        (given : A → A → List TraceRecord → Type 0) (w : Wanted) (begun now : A)
        (reader : Reading) → ((h : Header) → IsGoodHeader h → IsWanted w h → begins begun h.first)
        → given begun now (reading_of bytes).0 → IsRead w (bytes ++ more) reader → 0 < length after
        → HasRoom begins given now after
    room_for_all begins given w begun now reader may_begin saw read some =
        let whole = reading_of (bytes ++ more) in
        let size = ap length records in
        let longer = length-append (reading_of bytes).0 after in
        let head = head_in whole.1.progress whole.1.ending whole.0 (so_far (bytes ++ more))
        (omega arith) in
        let p = head.0 in
        let wanted : header_refusal w (Some p.header) ≡ None =
        ap (λ (x : Option ReadSoFar). header_refusal w (head_of x)) (sym head.1)
        ∙ ap (λ (r : Reading). header_refusal w (head_of r.progress)) (sym read.reading)
        ∙ read.unrefused in
        let few = few_accesses (bytes ++ more) p head.1 in
        let counted = ap (λ (xs : List TraceRecord). length (touches_in xs)) records in
        record {
          begun = begun;
          first = p.header.first;
          seen = (reading_of bytes).0;
          begins_there = may_begin p.header (counted_so_far (bytes ++ more) p head.1).header
              (is_wanted w p.header wanted);
          given_so_far = saw;
          room = omega arith;
        }
