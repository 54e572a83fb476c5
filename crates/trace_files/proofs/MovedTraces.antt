-- A trace is moved whole where its list is free, and is a trace then.
use Rattle.std.proofs.Common.{arith, ◌≡◌, ◌≢◌, ℕ, Bool, true, false, List, cond, get_or, inl, inr, [], ◌∷◌, Option, Some, None}
use Rattle.std.proofs.Common.{refl, sym, ap, ◌∙◌, option_map, find}
use Rattle.std.specs.Prelude.{◌||◌, is_some, if◌then◌else◌}
use Rattle.std.specs.List.{All, list_any}
use Rattle.std.specs.Option.{option_and_then, option_map_or}
use Rattle.std.proofs.lemmas.List.Elements.{All-head, All-map, All-tail, All-weaker}
use Rattle.std.proofs.lemmas.Bool.{cases_Bool, cases_lt}
use Rattle.std.proofs.lemmas.List.Folds.{list_any-append}
use Rattle.base.specs.Touch.{Touch}
use Rattle.trace_format.specs.declared.record.TraceRecord.{TraceRecord}
use Rattle.trace_format.specs.declared.record.TraceRecord.TheVariants as records
use Rattle.trace_format.specs.declared.record.Version.{Version}
use Rattle.trace_format.specs.Reading.{reading_of}
use Rattle.trace_format.specs.declared.record.Version.TheVariants.{One, Two, Three, Four}
use Rattle.trace_format.specs.declared.record.Header.{Header}
use Rattle.trace_format.specs.Rules.{HasRegions}
use Rattle.trace_format.specs.Rules.{IsGoodRecord, IsInner, touches_in}
use Rattle.trace_passes.specs.Laws.Passes.{trace-records}
use Rattle.trace_passes.specs.Passes.{Trace, refusal_of, trace_of}
use Rattle.trace_passes.specs.declared.wanted.Refusal.{Refusal}
use Rattle.trace_files.specs.declared.move_fault.MoveFault.{MoveFault}
use Rattle.trace_files.specs.declared.move_fault.MoveFault.TheVariants as faults
use Rattle.trace_files.specs.declared.move_row.Move.{Move}
use Rattle.trace_files.specs.Copies.{any}
use Rattle.trace_files.specs.Laws.Copies.{trace_found, trace_unrefused}
use Rattle.trace_files.specs.Moves.{IsFree, is_taken, moved_in, moved_list}
use Rattle.trace_files.specs.Moving.{IsNearFiltered, fault_of, first_fault, is_at_fault, moved_item}
use Rattle.trace_files.specs.Moving.{moved_items, moved_so_far, moving, narrowed, near_of}
use Rattle.trace_files.specs.Moving.{record_fault, written_of}
use Rattle.trace_files.specs.NearMoves.{IsNearFor, IsNearTable, is_far}
use Rattle.trace_files.specs.Tables.{IsTable}
use Rattle.trace_files.proofs.GivingUp.{file_of_whole, free_touches, head_of_trace, near_touches}
use Rattle.trace_files.proofs.Headed.{head_in}
use Rattle.trace_files.proofs.MovedWords.{allowed_in}
use Rattle.trace_files.proofs.Takings.{all_free, neither_passes, none_at_fault}
use Rattle.trace_files.proofs.NearRanges.{nearby, never_far}

-- ---- what isn't refused

none_of : (taken far : Bool) (addr : ℕ) → taken ≡ false → far ≡ false
    → is_some (if taken then Some (faults.Occupied addr)
    else (if far then Some (faults.Far addr) else None)) ≡ false
none_of true far addr free near = absurd cc
none_of false true addr free near = absurd cc
none_of false false addr free near = refl

abbrev AreNear : ℕ → List Move → List Touch → Type 0
AreNear near table accesses = All (λ a. is_far near table a.addr ≡ false) accesses

record IsThrough (near : ℕ) (table : List Move) (item : TraceRecord) (items : List TraceRecord) :
    Type 0 where
  here : is_at_fault near table item ≡ false
  free : IsFree table (touches_in items)
  near_on : AreNear near table (touches_in items)

-- a record and the accesses behind it aren't refused
none_here : (near : ℕ) (table : List Move) (item : TraceRecord) (items : List TraceRecord)
    → IsFree table (touches_in (item ∷ items)) → AreNear near table (touches_in (item ∷ items))
    → IsThrough near table item items
none_here near table (records.Touch a pc) items free nears =
    let all = touches_in items in
    let taken = All-head (λ (b : Touch). is_taken table b.addr ≡ false) a all free in
    let far = All-head (λ (b : Touch). is_far near table b.addr ≡ false) a all nears in
    record {
      here = none_of (is_taken table a.addr) (is_far near table a.addr) a.addr taken far;
      free = All-tail (λ (b : Touch). is_taken table b.addr ≡ false) a all free;
      near_on = All-tail (λ (b : Touch). is_far near table b.addr ≡ false) a all nears;
    }
none_here near table (records.Alloc addr size sites) items free nears =
    record { here = refl; free = free; near_on = nears }
none_here near table (records.Free addr) items free nears =
    record { here = refl; free = free; near_on = nears }
none_here near table (records.Symbol kind addr size symbol) items free nears =
    record { here = refl; free = free; near_on = nears }
none_here near table (records.End e) items free nears =
    record { here = refl; free = free; near_on = nears }

neither : (a b : Bool) → a ≡ false → b ≡ false → (a || b) ≡ false
neither a b first later = ap (λ (x : Bool). x || b) first ∙ later

-- no record of a free list is refused by a near table
none_in_items : (near : ℕ) (table : List Move) (items : List TraceRecord)
    → IsFree table (touches_in items) → AreNear near table (touches_in items)
    → list_any (is_at_fault near table) items ≡ false
none_in_items near table [] free nears = refl
none_in_items near table (item ∷ items) free nears =
    let through = none_here near table item items free nears in
    neither (is_at_fault near table item) (list_any (is_at_fault near table) items) through.here
    (none_in_items near table items through.free through.near_on)

all_near : (near : ℕ) (table : List Move) (accesses : List Touch)
    → (near ≢ 0 → IsNearTable near table accesses) → AreNear near table accesses
all_near near table accesses is = elim (cases_lt 0 near) [
  | inl some ↦
      All-weaker (IsNearFor near table) (λ a. is_far near table a.addr ≡ false)
      (λ a for. nearby near table a for) accesses (is (λ e. absurd (omega (arith, some, e))))
  | inr none ↦
      let zero_is : near ≡ 0 = omega (arith, none) in
      λ k d inside. let a = get_or accesses k d in
      ap (λ (n : ℕ). is_far n table a.addr) zero_is ∙ never_far table a.addr
]

none_in_trace : (table : List Move) (bytes : List ℕ) (t : Trace) → trace_of bytes ≡ Some t
    → IsFree table (touches_in t.items) → IsNearFiltered table t
    → list_any (is_at_fault (near_of (head_in bytes)) table) (reading_of bytes).0 ≡ false
none_in_trace table bytes t is free nears =
    let near = t.header.near in
    ap (λ (k : Option (Version × Header)). list_any (is_at_fault (near_of k) table)
    (reading_of bytes).0) (head_of_trace bytes t is)
    ∙ ap (list_any (is_at_fault near table)) (trace-records bytes t is)
    ∙ list_any-append (is_at_fault near table) t.items (records.End t.ending ∷ [])
    ∙ neither (list_any (is_at_fault near table) t.items) _
    (none_in_items near table t.items free (all_near near table (touches_in t.items) nears)) refl

-- a trace with a free list isn't refused by a table that is near where it is filtered,
pub free_unrefused : (table : List Move) (bytes : List ℕ) (t : Trace) → trace_of bytes ≡ Some t
    → IsFree table (touches_in t.items) → IsNearFiltered table t → fault_of table bytes ≡ None
free_unrefused table bytes t is free nears =
    ap (λ (o : Option MoveFault). option_map_or (λ f. Some f) o
    (option_map faults.Refused (refusal_of any bytes)))
    (none_at_fault (near_of (head_in bytes)) table (reading_of bytes).0
    (none_in_trace table bytes t is free nears))
    ∙ ap (option_map faults.Refused) (trace_unrefused bytes t is)

neither_fault : (first : Option MoveFault) (refusal : Option Refusal)
    → option_map_or (λ f. Some f) first (option_map faults.Refused refusal) ≡ None
    → (first ≡ None) × (refusal ≡ None)
neither_fault None None is = (refl, refl)
neither_fault None (Some r) is = absurd cc
neither_fault (Some f) r is = absurd cc

-- no record of it is refused, and it isn't as a trace
unrefused_parts : (table : List Move) (bytes : List ℕ) → fault_of table bytes ≡ None
    → (first_fault (near_of (head_in bytes)) table (reading_of bytes).0 ≡ None)
    × (refusal_of any bytes ≡ None)
unrefused_parts table bytes none =
    neither_fault (first_fault (near_of (head_in bytes)) table (reading_of bytes).0)
    (refusal_of any bytes) none

-- what isn't refused is a trace,
pub unrefused_found : (table : List Move) (bytes : List ℕ) → fault_of table bytes ≡ None
    → (t : Trace) × (trace_of bytes ≡ Some t)
unrefused_found table bytes none = trace_found bytes (unrefused_parts table bytes none).1

first_is_none : (f : Option MoveFault) (b : Bool) → b ≡ is_some f → b ≡ true → f ≡ None → ⊥
first_is_none None b is on none = absurd cc
first_is_none (Some x) b is on none = absurd cc

none_any : (near : ℕ) (table : List Move) (items : List TraceRecord)
    → first_fault near table items ≡ None → list_any (is_at_fault near table) items ≡ false
none_any near table [] none = refl
none_any near table (item ∷ items) none = elim (cases_Bool (is_at_fault near table item)) [
  | inl here ↦
      let found : record_fault near table item ≡ None =
      sym (ap (λ (b : Bool). option_and_then (record_fault near table)
      (cond b (Some item) (find (is_at_fault near table) items))) here) ∙ none in
      absurd (first_is_none (record_fault near table item) (is_at_fault near table item) refl here
      found)
  | inr other ↦
      let rest : first_fault near table items ≡ None =
      sym (ap (λ (b : Bool). option_and_then (record_fault near table)
      (cond b (Some item) (find (is_at_fault near table) items))) other) ∙ none in
      neither (is_at_fault near table item) (list_any (is_at_fault near table) items) other
      (none_any near table items rest)
]

unrefused_items : (table : List Move) (bytes : List ℕ) (t : Trace) → trace_of bytes ≡ Some t
    → fault_of table bytes ≡ None
    → list_any (is_at_fault t.header.near table) t.items ≡ false
unrefused_items table bytes t is none =
    let all = (reading_of bytes).0 in
    let passes = is_at_fault t.header.near table in
    let free = none_any (near_of (head_in bytes)) table all (unrefused_parts table bytes none).0 in
    let split = sym (list_any-append passes t.items (records.End t.ending ∷ []))
    ∙ sym (ap (list_any passes) (trace-records bytes t is))
    ∙ ap (λ (k : Option (Version × Header)). list_any (is_at_fault (near_of k) table) all)
    (sym (head_of_trace bytes t is)) ∙ free in
    (neither_passes (list_any passes t.items) (list_any passes (records.End t.ending ∷ [])) split).0

-- with a free list,
pub unrefused_free : (table : List Move) (bytes : List ℕ) (t : Trace) → trace_of bytes ≡ Some t
    → fault_of table bytes ≡ None → IsFree table (touches_in t.items)
unrefused_free table bytes t is none =
    free_touches t.header.near table t.items (unrefused_items table bytes t is none)

-- and by a near table, if it is filtered,
pub unrefused_near : (table : List Move) (bytes : List ℕ) (t : Trace) → trace_of bytes ≡ Some t
    → fault_of table bytes ≡ None → IsNearFiltered table t
unrefused_near table bytes t is none =
    near_touches t.header.near table t.items (unrefused_items table bytes t is none)

-- all of which is written
pub unrefused_whole : (table : List Move) (file bytes : List ℕ) (t : Trace)
    → trace_of bytes ≡ Some t → fault_of table bytes ≡ None
    → written_of table file bytes ≡ moving table file t
unrefused_whole table file bytes t is none =
    let all = (reading_of bytes).0 in
    let head = head_in bytes in
    let free = none_any (near_of head) table all (unrefused_parts table bytes none).0 in
    ap (moved_so_far table file head) (all_free (is_at_fault (near_of head) table) all free)
    ∙ file_of_whole table file bytes t is

-- ---- the moved trace

good_moved : (table : List Move) → IsTable table → (v : Version) (harts : ℕ) (item : TraceRecord)
    → IsGoodRecord v harts item → IsGoodRecord v harts (moved_item table item)
good_moved table is v harts (records.Touch a pc) good = (
  record { hart = good.0.hart; allowed = allowed_in table is a good.0.allowed },
  good.1,
)
good_moved table is v harts (records.Alloc addr size sites) good = good
good_moved table is v harts (records.Free addr) good = good
good_moved table is v harts (records.Symbol kind addr size name) good = good
good_moved table is v harts (records.End e) good = good

pub all_good_moved : (table : List Move) → IsTable table → (v : Version) (harts : ℕ)
    (items : List TraceRecord) → All (IsGoodRecord v harts) items
    → All (IsGoodRecord v harts) (moved_items table items)
all_good_moved table is v harts items good =
    All-map (IsGoodRecord v harts) (moved_item table) items
    (All-weaker (IsGoodRecord v harts) (λ item. IsGoodRecord v harts (moved_item table item))
    (good_moved table is v harts) items good)

inner_moved : (table : List Move) (item : TraceRecord) → IsInner item
    → IsInner (moved_item table item)
inner_moved table (records.Touch a pc) inner = tt
inner_moved table (records.Alloc addr size sites) inner = tt
inner_moved table (records.Free addr) inner = tt
inner_moved table (records.Symbol kind addr size name) inner = tt
inner_moved table (records.End e) inner = absurd inner

pub all_inner_moved : (table : List Move) (items : List TraceRecord) → All IsInner items
    → All IsInner (moved_items table items)
all_inner_moved table items inner =
    All-map IsInner (moved_item table) items
    (All-weaker IsInner (λ item. IsInner (moved_item table item)) (inner_moved table) items inner)

pub narrowed_regions : (v : Version) (h : Header) → HasRegions v h → HasRegions v (narrowed h)
narrowed_regions One h regions = omega (arith, regions)
narrowed_regions Two h regions = omega (arith, regions)
narrowed_regions Three h regions = omega (arith, regions)
narrowed_regions Four h regions = (
  regions.0,
  (omega (arith, regions.1.0), omega (arith, regions.1.1)),
)

-- its accesses are the moved ones
pub moved_touches : (table : List Move) (items : List TraceRecord)
    → touches_in (moved_items table items) ≡ moved_list table (touches_in items)
moved_touches table [] = refl
moved_touches table (records.Touch a pc ∷ items) =
    ap (λ (t : List Touch). moved_in table a ∷ t) (moved_touches table items)
moved_touches table (records.Alloc addr size sites ∷ items) = moved_touches table items
moved_touches table (records.Free addr ∷ items) = moved_touches table items
moved_touches table (records.Symbol kind addr size name ∷ items) = moved_touches table items
moved_touches table (records.End e ∷ items) = moved_touches table items
