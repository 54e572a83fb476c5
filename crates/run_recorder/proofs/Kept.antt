-- The trace of a run keeps the rules of the format.
use Rattle.std.proofs.Common.{None, Some, ◌<◌, ◌≡◌, ℕ, suc, ◌+◌, ◌*◌, ◌^◌, ◌≤◌, List, [], ◌∷◌, ◌++◌, length, refl}
use Rattle.std.proofs.Common.{Option, sym, ap, ◌∙◌, arith}
use Rattle.std.specs.Int.{w32, to_le_bytes}
use Rattle.std.specs.List.{All, flat_map}
use Rattle.std.proofs.Math.Nat.{mul-suc}
use Rattle.std.proofs.lemmas.Bool.Decides.{nat_tests}
use Rattle.std.proofs.lemmas.List.{length-append}
use Rattle.std.proofs.lemmas.List.Elements.{All-append, All-cons, All-head, All-nil, All-tail}
use Rattle.std.proofs.lemmas.List.Elements.{All-weaker}
use Rattle.objects.specs.declared.symbol.SymbolKind.{SymbolKind}
use Rattle.base.specs.Touch.{Touch as ATouch}
use Rattle.base.specs.declared.ending.Ending.{Ending}
use Rattle.base.specs.declared.ending.Outcome.{Outcome}
use Rattle.base.specs.declared.ending.Outcome.TheVariants.{Exit, Budget, Deadlock, Trap, Part}
use Rattle.trace_format.specs.declared.record.TraceRecord.{TraceRecord}
use Rattle.trace_format.specs.declared.record.TraceRecord.TheVariants as records
use Rattle.trace_format.specs.declared.before.Before.{Before}
use Rattle.trace_format.specs.declared.record.Version.{Version}
use Rattle.trace_format.specs.declared.record.Version.TheVariants.{One, Two, Three, Four}
use Rattle.trace_format.specs.Numbers.{distance, groups}
use Rattle.trace_format.specs.Rules.{FitsFields, HasRegions, IsAllowedEnd, IsGoodEnding, IsGoodRecord}
use Rattle.trace_format.specs.Rules.{IsInner, IsWritable}
use Rattle.trace_format.specs.Laws.Ends.{ending_length}
use Rattle.trace_format.specs.Rules.{longest_trace}
use Rattle.trace_format.specs.Rules.{touches_in as touches_among}
use Rattle.trace_format.specs.Spelling.{spell, spell_alloc, spell_ending, spell_free, spell_header}
use Rattle.trace_format.specs.Spelling.{before_after, nothing_before, pc_before, pc_or_zero}
use Rattle.trace_format.specs.Spelling.{spell_record, spell_records, spell_symbol, spell_touch}
use Rattle.trace_format.specs.Writing.{before_behind}
use Rattle.guest.specs.GuestCalls.{RunEvent, quiet, touch, alloc, free, output}
use Rattle.guest.specs.SeenTurns.{IsEndOf}
use Rattle.guest.specs.Runs.{IsShort, Run, touch_in, touches_in}
use Rattle.guest.specs.declared.setup.Setup.{Setup}
use Rattle.run_recorder.specs.Recorded.{end_for, near_for, IsKept, IsSymbolRecord, pc_for, record_in, records_in}
use Rattle.run_recorder.specs.Recorded.{records_of, trace_for}
use Rattle.run_recorder.proofs.Records.{spell-append, touches-among, touches-in}

-- ---- symbols

pub symbol_good : (v : Version) (harts : ℕ) (item : TraceRecord) → IsSymbolRecord item
    → IsGoodRecord v harts item
symbol_good v harts (records.Touch a pc) is = absurd is
symbol_good v harts (records.Alloc addr size sites) is = absurd is
symbol_good v harts (records.Free addr) is = absurd is
symbol_good v harts (records.Symbol kind addr size name) is = is
symbol_good v harts (records.End e) is = absurd is

pub symbol_writable : (item : TraceRecord) → IsSymbolRecord item → IsWritable item
symbol_writable (records.Touch a pc) is = absurd is
symbol_writable (records.Alloc addr size sites) is = absurd is
symbol_writable (records.Free addr) is = absurd is
symbol_writable (records.Symbol kind addr size name) is = (is.some, is.no_zero)
symbol_writable (records.End e) is = absurd is

symbol_inner : (item : TraceRecord) → IsSymbolRecord item → IsInner item
symbol_inner (records.Touch a pc) is = absurd is
symbol_inner (records.Alloc addr size sites) is = absurd is
symbol_inner (records.Free addr) is = absurd is
symbol_inner (records.Symbol kind addr size name) is = tt
symbol_inner (records.End e) is = absurd is

symbol_untouched : (item : TraceRecord) → IsSymbolRecord item → touches_among (item ∷ []) ≡ []
symbol_untouched (records.Touch a pc) is = absurd is
symbol_untouched (records.Alloc addr size sites) is = absurd is
symbol_untouched (records.Free addr) is = absurd is
symbol_untouched (records.Symbol kind addr size name) is = refl
symbol_untouched (records.End e) is = absurd is

-- symbols have no access
pub untouched : (symbols : List TraceRecord) → All IsSymbolRecord symbols → touches_among symbols
    ≡ []
untouched [] all = refl
untouched (item ∷ symbols) all =
    touches-among (item ∷ []) symbols
    ∙ ap (λ (l : List ATouch). l ++ touches_among symbols)
    (symbol_untouched item (All-head IsSymbolRecord item symbols all))
    ∙ untouched symbols (All-tail IsSymbolRecord item symbols all)

twelve_more : (n : ℕ) → suc (suc (suc (suc (suc (suc (suc (suc (suc (suc (suc (suc n)))))))))))
    ≡ n + 12
twelve_more n = omega arith

nine_more : (n : ℕ) → suc (suc (suc (suc (suc (suc (suc (suc (suc n)))))))) ≡ n + 9
nine_more n = omega arith

symbol_long : (kind : SymbolKind) (addr size : ℕ) (name : List ℕ)
    → length (spell_symbol kind addr size name) ≡ length name + 12
unfolding spell_symbol
symbol_long kind addr size name = twelve_more (length name)

symbol_short : (v : Version) (before : Before) (item : TraceRecord) → IsSymbolRecord item
    → length (spell_record v before item) ≤ 1036
symbol_short v before (records.Touch a pc) is = absurd is
symbol_short v before (records.Alloc addr size sites) is = absurd is
symbol_short v before (records.Free addr) is = absurd is
symbol_short v before (records.Symbol kind addr size name) is = omega
    (arith, symbol_long kind addr size name, is.short)
symbol_short v before (records.End e) is = absurd is

-- a sum with one term more
at_most : (all one rest most n : ℕ) → all ≡ one + rest → one ≤ most → rest ≤ most * n
    → all ≤ most * suc n
at_most all one rest most n is first later = omega (arith, is, first, later, mul-suc most n)

symbols_short : (v : Version) (before : Before) (symbols : List TraceRecord)
    → All IsSymbolRecord symbols
    → length (spell_records v before symbols) ≤ 1036 * length symbols
symbols_short v before [] all = omega arith
symbols_short v before (item ∷ symbols) all =
    let later = spell_records v (before_after before item) symbols in
    let one = symbol_short v before item (All-head IsSymbolRecord item symbols all) in
    let rest = symbols_short v (before_after before item) symbols
    (All-tail IsSymbolRecord item symbols all) in
    at_most (length (spell_record v before item ++ later)) (length (spell_record v before item))
    (length later) 1036 (length symbols) (length-append (spell_record v before item) later) one rest

-- ---- events

event_inner : (v : Version) (e : RunEvent) → All IsInner (record_in v e)
event_inner v quiet = All-nil IsInner
event_inner v (touch a pc) =
    All-cons IsInner (records.Touch a (pc_for v pc)) [] tt (All-nil IsInner)
event_inner v (alloc at size sites) = All-cons IsInner (records.Alloc at size sites) [] tt
    (All-nil IsInner)
event_inner v (free at) = All-cons IsInner (records.Free at) [] tt (All-nil IsInner)
event_inner v (output at bytes) = All-nil IsInner

events_inner : (v : Version) (events : List RunEvent) → All IsInner (records_in v events)
events_inner v [] = All-nil IsInner
events_inner v (e ∷ events) = All-append IsInner (record_in v e) (records_in v events)
    (event_inner v e) (events_inner v events)

four_more : (n : ℕ) → 4 + 4 * n ≡ 4 * suc n
four_more n = omega arith

sites_long : (sites : List ℕ) → length (flat_map (to_le_bytes w32) sites) ≡ 4 * length sites
sites_long [] = refl
sites_long (s ∷ sites) =
    let four : length (to_le_bytes w32 s) ≡ 4 = refl in
    let all : length (to_le_bytes w32 s ++ flat_map (to_le_bytes w32) sites)
    ≡ length (to_le_bytes w32 s) + length
    (flat_map (to_le_bytes w32) sites) =
    length-append (to_le_bytes w32 s) (flat_map (to_le_bytes w32) sites) in
    let sum : length (to_le_bytes w32 s ++ flat_map (to_le_bytes w32) sites)
    ≡ 4 + 4 * length sites =
    all ∙ ap (λ (n : ℕ). n + length (flat_map (to_le_bytes w32) sites)) four
    ∙ ap (λ (n : ℕ). 4 + n) (sites_long sites) in
    sum ∙ four_more (length sites)

five_groups : (z : ℕ) → length (groups z) ≤ 5
five_groups z = grind (arith, nat_tests)

two_groups : (y z : ℕ) → length (groups y ++ groups z) ≤ 10
two_groups y z =
    omega (arith, length-append (groups y) (groups z), five_groups y, five_groups z)

two_more : (n : ℕ) → n ≤ 10 → suc (suc n) ≤ 25
two_more n small = omega (arith, small)

touch_short : (v : Version) (before : Before) (a : ATouch) (pc : Option ℕ)
    → length (spell_touch v before a pc) ≤ 25
unfolding spell_touch
touch_short One before a pc = omega arith
touch_short Two before a pc =
    let five = five_groups (distance before.last a.addr) in
    two_more (length (groups (distance before.last a.addr))) (omega (arith, five))
touch_short Three before a pc =
    two_more (length (groups (distance before.last a.addr)
    ++ groups (distance (pc_before before a.hart) (pc_or_zero pc))))
    (two_groups (distance before.last a.addr)
    (distance (pc_before before a.hart) (pc_or_zero pc)))
touch_short Four before a pc =
    two_more (length (groups (distance before.last a.addr)
    ++ groups (distance (pc_before before a.hart) (pc_or_zero pc))))
    (two_groups (distance before.last a.addr)
    (distance (pc_before before a.hart) (pc_or_zero pc)))

alloc_long : (at size : ℕ) (sites : List ℕ) → length (spell_alloc at size sites)
    ≡ length (flat_map (to_le_bytes w32) sites) + 9
unfolding spell_alloc
alloc_long at size sites = nine_more (length (flat_map (to_le_bytes w32) sites))

free_long : (at : ℕ) → length (spell_free at) ≡ 5
unfolding spell_free
free_long at = refl

-- a record alone
alone_short : (bytes : List ℕ) → length bytes ≤ 25 → length (bytes ++ []) ≤ 25
alone_short bytes small = omega (arith, length-append bytes [], small)

good_first : (v : Version) (harts : ℕ) (item : TraceRecord) (items : List TraceRecord)
    → All (IsGoodRecord v harts) (item ∷ items)
    → All (IsGoodRecord v harts) (item ∷ []) × All (IsGoodRecord v harts) items
good_first v harts item items good =
    let P : TraceRecord → Type 0 = IsGoodRecord v harts in
    (All-cons P item [] (All-head P item items good) (All-nil P), All-tail P item items good)

event_short : (v : Version) (harts : ℕ) (before : Before) (e : RunEvent)
    → All (IsGoodRecord v harts) (record_in v e)
    → length (spell_records v before (record_in v e)) ≤ 25
event_short v harts before quiet good = omega arith
event_short v harts before (touch a pc) good =
    alone_short (spell_touch v before a (pc_for v pc)) (touch_short v before a (pc_for v pc))
event_short v harts before (alloc at size sites) good =
    let is = All-head (IsGoodRecord v harts) (records.Alloc at size sites) [] good in
    alone_short (spell_alloc at size sites)
    (omega (arith, alloc_long at size sites, sites_long sites, is.2))
event_short v harts before (free at) good =
    alone_short (spell_free at) (omega (arith, free_long at))
event_short v harts before (output at bytes) good = omega arith

good_front : (v : Version) (harts : ℕ) (e : RunEvent) (events : List RunEvent)
    → All (IsGoodRecord v harts) (record_in v e ++ records_in v events)
    → All (IsGoodRecord v harts) (record_in v e) × All (IsGoodRecord v harts) (records_in v events)
good_front v harts quiet events good = (All-nil (IsGoodRecord v harts), good)
good_front v harts (touch a pc) events good =
    good_first v harts (records.Touch a (pc_for v pc)) (records_in v events) good
good_front v harts (alloc at size sites) events good =
    good_first v harts (records.Alloc at size sites) (records_in v events) good
good_front v harts (free at) events good =
    good_first v harts (records.Free at) (records_in v events) good
good_front v harts (output at bytes) events good = (All-nil (IsGoodRecord v harts), good)

events_short : (v : Version) (harts : ℕ) (before : Before) (events : List RunEvent)
    → All (IsGoodRecord v harts) (records_in v events)
    → length (spell_records v before (records_in v events)) ≤ 25 * length events
events_short v harts before [] good = omega arith
events_short v harts before (e ∷ events) good =
    let parts = good_front v harts e events good in
    let front = spell_records v before (record_in v e) in
    let later = spell_records v (before_behind before (record_in v e)) (records_in v events) in
    at_most (length (spell_records v before (record_in v e ++ records_in v events))) (length front)
    (length later) 25 (length events)
    (ap length (spell-append v before (record_in v e) (records_in v events))
    ∙ length-append front later)
    (event_short v harts before e parts.0)
    (events_short v harts (before_behind before (record_in v e)) events parts.1)

few_touch : (e : RunEvent) → length (touch_in e) ≤ 1
few_touch quiet = omega arith
few_touch (touch a pc) = omega arith
few_touch (alloc at size sites) = omega arith
few_touch (free at) = omega arith
few_touch (output at bytes) = omega arith

one_more : (all one rest n : ℕ) → all ≡ one + rest → one ≤ 1 → rest ≤ n → all ≤ suc n
one_more all one rest n is first later = omega (arith, is, first, later)

pub few_touches : (events : List RunEvent) → length (touches_in events) ≤ length events
few_touches [] = omega arith
few_touches (e ∷ events) =
    let all : length (touches_in (e ∷ events)) ≡ length (touch_in e) + length (touches_in events) =
    length-append (touch_in e)
    (touches_in events) in
    one_more (length (touches_in (e ∷ events))) (length (touch_in e)) (length (touches_in events))
    (length events) all (few_touch e)
    (few_touches events)

-- ---- the end

-- the end of a run may be recorded in a trace
pub allowed_end : (harts steps : ℕ) (o : Outcome) → IsEndOf harts o → IsAllowedEnd steps o
allowed_end harts steps (Exit code) is = tt
allowed_end harts steps Budget is = tt
allowed_end harts steps Deadlock is = tt
allowed_end harts steps (Trap hart pc cause) is = is.2
allowed_end harts steps Part is = absurd is

fitting_end : (harts : ℕ) (o : Outcome) → IsEndOf harts o → FitsFields harts o
fitting_end harts (Exit code) is = is
fitting_end harts Budget is = tt
fitting_end harts Deadlock is = tt
fitting_end harts (Trap hart pc cause) is = (is.0, is.1)
fitting_end harts Part is = absurd is

-- ---- the whole

ending_long : (v : Version) (e : Ending) → length (spell_ending v (end_for v e)) ≤ 33
ending_long One e = omega (arith, ending_length One e.outcome e.steps e.accesses None)
ending_long Two e = omega (arith, ending_length Two e.outcome e.steps e.accesses None)
ending_long Three e = omega (arith, ending_length Three e.outcome e.steps e.accesses None)
ending_long Four e = omega (
  arith,
  ending_length Four e.outcome e.steps e.accesses (Some e.accesses),
)

header_long : (v : Version) (harts : ℕ)
    → length (spell_header v (record { first = 0; harts = harts; near = near_for v })) ≡ 20
unfolding spell_header
header_long One harts = refl
header_long Two harts = refl
header_long Three harts = refl
header_long Four harts = refl

whole_long : (v : Version) (harts : ℕ) (symbols : List TraceRecord) (r : Run)
    → length (spell v (record { first = 0; harts = harts; near = near_for v }) (records_of v symbols r) (end_for v r.ending))
    ≡ length (spell_header v (record { first = 0; harts = harts; near = near_for v }))
    + ((length (spell_records v nothing_before symbols)
    + length (spell_records v (before_behind nothing_before symbols) (records_in v r.events)))
    + length (spell_ending v (end_for v r.ending)))
unfolding spell
whole_long v harts symbols r =
    let head : List ℕ = spell_header v (record { first = 0; harts = harts; near = near_for v }) in
    let front = spell_records v nothing_before symbols in
    let later =
    spell_records v (before_behind nothing_before symbols) (records_in v r.events) in
    let end : List ℕ = spell_ending v (end_for v r.ending) in
    ap (λ (l : List ℕ). length (head ++ (l ++ end)))
    (spell-append v nothing_before symbols (records_in v r.events))
    ∙ length-append head ((front ++ later) ++ end)
    ∙ ap (λ (n : ℕ). length head + n) (length-append (front ++ later) end
    ∙ ap (λ (n : ℕ). n + length end) (length-append front later))

-- the lengths of a trace's parts, summed
sum_short : (all head symbols events end n m : ℕ) → all ≡ head + ((symbols + events) + end) → head
    ≡ 20 → end ≤ 33
    → symbols ≤ 1036 * n → n ≤ 2 ^ 20 → events ≤ 25 * m → m ≤ 2 ^ 36 → all ≤ longest_trace
sum_short all head symbols events end n m is h e s few v short = omega
    (arith, is, h, e, s, few, v, short)

run_short : (v : Version) (harts : ℕ) (symbols : List TraceRecord) (r : Run)
    → All IsSymbolRecord symbols → length symbols ≤ 2 ^ 20
    → All (IsGoodRecord v harts) (records_in v r.events) → length r.events ≤ 2 ^ 36
    → length (spell v (record { first = 0; harts = harts; near = near_for v }) (records_of v symbols r) (end_for v r.ending)) ≤
    longest_trace
run_short v harts symbols r stated few good short =
    sum_short (length (spell v (record { first = 0; harts = harts; near = near_for v })
    (records_of v symbols r) (end_for v r.ending)))
    (length (spell_header v (record { first = 0; harts = harts; near = near_for v })))
    (length (spell_records v nothing_before symbols))
    (length (spell_records v (before_behind nothing_before symbols) (records_in v r.events)))
    (length (spell_ending v (end_for v r.ending))) (length symbols) (length r.events)
    (whole_long v harts symbols r) (header_long v harts)
    (ending_long v r.ending) (symbols_short v nothing_before symbols stated) few
    (events_short v harts (before_behind nothing_before symbols) r.events good) short

regions_kept : (v : Version) (harts : ℕ)
    → HasRegions v (record { first = 0; harts = harts; near = near_for v })
regions_kept One harts = refl
regions_kept Two harts = refl
regions_kept Three harts = refl
regions_kept Four harts = (refl, (omega arith, omega arith))

-- the end of a trace that leaves out no access
end_kept : (v : Version) (harts : ℕ) (e : Ending) → IsAllowedEnd e.steps e.outcome
    → FitsFields harts e.outcome → e.steps < 2 ^ 64 → e.accesses ≤ 2 ^ 40
    → IsGoodEnding v harts (end_for v e)
end_kept One harts e allowed fits steps few = record {
  allowed = allowed;
  outcome = fits;
  steps = steps;
  accesses = omega arith;
  whole = refl;
}
end_kept Two harts e allowed fits steps few = record {
  allowed = allowed;
  outcome = fits;
  steps = steps;
  accesses = omega arith;
  whole = refl;
}
end_kept Three harts e allowed fits steps few = record {
  allowed = allowed;
  outcome = fits;
  steps = steps;
  accesses = omega arith;
  whole = refl;
}
end_kept Four harts e allowed fits steps few = record {
  allowed = allowed;
  outcome = fits;
  steps = steps;
  accesses = omega arith;
  whole = (omega arith, few);
}

counted_end : (v : Version) (e : Ending) → (end_for v e).accesses ≡ e.accesses
counted_end One e = refl
counted_end Two e = refl
counted_end Three e = refl
counted_end Four e = refl

pub kept_rules : (v : Version) (harts : ℕ) (symbols : List TraceRecord) (s : Setup) (r : Run)
    → 1 ≤ harts
    → harts ≤ 256
    → All IsSymbolRecord symbols → length symbols ≤ 2 ^ 20 → IsShort s r → s.budget ≤ 2 ^ 36
    → All (IsGoodRecord v harts) (records_in v r.events) → IsEndOf harts r.ending.outcome
    → IsKept (trace_for v harts symbols r)
kept_rules v harts symbols s r some most stated few short budget good end =
    let touched : touches_among (records_of v symbols r) ≡ touches_in r.events =
    touches-among symbols (records_in v r.events)
    ∙ ap (λ (l : List ATouch). l ++ touches_among (records_in v r.events)) (untouched symbols stated)
    ∙ touches-in v r.events in
    let count : r.ending.accesses ≡ length (touches_among (records_of v symbols r)) = short.accesses
    ∙ ap length (sym touched) in
    let fewer = few_touches r.events in
    record {
      header = record { position = omega arith; some = some; few = most };
      regions = regions_kept v harts;
      records = All-append (IsGoodRecord v harts) symbols (records_in v r.events)
          (All-weaker IsSymbolRecord (IsGoodRecord v harts) (symbol_good v harts) symbols stated)
          good;
      inner = All-append IsInner symbols (records_in v r.events)
          (All-weaker IsSymbolRecord IsInner symbol_inner symbols stated) (events_inner v r.events);
      ending = end_kept v harts r.ending (allowed_end harts r.ending.steps r.ending.outcome end)
          (fitting_end harts r.ending.outcome end) (omega (arith, short.steps, budget))
          (omega (arith, short.accesses, fewer, short.events, budget));
      positions = omega (arith, count, short.accesses, fewer, short.events, budget);
      counted = counted_end v r.ending ∙ count;
      short = run_short v harts symbols r stated few good (omega (arith, short.events, budget));
    }
