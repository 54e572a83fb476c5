-- What good records spell is read as those records.
use Rattle.std.proofs.Common.{◌≡◌, ◌≢◌, ℕ, ◌+◌, ◌*◌, ◌%◌, ◌^◌, ◌≤◌, ◌<◌, true, false, eqb, eq-eqb}
use Rattle.std.proofs.Common.{ltb, leb, Bool, cond, List, [], ◌∷◌, ◌++◌, length, get_or, take, drop}
use Rattle.std.proofs.Common.{All, Option, Some, None, Result, Ok, Err, refl, ap, ◌∙◌, arith}
use Rattle.std.proofs.Math.Seq.{drop-append_seam, take-append_seam}
use Rattle.base.specs.declared.access.Kind.{Kind}
use Rattle.trace_format.specs.declared.fault.TraceFault.{TraceFault}
use Rattle.trace_format.specs.declared.fault.TraceFault.TheVariants as faults
use Rattle.std.proofs.lemmas.Bool.Decides.{nat_tests}
use Rattle.std.proofs.lemmas.List.Elements.{All-head, All-tail}
use Rattle.std.proofs.lemmas.Nat.{from_le_bytes-to_le_bytes_2, from_le_bytes-to_le_bytes_4}
use Rattle.std.proofs.lemmas.Nat.{from_le_bytes-to_le_bytes_8}
use Rattle.std.specs.List.{list_any}
use Rattle.objects.specs.declared.symbol.SymbolKind.{SymbolKind}
use Rattle.objects.specs.declared.symbol.SymbolKind.TheVariants.{Object, Function}
use Rattle.base.specs.Touch.{Touch, is_access_size}
use Rattle.base.specs.declared.ending.Cause.{Cause}
use Rattle.base.specs.declared.ending.Cause.TheVariants.{Illegal, Breakpoint}
use Rattle.base.specs.declared.ending.Cause.TheVariants.{FetchMisaligned, FetchOutside}
use Rattle.base.specs.declared.ending.Cause.TheVariants.{LoadMisaligned, LoadOutside}
use Rattle.base.specs.declared.ending.Cause.TheVariants.{StoreMisaligned, StoreOutside}
use Rattle.base.specs.declared.ending.Outcome.{Outcome}
use Rattle.base.specs.declared.ending.Outcome.TheVariants.{Exit, Budget, Deadlock, Trap}
use Rattle.base.specs.declared.ending.Outcome.TheVariants.{Part}
use Rattle.trace_format.specs.declared.before.Before.{Before}
use Rattle.trace_format.specs.declared.record.Header.{Header}
use Rattle.trace_format.specs.declared.record.Version.{Version}
use Rattle.trace_format.specs.declared.record.Version.TheVariants.{One, Two, Three, Four}
use Rattle.trace_format.specs.declared.record.TraceEnd.{TraceEnd}
use Rattle.trace_format.specs.declared.record.TraceRecord.{TraceRecord}
use Rattle.trace_format.specs.declared.record.TraceRecord.TheVariants as records
use Rattle.trace_format.specs.declared.read_so_far.ReadSoFar.{ReadSoFar}
use Rattle.trace_format.specs.Numbers.{address_at, distance, groups, number_in}
use Rattle.trace_format.specs.Spelling.{cause_number, kind_number, spell_alloc, spell_ending}
use Rattle.trace_format.specs.Spelling.{spell_free, spell_header, spell_record, spell_symbol}
use Rattle.trace_format.specs.Spelling.{pc_before, spell_short_touch, spell_touch}
use Rattle.trace_format.specs.Tags.{half_of}
use Rattle.std.specs.Int.{w32, w64}
use Rattle.trace_format.specs.Rules.{FitsFields, IsAllowedEnd, IsGoodBefore, IsGoodEnding}
use Rattle.trace_format.specs.Rules.{HasRegions, IsGoodHeader, IsGoodPc, IsGoodRecord, IsGoodSymbol}
use Rattle.trace_format.specs.Rules.{IsGoodTouch, last_position}
use Rattle.trace_format.specs.Judging.{alloc_at, begun, cause_of, end_counted, header_judged}
use Rattle.base.specs.Fields.{number_at}
use Rattle.trace_format.specs.Judging.{outcome_judged, plain_judged, record_judged}
use Rattle.trace_format.specs.Judging.{short_touch_extent, short_touch_judged, sited_touch_judged}
use Rattle.trace_format.specs.Judging.{with_pc}
use Rattle.trace_format.specs.Judging.{symbol_judged, symbol_kind_of, touch_judged, trap_judged}
use Rattle.trace_format.specs.Laws.Ends.{whole_fits, whole_of}
use Rattle.trace_format.specs.Laws.Spelling.{address_again, distance_small, filtered_touch_tag}
use Rattle.trace_format.specs.Laws.Spelling.{groups_good}
use Rattle.trace_format.specs.Laws.Spelling.{number_again, numbers_stated, short_touch_tag}
use Rattle.trace_format.specs.Laws.Spelling.{sited_touch_tag, touch_tag}
use Rattle.trace_format.specs.Laws.Before.{pc_before_low}

pub header_again : (v : Version) (h : Header) → IsGoodHeader h → HasRegions v h
    → header_judged (spell_header v h) ≡ Ok (begun v h)
unfolding header_judged spell_header
header_again One h good regions =
    let first = from_le_bytes-to_le_bytes_8 h.first (omega (arith, good.position)) in
    let harts = from_le_bytes-to_le_bytes_2 h.harts (omega (arith, good.few)) in
    let last = from_le_bytes-to_le_bytes_2 h.near (omega (arith, regions)) in
    let near : ltb last_position h.first ≡ false = grind (arith, nat_tests, good.position) in
    let some : leb 1 h.harts ≡ true = grind (arith, nat_tests, good.some) in
    let few : leb h.harts 256 ≡ true = grind (arith, nat_tests, good.few) in
    let unused : eqb h.near 0 ≡ true = eq-eqb h.near 0 regions in
    rw (first, harts, last, near, some, few, unused) refl
header_again Two h good regions =
    let first = from_le_bytes-to_le_bytes_8 h.first (omega (arith, good.position)) in
    let harts = from_le_bytes-to_le_bytes_2 h.harts (omega (arith, good.few)) in
    let last = from_le_bytes-to_le_bytes_2 h.near (omega (arith, regions)) in
    let near : ltb last_position h.first ≡ false = grind (arith, nat_tests, good.position) in
    let some : leb 1 h.harts ≡ true = grind (arith, nat_tests, good.some) in
    let few : leb h.harts 256 ≡ true = grind (arith, nat_tests, good.few) in
    let unused : eqb h.near 0 ≡ true = eq-eqb h.near 0 regions in
    rw (first, harts, last, near, some, few, unused) refl
header_again Three h good regions =
    let first = from_le_bytes-to_le_bytes_8 h.first (omega (arith, good.position)) in
    let harts = from_le_bytes-to_le_bytes_2 h.harts (omega (arith, good.few)) in
    let last = from_le_bytes-to_le_bytes_2 h.near (omega (arith, regions)) in
    let near : ltb last_position h.first ≡ false = grind (arith, nat_tests, good.position) in
    let some : leb 1 h.harts ≡ true = grind (arith, nat_tests, good.some) in
    let few : leb h.harts 256 ≡ true = grind (arith, nat_tests, good.few) in
    let unused : eqb h.near 0 ≡ true = eq-eqb h.near 0 regions in
    rw (first, harts, last, near, some, few, unused) refl
header_again Four h good regions =
    let first = from_le_bytes-to_le_bytes_8 h.first (omega (arith, good.position)) in
    let harts = from_le_bytes-to_le_bytes_2 h.harts (omega (arith, good.few)) in
    let last = from_le_bytes-to_le_bytes_2 h.near (omega (arith, regions.1.1)) in
    let near : ltb 0 h.first ≡ false = grind (arith, nat_tests, regions.0) in
    let some : leb 1 h.harts ≡ true = grind (arith, nat_tests, good.some) in
    let few : leb h.harts 256 ≡ true = grind (arith, nat_tests, good.few) in
    let least : leb 6 h.near ≡ true = grind (arith, nat_tests, regions.1.0) in
    let most : leb h.near 16 ≡ true = grind (arith, nat_tests, regions.1.1) in
    rw (first, harts, last, near, some, few, least, most) refl

touch_again : (harts place : ℕ) (before : Before) (a : Touch) (pc : Option ℕ)
    → IsGoodTouch harts a
    → touch_judged a.kind harts place (spell_touch One before a pc) ≡ Ok a
unfolding touch_judged spell_touch
touch_again harts place before a pc good =
    let inside : leb harts a.hart ≡ false = grind (arith, nat_tests, good.hart) in
    let sized : is_access_size a.size ≡ true = good.allowed.sized in
    let aligned : eqb (a.addr % a.size) 0 ≡ true =
    eq-eqb (a.addr % a.size) 0 good.allowed.aligned in
    rw (
      from_le_bytes-to_le_bytes_2 a.hart (omega (arith, good.allowed.hart_in_range)),
      from_le_bytes-to_le_bytes_4 a.addr good.allowed.addr_in_range,
      inside,
      sized,
      aligned,
    )
    refl

short_touch_again : (harts last place : ℕ) (a : Touch) → last < 2 ^ 32 → IsGoodTouch harts a
    → short_touch_judged a.kind a.size harts last place (spell_short_touch last a) ≡ Ok a
unfolding short_touch_judged
short_touch_again harts last place a low good =
    let inside : leb harts a.hart ≡ false = grind (arith, nat_tests, good.hart) in
    let z = distance last a.addr in
    let small = distance_small last a.addr in
    let there = address_again last a.addr low good.allowed.addr_in_range in
    let aligned : eqb (a.addr % a.size) 0 ≡ true =
    eq-eqb (a.addr % a.size) 0 good.allowed.aligned in
    rw (inside, groups_good z small, number_again z small, there, aligned) refl

-- an access in two parts, the front and the pc
sited_parts : (kind : Kind) (size harts place : ℕ) (before : Before) (front stated : List ℕ)
    → short_touch_extent (front ++ stated) ≡ length front
    → sited_touch_judged kind size harts before place (front ++ stated)
    ≡ with_pc before (place + length front) stated
    (short_touch_judged kind size harts before.last place front)
unfolding sited_touch_judged
sited_parts kind size harts place before front stated is =
    let bytes = front ++ stated in
    ap (λ (n : ℕ). with_pc before (place + n) (drop n bytes)
    (short_touch_judged kind size harts before.last place (take n bytes))) is
    ∙ ap (λ (xs : List ℕ). with_pc before (place + length front) xs
    (short_touch_judged kind size harts before.last place (take (length front) bytes)))
    (drop-append_seam front stated)
    ∙ ap (λ (xs : List ℕ). with_pc before (place + length front) stated
    (short_touch_judged kind size harts before.last place xs)) (take-append_seam front stated)

pc_again : (before : Before) (place pc : ℕ) (a : Touch) → IsGoodBefore before → pc < 2 ^ 32
    → with_pc before place (groups (distance (pc_before before a.hart) pc)) (Ok a)
    ≡ Ok (a, Some pc)
pc_again before place pc a low small =
    let last = pc_before before a.hart in
    let y = distance last pc in
    let fits = distance_small last pc in
    let there = address_again last pc (pc_before_low before a.hart low) small in
    ap (λ (b : Bool). let r : Result (Touch × Option ℕ) TraceFault =
    cond b (Ok (a, Some (address_at last (number_in (groups y))))) (Err (faults.BadField place))
    in r) (groups_good y fits)
    ∙ ap (λ (n : ℕ). let r : Result (Touch × Option ℕ) TraceFault =
    Ok (a, Some (address_at last n)) in r) (number_again y fits)
    ∙ ap (λ (n : ℕ). let r : Result (Touch × Option ℕ) TraceFault = Ok (a, Some n) in r) there

sited_touch_again : (harts place pc : ℕ) (before : Before) (a : Touch) → IsGoodBefore before
    → IsGoodTouch harts a → pc < 2 ^ 32
    → sited_touch_judged a.kind a.size harts before place (spell_touch Three before a (Some pc))
    ≡ Ok (a, Some pc)
unfolding spell_touch
sited_touch_again harts place pc before a low good small =
    let front = spell_short_touch before.last a in
    let y = distance (pc_before before a.hart) pc in
    let are = numbers_stated (16 * half_of a.kind + a.size) a.hart (distance before.last a.addr) y
    (distance_small before.last a.addr) (distance_small (pc_before before a.hart) pc) in
    sited_parts a.kind a.size harts place before front (groups y) are.first
    ∙ ap (with_pc before (place + length front) (groups y))
    (short_touch_again harts before.last place a low.last good)
    ∙ pc_again before (place + length front) pc a low small

cause_again : (c : Cause) → cause_of (cause_number c) ≡ Some c
cause_again Illegal = refl
cause_again Breakpoint = refl
cause_again FetchMisaligned = refl
cause_again FetchOutside = refl
cause_again LoadMisaligned = refl
cause_again LoadOutside = refl
cause_again StoreMisaligned = refl
cause_again StoreOutside = refl

-- the end of a trace of such parts
abbrev an_end : Outcome → ℕ → ℕ → Option ℕ → TraceEnd
an_end o steps accesses whole = record {
  outcome = o;
  steps = steps;
  accesses = accesses;
  whole = whole;
}

outcome_again : (v : Version) (harts place : ℕ) (o : Outcome) (steps accesses : ℕ)
    (whole : Option ℕ) → harts ≤ 256 → IsAllowedEnd steps o → FitsFields harts o → steps < 2 ^ 64
    → outcome_judged harts place (spell_ending v (an_end o steps accesses whole)) ≡ Ok o
unfolding outcome_judged trap_judged plain_judged spell_ending
outcome_again v harts place (Exit code) steps accesses whole few allowed fits s =
    rw (from_le_bytes-to_le_bytes_4 code fits) refl
outcome_again v harts place Budget steps accesses whole few allowed fits s = refl
outcome_again v harts place Deadlock steps accesses whole few allowed fits s = refl
outcome_again v harts place (Trap hart pc cause) steps accesses whole few allowed fits s =
    let inside : leb harts hart ≡ false = grind (arith, nat_tests, fits.0) in
    let aligned : eqb (pc % 4) 0 ≡ true = eq-eqb (pc % 4) 0 allowed in
    rw (
      cause_again cause,
      from_le_bytes-to_le_bytes_2 hart (omega (arith, fits.0)),
      from_le_bytes-to_le_bytes_4 pc fits.1,
      inside,
      aligned,
    ) refl
outcome_again v harts place Part steps accesses whole few allowed fits s =
    rw (from_le_bytes-to_le_bytes_8 steps s, allowed) refl

kind_again : (k : SymbolKind) → symbol_kind_of (kind_number k) ≡ Some k
kind_again Object = refl
kind_again Function = refl

no_zero : (name : List ℕ) → All (λ b. b ≢ 0) name → list_any (eqb 0) name ≡ false
no_zero [] none = refl
no_zero (b ∷ bs) none =
    let here : eqb 0 b ≡ false = grind (arith, nat_tests, All-head (λ b. b ≢ 0) b bs none) in
    rw here (no_zero bs (All-tail (λ b. b ≢ 0) b bs none))

symbol_again : (place : ℕ) (kind : SymbolKind) (addr size : ℕ) (name : List ℕ)
    → IsGoodSymbol addr size name
    → symbol_judged place (spell_symbol kind addr size name) ≡ Ok (records.Symbol kind addr size
    name)
unfolding symbol_judged spell_symbol
symbol_again place kind addr size name good =
    let stated = from_le_bytes-to_le_bytes_2 (length name) (omega (arith, good.short)) in
    let sized : eqb size 0 ≡ false = grind (arith, nat_tests, good.some) in
    let fits : ltb 1024 (length name) ≡ false = grind (arith, nat_tests, good.short) in
    rw (
      kind_again kind,
      from_le_bytes-to_le_bytes_4 addr good.addr_in_range,
      from_le_bytes-to_le_bytes_4 size good.size_in_range,
      sized,
      stated,
      fits,
      no_zero name
          good.no_zero,
    ) refl

alloc_again : (addr size : ℕ) (sites : List ℕ) → addr < 2 ^ 32 → size < 2 ^ 32 → length sites ≡ 4
    → All (λ site. site < 2 ^ 32) sites
    → alloc_at (spell_alloc addr size sites) ≡ records.Alloc addr size sites
unfolding alloc_at spell_alloc
alloc_again addr size (a ∷ b ∷ c ∷ d ∷ []) small_addr small_size four each =
    let rest = All-tail (λ s. s < 2 ^ 32) a (b ∷ c ∷ d ∷ []) each in
    let rest' = All-tail (λ s. s < 2 ^ 32) b (c ∷ d ∷ []) rest in
    let rest'' = All-tail (λ s. s < 2 ^ 32) c (d ∷ []) rest' in
    rw (
      from_le_bytes-to_le_bytes_4 addr small_addr,
      from_le_bytes-to_le_bytes_4 size small_size,
      from_le_bytes-to_le_bytes_4 a (All-head (λ s. s < 2 ^ 32) a (b ∷ c ∷ d ∷ []) each),
      from_le_bytes-to_le_bytes_4 b (All-head (λ s. s < 2 ^ 32) b (c ∷ d ∷ []) rest),
      from_le_bytes-to_le_bytes_4 c (All-head (λ s. s < 2 ^ 32) c (d ∷ []) rest'),
      from_le_bytes-to_le_bytes_4 d (All-head (λ s. s < 2 ^ 32) d [] rest''),
    ) refl
alloc_again addr size [] small_addr small_size four each = absurd (omega arith)
alloc_again addr size (a ∷ []) small_addr small_size four each = absurd (omega arith)
alloc_again addr size (a ∷ b ∷ []) small_addr small_size four each = absurd (omega arith)
alloc_again addr size (a ∷ b ∷ c ∷ []) small_addr small_size four each = absurd (omega arith)
alloc_again addr size (a ∷ b ∷ c ∷ d ∷ e ∷ rest) small_addr small_size four each =
    absurd (omega arith)

first_of_touch : (before : Before) (a : Touch) (pc : Option ℕ)
    → get_or (spell_touch One before a pc) 0 0 ≡ half_of a.kind
unfolding spell_touch
first_of_touch before a pc = refl

first_of_short_touch : (before : Before) (a : Touch) (pc : Option ℕ)
    → get_or (spell_touch Two before a pc) 0 0 ≡ 16 * half_of a.kind + a.size
unfolding spell_touch
first_of_short_touch before a pc = refl

first_of_sited_touch : (before : Before) (a : Touch) (pc : Option ℕ)
    → get_or (spell_touch Three before a pc) 0 0 ≡ 16 * half_of a.kind + a.size
unfolding spell_touch
first_of_sited_touch before a pc = refl

first_of_filtered_touch : (before : Before) (a : Touch) (pc : Option ℕ)
    → get_or (spell_touch Four before a pc) 0 0 ≡ 16 * half_of a.kind + a.size
unfolding spell_touch
first_of_filtered_touch before a pc = refl

filtered_touch_again : (harts place pc : ℕ) (before : Before) (a : Touch) → IsGoodBefore before
    → IsGoodTouch harts a → pc < 2 ^ 32
    → sited_touch_judged a.kind a.size harts before place (spell_touch Four before a (Some pc))
    ≡ Ok (a, Some pc)
unfolding spell_touch
filtered_touch_again harts place pc before a low good small =
    sited_touch_again harts place pc before a low good small

-- in version 2
short_touch_there : (harts place : ℕ) (before : Before) (a : Touch) (pc : Option ℕ)
    → before.last < 2 ^ 32 → IsGoodTouch harts a
    → short_touch_judged a.kind a.size harts before.last place (spell_touch Two before a pc)
    ≡ Ok a
unfolding spell_touch
short_touch_there harts place before a pc low good =
    short_touch_again harts before.last place a low good

first_of_ending : (v : Version) (o : Outcome) (steps accesses : ℕ) (whole : Option ℕ)
    → get_or (spell_ending v (an_end o steps accesses whole)) 0 0 ≡ 6
unfolding spell_ending
first_of_ending v o steps accesses whole = refl

steps_of : (v : Version) (o : Outcome) (steps accesses : ℕ) (whole : Option ℕ) → steps < 2 ^ 64
    → number_at w64 9 (spell_ending v (an_end o steps accesses whole)) ≡ steps
unfolding spell_ending
steps_of v (Exit code) steps accesses whole s = from_le_bytes-to_le_bytes_8 steps s
steps_of v Budget steps accesses whole s = from_le_bytes-to_le_bytes_8 steps s
steps_of v Deadlock steps accesses whole s = from_le_bytes-to_le_bytes_8 steps s
steps_of v (Trap hart pc cause) steps accesses whole s = from_le_bytes-to_le_bytes_8 steps s
steps_of v Part steps accesses whole s = from_le_bytes-to_le_bytes_8 steps s

accesses_of : (v : Version) (o : Outcome) (steps accesses : ℕ) (whole : Option ℕ)
    → accesses < 2 ^ 64
    → number_at w64 17 (spell_ending v (an_end o steps accesses whole)) ≡ accesses
unfolding spell_ending
accesses_of v (Exit code) steps accesses whole s = from_le_bytes-to_le_bytes_8 accesses s
accesses_of v Budget steps accesses whole s = from_le_bytes-to_le_bytes_8 accesses s
accesses_of v Deadlock steps accesses whole s = from_le_bytes-to_le_bytes_8 accesses s
accesses_of v (Trap hart pc cause) steps accesses whole s = from_le_bytes-to_le_bytes_8 accesses s
accesses_of v Part steps accesses whole s = from_le_bytes-to_le_bytes_8 accesses s

first_of_alloc : (addr size : ℕ) (sites : List ℕ) → get_or (spell_alloc addr size sites) 0 0 ≡ 3
unfolding spell_alloc
first_of_alloc addr size sites = refl

first_of_free : (addr : ℕ) → get_or (spell_free addr) 0 0 ≡ 4
unfolding spell_free
first_of_free addr = refl

addr_of_free : (addr : ℕ) → addr < 2 ^ 32 → number_at w32 1 (spell_free addr) ≡ addr
unfolding spell_free
addr_of_free addr small = from_le_bytes-to_le_bytes_4 addr small

first_of_symbol : (kind : SymbolKind) (addr size : ℕ) (name : List ℕ)
    → get_or (spell_symbol kind addr size name) 0 0 ≡ 5
unfolding spell_symbol
first_of_symbol kind addr size name = refl

-- what a record needs of the records before it: an access has a position, and an end states how
-- many accesses there were
abbrev pub ComesAt : ReadSoFar → TraceRecord → Type 0
ComesAt p (records.Touch a pc) = p.header.first + p.counted < last_position
ComesAt p (records.End e) = e.accesses ≡ p.counted
ComesAt p _ = Unit {0}

module _ (header : Header) (counted : ℕ) (before : Before) (place : ℕ) (few : header.harts ≤ 256)
    (low : IsGoodBefore before) where
  at : Version → ReadSoFar
  at v = record {
    version = v;
    header = header;
    counted = counted;
    before = before;
    place = place;
  }

  touch_judged_again : (v : Version) (a : Touch) (pc : Option ℕ) → IsGoodTouch header.harts a
      → IsGoodPc v pc → header.first + counted < last_position
      → record_judged (at v) (spell_touch v before a pc) ≡ Ok (records.Touch a pc)
  unfolding at record_judged
  touch_judged_again One a None good fits there =
      let inside : ltb (header.first + counted) last_position ≡ true = grind (arith, nat_tests) in
      rw (
        first_of_touch before a None,
        touch_tag a.kind,
        touch_again header.harts place before a None good,
        inside,
      ) refl
  touch_judged_again Two a None good fits there =
      let inside : ltb (header.first + counted) last_position ≡ true = grind (arith, nat_tests) in
      rw (
        first_of_short_touch before a None,
        short_touch_tag a.kind a.size good.allowed.sized,
        short_touch_there header.harts place before a None low.last good,
        inside,
      ) refl
  touch_judged_again Three a (Some pc) good fits there =
      let inside : ltb (header.first + counted) last_position ≡ true = grind (arith, nat_tests) in
      rw (
        first_of_sited_touch before a (Some pc),
        sited_touch_tag a.kind a.size good.allowed.sized,
        sited_touch_again header.harts place pc before a low good fits,
        inside,
      ) refl
  touch_judged_again Four a (Some pc) good fits there =
      let inside : ltb (header.first + counted) last_position ≡ true = grind (arith, nat_tests) in
      rw (
        first_of_filtered_touch before a (Some pc),
        filtered_touch_tag a.kind a.size good.allowed.sized,
        filtered_touch_again header.harts place pc before a low good fits,
        inside,
      ) refl
  touch_judged_again One a (Some pc) good fits there = absurd cc
  touch_judged_again Two a (Some pc) good fits there = absurd cc
  touch_judged_again Three a None good fits there = absurd fits
  touch_judged_again Four a None good fits there = absurd fits

  end_counted_again : (v : Version) (o : Outcome) (steps accesses : ℕ) (whole : Option ℕ)
      → IsGoodEnding v header.harts (an_end o steps accesses whole) → accesses ≡ counted
      → end_counted (at v) (spell_ending v (an_end o steps accesses whole)) (Ok o)
      ≡ Ok (records.End (an_end o steps accesses whole))
  unfolding at
  end_counted_again v o steps accesses whole good same =
      let stated : eqb accesses counted ≡ true = eq-eqb accesses counted same in
      rw (
        steps_of v o steps accesses whole good.steps,
        accesses_of v o steps accesses whole good.accesses,
        whole_of v o steps accesses whole good.whole,
        stated,
        whole_fits v accesses whole good.whole,
      ) refl

  end_judged_again : (v : Version) (o : Outcome) (steps accesses : ℕ) (whole : Option ℕ)
      → IsGoodEnding v header.harts (an_end o steps accesses whole) → accesses ≡ counted
      → record_judged (at v) (spell_ending v (an_end o steps accesses whole))
      ≡ Ok (records.End (an_end o steps accesses whole))
  unfolding at record_judged
  end_judged_again One o steps accesses whole good same =
      rw (
        first_of_ending One o steps accesses whole,
        outcome_again One header.harts place o steps accesses whole few good.allowed good.outcome
            good.steps,
      ) (end_counted_again One o steps accesses whole good same)
  end_judged_again Two o steps accesses whole good same =
      rw (
        first_of_ending Two o steps accesses whole,
        outcome_again Two header.harts place o steps accesses whole few good.allowed good.outcome
            good.steps,
      ) (end_counted_again Two o steps accesses whole good same)
  end_judged_again Three o steps accesses whole good same =
      rw (
        first_of_ending Three o steps accesses whole,
        outcome_again Three header.harts place o steps accesses whole few good.allowed good.outcome
            good.steps,
      ) (end_counted_again Three o steps accesses whole good same)
  end_judged_again Four o steps accesses whole good same =
      rw (
        first_of_ending Four o steps accesses whole,
        outcome_again Four header.harts place o steps accesses whole few good.allowed good.outcome
            good.steps,
      ) (end_counted_again Four o steps accesses whole good same)

  others_judged_again : (v : Version) (item : TraceRecord) → IsGoodRecord v header.harts item
      → ComesAt (at v) item → record_judged (at v) (spell_record v before item) ≡ Ok item
  unfolding at record_judged
  others_judged_again v (records.Touch a pc) good there =
      touch_judged_again v a pc good.0 good.1 there
  others_judged_again v (records.End e) good there =
      end_judged_again v e.outcome e.steps e.accesses e.whole good there
  others_judged_again One (records.Alloc addr size sites) good there =
      rw (first_of_alloc addr size sites) (ap (λ x. Ok x)
      (alloc_again addr size sites good.0 good.1 good.2 good.3))
  others_judged_again Two (records.Alloc addr size sites) good there =
      rw (first_of_alloc addr size sites) (ap (λ x. Ok x)
      (alloc_again addr size sites good.0 good.1 good.2 good.3))
  others_judged_again Three (records.Alloc addr size sites) good there =
      rw (first_of_alloc addr size sites) (ap (λ x. Ok x)
      (alloc_again addr size sites good.0 good.1 good.2 good.3))
  others_judged_again Four (records.Alloc addr size sites) good there =
      rw (first_of_alloc addr size sites) (ap (λ x. Ok x)
      (alloc_again addr size sites good.0 good.1 good.2 good.3))
  others_judged_again One (records.Free addr) good there =
      rw (first_of_free addr, addr_of_free addr good) refl
  others_judged_again Two (records.Free addr) good there =
      rw (first_of_free addr, addr_of_free addr good) refl
  others_judged_again Three (records.Free addr) good there =
      rw (first_of_free addr, addr_of_free addr good) refl
  others_judged_again Four (records.Free addr) good there =
      rw (first_of_free addr, addr_of_free addr good) refl
  others_judged_again One (records.Symbol kind addr size name) good there =
      rw (first_of_symbol kind addr size name) (symbol_again place kind addr size name good)
  others_judged_again Two (records.Symbol kind addr size name) good there =
      rw (first_of_symbol kind addr size name) (symbol_again place kind addr size name good)
  others_judged_again Three (records.Symbol kind addr size name) good there =
      rw (first_of_symbol kind addr size name) (symbol_again place kind addr size name good)
  others_judged_again Four (records.Symbol kind addr size name) good there =
      rw (first_of_symbol kind addr size name) (symbol_again place kind addr size name good)

-- A good record is read again from what it spells.
pub record_again : (p : ReadSoFar) (item : TraceRecord) → p.header.harts ≤ 256
    → IsGoodBefore p.before → IsGoodRecord p.version p.header.harts item → ComesAt p item
    → record_judged p (spell_record p.version p.before item) ≡ Ok item
unfolding at
record_again p item few low good there =
    others_judged_again p.header p.counted p.before p.place few low p.version item good there
