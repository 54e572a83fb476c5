-- The same records behind another access: how many bytes more they take at most.
use Rattle.std.proofs.Common.{◌≡◌, ◌≢◌, ℕ, zero, suc, ◌+◌, ◌^◌, ◌≤◌, ◌<◌, inl, inr, List, [], ◌∷◌}
use Rattle.std.proofs.Common.{length, set, slice_index, slice_set, Option, refl, sym, ap}
use Rattle.std.proofs.Common.{arith, subst}
use Rattle.std.proofs.lemmas.Bool.{cases_eq, cases_lt}
use Rattle.std.proofs.lemmas.Grind.{get_or-set_at}
use Rattle.std.proofs.lemmas.List.{get_or-set_other, length-append, length-set, set_past}
use Rattle.std.proofs.lemmas.List.Elements.{All-get_or, All-head, All-set, All-tail}
use Rattle.std.specs.List.{All}
use Rattle.base.specs.Touch.{Touch}
use Rattle.trace_format.specs.Laws.Before.{pc_low}
use Rattle.trace_format.specs.Numbers.{distance, groups}
use Rattle.trace_format.specs.Rules.{IsGoodRecord}
use Rattle.trace_format.specs.Spelling.{before_after, pc_before, pc_or_zero, spell_record}
use Rattle.trace_format.specs.Spelling.{spell_records, spell_short_touch, spell_touch}
use Rattle.trace_format.specs.declared.before.Before.{Before}
use Rattle.trace_format.specs.declared.record.TraceRecord.{TraceRecord}
use Rattle.trace_format.specs.declared.record.TraceRecord.TheVariants as records
use Rattle.trace_format.specs.declared.record.Version.{Version}
use Rattle.trace_format.specs.declared.record.Version.TheVariants.{One, Two, Three, Four}
use Rattle.trace_files.proofs.Distances.{groups_through}

-- how many bytes records take behind others
abbrev pub size : Version → Before → List TraceRecord → ℕ
size v before items = length (spell_records v before items)

pub one_more : (v : Version) (before : Before) (x : TraceRecord) (xs : List TraceRecord)
    → size v before (x ∷ xs)
    ≡ length (spell_record v before x) + size v (before_after before x) xs
one_more v before x xs =
    length-append (spell_record v before x) (spell_records v (before_after before x) xs)

-- ---- an access

-- what its address takes at most, by that of the access before
abbrev pub address_cost : Version → ℕ → ℕ → ℕ
address_cost One a b = 0
address_cost Two a b = 1 + length (groups (distance a b))
address_cost Three a b = 1 + length (groups (distance a b))
address_cost Four a b = 1 + length (groups (distance a b))

-- and its pc, by that of the hart's access before
abbrev pub pc_cost : Version → ℕ → ℕ → ℕ
pc_cost One a b = 0
pc_cost Two a b = 0
pc_cost Three a b = 1 + length (groups (distance a b))
pc_cost Four a b = 1 + length (groups (distance a b))

-- what is left of it
abbrev pub rest_size : Version → ℕ
rest_size One = 8
rest_size Two = 1
rest_size Three = 0
rest_size Four = 0

pub touch_size : (v : Version) (before : Before) (t : Touch) (pc : Option ℕ)
    → length (spell_touch v before t pc)
    ≡ rest_size v + address_cost v before.last t.addr
    + pc_cost v (pc_before before t.hart) (pc_or_zero pc)
unfolding spell_touch
touch_size One before t pc = refl
touch_size Two before t pc = omega arith
touch_size Three before t pc =
    let all = length-append (spell_short_touch before.last t)
    (groups (distance (pc_before before t.hart) (pc_or_zero pc))) in
    omega (arith, all)
touch_size Four before t pc =
    let all = length-append (spell_short_touch before.last t)
    (groups (distance (pc_before before t.hart) (pc_or_zero pc))) in
    omega (arith, all)

address_through : (v : Version) (a b c : ℕ) → a < 2 ^ 32 → b < 2 ^ 32 → c < 2 ^ 32
    → address_cost v a c ≤ address_cost v a b + address_cost v b c
address_through One a b c low_a low_b low_c = omega arith
address_through Two a b c low_a low_b low_c =
    omega (arith, groups_through a b c low_a low_b low_c)
address_through Three a b c low_a low_b low_c =
    omega (arith, groups_through a b c low_a low_b low_c)
address_through Four a b c low_a low_b low_c =
    omega (arith, groups_through a b c low_a low_b low_c)

pc_through : (v : Version) (a b c : ℕ) → a < 2 ^ 32 → b < 2 ^ 32 → c < 2 ^ 32
    → pc_cost v a c ≤ pc_cost v a b + pc_cost v b c
pc_through One a b c low_a low_b low_c = omega arith
pc_through Two a b c low_a low_b low_c = omega arith
pc_through Three a b c low_a low_b low_c = omega (arith, groups_through a b c low_a low_b low_c)
pc_through Four a b c low_a low_b low_c = omega (arith, groups_through a b c low_a low_b low_c)

-- ---- behind another address

-- a record that is spelled alike behind each access
later : (v : Version) (a b : Before) (more : ℕ) (x : TraceRecord) (items : List TraceRecord)
    → length (spell_record v a x) ≡ length (spell_record v b x)
    → size v (before_after a x) items ≤ more + size v (before_after b x) items
    → size v a (x ∷ items) ≤ more + size v b (x ∷ items)
later v a b more x items same rest =
    let first = one_more v a x items in let second = one_more v b x items in omega arith

abbrev pub behind : ℕ → List ℕ → Before
behind last pcs = record { last = last; pcs = pcs }

-- they take at most what the access between takes more
pub jump : (v : Version) (harts a b : ℕ) (pcs : List ℕ) (items : List TraceRecord) → a < 2 ^ 32
    → b < 2 ^ 32 → All (IsGoodRecord v harts) items
    → size v (behind a pcs) items ≤ address_cost v a b + size v (behind b pcs) items
jump v harts a b pcs [] low_a low_b good = omega arith
jump v harts a b pcs (records.Touch t pc ∷ items) low_a low_b good =
    let this = All-head (IsGoodRecord v harts) (records.Touch t pc) items good in
    let way = address_through v a b t.addr low_a low_b this.0.allowed.addr_in_range in
    let first = one_more v (behind a pcs) (records.Touch t pc) items in
    let second = one_more v (behind b pcs) (records.Touch t pc) items in
    let from_a = touch_size v (behind a pcs) t pc in
    let from_b = touch_size v (behind b pcs) t pc in
    omega (arith, way, first, second, from_a, from_b)
jump v harts a b pcs (records.Alloc addr size sites ∷ items) low_a low_b good =
    later v (behind a pcs) (behind b pcs) (address_cost v a b) (records.Alloc addr size sites)
    items refl (jump v harts a b pcs items low_a low_b
    (All-tail (IsGoodRecord v harts) (records.Alloc addr size sites) items good))
jump v harts a b pcs (records.Free addr ∷ items) low_a low_b good =
    later v (behind a pcs) (behind b pcs) (address_cost v a b) (records.Free addr) items refl
    (jump v harts a b pcs items low_a low_b
    (All-tail (IsGoodRecord v harts) (records.Free addr) items good))
jump v harts a b pcs (records.Symbol kind addr size name ∷ items) low_a low_b good =
    later v (behind a pcs) (behind b pcs) (address_cost v a b)
    (records.Symbol kind addr size name) items refl (jump v harts a b pcs items low_a low_b
    (All-tail (IsGoodRecord v harts) (records.Symbol kind addr size name) items good))
jump v harts a b pcs (records.End e ∷ items) low_a low_b good =
    later v (behind a pcs) (behind b pcs) (address_cost v a b) (records.End e) items refl
    (jump v harts a b pcs items low_a low_b
    (All-tail (IsGoodRecord v harts) (records.End e) items good))

-- ---- behind another pc of one hart

set_again : (xs : List ℕ) (i y z : ℕ) → set (set xs i y) i z ≡ set xs i z
set_again [] i y z = refl
set_again (x ∷ xs) zero y z = refl
set_again (x ∷ xs) (suc i) y z = ap (λ (l : List ℕ). x ∷ l) (set_again xs i y z)

set_apart : (xs : List ℕ) (i j y z : ℕ) → i ≢ j → set (set xs i y) j z ≡ set (set xs j z) i y
set_apart [] i j y z apart = refl
set_apart (x ∷ xs) zero zero y z apart = absurd (apart refl)
set_apart (x ∷ xs) zero (suc j) y z apart = refl
set_apart (x ∷ xs) (suc i) zero y z apart = refl
set_apart (x ∷ xs) (suc i) (suc j) y z apart =
    ap (λ (l : List ℕ). x ∷ l) (set_apart xs i j y z (λ same. apart (ap suc same)))

-- the pcs are numbers of 32 bits, and a hart has one
record HasPc (pcs : List ℕ) (hart : ℕ) : Type 0 where
  within : hart < length pcs
  low : All (λ pc. pc < 2 ^ 32) pcs

has_still : (pcs : List ℕ) (hart i p : ℕ) → p < 2 ^ 32 → HasPc pcs hart
    → HasPc (slice_set pcs i p) hart
has_still pcs hart i p low has = record {
  within = omega (arith, has.within, length-set pcs i p);
  low = All-set (λ pc. pc < 2 ^ 32) pcs i p low has.low;
}

-- the next access is of the same hart: from there on they are spelled alike
same_hart : (v : Version) (harts last : ℕ) (pcs : List ℕ) (p : ℕ) (t : Touch) (pc : Option ℕ)
    (items : List TraceRecord) → p < 2 ^ 32 → HasPc pcs t.hart
    → IsGoodRecord v harts (records.Touch t pc)
    → size v (behind last pcs) (records.Touch t pc ∷ items)
    ≤ pc_cost v (slice_index pcs t.hart) p
    + size v (behind last (slice_set pcs t.hart p)) (records.Touch t pc ∷ items)
same_hart v harts last pcs p t pc items low has good =
    let q = pc_or_zero pc in
    let old = behind last pcs in
    let new = behind last (slice_set pcs t.hart p) in
    let x : TraceRecord = records.Touch t pc in
    let is : pc_before new t.hart ≡ p = get_or-set_at pcs t.hart t.hart p 0 refl has.within in
    let was = All-get_or (λ n. n < 2 ^ 32) pcs t.hart 0 has.within has.low in
    let way = pc_through v (slice_index pcs t.hart) p q was low (pc_low v pc good.1) in
    let stated = ap (λ (n : ℕ). pc_cost v n q) is in
    let rest : size v (before_after new x) items ≡ size v (before_after old x) items =
    ap (λ (l : List ℕ). size v (behind t.addr l) items) (set_again pcs t.hart p q) in
    omega (
      arith,
      way,
      stated,
      rest,
      one_more v old x items,
      one_more v new x items,
      touch_size v old t pc,
      touch_size v new t pc,
    )

-- it is of another one
other_hart : (v : Version) (last : ℕ) (pcs : List ℕ) (h p : ℕ) (t : Touch) (pc : Option ℕ)
    (items : List TraceRecord) → h ≢ t.hart
    → size v (behind t.addr (slice_set pcs t.hart (pc_or_zero pc))) items
    ≤ pc_cost v (slice_index (slice_set pcs t.hart (pc_or_zero pc)) h) p
    + size v (behind t.addr (slice_set (slice_set pcs t.hart (pc_or_zero pc)) h p)) items
    → size v (behind last pcs) (records.Touch t pc ∷ items)
    ≤ pc_cost v (slice_index pcs h) p
    + size v (behind last (slice_set pcs h p)) (records.Touch t pc ∷ items)
other_hart v last pcs h p t pc items apart more =
    let q = pc_or_zero pc in
    let old = behind last pcs in
    let new = behind last (slice_set pcs h p) in
    let x : TraceRecord = records.Touch t pc in
    let is : pc_before new t.hart ≡ pc_before old t.hart =
    get_or-set_other pcs h t.hart p 0 (λ same. apart (sym same)) in
    let stated = ap (λ (n : ℕ). pc_cost v n q) is in
    let stays = ap (λ (n : ℕ). pc_cost v n p) (get_or-set_other pcs t.hart h q 0 apart) in
    let rest = ap (λ (l : List ℕ). size v (behind t.addr l) items)
    (set_apart pcs h t.hart p q apart) in
    omega (
      arith,
      more,
      stated,
      stays,
      rest,
      one_more v old x items,
      one_more v new x items,
      touch_size v old t pc,
      touch_size v new t pc,
    )

turn_within : (v : Version) (harts last : ℕ) (pcs : List ℕ) (h p : ℕ) (items : List TraceRecord)
    → p < 2 ^ 32 → HasPc pcs h → All (IsGoodRecord v harts) items
    → size v (behind last pcs) items
    ≤ pc_cost v (slice_index pcs h) p + size v (behind last (slice_set pcs h p)) items
turn_within v harts last pcs h p [] low has good = omega arith
turn_within v harts last pcs h p (records.Touch t pc ∷ items) low has good =
    let this = All-head (IsGoodRecord v harts) (records.Touch t pc) items good in
    let those = All-tail (IsGoodRecord v harts) (records.Touch t pc) items good in
    elim (cases_eq h t.hart) [
      | inl same ↦ subst (λ (n : ℕ). size v (behind last pcs) (records.Touch t pc ∷ items)
          ≤ pc_cost v (slice_index pcs n) p
          + size v (behind last (slice_set pcs n p)) (records.Touch t pc ∷ items)) (sym same)
          (same_hart v harts last pcs p t pc items low (subst (HasPc pcs) same has) this)
      | inr apart ↦ other_hart v last pcs h p t pc items apart
          (turn_within v harts t.addr (slice_set pcs t.hart (pc_or_zero pc)) h p items low
          (has_still pcs h t.hart (pc_or_zero pc) (pc_low v pc this.1) has) those)
    ]
turn_within v harts last pcs h p (records.Alloc addr size sites ∷ items) low has good =
    later v (behind last pcs) (behind last (slice_set pcs h p)) (pc_cost v (slice_index pcs h) p)
    (records.Alloc addr size sites) items refl (turn_within v harts last pcs h p items low has
    (All-tail (IsGoodRecord v harts) (records.Alloc addr size sites) items good))
turn_within v harts last pcs h p (records.Free addr ∷ items) low has good =
    later v (behind last pcs) (behind last (slice_set pcs h p)) (pc_cost v (slice_index pcs h) p)
    (records.Free addr) items refl (turn_within v harts last pcs h p items low has
    (All-tail (IsGoodRecord v harts) (records.Free addr) items good))
turn_within v harts last pcs h p (records.Symbol kind addr size name ∷ items) low has good =
    later v (behind last pcs) (behind last (slice_set pcs h p)) (pc_cost v (slice_index pcs h) p)
    (records.Symbol kind addr size name) items refl
    (turn_within v harts last pcs h p items low has
    (All-tail (IsGoodRecord v harts) (records.Symbol kind addr size name) items good))
turn_within v harts last pcs h p (records.End e ∷ items) low has good =
    later v (behind last pcs) (behind last (slice_set pcs h p)) (pc_cost v (slice_index pcs h) p)
    (records.End e) items refl (turn_within v harts last pcs h p items low has
    (All-tail (IsGoodRecord v harts) (records.End e) items good))

-- they take at most what the pc between takes more
pub turn : (v : Version) (harts last : ℕ) (pcs : List ℕ) (h p : ℕ) (items : List TraceRecord)
    → p < 2 ^ 32 → All (λ pc. pc < 2 ^ 32) pcs → All (IsGoodRecord v harts) items
    → size v (behind last pcs) items
    ≤ pc_cost v (slice_index pcs h) p + size v (behind last (slice_set pcs h p)) items
turn v harts last pcs h p items low lows good =
    elim (cases_lt h (length pcs)) [
      | inl within ↦ turn_within v harts last pcs h p items low
          (record { within = within; low = lows }) good
      | inr past ↦
          let same = ap (λ (l : List ℕ). size v (behind last l) items) (set_past pcs h p past) in
          omega (arith, same)
    ]
