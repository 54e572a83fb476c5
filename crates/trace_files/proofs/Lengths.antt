-- The halves of a trace are no longer than the whole.
use Rattle.std.proofs.Common.{◌≡◌, ℕ, ◌+◌, ◌≤◌, List, [], ◌∷◌, ◌++◌, length, refl, sym, ap}
use Rattle.std.proofs.Common.{◌∙◌, arith, append_assoc}
use Rattle.std.proofs.lemmas.List.{length-append}
use Rattle.std.proofs.lemmas.List.Elements.{All-head, All-tail}
use Rattle.std.specs.List.{All}
use Rattle.trace_format.specs.declared.record.TraceEnd.{TraceEnd}
use Rattle.trace_format.specs.Laws.Before.{after_good, nothing_good, pc_low}
use Rattle.trace_format.specs.Rules.{IsGoodBefore, IsGoodRecord}
use Rattle.trace_format.specs.Spelling.{before_after, nothing_before, pc_or_zero, spell}
use Rattle.trace_format.specs.Spelling.{spell_ending, spell_header, spell_record, spell_records}
use Rattle.trace_format.specs.Writing.{before_behind}
use Rattle.trace_format.specs.declared.before.Before.{Before}
use Rattle.trace_format.specs.declared.record.Header.{Header}
use Rattle.trace_format.specs.declared.record.TraceRecord.{TraceRecord}
use Rattle.trace_format.specs.declared.record.TraceRecord.TheVariants as records
use Rattle.trace_format.specs.declared.record.Version.{Version}
use Rattle.trace_format.specs.declared.record.Version.TheVariants.{One, Two, Three, Four}
use Rattle.trace_format.specs.Judging.{end_extent}
use Rattle.trace_format.specs.Laws.Ends.{ending_length}
use Rattle.trace_files.proofs.Jumps.{jump, one_more, size, touch_size, turn}

-- ---- how long a trace is

header_length : (v : Version) (h : Header) → length (spell_header v h) ≡ 20
unfolding spell_header
header_length One h = refl
header_length Two h = refl
header_length Three h = refl
header_length Four h = refl

spelled_size : (v : Version) (h : Header) (items : List TraceRecord) (e : TraceEnd)
    → length (spell v h items e) ≡ size v nothing_before items + (20 + end_extent v)
unfolding spell
spelled_size v h items e =
    let head = header_length v h in
    let end = ending_length v e.outcome e.steps e.accesses e.whole in
    let records = spell_records v nothing_before items in
    let tail = length-append records (spell_ending v e) in
    let all = length-append (spell_header v h) (records ++ spell_ending v e) in
    omega (arith, head, end, tail, all)

-- ---- two lists of records

both_spelled : (v : Version) (before : Before) (xs ys : List TraceRecord)
    → spell_records v before (xs ++ ys)
    ≡ spell_records v before xs ++ spell_records v (before_behind before xs) ys
both_spelled v before [] ys = refl
both_spelled v before (x ∷ xs) ys =
    let next = before_after before x in
    ap (λ (l : List ℕ). spell_record v before x ++ l) (both_spelled v next xs ys)
    ∙ sym (append_assoc (spell_record v before x) (spell_records v next xs)
    (spell_records v (before_behind next xs) ys))

both_sizes : (v : Version) (before : Before) (xs ys : List TraceRecord)
    → size v before (xs ++ ys) ≡ size v before xs + size v (before_behind before xs) ys
both_sizes v before xs ys =
    ap length (both_spelled v before xs ys)
    ∙ length-append (spell_records v before xs) (spell_records v (before_behind before xs) ys)

-- ---- the second list alone

-- behind a record that no access is spelled against
quiet : (v : Version) (before : Before) (x : TraceRecord) (xs ys : List TraceRecord)
    → before_after before x ≡ before
    → size v before ys ≤ size v before xs + size v (before_behind before xs) ys
    → size v before ys ≤ size v before (x ∷ xs) + size v (before_behind before (x ∷ xs)) ys
quiet v before x xs ys same rest =
    let first = one_more v before x xs in
    let there = ap (λ (b : Before). size v b xs) same in
    let behind = ap (λ (b : Before). size v (before_behind b xs) ys) same in
    omega (arith, rest, first, there, behind)

alone : (v : Version) (harts : ℕ) (before : Before) (xs ys : List TraceRecord)
    → IsGoodBefore before → All (IsGoodRecord v harts) xs → All (IsGoodRecord v harts) ys
    → size v before ys ≤ size v before xs + size v (before_behind before xs) ys
alone v harts before [] ys low good goods = omega arith
alone v harts before (records.Touch t pc ∷ xs) ys low good goods =
    let x : TraceRecord = records.Touch t pc in
    let this = All-head (IsGoodRecord v harts) x xs good in
    let rest = alone v harts (before_after before x) xs ys (after_good v harts before x low this)
    (All-tail (IsGoodRecord v harts) x xs good) goods in
    let way = jump v harts before.last t.addr before.pcs ys low.last
    this.0.allowed.addr_in_range goods in
    let turned = turn v harts t.addr before.pcs t.hart (pc_or_zero pc) ys
    (pc_low v pc this.1) low.pcs goods in
    omega (arith, rest, way, turned, one_more v before x xs, touch_size v before t pc)
alone v harts before (records.Alloc addr size sites ∷ xs) ys low good goods =
    let x : TraceRecord = records.Alloc addr size sites in
    quiet v before x xs ys refl
    (alone v harts before xs ys low (All-tail (IsGoodRecord v harts) x xs good) goods)
alone v harts before (records.Free addr ∷ xs) ys low good goods =
    let x : TraceRecord = records.Free addr in
    quiet v before x xs ys refl
    (alone v harts before xs ys low (All-tail (IsGoodRecord v harts) x xs good) goods)
alone v harts before (records.Symbol kind addr size name ∷ xs) ys low good goods =
    let x : TraceRecord = records.Symbol kind addr size name in
    quiet v before x xs ys refl
    (alone v harts before xs ys low (All-tail (IsGoodRecord v harts) x xs good) goods)
alone v harts before (records.End e ∷ xs) ys low good goods =
    let x : TraceRecord = records.End e in
    quiet v before x xs ys refl
    (alone v harts before xs ys low (All-tail (IsGoodRecord v harts) x xs good) goods)

-- ---- the halves

pub first_short : (v : Version) (h g : Header) (xs ys : List TraceRecord) (e f : TraceEnd)
    → length (spell v h xs e) ≤ length (spell v g (xs ++ ys) f)
first_short v h g xs ys e f =
    let one = spelled_size v h xs e in
    let all = spelled_size v g (xs ++ ys) f in
    let both = both_sizes v nothing_before xs ys in
    omega arith

pub second_short : (v : Version) (harts : ℕ) (h g : Header) (xs ys : List TraceRecord)
    (e f : TraceEnd) → All (IsGoodRecord v harts) xs → All (IsGoodRecord v harts) ys
    → length (spell v h ys e) ≤ length (spell v g (xs ++ ys) f)
second_short v harts h g xs ys e f good goods =
    let one = spelled_size v h ys e in
    let all = spelled_size v g (xs ++ ys) f in
    let both = both_sizes v nothing_before xs ys in
    let less = alone v harts nothing_before xs ys nothing_good good goods in
    omega arith
