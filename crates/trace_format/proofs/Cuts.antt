-- The sides of a cut, record after record.
use Rattle.std.proofs.Common.{◌≡◌, ℕ, zero, suc, ◌+◌, ◌≤◌, ◌<◌, true, false, leb, List, [], ◌∷◌}
use Rattle.std.proofs.Common.{◌++◌, length, take, drop, All, Option, refl, sym}
use Rattle.std.proofs.Common.{ap, subst, ◌∙◌, append_assoc, arith}
use Rattle.std.specs.Prelude.{min}
use Rattle.std.proofs.lemmas.Bool.Decides.{nat_tests}
use Rattle.std.proofs.lemmas.List.{append-nil, length-append}
use Rattle.std.proofs.lemmas.List.Elements.{All-head, All-tail, filter_map-append}
use Rattle.std.proofs.Math.Seq.{take-nil, drop-nil}
use Rattle.trace_format.specs.declared.record.TraceEnd.{TraceEnd}
use Rattle.base.specs.Touch.{Touch}
use Rattle.trace_format.specs.declared.record.TraceRecord.{TraceRecord}
use Rattle.trace_format.specs.declared.record.TraceRecord.TheVariants as records
use Rattle.trace_format.specs.Rules.{IsInner, touch_in, touches_in}
use Rattle.trace_format.specs.declared.splitter.Side.{Side}
use Rattle.trace_format.specs.declared.splitter.Side.TheVariants.{First, Second, Neither}
use Rattle.trace_format.specs.Splits.{IsCutInTwo, halves_behind, put_behind, put_on, side_after}

abbrev pub touch_count : List TraceRecord → ℕ
touch_count items = length (touches_in items)

count_more : (seen : List TraceRecord) (item : TraceRecord)
    → touch_count (seen ++ item ∷ []) ≡ touch_count seen + touch_count (item ∷ [])
count_more seen item =
    ap length (filter_map-append touch_in seen (item ∷ [])) ∙ length-append (touches_in seen)
    (touches_in (item ∷ []))

pub one_more : (seen : List TraceRecord) (a : Touch) (pc : Option ℕ)
    → touch_count (seen ++ records.Touch a pc ∷ [])
    ≡ touch_count seen + 1
one_more seen a pc = count_more seen (records.Touch a pc)

quiet_more : (seen : List TraceRecord) (item : TraceRecord) → touches_in (item ∷ []) ≡ []
    → touch_count (seen ++ item ∷ []) ≡ touch_count seen
quiet_more seen item none =
    let more = count_more seen item in
    let no : touch_count (item ∷ []) ≡ 0 = ap length none in
    omega arith

pub quiet_unless : (item : TraceRecord) → ((a : Touch) (pc : Option ℕ) → item ≡ records.Touch a pc → ⊥)
    → touches_in (item ∷ []) ≡ []
quiet_unless (records.Touch a pc) other = absurd (other a pc refl)
quiet_unless (records.Alloc addr size sites) other = refl
quiet_unless (records.Free addr) other = refl
quiet_unless (records.Symbol kind addr size name) other = refl
quiet_unless (records.End e) other = refl

-- ---- what each call says

pub met_more : (seen : List TraceRecord) (a : Touch) (pc : Option ℕ) (cut met : ℕ) → met
    ≡ min (touch_count seen) (cut + 1)
    → min met cut + 1 ≡ min (touch_count (seen ++ records.Touch a pc ∷ [])) (cut + 1)
met_more seen a pc cut met is = let more = one_more seen a pc in omega arith

pub met_same : (seen : List TraceRecord) (item : TraceRecord) (cut met : ℕ) → touches_in (item ∷ [])
    ≡ []
    → met ≡ min (touch_count seen) (cut + 1)
    → met ≡ min (touch_count (seen ++ item ∷ [])) (cut + 1)
met_same seen item cut met none is = let same = quiet_more seen item none in omega arith

-- ---- the side of a record that is no end

first_side : (cut : ℕ) (seen : List TraceRecord) (item : TraceRecord) → IsInner item
    → touch_count (seen ++ item ∷ []) ≤ cut
    → side_after cut seen item ≡ First
first_side cut seen (records.Touch a pc) inner low =
    let at : leb (touch_count (seen ++ records.Touch a pc ∷ [])) cut
    ≡ true = grind (arith, nat_tests) in rw at refl
first_side cut seen (records.Alloc addr size sites) inner low =
    let at : leb (touch_count (seen ++ records.Alloc addr size sites ∷ [])) cut
    ≡ true = grind (arith, nat_tests) in rw at refl
first_side cut seen (records.Free addr) inner low =
    let at : leb (touch_count (seen ++ records.Free addr ∷ [])) cut
    ≡ true = grind (arith, nat_tests) in rw at refl
first_side cut seen (records.Symbol kind addr size name) inner low =
    let at : leb (touch_count (seen ++ records.Symbol kind addr size name ∷ [])) cut
    ≡ true = grind (arith, nat_tests) in rw at refl
first_side cut seen (records.End e) inner low = absurd inner

second_side : (cut : ℕ) (seen : List TraceRecord) (item : TraceRecord) → IsInner item
    → cut < touch_count (seen ++ item ∷ [])
    → side_after cut seen item ≡ Second
second_side cut seen (records.Touch a pc) inner high =
    let at : leb (touch_count (seen ++ records.Touch a pc ∷ [])) cut
    ≡ false = grind (arith, nat_tests) in rw at refl
second_side cut seen (records.Alloc addr size sites) inner high =
    let at : leb (touch_count (seen ++ records.Alloc addr size sites ∷ [])) cut
    ≡ false = grind (arith, nat_tests) in rw at refl
second_side cut seen (records.Free addr) inner high =
    let at : leb (touch_count (seen ++ records.Free addr ∷ [])) cut
    ≡ false = grind (arith, nat_tests) in rw at refl
second_side cut seen (records.Symbol kind addr size name) inner high =
    let at : leb (touch_count (seen ++ records.Symbol kind addr size name ∷ [])) cut
    ≡ false = grind (arith, nat_tests) in rw at refl
second_side cut seen (records.End e) inner high = absurd inner

-- ---- whole traces

-- once the access at the cut is met, all goes to the second half
later_second : (cut : ℕ) (seen items : List TraceRecord) (e : TraceEnd) → cut < touch_count seen
    → All IsInner items
    → halves_behind cut seen (items ++ records.End e ∷ []) ≡ ([], items)
later_second cut seen [] e past inner = refl
later_second cut seen (item ∷ items) e past inner =
    let more = count_more seen item in
    let at : side_after cut seen item ≡ Second = second_side cut seen item
    (All-head IsInner item items inner) (omega arith) in
    let rest = later_second cut (seen ++ item ∷ []) items e (omega arith)
    (All-tail IsInner item items inner) in
    ap (λ (s : Side). put_on s item (halves_behind cut (seen ++ item ∷ [])
    (items ++ records.End e ∷ []))) at
    ∙ ap (put_on Second item) rest

touch_on : (k : ℕ) (a : Touch) (pc : Option ℕ) (items : List TraceRecord)
    (halves : List TraceRecord × List TraceRecord) → IsCutInTwo k items halves
    → IsCutInTwo (suc k) (records.Touch a pc ∷ items) (put_on First (records.Touch a pc) halves)
touch_on k a pc items halves rest =
    record {
      whole = ap (λ (xs : List TraceRecord). records.Touch a pc ∷ xs) rest.whole;
      first = ap (λ (xs : List Touch). a ∷ xs) rest.first;
      second = rest.second;
      begins = rest.begins;
    }

quiet_on : (k : ℕ) (item : TraceRecord) (items : List TraceRecord)
    (halves : List TraceRecord × List TraceRecord)
    → ((xs : List TraceRecord) → touches_in (item ∷ xs) ≡ touches_in xs) → IsCutInTwo k items halves
    → IsCutInTwo k (item ∷ items) (put_on First item halves)
quiet_on k item items halves quiet rest =
    record {
      whole = ap (λ (xs : List TraceRecord). item ∷ xs) rest.whole;
      first = quiet halves.0 ∙ rest.first ∙ ap (take k) (sym (quiet items));
      second = rest.second ∙ ap (drop k) (sym (quiet items));
      begins = rest.begins;
    }

quiet_first : (cut k : ℕ) (seen : List TraceRecord) (item : TraceRecord)
    (items all : List TraceRecord)
    → touch_count seen + k ≡ cut → IsInner item
    → ((xs : List TraceRecord) → touches_in (item ∷ xs) ≡ touches_in xs)
    → IsCutInTwo k items (halves_behind cut (seen ++ item ∷ []) all)
    → IsCutInTwo k (item ∷ items) (halves_behind cut seen (item ∷ all))
quiet_first cut k seen item items all is inner quiet rest =
    let same = quiet_more seen item (quiet []) in
    let at : side_after cut seen item ≡ First = first_side cut seen item inner (omega arith) in
    let halves = halves_behind cut (seen ++ item ∷ []) all in
    subst (λ (s : Side). IsCutInTwo k (item ∷ items) (put_on s item halves)) (sym at)
    (quiet_on k item items halves quiet rest)

quiet_count : (cut k : ℕ) (seen : List TraceRecord) (item : TraceRecord) → touch_count seen + k
    ≡ cut
    → touches_in (item ∷ []) ≡ [] → touch_count (seen ++ item ∷ []) + k ≡ cut
quiet_count cut k seen item is none = let same = quiet_more seen item none in omega arith

cut_behind : (cut k : ℕ) (seen items : List TraceRecord) (e : TraceEnd) → touch_count seen + k ≡ cut
    → All IsInner items
    → IsCutInTwo k items (halves_behind cut seen (items ++ records.End e ∷ []))
cut_behind cut k seen [] e is inner =
    record { whole = refl; first = sym (take-nil k); second = sym (drop-nil k); begins = tt }
cut_behind cut zero seen (records.Touch a pc ∷ items) e is inner =
    let item = records.Touch a pc in
    let more = one_more seen a pc in
    let at : side_after cut seen item ≡ Second = second_side cut seen item tt (omega arith) in
    let rest = later_second cut (seen ++ item ∷ []) items e (omega arith)
    (All-tail IsInner item items inner) in
    let all : halves_behind cut seen (item ∷ items ++ records.End e ∷ []) ≡ ([], item ∷ items) =
    ap (λ (s : Side). put_on s item (halves_behind cut (seen ++ item ∷ [])
    (items ++ records.End e ∷ []))) at
    ∙ ap (put_on Second item) rest in
    subst (IsCutInTwo zero (item ∷ items)) (sym all)
    (record { whole = refl; first = refl; second = refl; begins = tt })
cut_behind cut (suc k) seen (records.Touch a pc ∷ items) e is inner =
    let item = records.Touch a pc in
    let more = one_more seen a pc in
    let at : side_after cut seen item ≡ First = first_side cut seen item tt (omega arith) in
    let rest = cut_behind cut k (seen ++ item ∷ []) items e (omega arith)
    (All-tail IsInner item items inner) in
    let halves = halves_behind cut (seen ++ item ∷ []) (items ++ records.End e ∷ []) in
    subst (λ (s : Side). IsCutInTwo (suc k) (item ∷ items) (put_on s item halves)) (sym at)
    (touch_on k a pc items halves rest)
cut_behind cut k seen (records.Alloc addr size sites ∷ items) e is inner =
    let item = records.Alloc addr size sites in
    quiet_first cut k seen item items (items ++ records.End e ∷ []) is tt (λ xs. refl)
    (cut_behind cut k (seen ++ item ∷ []) items e (quiet_count cut k seen item is refl)
    (All-tail IsInner item items inner))
cut_behind cut k seen (records.Free addr ∷ items) e is inner =
    let item = records.Free addr in
    quiet_first cut k seen item items (items ++ records.End e ∷ []) is tt (λ xs. refl)
    (cut_behind cut k (seen ++ item ∷ []) items e (quiet_count cut k seen item is refl)
    (All-tail IsInner item items inner))
cut_behind cut k seen (records.Symbol kind addr size name ∷ items) e is inner =
    let item = records.Symbol kind addr size name in
    quiet_first cut k seen item items (items ++ records.End e ∷ []) is tt (λ xs. refl)
    (cut_behind cut k (seen ++ item ∷ []) items e (quiet_count cut k seen item is refl)
    (All-tail IsInner item items inner))
cut_behind cut k seen (records.End end ∷ items) e is inner = absurd
    (All-head IsInner (records.End end) items inner)

pub cut_in_two : (cut : ℕ) (items : List TraceRecord) (e : TraceEnd) → All IsInner items
    → IsCutInTwo cut items (halves_behind cut [] (items ++ records.End e ∷ []))
cut_in_two cut items e inner = cut_behind cut cut [] items e (omega arith) inner

-- ---- one record more

ends_alike : (s : Side) (item : TraceRecord) → put_on s item ([], []) ≡ put_behind s item ([], [])
ends_alike First item = refl
ends_alike Second item = refl
ends_alike Neither item = refl

both_ends : (s t : Side) (x y : TraceRecord) (halves : List TraceRecord × List TraceRecord)
    → put_on s x (put_behind t y halves) ≡ put_behind t y (put_on s x halves)
both_ends First First x y halves = refl
both_ends First Second x y halves = refl
both_ends First Neither x y halves = refl
both_ends Second First x y halves = refl
both_ends Second Second x y halves = refl
both_ends Second Neither x y halves = refl
both_ends Neither First x y halves = refl
both_ends Neither Second x y halves = refl
both_ends Neither Neither x y halves = refl

halves_more : (cut : ℕ) (before items : List TraceRecord) (item : TraceRecord)
    → halves_behind cut before (items ++ item ∷ [])
    ≡ put_behind (side_after cut (before ++ items) item) item (halves_behind cut before items)
halves_more cut before [] item =
    ends_alike (side_after cut before item) item
    ∙ ap (λ (xs : List TraceRecord). put_behind (side_after cut xs item) item ([], []))
    (sym (append-nil before))
halves_more cut before (x ∷ xs) item =
    let s = side_after cut before x in
    let halves = halves_behind cut (before ++ x ∷ []) xs in
    ap (put_on s x) (halves_more cut (before ++ x ∷ []) xs item)
    ∙ both_ends s (side_after cut ((before ++ x ∷ []) ++ xs) item) x item halves
    ∙ ap (λ (seen : List TraceRecord). put_behind (side_after cut seen item) item
    (put_on s x halves))
    (append_assoc before (x ∷ []) xs)

pub halves_grow : (cut : ℕ) (seen : List TraceRecord) (item : TraceRecord)
    → halves_behind cut [] (seen ++ item ∷ []) ≡ put_behind (side_after cut seen item) item
    (halves_behind cut [] seen)
halves_grow cut seen item = halves_more cut [] seen item
