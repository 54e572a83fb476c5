-- A made trace keeps the rules of the format.
use Rattle.std.proofs.Common.{◌≡◌, ℕ, ◌+◌, ◌*◌, ◌^◌, ◌≤◌, suc, List, [], ◌∷◌, ◌++◌, length, map}
use Rattle.std.proofs.Common.{Some, None, refl, sym, ap, ◌∙◌, arith}
use Rattle.std.specs.List.{All, flat_map, range_with_len}
use Rattle.std.proofs.lemmas.List.{length-append}
use Rattle.std.proofs.lemmas.List.Elements.{All-push}
use Rattle.std.proofs.lemmas.List.FromFn.{length-range_with_len}
use Rattle.base.specs.Touch.{Touch as ATouch}
use Rattle.trace_format.specs.declared.record.TraceRecord.TheVariants as records
use Rattle.trace_format.specs.declared.record.Version.TheVariants.{One}
use Rattle.trace_format.specs.Rules.{IsGoodEnding, IsGoodRecord, IsGoodTrace, IsTrace, IsWritable}
use Rattle.trace_format.specs.declared.record.TraceRecord.{TraceRecord}
use Rattle.trace_format.specs.Spelling.{spell_ending, spell_header, spell_record, spell_records}
use Rattle.trace_format.specs.Spelling.{nothing_before, spell_touch}
use Rattle.trace_format.specs.Laws.Writing.{begun-ended, spelled_each}
use Rattle.trace_passes.specs.Passes.{all_records, spell_trace, trace_of}
use Rattle.trace_passes.specs.Laws.Spelled.{trace-spelled}
use Rattle.trace_files.specs.Made.{made, made_header, made_item, made_items}
use Rattle.trace_files.proofs.Items.{items_good, items_inner, items_writable, touches_made}

-- ---- how many bytes there are

touch_long : (a : ATouch) → length (spell_touch One nothing_before a None) ≡ 8
unfolding spell_touch
touch_long a = refl

header_long : length (spell_header One made_header) ≡ 20
unfolding spell_header
header_long = refl

ending_long : (count : ℕ) → length (spell_ending One (made count).ending) ≡ 25
unfolding spell_ending
ending_long count = refl

-- a sum with one term more
eight_more : (all one rest n : ℕ) → all ≡ one + rest → one ≡ 8 → rest ≡ 8 * n → all ≡ 8 * suc n
eight_more all one rest n is first later = omega (arith, is, first, later)

-- the records, each spelled alone
abbrev traced : List TraceRecord → List ℕ
traced items = flat_map (spell_record One nothing_before) items

traced_long : (ks : List ℕ) → length (traced (map made_item ks)) ≡ 8 * length ks
traced_long [] = refl
traced_long (k ∷ ks) =
    let a : ATouch = _ in
    eight_more (length (traced (map made_item (k ∷ ks))))
    (length (spell_touch One nothing_before a None))
    (length (traced (map made_item ks))) (length ks)
    (length-append (spell_touch One nothing_before a None) (traced (map made_item ks)))
    (touch_long a)
    (traced_long ks)

items_long : (count : ℕ) → length (spell_records One nothing_before (made_items count)) ≡ 8 * count
items_long count =
    ap length (spelled_each nothing_before (made_items count))
    ∙ traced_long (range_with_len 0 count)
    ∙ ap (λ (n : ℕ). 8 * n) (length-range_with_len 0 count)

whole_long : (count : ℕ) → length (spell_trace (made count)) ≡ 45 + 8 * count
whole_long count =
    let head = spell_header One made_header in
    let end = spell_ending One (made count).ending in
    let items = spell_records One nothing_before (made_items count) in
    let all : length (spell_trace (made count)) ≡ length ((head ++ items) ++ end) =
    ap length (sym (begun-ended One made_header (made_items count) (made count).ending)) in
    let front = length-append head items in
    let whole = length-append (head ++ items) end in
    omega (arith, all, whole, front, header_long, items_long count, ending_long count)

-- ---- the rules

ending_good : (count : ℕ) → count ≤ 10 ^ 9 → IsGoodEnding One 8 (made count).ending
ending_good count few = record {
  allowed = tt;
  outcome = omega arith;
  steps = omega (arith, few);
  accesses = omega (arith, few);
  whole = refl;
}

pub made_good : (count : ℕ) → count ≤ 10 ^ 9 → IsGoodTrace (made count).version (made count).header
    (made count).items (made count).ending
made_good count few = record {
  header = record { position = omega arith; some = omega arith; few = omega arith };
  regions = refl;
  records = items_good count;
  inner = items_inner count;
  ending = ending_good count few;
  positions = omega (arith, touches_made count, few);
  counted = sym (touches_made count);
  short = omega (arith, whole_long count, few);
}

pub is_trace : (count : ℕ) → count ≤ 10 ^ 9
    → IsTrace (spell_trace (made count)) (made count).version (made count).header (made count).items
    (made count).ending
is_trace count few = record { good = made_good count few; spelled = refl }

pub is_found : (count : ℕ) → count ≤ 10 ^ 9 → trace_of (spell_trace (made count))
    ≡ Some (made count)
is_found count few =
    trace-spelled (spell_trace (made count)) (made count).version (made count).header
    (made count).items (made count).ending
    (is_trace count few)

pub all_good : (count : ℕ) → count ≤ 10 ^ 9 → All (IsGoodRecord One 8) (all_records (made count))
all_good count few =
    All-push (IsGoodRecord One 8) (made_items count) (records.End (made count).ending)
    (items_good count) (ending_good count few)

pub all_writable : (count : ℕ) → All IsWritable (all_records (made count))
all_writable count = All-push IsWritable (made_items count) (records.End (made count).ending)
    (items_writable count) tt
