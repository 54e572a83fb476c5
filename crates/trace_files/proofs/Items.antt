-- The records of a made trace: one more, their accesses, and that they keep the rules.
use Rattle.std.proofs.Common.{◌≡◌, ℕ, ◌+◌, ◌*◌, ◌%◌, ◌^◌, ◌<◌, ◌≤◌, suc, List, [], ◌∷◌, ◌++◌}
use Rattle.std.proofs.Common.{length, map, drop, refl, sym, ap, ◌∙◌, arith}
use Rattle.std.specs.List.{All, range_with_len}
use Rattle.std.proofs.lemmas.List.{take-append-drop}
use Rattle.std.proofs.lemmas.List.Elements.{All-cons, All-nil}
use Rattle.std.proofs.lemmas.List.FromFn.{length-range_with_len, map-range_with_len_more}
use Rattle.std.proofs.lemmas.List.FromFn.{take-map-range_with_len}
use Rattle.base.specs.Touch.{IsAllowed}
use Rattle.trace_format.specs.declared.record.TraceRecord.{TraceRecord}
use Rattle.trace_format.specs.declared.record.TraceRecord.TheVariants as records
use Rattle.trace_format.specs.declared.record.Version.TheVariants.{One}
use Rattle.trace_format.specs.Rules.{IsGoodRecord, IsInner, IsWritable, touches_in}
use Rattle.trace_passes.specs.Passes.{all_records}
use Rattle.trace_format.specs.Laws.Counts.{touches_in-more}
use Rattle.trace_files.specs.Made.{line_of, made, made_item, made_items, number, touch_of}
use Rattle.trace_files.specs.Made.{word_in_line}

-- ---- one record more

pub items_more : (k : ℕ) → made_items (k + 1) ≡ made_items k ++ made_item k ∷ []
items_more k = map-range_with_len_more made_item 0 k k (omega arith)

-- the first so many records are a front of them all
pub items_front : (count k : ℕ) → k ≤ count → made_items k ++ drop k (made_items count)
    ≡ made_items count
items_front count k below =
    ap (λ (l : List TraceRecord). l ++ drop k (made_items count))
    (sym (take-map-range_with_len made_item 0 count k below))
    ∙ take-append-drop k (made_items count)

-- ---- their accesses

touches_of : (ks : List ℕ) → length (touches_in (map made_item ks)) ≡ length ks
touches_of [] = refl
touches_of (k ∷ ks) = ap suc (touches_of ks)

pub touches_made : (count : ℕ) → length (touches_in (made_items count)) ≡ count
touches_made count = touches_of (range_with_len 0 count) ∙ length-range_with_len 0 count

pub touches_with : (k : ℕ) → length (touches_in (made_items k ++ made_item k ∷ [])) ≡ k + 1
touches_with k = ap (λ (l : List TraceRecord). length (touches_in l)) (sym (items_more k))
    ∙ touches_made (k + 1)

pub touches_all : (count : ℕ) → length (touches_in (all_records (made count))) ≡ count
touches_all count = sym (touches_in-more (made_items count) (records.End (made count).ending))
    ∙ touches_made count

-- ---- the rules

-- an address in one of the lines
in_line : (r : ℕ) → line_of r + 4 * word_in_line r < 2 ^ 32
in_line r = omega arith

aligned : (r : ℕ) → (line_of r + 4 * word_in_line r) % 4 ≡ 0
aligned r = omega arith

pub touch_allowed : (r : ℕ) → IsAllowed (touch_of r)
touch_allowed r = record {
  hart_in_range = omega arith;
  addr_in_range = in_line r;
  sized = refl;
  aligned = aligned r;
}

pub item_good : (k : ℕ) → IsGoodRecord One 8 (made_item k)
item_good k = (record { hart = omega arith; allowed = touch_allowed (number k) }, refl)

-- what is true of each record
all_items : (P : TraceRecord → Type 0) → ((k : ℕ) → P (made_item k)) → (ks : List ℕ)
    → All P (map made_item ks)
all_items P each [] = All-nil P
all_items P each (k ∷ ks) = All-cons P (made_item k) (map made_item ks) (each k)
    (all_items P each ks)

pub items_good : (count : ℕ) → All (IsGoodRecord One 8) (made_items count)
items_good count = all_items (IsGoodRecord One 8) item_good (range_with_len 0 count)

pub items_inner : (count : ℕ) → All IsInner (made_items count)
items_inner count = all_items IsInner (λ k. tt) (range_with_len 0 count)

pub items_writable : (count : ℕ) → All IsWritable (made_items count)
items_writable count = all_items IsWritable (λ k. tt) (range_with_len 0 count)
