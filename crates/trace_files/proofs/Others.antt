-- What the records spell in the other version, and that they keep the rules there.
use Rattle.trace_format.specs.Rules.{HasRegions, IsGoodEnding}
use Rattle.std.proofs.Common.{◌≡◌, ◌≢◌, ℕ, List, [], ◌∷◌, ◌++◌, None, refl, ap, ◌∙◌}
use Rattle.std.specs.List.{All}
use Rattle.std.proofs.lemmas.List.Elements.{All-map, All-weaker}
use Rattle.trace_format.specs.declared.record.TraceEnd.{TraceEnd}
use Rattle.base.specs.Touch.{Touch}
use Rattle.trace_format.specs.declared.before.Before.{Before}
use Rattle.trace_format.specs.declared.record.Header.{Header}
use Rattle.trace_format.specs.declared.record.Version.{Version}
use Rattle.trace_format.specs.declared.record.Version.TheVariants.{One, Two, Three, Four}
use Rattle.trace_format.specs.declared.record.TraceRecord.{TraceRecord}
use Rattle.trace_format.specs.declared.record.TraceRecord.TheVariants as records
use Rattle.trace_format.specs.Pcs.{without_pc, without_pcs}
use Rattle.trace_format.specs.Rules.{IsGoodRecord, IsInner, touches_in}
use Rattle.trace_format.specs.Spelling.{before_after, nothing_before, spell, spell_alloc}
use Rattle.trace_format.specs.Spelling.{spell_ending, spell_free, spell_header, spell_records}
use Rattle.trace_format.specs.Spelling.{spell_short_touch, spell_symbol, spell_touch}
use Rattle.trace_files.specs.Copies.{other_items, other_version}

-- ---- their bytes

-- version 2 spells no pc, and looks at none
spelled_without : (before other : Before) (items : List TraceRecord) → before.last ≡ other.last
    → spell_records Two before (without_pcs items) ≡ spell_records Two other items
unfolding spell_touch
spelled_without before other [] same = refl
spelled_without before other (records.Touch a pc ∷ items) same =
    let first = before_after before (records.Touch a None) in
    ap (λ (last : ℕ). spell_short_touch last a ++ spell_records Two first (without_pcs items)) same
    ∙ ap (λ (l : List ℕ). spell_short_touch other.last a ++ l)
    (spelled_without first (before_after other (records.Touch a pc)) items refl)
spelled_without before other (records.Alloc addr size sites ∷ items) same =
    ap (λ (l : List ℕ). spell_alloc addr size sites ++ l) (spelled_without before other items same)
spelled_without before other (records.Free addr ∷ items) same =
    ap (λ (l : List ℕ). spell_free addr ++ l) (spelled_without before other items same)
spelled_without before other (records.Symbol kind addr size name ∷ items) same =
    ap (λ (l : List ℕ). spell_symbol kind addr size name ++ l)
    (spelled_without before other items same)
spelled_without before other (records.End e ∷ items) same =
    ap (λ (l : List ℕ). spell_ending Two e ++ l) (spelled_without before other items same)

pub spelled_other : (v : Version) (h : Header) (items : List TraceRecord) (e : TraceEnd)
    → spell (other_version v) h (other_items v items) e ≡ spell (other_version v) h items e
unfolding spell
spelled_other One h items e = refl
spelled_other Two h items e = refl
spelled_other Four h items e = refl
spelled_other Three h items e =
    ap (λ (l : List ℕ). spell_header Two h ++ (l ++ spell_ending Two e))
    (spelled_without nothing_before nothing_before items refl)

-- ---- the rules

-- a good record of one version that has no pc is one of the other too
good_as_two : (harts : ℕ) (item : TraceRecord) → IsGoodRecord One harts item
    → IsGoodRecord Two harts item
good_as_two harts (records.Touch a pc) good = good
good_as_two harts (records.Alloc addr size sites) good = good
good_as_two harts (records.Free addr) good = good
good_as_two harts (records.Symbol kind addr size name) good = good
good_as_two harts (records.End e) good = record {
  allowed = good.allowed;
  outcome = good.outcome;
  steps = good.steps;
  accesses = good.accesses;
  whole = good.whole;
}

good_as_one : (harts : ℕ) (item : TraceRecord) → IsGoodRecord Two harts item
    → IsGoodRecord One harts item
good_as_one harts (records.Touch a pc) good = good
good_as_one harts (records.Alloc addr size sites) good = good
good_as_one harts (records.Free addr) good = good
good_as_one harts (records.Symbol kind addr size name) good = good
good_as_one harts (records.End e) good = record {
  allowed = good.allowed;
  outcome = good.outcome;
  steps = good.steps;
  accesses = good.accesses;
  whole = good.whole;
}

good_without : (harts : ℕ) (item : TraceRecord) → IsGoodRecord Three harts item
    → IsGoodRecord Two harts (without_pc item)
good_without harts (records.Touch a pc) good = (good.0, refl)
good_without harts (records.Alloc addr size sites) good = good
good_without harts (records.Free addr) good = good
good_without harts (records.Symbol kind addr size name) good = good
good_without harts (records.End e) good = record {
  allowed = good.allowed;
  outcome = good.outcome;
  steps = good.steps;
  accesses = good.accesses;
  whole = good.whole;
}

pub other_good : (v : Version) (harts : ℕ) (items : List TraceRecord)
    → All (IsGoodRecord v harts) items
    → All (IsGoodRecord (other_version v) harts) (other_items v items)
other_good One harts items good =
    All-weaker (IsGoodRecord One harts) (IsGoodRecord Two harts) (good_as_two harts) items good
other_good Two harts items good =
    All-weaker (IsGoodRecord Two harts) (IsGoodRecord One harts) (good_as_one harts) items good
other_good Four harts items good = good
other_good Three harts items good =
    All-map (IsGoodRecord Two harts) without_pc items
    (All-weaker (IsGoodRecord Three harts) (λ item. IsGoodRecord Two harts (without_pc item))
    (good_without harts) items good)

pub other_regions : (v : Version) (h : Header) → HasRegions v h
    → HasRegions (other_version v) h
other_regions One h regions = regions
other_regions Two h regions = regions
other_regions Three h regions = regions
other_regions Four h regions = regions

pub other_ending : (v : Version) (harts : ℕ) (e : TraceEnd) → IsGoodEnding v harts e
    → IsGoodEnding (other_version v) harts e
other_ending One harts e good = record {
  allowed = good.allowed;
  outcome = good.outcome;
  steps = good.steps;
  accesses = good.accesses;
  whole = good.whole;
}
other_ending Two harts e good = record {
  allowed = good.allowed;
  outcome = good.outcome;
  steps = good.steps;
  accesses = good.accesses;
  whole = good.whole;
}
other_ending Three harts e good = record {
  allowed = good.allowed;
  outcome = good.outcome;
  steps = good.steps;
  accesses = good.accesses;
  whole = good.whole;
}
other_ending Four harts e good = good

inner_without : (item : TraceRecord) → IsInner item → IsInner (without_pc item)
inner_without (records.Touch a pc) inner = tt
inner_without (records.Alloc addr size sites) inner = tt
inner_without (records.Free addr) inner = tt
inner_without (records.Symbol kind addr size name) inner = tt
inner_without (records.End e) inner = absurd inner

pub other_inner : (v : Version) (items : List TraceRecord) → All IsInner items
    → All IsInner (other_items v items)
other_inner One items inner = inner
other_inner Two items inner = inner
other_inner Four items inner = inner
other_inner Three items inner =
    All-map IsInner without_pc items
    (All-weaker IsInner (λ item. IsInner (without_pc item)) inner_without items inner)

-- ---- their accesses

touches_without : (items : List TraceRecord) → touches_in (without_pcs items) ≡ touches_in items
touches_without [] = refl
touches_without (records.Touch a pc ∷ items) =
    ap (λ (t : List Touch). a ∷ t) (touches_without items)
touches_without (records.Alloc addr size sites ∷ items) = touches_without items
touches_without (records.Free addr ∷ items) = touches_without items
touches_without (records.Symbol kind addr size name ∷ items) = touches_without items
touches_without (records.End e ∷ items) = touches_without items

pub other_touches : (v : Version) (items : List TraceRecord)
    → touches_in (other_items v items) ≡ touches_in items
other_touches One items = refl
other_touches Two items = refl
other_touches Three items = touches_without items
other_touches Four items = refl

-- ---- twice

-- the other version of version 1 or 2 twice
pub twice : (v : Version) → v ≢ Three → other_version (other_version v) ≡ v
twice One short = refl
twice Two short = refl
twice Three short = absurd (short refl)
twice Four short = refl

pub items_twice : (v : Version) (items : List TraceRecord) → v ≢ Three
    → other_items (other_version v) (other_items v items) ≡ items
items_twice One items short = refl
items_twice Two items short = refl
items_twice Three items short = absurd (short refl)
items_twice Four items short = refl
