-- The halves of a trace are traces.
use Rattle.std.proofs.Common.{◌≡◌, ◌≢◌, ℕ, ◌+◌, ◌-◌, ◌≤◌, None, List, ◌++◌, length, refl, sym, ap}
use Rattle.std.proofs.Common.{◌∙◌, arith, subst}
use Rattle.std.proofs.Math.Seq.{drop-append_seam, take-append_seam}
use Rattle.std.proofs.lemmas.List.{length-drop, length-take-le}
use Rattle.std.proofs.lemmas.List.Elements.{All-drop, All-same, All-take}
use Rattle.std.specs.List.{All}
use Rattle.std.specs.Prelude.{min}
use Rattle.trace_format.specs.declared.record.TraceEnd.{TraceEnd}
use Rattle.base.specs.declared.ending.Outcome.TheVariants.{Part}
use Rattle.trace_format.specs.Rules.{HasRegions, IsGoodRecord, IsGoodTrace, IsGoodWhole, IsInner}
use Rattle.trace_format.specs.Rules.{IsTrace, longest_trace}
use Rattle.trace_format.specs.declared.record.Header.{Header}
use Rattle.trace_format.specs.declared.record.Version.{Version}
use Rattle.trace_format.specs.declared.record.Version.TheVariants.{One, Two, Three, Four}
use Rattle.trace_format.specs.Rules.{touches_in}
use Rattle.trace_format.specs.Spelling.{spell}
use Rattle.trace_format.specs.Splits.{IsCutInTwo, begin_split, halves_of}
use Rattle.trace_format.specs.declared.record.TraceRecord.{TraceRecord}
use Rattle.trace_passes.specs.Laws.Spelled.{trace-spelled}
use Rattle.trace_passes.specs.Passes.{Trace, all_records, spell_trace}
use Rattle.trace_files.specs.Copies.{first_half, second_half}
use Rattle.trace_files.specs.Halves.{AreHalves, IsWhole}
use Rattle.trace_files.proofs.Lengths.{first_short, second_short}

all_of_first : {X : Type 0} (P : X → Type 0) (xs ys : List X) → All P (xs ++ ys) → All P xs
all_of_first P xs ys all =
    subst (All P) (take-append_seam xs ys) (All-take P (length xs) (xs ++ ys) all)

all_of_second : {X : Type 0} (P : X → Type 0) (xs ys : List X) → All P (xs ++ ys) → All P ys
all_of_second P xs ys all =
    subst (All P) (drop-append_seam xs ys) (All-drop P (length xs) (xs ++ ys) all)

-- a trace that isn't filtered doesn't say how many accesses there were before
no_whole : (v : Version) (accesses : ℕ) → v ≢ Four → IsGoodWhole v accesses None
no_whole One accesses plain = refl
no_whole Two accesses plain = refl
no_whole Three accesses plain = refl
no_whole Four accesses plain = absurd (plain refl)

same_regions : (v : Version) (h other : Header) → v ≢ Four → other.near ≡ h.near → HasRegions v h
    → HasRegions v other
same_regions One h other plain same regions = same ∙ regions
same_regions Two h other plain same regions = same ∙ regions
same_regions Three h other plain same regions = same ∙ regions
same_regions Four h other plain same regions = absurd (plain refl)

-- good parts are a trace
pub is_whole : (t : Trace) → IsGoodTrace t.version t.header t.items t.ending → IsWhole t
is_whole t good =
    let is : IsTrace (spell_trace t) t.version t.header t.items t.ending =
    record { good = good; spelled = refl } in
    record {
      good = is;
      read = trace-spelled (spell_trace t) t.version t.header t.items t.ending is;
    }

module _ (at : ℕ) (t : Trace) (plain : t.version ≢ Four)
    (good : IsGoodTrace t.version t.header t.items t.ending)
    (two : IsCutInTwo (begin_split t.header t.ending.accesses at).cut t.items
    (halves_of (begin_split t.header t.ending.accesses at).cut (all_records t)))
  where
    abbrev cut : ℕ
    cut = min at t.ending.accesses

    abbrev before : List TraceRecord
    before = (first_half at t).items

    abbrev behind : List TraceRecord
    behind = (second_half at t).items

    -- the cut is within the trace, and the first half has as many accesses
    cut_within : cut ≤ length (touches_in t.items)
    cut_within = omega (arith, good.counted)

    first_count : length (touches_in before) ≡ cut
    first_count = ap length two.first ∙ length-take-le cut (touches_in t.items) cut_within

    second_count : length (touches_in behind) ≡ t.ending.accesses - cut
    second_count =
        ap length two.second ∙ length-drop cut (touches_in t.items)
        ∙ ap (λ (n : ℕ). n - cut) (sym good.counted)

    whole_good : All (IsGoodRecord t.version t.header.harts) (before ++ behind)
    whole_good = All-same (IsGoodRecord t.version t.header.harts) (before ++ behind) t.items
        two.whole good.records

    whole_inner : All IsInner (before ++ behind)
    whole_inner = All-same IsInner (before ++ behind) t.items two.whole good.inner

    whole_short : length (spell t.version t.header (before ++ behind) t.ending) ≤ longest_trace
    whole_short =
        subst (λ (items : List TraceRecord).
        length (spell t.version t.header items t.ending) ≤ longest_trace) (sym two.whole) good.short

    first_good : IsGoodTrace t.version (first_half at t).header before (first_half at t).ending
    first_good =
        let short = first_short t.version (first_half at t).header t.header before behind
        (first_half at t).ending t.ending in
        record {
          header = good.header;
          regions = good.regions;
          records = all_of_first (IsGoodRecord t.version t.header.harts) before behind whole_good;
          inner = all_of_first IsInner before behind whole_inner;
          ending = record {
            allowed = refl;
            outcome = tt;
            steps = omega arith;
            accesses = omega (arith, good.ending.accesses);
            whole = no_whole t.version _ plain;
          };
          positions = omega (arith, good.positions, first_count, cut_within);
          counted = sym first_count;
          short = omega (arith, short, whole_short);
        }

    second_good : IsGoodTrace t.version (second_half at t).header behind (second_half at t).ending
    second_good =
        let goods = all_of_second (IsGoodRecord t.version t.header.harts) before behind whole_good
        in
        let short = second_short t.version t.header.harts (second_half at t).header t.header before
        behind (second_half at t).ending t.ending
        (all_of_first (IsGoodRecord t.version t.header.harts) before behind whole_good) goods in
        record {
          header = record {
            position = omega (arith, good.positions, cut_within);
            some = good.header.some;
            few = good.header.few;
          };
          regions = same_regions t.version t.header _ plain refl good.regions;
          records = goods;
          inner = all_of_second IsInner before behind whole_inner;
          ending = record {
            allowed = good.ending.allowed;
            outcome = good.ending.outcome;
            steps = good.ending.steps;
            accesses = omega (arith, good.ending.accesses);
            whole = no_whole t.version _ plain;
          };
          positions = omega (arith, good.positions, good.counted, second_count, cut_within);
          counted = sym second_count;
          short = omega (arith, short, whole_short);
        }

    pub are_halves : AreHalves t (first_half at t) (second_half at t)
    are_halves = record {
      first_is = is_whole (first_half at t) first_good;
      second_is = is_whole (second_half at t) second_good;
      items = sym two.whole;
      first_harts = refl;
      second_harts = refl;
      begins = refl;
      goes_on = ap (λ (n : ℕ). t.header.first + n) (sym first_count);
      part =
          ap (λ (n : ℕ). let e : TraceEnd = record {
            outcome = Part;
            steps = 0;
            accesses = n;
            whole = None;
          } in e)
          (sym first_count);
      ending = ap (λ (n : ℕ). record t.ending { accesses = n; whole = None }) (sym second_count);
    }
