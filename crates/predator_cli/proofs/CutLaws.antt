-- The parts of a trace that was cut show what the whole shows: the ends of the earlier parts, which
-- stand among the records, show nothing.
use Rattle.trace_format.specs.Ends.{run_end}
use Rattle.std.proofs.Common.{◌≡◌, ℕ, List, [], ◌∷◌, ◌++◌, length, Option, None, refl, sym, ap, ◌∙◌}
use Rattle.std.specs.Prelude.{flat_map}
use Rattle.std.proofs.Common.{append_assoc}
use Rattle.std.proofs.lemmas.List.{append-nil}
use Rattle.std.proofs.lemmas.List.Elements.{All-cons, All-nil, filter_map-append}
use Rattle.objects.specs.Objects.{Objects, no_objects}
use Rattle.saved_state.specs.ObjectSpelling.{spell_objects}
use Rattle.base.specs.Levels.{Levels}
use Rattle.base.specs.Lines.{Grid}
use Rattle.trace_format.specs.declared.record.TraceEnd.{TraceEnd}
use Rattle.report.specs.OfLists.{report_of}
use Rattle.sharing_rules.specs.AccessLists.{AccessList}
use Rattle.trace_passes.specs.Lives.{objects_after, objects_of}
use Rattle.observations.specs.Seen.{report_of_records}
use Rattle.observations.specs.Laws.Seen.{objects_after-end}
use Rattle.saved_state.specs.OfLists.{state_of_list}
use Rattle.trace_format.specs.Rules.{touch_in, touches_in}
use Rattle.trace_format.specs.declared.record.TraceRecord.{TraceRecord}
use Rattle.trace_format.specs.declared.record.TraceRecord.TheVariants as records
use Rattle.trace_files.specs.Copies.{first_half, second_half}
use Rattle.trace_passes.specs.Passes.{Trace, all_records}
use Rattle.trace_files.specs.Halves.{AreHalves}
use Rattle.predator_cli.specs.GoesOn.{IsCutIn, StatesItsCount, work_of_both}
use Rattle.predator_cli.specs.Replay.{ended_at, shown, work_after}
use Rattle.predator_cli.specs.States.{state_of_records}

-- what no end changes is the same of the parts and of the whole
module _ {X : Type 0} (shows : List TraceRecord → X)
    (last : (xs : List TraceRecord) (e : TraceEnd) → shows (xs ++ records.End e ∷ []) ≡ shows xs)
    (amid : (xs ys : List TraceRecord) (e : TraceEnd)
    → shows ((xs ++ records.End e ∷ []) ++ ys) ≡ shows (xs ++ ys))
  where
    -- without the ends of the parts between what comes before them and behind them
    each_amid : (parts : List Trace) (before behind : List TraceRecord)
        → shows (before ++ (flat_map all_records parts ++ behind))
        ≡ shows (before ++ (flat_map (λ t. t.items) parts ++ behind))
    each_amid [] before behind = refl
    each_amid (t ∷ parts) before behind =
        let ended : List TraceRecord = flat_map all_records parts in
        let bare : List TraceRecord = flat_map (λ t. t.items) parts in
        let end : List TraceRecord = records.End t.ending ∷ [] in
        ap (λ (xs : List TraceRecord). shows (before ++ xs))
        (append_assoc (t.items ++ end) ended behind)
        ∙ ap shows (sym (append_assoc before (t.items ++ end) (ended ++ behind)))
        ∙ ap (λ (xs : List TraceRecord). shows (xs ++ (ended ++ behind)))
        (sym (append_assoc before t.items end))
        ∙ amid (before ++ t.items) (ended ++ behind) t.ending
        ∙ each_amid parts (before ++ t.items) behind
        ∙ ap shows (append_assoc before t.items (bare ++ behind))
        ∙ ap (λ (xs : List TraceRecord). shows (before ++ xs))
        (sym (append_assoc t.items bare behind))

    same_shown : (whole final : Trace) (earlier : List Trace)
        → whole.items ≡ flat_map (λ t. t.items) earlier ++ final.items
        → shows (flat_map all_records earlier ++ all_records final) ≡ shows (all_records whole)
    same_shown whole final earlier items =
        let bare : List TraceRecord = flat_map (λ t. t.items) earlier in
        each_amid earlier [] (all_records final)
        ∙ ap shows (sym (append_assoc bare final.items (records.End final.ending ∷ [])))
        ∙ last (bare ++ final.items) final.ending
        ∙ ap shows (sym items) ∙ sym (last whole.items whole.ending)

    -- one part behind what comes before it, and the rest of the whole
    same_behind : (before : List TraceRecord) (whole first final : Trace)
        → whole.items ≡ first.items ++ final.items
        → shows ((before ++ all_records first) ++ all_records final)
        ≡ shows (before ++ all_records whole)
    same_behind before whole first final items =
        let end : List TraceRecord = records.End first.ending ∷ [] in
        let last_end : List TraceRecord = records.End final.ending ∷ [] in
        ap (λ (xs : List TraceRecord). shows (xs ++ all_records final))
        (sym (append_assoc before first.items end))
        ∙ amid (before ++ first.items) (all_records final) first.ending
        ∙ ap shows (sym (append_assoc (before ++ first.items) final.items last_end))
        ∙ last ((before ++ first.items) ++ final.items) final.ending
        ∙ ap shows (append_assoc before first.items final.items)
        ∙ ap (λ (xs : List TraceRecord). shows (before ++ xs)) (sym items)
        ∙ sym (last (before ++ whole.items) whole.ending)
        ∙ ap shows (append_assoc before whole.items (records.End whole.ending ∷ []))

pub touches_last : (xs : List TraceRecord) (e : TraceEnd)
    → touches_in (xs ++ records.End e ∷ []) ≡ touches_in xs
touches_last xs e = filter_map-append touch_in xs (records.End e ∷ []) ∙ append-nil (touches_in xs)

touches_amid : (xs ys : List TraceRecord) (e : TraceEnd)
    → touches_in ((xs ++ records.End e ∷ []) ++ ys) ≡ touches_in (xs ++ ys)
touches_amid xs ys e =
    filter_map-append touch_in (xs ++ records.End e ∷ []) ys
    ∙ ap (λ (t : AccessList). t ++ touches_in ys) (touches_last xs e)
    ∙ sym (filter_map-append touch_in xs ys)

objects_last : (xs : List TraceRecord) (e : TraceEnd)
    → objects_of (xs ++ records.End e ∷ []) ≡ objects_of xs
objects_last xs e = objects_after-end xs e no_objects 0

module _ (objects : (before items : List TraceRecord)
    → objects_after (objects_of before) (length (touches_in before)) items
    ≡ objects_of (before ++ items))
  where
    objects_amid : (xs ys : List TraceRecord) (e : TraceEnd)
        → objects_of ((xs ++ records.End e ∷ []) ++ ys) ≡ objects_of (xs ++ ys)
    objects_amid xs ys e =
        sym (objects (xs ++ records.End e ∷ []) ys)
        ∙ ap (λ (o : Objects). objects_after o (length (touches_in (xs ++ records.End e ∷ []))) ys)
        (objects_last xs e)
        ∙ ap (λ (t : AccessList). objects_after (objects_of xs) (length t) ys) (touches_last xs e)
        ∙ objects xs ys

    pub carried_on : (save : Option (List ℕ)) (g : Grid) (v : Levels)
        (whole final : Trace) (earlier : List Trace) → IsCutIn whole earlier final
        → work_of_both save g v whole.header.harts (flat_map all_records earlier) final
        ≡ work_after save g v None whole
    unfolding report_of_records state_of_records
    carried_on save g v whole final earlier cut =
        let all : List TraceRecord = flat_map all_records earlier ++ all_records final in
        let touches : touches_in all ≡ touches_in (all_records whole) =
        same_shown touches_in touches_last touches_amid whole final earlier cut.items in
        let things : objects_of all ≡ objects_of (all_records whole) =
        same_shown objects_of objects_last objects_amid whole final earlier cut.items in
        let ending : ended_at (length (touches_in all)) (run_end final.ending) ≡ run_end whole.ending =
        ap (λ (t : AccessList). ended_at (length t) (run_end final.ending))
        (touches ∙ touches_last whole.items whole.ending)
        ∙ sym cut.ending in
        λ i. shown save (report_of (ending i) g v (things i) (touches i))
        (state_of_list g v whole.header.harts (touches i) ++ spell_objects (things i))

    -- what comes before a trace and its first half, and then its second half, give what the whole
    -- gives behind that
    pub joined : (save : Option (List ℕ)) (g : Grid) (v : Levels) (harts : ℕ)
        (before : List TraceRecord) (whole first final : Trace) → AreHalves whole first final
        → work_of_both save g v harts (before ++ all_records first) final
        ≡ work_of_both save g v harts before whole
    unfolding report_of_records state_of_records
    joined save g v harts before whole first final halves =
        let cut : List TraceRecord = (before ++ all_records first) ++ all_records final in
        let all : List TraceRecord = before ++ all_records whole in
        let touches : touches_in cut ≡ touches_in all =
        same_behind touches_in touches_last touches_amid before whole first final halves.items in
        let things : objects_of cut ≡ objects_of all =
        same_behind objects_of objects_last objects_amid before whole first final halves.items in
        let ending : ended_at (length (touches_in cut)) (run_end final.ending)
        ≡ ended_at (length (touches_in all)) (run_end whole.ending) =
        ap (λ (t : AccessList). ended_at (length t) (run_end final.ending)) touches
        ∙ ap (λ (e : TraceEnd). ended_at (length (touches_in all)) (run_end e)) halves.ending in
        λ i. shown save (report_of (ending i) g v (things i) (touches i))
        (state_of_list g v harts (touches i) ++ spell_objects (things i))

-- a trace is cut in no earlier parts and itself
pub uncut : (whole : Trace) → whole.ending.accesses ≡ length (touches_in whole.items)
    → IsCutIn whole [] whole
uncut whole counted = record {
  items = refl;
  ending = ap (λ (n : ℕ). record (run_end whole.ending) { accesses = n }) counted;
  stated = All-cons StatesItsCount whole [] counted (All-nil StatesItsCount);
}

-- the halves of a trace are such parts of it
pub halves_cut : (at : ℕ) (whole : Trace)
    → AreHalves whole (first_half at whole) (second_half at whole)
    → whole.ending.accesses ≡ length (touches_in whole.items)
    → IsCutIn whole (first_half at whole ∷ []) (second_half at whole)
halves_cut at whole halves counted = record {
  items = halves.items
      ∙ ap (λ (xs : List TraceRecord). xs ++ (second_half at whole).items)
      (sym (append-nil (first_half at whole).items));
  ending = ap (λ (n : ℕ). record (run_end whole.ending) { accesses = n }) counted;
  stated = All-cons StatesItsCount (first_half at whole) (second_half at whole ∷ [])
      halves.first_is.good.good.counted
      (All-cons StatesItsCount (second_half at whole) [] halves.second_is.good.good.counted
      (All-nil StatesItsCount));
}
