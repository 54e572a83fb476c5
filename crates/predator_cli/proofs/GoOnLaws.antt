-- What a replay gives that goes on from the state of some records.
use Rattle.trace_format.specs.Ends.{run_end}
use Rattle.std.proofs.Common.{◌≡◌, ◌<◌, ℕ, arith, List, [], ◌++◌, length, eqb, true, Option, Some}
use Rattle.std.proofs.Common.{None}
use Rattle.std.proofs.Common.{Ok, Err, refl, sym, ap, ◌∙◌, subst}
use Rattle.std.proofs.Math.Seq.{drop-append_seam}
use Rattle.std.proofs.lemmas.Bool.{eq-eqb}
use Rattle.std.proofs.lemmas.Bool.Decides.{nat_tests}
use Rattle.std.proofs.lemmas.List.Elements.{filter_map-append}
use Rattle.std.specs.Prelude.{nat_eq, IsTrue}
use Rattle.std.specs.Option.{option_and_then, option_eq, option_map_or}
use Rattle.std.specs.Result.{result_ok}
use Rattle.command_line.specs.Replay.{ReplayDemand}
use Rattle.detector.specs.Standing.{StandsFor}
use Rattle.detector.specs.Watch.{Watch}
use Rattle.saved_state.specs.Resuming.{kept_of_list, resumption, resumption_in}
use Rattle.saved_state.specs.Saving.{state_of}
use Rattle.objects.specs.Objects.{Objects}
use Rattle.objects.specs.Symbols.{NoTwoAlike}
use Rattle.saved_state.specs.ObjectJudging.{objects_judged}
use Rattle.saved_state.specs.ObjectSpelling.{spell_objects}
use Rattle.base.specs.Levels.{Levels, are_levels}
use Rattle.base.specs.Lines.{Grid, is_layout}
use Rattle.base.specs.declared.ending.Ending.{Ending}
use Rattle.report.specs.OfLists.{report_of}
use Rattle.sharing_rules.specs.AccessLists.{AccessList}
use Rattle.sharing_rules.specs.Listed.{may_predict}
use Rattle.shelf.specs.Shelf.{Files, content}
use Rattle.trace_passes.specs.Lives.{objects_after, objects_of}
use Rattle.observations.specs.Seen.{HasSeen, IsNotable, report_of_records}
use Rattle.observations.specs.ObservedTraces.{ObservedTrace, report_of_observed, observed_after}
use Rattle.saved_state.specs.OfLists.{MayKeep, state_of_list}
use Rattle.saved_state.specs.Spelling.{spell_state}
use Rattle.trace_format.specs.Rules.{touch_in, touches_in}
use Rattle.trace_format.specs.declared.record.TraceRecord.{TraceRecord}
use Rattle.trace_passes.specs.Passes.{Trace, all_records, trace_of}
use Rattle.predator_cli.specs.GoesOn.{MayStand, begun_of, work_of_both}
use Rattle.predator_cli.specs.Replay.{begun_in, ended_at, grid_in, levels_in, replay_work}
use Rattle.predator_cli.specs.Replay.{shown, work_after}
use Rattle.predator_cli.specs.States.{differing_field, judged_state, state_of_records}
use Rattle.predator_cli.specs.States.{state_of_observed}
use Rattle.command_io.specs.Works.{Work, done_with}
use Rattle.predator_cli.specs.declared.state_file.Begun.{Begun}
use Rattle.command_io.specs.declared.status.StateFault.TheVariants as state
use Rattle.command_io.specs.declared.status.Status.TheVariants as status
use Rattle.predator_cli.proofs.StateFiles.{objects_found, state_resumed}

-- ---- the state is taken up

same_number : (n : ℕ) → eqb n n ≡ true
same_number n = eq-eqb n n refl

same_prediction : (p : Option ℕ) → option_eq nat_eq p p ≡ true
same_prediction None = refl
same_prediction (Some n) = same_number n

none_differs : (w : Watch) → differing_field w.grid w.levels w ≡ None
none_differs w = rw (
  same_number w.grid.size,
  same_number w.grid.offset,
  same_number w.levels.tracking,
  same_prediction w.levels.prediction,
) refl

pub taken_up : (g : Grid) (v : Levels) (harts : ℕ) (before : List TraceRecord)
    → MayStand g v harts before
    → ((more : List ℕ) → resumption_in v.report
    (state_of_list g v harts (touches_in before) ++ more)
    ≡ Ok (resumption (kept_of_list g v harts (touches_in before)) harts
    (length (state_of_list g v harts (touches_in before)))))
    → ((place : ℕ) → objects_judged place (length (touches_in before))
    (spell_objects (objects_of before)) ≡ Ok (objects_of before))
    → judged_state g v (state_of_records g v harts before) ≡ Ok (begun_of g v harts before)
unfolding state_of_records
taken_up g v harts before may read again =
    let t = touches_in before in
    let o : Objects = objects_of before in
    let first : List ℕ = state_of_list g v harts t in
    let w : Watch = kept_of_list g v harts t in
    let r = resumption w harts (length first) in
    state_resumed g v (first ++ spell_objects o) r may.short (read (spell_objects o))
    ∙ objects_found g v (first ++ spell_objects o) r (spell_objects o) o
    (sym (drop-append_seam first (spell_objects o))) (again (length first))
    ∙ ap (λ (p : Option ℕ). option_map_or (λ place. Err (status.State (state.WrongSettings place)))
    p
    (Ok (begun_of g v harts before))) (none_differs w)

-- ---- what a trace gives behind it

-- what is taken up is as it is where records are noted
pub kept_notable : (g : Grid) (v : Levels) (harts : ℕ) (before : List TraceRecord)
    → MayStand g v harts before → NoTwoAlike (objects_of before).symbols
    → IsNotable (begun_of g v harts before).observations
kept_notable g v harts before may apart = record {
  layout = may.kept.layout;
  native = may.kept.predictable;
  some = first_level v may.kept.levels;
  apart = apart;
}
  where
    first_level : (v : Levels) → IsTrue (are_levels v.tracking v.prediction v.report)
        → 0 < v.tracking
    first_level v h = grind (arith, nat_tests)

module _ (g : Grid) (v : Levels) (harts : ℕ) (before items : List TraceRecord) (now : ObservedTrace)
    (seen : HasSeen (begun_of g v harts before).observations now items)
    (stood : StandsFor (touches_in before) (kept_of_list g v harts (touches_in before)))
    (behind : objects_after (objects_of before) (length (touches_in before)) items
    ≡ objects_of (before ++ items))
  where
    pub stands_now : StandsFor (touches_in (before ++ items)) now.watch
    stands_now =
        subst (λ (t : AccessList). StandsFor t now.watch)
        (sym (filter_map-append touch_in before items)) (seen.accesses.stands (touches_in before) stood)

    objects_now : now.objects ≡ objects_of (before ++ items)
    objects_now = seen.objects ∙ behind

    pub notable_now : IsNotable (begun_of g v harts before).observations
        → NoTwoAlike (objects_of (before ++ items)).symbols → IsNotable now
    notable_now begun apart =
        let same = sym seen.accesses.setting in
        record {
          layout = subst (λ (x : Grid × Levels). IsTrue (is_layout x.0.size x.0.offset)) same
              begun.layout;
          native = subst (λ (x : Grid × Levels). IsTrue (may_predict x.0 x.1)) same begun.native;
          some = subst (λ (x : Grid × Levels). 0 < x.1.tracking) same begun.some;
          apart = subst (λ (o : Objects). NoTwoAlike o.symbols) (sym objects_now) apart;
        }

    -- the report is that of all records
    pub text_now : (ending : Ending) → report_of_observed (ended_at now.watch.position ending) now
        ≡ report_of (ended_at now.watch.position ending) now.watch.grid now.watch.levels now.objects
        (touches_in (before ++ items))
        → report_of_observed (ended_at now.watch.position ending) now
        ≡ report_of_records (ended_at (length (touches_in (before ++ items))) ending) g v
        (before ++ items)
    unfolding report_of_records
    text_now ending report =
        report
        ∙ λ i. report_of (ended_at (stands_now.position i) ending) (seen.accesses.setting i).0
        (seen.accesses.setting i).1 (objects_now i) (touches_in (before ++ items))

    -- and so is the state
    pub state_now : spell_state (state_of harts now.watch) ≡ state_of_list now.watch.grid
        now.watch.levels harts (touches_in (before ++ items))
        → state_of_observed harts now ≡ state_of_records g v harts (before ++ items)
    unfolding state_of_observed state_of_records
    state_now saved =
        ap (λ (b : List ℕ). b ++ spell_objects now.objects) saved
        ∙ λ i. state_of_list (seen.accesses.setting i).0 (seen.accesses.setting i).1 harts
        (touches_in (before ++ items)) ++ spell_objects (objects_now i)

-- by what is known of records that are noted, and of what stands for a list
module _ (seen : (begun : ObservedTrace) (items : List TraceRecord) → IsNotable begun
    → HasSeen begun (observed_after begun items) items)
    (report : (ending : Ending) (s : ObservedTrace) (t : AccessList) → IsNotable s → StandsFor t s.watch
    → report_of_observed ending s
    ≡ report_of ending s.watch.grid s.watch.levels s.objects t)
    (objects : (before items : List TraceRecord)
    → objects_after (objects_of before) (length (touches_in before)) items
    ≡ objects_of (before ++ items))
    (apart : (items : List TraceRecord) → NoTwoAlike (objects_of items).symbols)
    (stands : (g : Grid) (v : Levels) (harts : ℕ) (t : AccessList) → MayKeep g v harts t
    → StandsFor t (kept_of_list g v harts t))
    (saved : (harts : ℕ) (t : AccessList) (w : Watch)
    → IsTrue (is_layout w.grid.size w.grid.offset) → IsTrue (may_predict w.grid w.levels)
    → StandsFor t w
    → spell_state (state_of harts w) ≡ state_of_list w.grid w.levels harts t)
  where
    pub gone_on : (save : Option (List ℕ)) (g : Grid) (v : Levels) (harts : ℕ)
        (before : List TraceRecord) (t : Trace) → MayStand g v harts before
        → t.header.harts ≡ harts → work_after save g v (Some (begun_of g v harts before)) t
        ≡ work_of_both save g v harts before t
    gone_on save g v harts before t may same =
        let items = all_records t in
        let first : ObservedTrace = (begun_of g v harts before).observations in
        let now : ObservedTrace = observed_after first items in
        let notable = kept_notable g v harts before may (apart before) in
        let came = seen first items notable in
        let stood = stands g v harts (touches_in before) may.kept in
        let behind = objects before items in
        let still = notable_now g v harts before items now came stood behind notable
        (apart (before ++ items)) in
        let counted = stands_now g v harts before items now came stood behind in
        let text = text_now g v harts before items now came stood behind (run_end t.ending)
        (report (ended_at now.watch.position (run_end t.ending)) now (touches_in (before ++ items)) still
        counted) in
        let state = state_now g v harts before items now came stood behind
        (saved harts (touches_in (before ++ items)) now.watch still.layout still.native counted)
        in
        ap (λ (n : ℕ). shown save (report_of_observed (ended_at now.watch.position (run_end t.ending)) now)
        (state_of_observed n now)) same
        ∙ λ i. shown save (text i) (state i)

-- ---- what a replay gives that is asked for

module _ (demand : ReplayDemand) (files : Files) (name : List ℕ) (harts : ℕ)
    (before : List TraceRecord) (named : demand.resume ≡ Some name)
    (held : content files name
    ≡ state_of_records (grid_in demand files) (levels_in demand files) harts before)
    (taken : judged_state (grid_in demand files) (levels_in demand files)
    (state_of_records (grid_in demand files) (levels_in demand files) harts before)
    ≡ Ok (begun_of (grid_in demand files) (levels_in demand files) harts before))
  where
    pub begun_there : begun_in demand files
        ≡ Some (begun_of (grid_in demand files) (levels_in demand files) harts before)
    begun_there =
        let g = grid_in demand files in
        let v = levels_in demand files in
        ap (option_and_then (λ n. result_ok (judged_state g v (content files n)))) named
        ∙ ap (λ (b : List ℕ). result_ok (judged_state g v b)) held ∙ ap result_ok taken

    pub replay_taken : (t : Trace) (all : Work) → trace_of (content files demand.trace) ≡ Some t
        → work_after demand.save (grid_in demand files) (levels_in demand files)
        (Some (begun_of (grid_in demand files) (levels_in demand files) harts before)) t ≡ all
        → replay_work demand files ≡ all
    replay_taken t all trace given =
        let g = grid_in demand files in
        let v = levels_in demand files in
        ap (λ (b : Option Begun). option_map_or (work_after demand.save g v b)
        (trace_of (content files demand.trace)) (done_with [])) begun_there
        ∙ ap (λ (o : Option Trace). option_map_or
        (work_after demand.save g v (Some (begun_of g v harts before))) o (done_with [])) trace
        ∙ given
