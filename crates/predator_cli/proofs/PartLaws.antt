-- A trace that is cut in parts, each counted from the state of those before it, gives what the
-- whole gives.
use Rattle.trace_format.specs.declared.record.Header.{Header}
use Rattle.trace_passes.specs.Passes.{near_refusal}
use Rattle.trace_format.specs.Rules.{HasRegions}
use Rattle.trace_format.specs.declared.record.Version.TheVariants.{One, Two, Three, Four}
use Rattle.std.proofs.Common.{◌≡◌, ◌≢◌, ◌+◌, ◌≤◌, ◌^◌, ℕ, Bool, true, false, List, [], ◌∷◌, ◌++◌}
use Rattle.std.proofs.Common.{length, Option, Some, None, Ok, refl, sym, ap, subst, ◌∙◌, arith}
use Rattle.std.proofs.lemmas.Bool.{eq-eqb}
use Rattle.std.proofs.lemmas.Bool.Decides.{nat_tests}
use Rattle.std.proofs.lemmas.List.{length-append}
use Rattle.std.proofs.lemmas.List.Elements.{All-append, All-nil, All-push, filter_map-append}
use Rattle.std.proofs.lemmas.Slice.Eq.{bytes_eq-Decides}
use Rattle.std.specs.List.{All}
use Rattle.std.specs.Option.{option_map, option_map_or}
use Rattle.std.specs.Prelude.{IsTrue, flat_map, unwrap_or}
use Rattle.std.specs.Str.{bytes_eq}
use Rattle.base.specs.Levels.{Levels, is_from_to}
use Rattle.base.specs.Lines.{Grid}
use Rattle.command_io.specs.Laws.Readings.{accepted_both, none_alone}
use Rattle.command_io.specs.Laws.Settings.{settings_chosen, settings_pass}
use Rattle.command_io.specs.Readings.{first_refusal}
use Rattle.command_io.specs.SettingsFiles.{layout_of, levels_of, settings_in}
use Rattle.command_io.specs.SettingsFiles.{settings_readings}
use Rattle.command_io.specs.Works.{Work, done_with, refused_with}
use Rattle.command_io.specs.declared.status.Status.{Status}
use Rattle.command_line.specs.Replay.{ReplayDemand}
use Rattle.command_line.specs.Split.{SplitDemand}
use Rattle.command_line.specs.Words.{replay}
use Rattle.saved_state.specs.ObjectRules.{IsSavable}
use Rattle.settings.specs.declared.values.Settings.{Settings}
use Rattle.shelf.specs.Files.{bytes_for}
use Rattle.shelf.specs.Shelf.{Files, content}
use Rattle.trace_passes.specs.Lives.{objects_of}
use Rattle.trace_files.specs.Copies.{unfiltered, first_half, halves, second_half}
use Rattle.trace_files.specs.Laws.Copies.{plain_unrefused, plain_zero}
use Rattle.trace_format.specs.Rules.{IsGoodRecord, touch_in, touches_in}
use Rattle.trace_format.specs.declared.record.TraceRecord.{TraceRecord}
use Rattle.trace_format.specs.declared.record.TraceRecord.TheVariants as records
use Rattle.trace_format.specs.declared.record.Version.{Version}
use Rattle.trace_files.specs.Halves.{AreHalves, IsWhole}
use Rattle.trace_passes.specs.Passes.{Trace, all_records, header_refusal, refusal_of as refuses}
use Rattle.trace_passes.specs.Passes.{spell_trace, trace_of}
use Rattle.trace_passes.specs.declared.wanted.Wanted.{Wanted}
use Rattle.predator_cli.specs.Again.{replayed}
use Rattle.predator_cli.specs.Answer.{answer_of}
use Rattle.predator_cli.specs.Copies.{copy_with}
use Rattle.predator_cli.specs.GoesOn.{HoldsBoth, IsCutIn, MayStand, work_of_both}
use Rattle.predator_cli.specs.Parts.{AllFind, Counting, Cut, Finds, StateStays, halved}
use Rattle.predator_cli.specs.Parts.{last_replayed, part_replay}
use Rattle.predator_cli.specs.Replay.{grid_in, levels_in, replay_readings, trace_reading, whole}
use Rattle.predator_cli.specs.Replay.{wanted_in, work_after}
use Rattle.predator_cli.specs.Split.{split_readings, split_text, split_work}
use Rattle.predator_cli.specs.States.{state_of_records}
use Rattle.predator_cli.specs.TraceFaults.{status_of_refusal}
use Rattle.predator_cli.proofs.AllowedLaws.{IsUnder}
use Rattle.predator_cli.proofs.CutLaws.{uncut}
use Rattle.predator_cli.proofs.GoOnAnswers.{trace_accepted}
use Rattle.predator_cli.proofs.GoodLaws.{of_harts}

-- ---- the files of two names

same_bytes : (name : List ℕ) → bytes_eq name name ≡ true
same_bytes name = (bytes_eq-Decides name name).1 refl

not_so : (b : Bool) → (b ≡ true → ⊥) → b ≡ false
not_so true never = absurd (never refl)
not_so false never = refl

first_bytes : (name second bytes other : List ℕ) → bytes_for
    (record { name = name; bytes = bytes } ∷ record { name = second; bytes = other } ∷ []) name
    ≡ Some bytes
first_bytes name second bytes other = rw (same_bytes name) refl

one_bytes : (name bytes : List ℕ) → bytes_for (record { name = name; bytes = bytes } ∷ []) name
    ≡ Some bytes
one_bytes name bytes = rw (same_bytes name) refl

second_bytes : (first name bytes other : List ℕ) → first ≢ name → bytes_for
    (record { name = first; bytes = other } ∷ record { name = name; bytes = bytes } ∷ []) name
    ≡ Some bytes
second_bytes first name bytes other apart =
    let differ : bytes_eq first name ≡ false =
    not_so (bytes_eq first name) (λ is. apart ((bytes_eq-Decides first name).0 is)) in
    rw differ (one_bytes name bytes)

-- ---- records that may stand in a state

in_range : (harts : ℕ) → 1 ≤ harts → harts ≤ 256 → IsTrue (is_from_to 1 256 harts)
in_range harts some few = grind (arith, nat_tests)

pub may_stand : (g : Grid) (v : Levels) (w : Version) (harts : ℕ) (items : List TraceRecord)
    → IsUnder g v
    → 1 ≤ harts → harts ≤ 256 → All (IsGoodRecord w harts) items
    → length (touches_in items) ≤ 2 ^ 40
    → IsSavable (length (touches_in items)) (objects_of items)
    → length (state_of_records g v harts items) ≤ 2 ^ 40 → MayStand g v harts items
may_stand g v w harts items under some few good counted objects short = record {
  kept = record {
    layout = under.layout;
    predictable = under.predictable;
    levels = under.levels;
    few_harts = in_range harts some few;
    all = of_harts w harts items good;
    short = counted;
  };
  objects = objects;
  short = short;
}

-- ---- from where a replay goes on

-- nothing was seen, or the records whose state a file holds
abbrev From : Grid → Levels → Option (List ℕ) → Files → ℕ → List TraceRecord → Type 0
From g v None files harts before = before ≡ []
From g v (Some name) files harts before =
    MayStand g v harts before × (content files name ≡ state_of_records g v harts before)

-- the files hold the settings, and what was seen before a trace
pub record IsReady (how : Counting) (s : Settings) (resume : Option (List ℕ)) (files : Files)
    (t : Trace) (before : List TraceRecord) : Type 0 where
  pub settings : settings_in how.settings files ≡ Ok s
  pub whole : IsWhole t
  pub first : t.header.first ≡ length (touches_in before)
  pub plain : t.version ≢ Four
  pub good : All (IsGoodRecord t.version t.header.harts) before
  pub from : From (layout_of how.layout s) (levels_of how.layout s) resume files t.header.harts
      before

plain_near : (v : Version) (h : Header) → v ≢ Four → HasRegions v h
    → near_refusal None h.near ≡ None
plain_near One h plain none = rw none refl
plain_near Two h plain none = rw none refl
plain_near Three h plain none = rw none refl
plain_near Four h plain none = absurd (plain refl)

-- whichever filtered traces are taken beside it
wanted_whole : (lines : Option ℕ) (t : Trace) → near_refusal None t.header.near ≡ None
    → t.header.first ≡ 0
    → header_refusal (record whole { lines = lines }) (Some t.header) ≡ None
wanted_whole lines t plain first =
    rw (plain_zero t.header.near plain, eq-eqb t.header.first 0 first) refl

module _
    (answered : (demand : ReplayDemand) (files : Files) (harts : ℕ) (before : List TraceRecord)
    (t : Trace) → HoldsBoth demand files harts before t
    → first_refusal (settings_readings demand.settings) files ≡ None
    → answer_of (Some (replay demand)) files ≡ work_of_both demand.save (grid_in demand files)
    (levels_in demand files) harts before t)
    (carried : (save : Option (List ℕ)) (g : Grid) (v : Levels) (full last : Trace)
    (earlier : List Trace) → IsCutIn full earlier last
    → work_of_both save g v full.header.harts (flat_map all_records earlier) last
    ≡ work_after save g v None full)
    (how : Counting) (s : Settings)
  where
    abbrev g : Grid
    g = layout_of how.layout s

    abbrev v : Levels
    v = levels_of how.layout s

    -- a whole trace is accepted
    whole_read : (files : Files) (name : List ℕ) (t : Trace) (save : Option (List ℕ))
        → settings_in how.settings files ≡ Ok s
        → trace_of (content files name) ≡ Some t → near_refusal None t.header.near ≡ None
        → t.header.first ≡ 0
        → first_refusal (replay_readings (part_replay how None name save)) files ≡ None
    whole_read files name t save settings is plain first =
        let demand = part_replay how None name save in
        let wanted : Wanted = wanted_in demand files in
        accepted_both (settings_readings how.settings)
        (trace_reading (wanted_in demand) name ∷ [])
        (Some files) (settings_pass how.settings files s settings)
        (none_alone (option_map status_of_refusal (refuses wanted (content files name)))
        (ap (option_map status_of_refusal)
        (trace_accepted wanted t refl (wanted_whole wanted.lines t plain first)
        (content files name) is)))

    whole_work : (files : Files) (name : List ℕ) (t : Trace) (save : Option (List ℕ))
        → settings_in how.settings files ≡ Ok s
        → trace_of (content files name) ≡ Some t → near_refusal None t.header.near ≡ None
        → t.header.first ≡ 0 → IsWhole t
        → replayed (part_replay how None name save) files
        ≡ work_of_both save g v t.header.harts [] t
    whole_work files name t save settings is plain first full =
        let demand = part_replay how None name save in
        let chosen = settings_chosen how.settings files s settings in
        ap (λ (r : Option Status). option_map_or refused_with r
        (option_map_or (work_after save (grid_in demand files) (levels_in demand files) None)
        (trace_of (content files name)) (done_with []))) (whole_read files name t save settings is
        plain first)
        ∙ ap (λ (o : Option Trace). option_map_or
        (work_after save (grid_in demand files) (levels_in demand files) None) o (done_with [])) is
        ∙ ap (λ (x : Settings). work_after save (layout_of how.layout x) (levels_of how.layout x)
        None t) chosen
        ∙ sym (carried save g v t t [] (uncut t full.good.good.counted))

    -- what a replay answers that is ready
    pub ready_work : (resume : Option (List ℕ)) (files : Files) (t : Trace)
        (before : List TraceRecord) (name : List ℕ) (save : Option (List ℕ))
        → IsReady how s resume files t before → trace_of (content files name) ≡ Some t
        → replayed (part_replay how resume name save) files
        ≡ work_of_both save g v t.header.harts before t
    ready_work None files t before name save ready is =
        let first : t.header.first ≡ 0 =
        ready.first ∙ ap (λ (xs : List TraceRecord). length (touches_in xs)) ready.from in
        whole_work files name t save ready.settings is
        (plain_near t.version t.header ready.plain ready.whole.good.good.regions) first ready.whole
        ∙ ap (λ (xs : List TraceRecord). work_of_both save g v t.header.harts xs t)
        (sym ready.from)
    ready_work (Some state) files t before name save ready is =
        let demand = part_replay how (Some state) name save in
        let chosen = settings_chosen how.settings files s ready.settings in
        let holds : HoldsBoth demand files t.header.harts before t = record {
          name = state;
          named = refl;
          may = subst (λ (x : Settings). MayStand (layout_of how.layout x) (levels_of how.layout x)
              t.header.harts before) (sym chosen) ready.from.0;
          state = ready.from.1
              ∙ ap (λ (x : Settings). state_of_records (layout_of how.layout x)
              (levels_of how.layout x) t.header.harts before) (sym chosen);
          trace = is;
          same_harts = refl;
          first = ready.first;
          plain = plain_near t.version t.header ready.plain ready.whole.good.good.regions;
        } in
        answered demand files t.header.harts before t holds
        (settings_pass how.settings files s ready.settings)
        ∙ ap (λ (x : Settings). work_of_both save (layout_of how.layout x) (levels_of how.layout x)
        t.header.harts before t) chosen

-- ---- one cut

halved_is : (d : SplitDemand) (files : Files) (t : Trace)
    → trace_of (content files d.trace) ≡ Some t → near_refusal None t.header.near ≡ None
    → halved d files ≡ copy_with (split_text d.at) (halves d.at d.first d.second) t
halved_is d files t is plain =
    let none : first_refusal (split_readings d) files ≡ None =
    none_alone (option_map status_of_refusal (refuses unfiltered (content files d.trace)))
    (ap (option_map status_of_refusal) (plain_unrefused (content files d.trace) t is plain)) in
    ap (λ (r : Option Status). option_map_or refused_with r (split_work d files)) none
    ∙ ap (λ (o : Option Trace). option_map_or
    (copy_with (split_text d.at) (halves d.at d.first d.second)) o (done_with [])) is

-- what the first replay finds
begun_first : (g : Grid) (v : Levels) (resume : Option (List ℕ)) (before after : Files) (harts : ℕ)
    (items : List TraceRecord) → From g v resume before harts items
    → StateStays resume before after → From g v resume after harts items
begun_first g v None before after harts items from stays = from
begun_first g v (Some name) before after harts items from stays =
    (from.0, ap (λ (o : Option (List ℕ)). unwrap_or o []) stays ∙ from.1)

-- the accesses of what comes before a trace, and of the trace
both_counted : (before : List TraceRecord) (t : Trace)
    → length (touches_in (before ++ all_records t))
    ≡ length (touches_in before) + length (touches_in t.items)
both_counted before t =
    let both = ap length (filter_map-append touch_in before (all_records t)) in
    let ended = ap length (filter_map-append touch_in t.items (records.End t.ending ∷ [])) in
    let none = length-append (touches_in t.items) [] in
    let all = length-append (touches_in before) (touches_in (all_records t)) in
    omega arith

module _
    (answered : (demand : ReplayDemand) (files : Files) (harts : ℕ) (before : List TraceRecord)
    (t : Trace) → HoldsBoth demand files harts before t
    → first_refusal (settings_readings demand.settings) files ≡ None
    → answer_of (Some (replay demand)) files ≡ work_of_both demand.save (grid_in demand files)
    (levels_in demand files) harts before t)
    (carried : (save : Option (List ℕ)) (g : Grid) (v : Levels) (full last : Trace)
    (earlier : List Trace) → IsCutIn full earlier last
    → work_of_both save g v full.header.harts (flat_map all_records earlier) last
    ≡ work_after save g v None full)
    (halved_so : (at : ℕ) (t : Trace) → IsWhole t → t.version ≢ Four
    → AreHalves t (first_half at t) (second_half at t))
    (joins : (save : Option (List ℕ)) (g : Grid) (v : Levels) (harts : ℕ)
    (before : List TraceRecord) (full first final : Trace) → AreHalves full first final
    → work_of_both save g v harts (before ++ all_records first) final
    ≡ work_of_both save g v harts before full)
    (objects : (g : Grid) (v : Levels) (w : Version) (harts : ℕ) (items : List TraceRecord)
    → All (IsGoodRecord w harts) items → length (state_of_records g v harts items) ≤ 2 ^ 40
    → IsSavable (length (touches_in items)) (objects_of items))
    (how : Counting) (s : Settings) (under : IsUnder (layout_of how.layout s)
    (levels_of how.layout s))
  where
    abbrev grid : Grid
    grid = layout_of how.layout s

    abbrev levels : Levels
    levels = levels_of how.layout s

    module _ (resume : Option (List ℕ)) (files : Files) (t : Trace) (before : List TraceRecord)
        (c : Cut) (ready : IsReady how s resume files t before)
        (is : trace_of (content files c.split.trace) ≡ Some t) (finds : Finds how resume files c)
      where
        abbrev part : Trace
        part = first_half c.split.at t

        abbrev rest : Trace
        rest = second_half c.split.at t

        abbrev seen : List TraceRecord
        seen = before ++ all_records part

        two : AreHalves t part rest
        two = halved_so c.split.at t ready.whole ready.plain

        near_there : near_refusal None t.header.near ≡ None
        near_there = plain_near t.version t.header ready.plain ready.whole.good.good.regions

        part_there : content c.at_first c.split.first ≡ spell_trace part
        part_there =
            ap (λ (o : Option (List ℕ)). unwrap_or o []) (finds.first
            ∙ ap (λ (w : Work). bytes_for w.outputs c.split.first) (halved_is c.split files t is near_there)
            ∙ first_bytes c.split.first c.split.second (spell_trace part) (spell_trace rest))

        rest_there : content c.at_second c.split.second ≡ spell_trace rest
        rest_there =
            ap (λ (o : Option (List ℕ)). unwrap_or o []) (finds.second
            ∙ ap (λ (w : Work). bytes_for w.outputs c.split.second) (halved_is c.split files t is near_there)
            ∙ second_bytes c.split.first c.split.second (spell_trace rest) (spell_trace part)
            finds.apart)

        part_ready : IsReady how s resume c.at_first part before
        part_ready = record {
          settings = finds.first_settings ∙ ready.settings;
          whole = two.first_is;
          first = ready.first;
          plain = ready.plain;
          good = ready.good;
          from = begun_first grid levels resume files c.at_first t.header.harts before ready.from
              finds.begun;
        }

        part_work : replayed (part_replay how resume c.split.first (Some c.state)) c.at_first
            ≡ work_of_both (Some c.state) grid levels t.header.harts before part
        part_work = ready_work answered carried how s resume c.at_first part before c.split.first
            (Some c.state) part_ready (ap trace_of part_there ∙ two.first_is.read)

        state_there : content c.at_second c.state
            ≡ state_of_records grid levels t.header.harts seen
        state_there =
            ap (λ (o : Option (List ℕ)). unwrap_or o []) (finds.state
            ∙ ap (λ (w : Work). bytes_for w.outputs c.state) part_work
            ∙ one_bytes c.state (state_of_records grid levels t.header.harts seen))

        seen_good : All (IsGoodRecord t.version t.header.harts) seen
        seen_good = All-append (IsGoodRecord t.version t.header.harts) before (all_records part)
            ready.good
            (All-push (IsGoodRecord t.version t.header.harts) part.items (records.End part.ending)
            two.first_is.good.good.records two.first_is.good.good.ending)

        seen_count : rest.header.first ≡ length (touches_in seen)
        seen_count =
            two.goes_on ∙ ap (λ (n : ℕ). n + length (touches_in part.items)) ready.first
            ∙ sym (both_counted before part)

        seen_short : length (state_of_records grid levels t.header.harts seen) ≤ 2 ^ 40
        seen_short = subst (λ (b : List ℕ). length b ≤ 2 ^ 40) state_there finds.short

        seen_stands : MayStand grid levels t.header.harts seen
        seen_stands =
            may_stand grid levels t.version t.header.harts seen under
            ready.whole.good.good.header.some
            ready.whole.good.good.header.few seen_good
            (omega (arith, seen_count, two.second_is.good.good.positions))
            (objects grid levels t.version t.header.harts seen seen_good seen_short) seen_short

        pub rest_ready : IsReady how s (Some c.state) c.at_second rest seen
        rest_ready = record {
          settings = finds.second_settings ∙ ready.settings;
          whole = two.second_is;
          first = seen_count;
          plain = ready.plain;
          good = seen_good;
          from = (seen_stands, state_there);
        }

        pub rest_read : trace_of (content c.at_second c.split.second) ≡ Some rest
        rest_read = ap trace_of rest_there ∙ two.second_is.read

        pub rest_joined : (save : Option (List ℕ))
            → work_of_both save grid levels t.header.harts seen rest
            ≡ work_of_both save grid levels t.header.harts before t
        rest_joined save = joins save grid levels t.header.harts before t part rest two

    -- ---- any number of cuts

    pub all_counted : (cuts : List Cut) (resume : Option (List ℕ)) (name : List ℕ) (files : Files)
        (t : Trace) (before : List TraceRecord) → IsReady how s resume files t before
        → trace_of (content files name) ≡ Some t → AllFind how resume name files cuts
        → last_replayed how resume name files cuts
        ≡ work_of_both how.save grid levels t.header.harts before t
    all_counted [] resume name files t before ready is find =
        ready_work answered carried how s resume files t before name how.save ready is
    all_counted (c ∷ cuts) resume name files t before ready is find =
        let there : trace_of (content files c.split.trace) ≡ Some t =
        ap (λ (n : List ℕ). trace_of (content files n)) find.0 ∙ is in
        all_counted cuts (Some c.state) c.split.second c.at_second (second_half c.split.at t)
        (before ++ all_records (first_half c.split.at t))
        (rest_ready resume files t before c ready there find.1)
        (rest_read resume files t before c ready there find.1) find.2
        ∙ rest_joined resume files t before c ready there find.1 how.save

    pub all_repeat : (files : Files) (name : List ℕ) (t : Trace) (cuts : List Cut)
        → settings_in how.settings files ≡ Ok s → IsWhole t → t.version ≢ Four
        → trace_of (content files name) ≡ Some t → t.header.first ≡ 0
        → AllFind how None name files cuts
        → last_replayed how None name files cuts
        ≡ replayed (part_replay how None name how.save) files
    all_repeat files name t cuts settings full plain is first find =
        let ready : IsReady how s None files t [] = record {
          settings = settings;
          whole = full;
          first = first;
          plain = plain;
          good = All-nil (IsGoodRecord t.version t.header.harts);
          from = refl;
        } in
        all_counted cuts None name files t [] ready is find
        ∙ sym (ready_work answered carried how s None files t [] name how.save ready is)
