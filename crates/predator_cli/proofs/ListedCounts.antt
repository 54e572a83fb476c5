-- What `explain` counts of a line that a run of the same files lists is the count that is listed.
use Rattle.run_recorder.specs.Recorded.{end_for}
use Rattle.std.proofs.Common.{◌≡◌, ℕ, ◌+◌, ◌*◌, ◌/◌, ◌%◌, ◌<◌, List, [], ◌∷◌, ◌++◌, Some}
use Rattle.std.proofs.Common.{None, Bool, leb, ltb, eqb, ◌&&◌, pos, map, append-nil, refl, sym, ap}
use Rattle.std.proofs.Common.{◌∙◌, subst, arith, inl, inr}
use Rattle.std.proofs.lemmas.Bool.{and_parts, ltb-true}
use Rattle.std.proofs.lemmas.Int.{ints}
use Rattle.std.proofs.lemmas.List.Elements.{filter_map-append}
use Rattle.std.proofs.lemmas.Nat.{div-mul-add}
use Rattle.std.proofs.lemmas.Option.{none-some, same_Some}
use Rattle.std.proofs.Math.Nat.{mod-lt}
use Rattle.std.specs.Prelude.{IsTrue, filter, option_map, ◌-ℤ◌, suc, take}
use Rattle.base.specs.Levels.{Levels}
use Rattle.base.specs.Lines.{Grid, is_layout, is_line_size}
use Rattle.base.specs.Touch.{Touch}
use Rattle.base.specs.declared.layout.Range.{Range}
use Rattle.command_line.specs.Explain.{ExplainDemand}
use Rattle.guest.specs.GuestCalls.{RunEvent, quiet, touch, alloc, free, output}
use Rattle.guest.specs.Runs.{Run, sited_among}
use Rattle.invalidations.specs.Watched.{sited, sited_run}
use Rattle.objects.specs.Symbols.{Symbol, symbols_of as kept_symbols}
use Rattle.program_files.specs.Symbols.{symbols_of}
use Rattle.run_recorder.specs.Recorded.{records_in, trace_for}
use Rattle.sharing_rules.specs.Holders.{line_count_since}
use Rattle.sharing_rules.specs.Lines.{Line, is_inside, line_at, range_of}
use Rattle.sharing_rules.specs.Listed.{Finding, comes_before, found, in_order, listed, tracked}
use Rattle.sharing_rules.specs.Members.{Member}
use Rattle.sharing_rules.specs.Observed.{first_write_from}
use Rattle.sharing_rules.specs.Opened.{Opened, finding_of, opened}
use Rattle.sharing_rules.specs.Predicted.{best_between, shifted_around, shifted_base}
use Rattle.sharing_rules.specs.Predicted.{shifted_line, shifted_opening, word_address}
use Rattle.sharing_rules.specs.Laws.Kept.{tracked-opened}
use Rattle.sharing_rules.specs.Laws.Kinds.{opened-member}
use Rattle.sharing_rules.specs.Laws.Lists.{Member-filter, Member-filter_map, Member-permutation}
use Rattle.sharing_rules.specs.Laws.Lists.{slice_cases}
use Rattle.sharing_rules.specs.Laws.OpenedDoubled.{doubled-some}
use Rattle.sharing_rules.specs.Laws.OpenedObserved.{observed-some}
use Rattle.sharing_rules.specs.Laws.OpenedShifted.{opened_shifted-has}
use Rattle.sharing_rules.specs.Laws.Orders.{in_order-permutes}
use Rattle.shelf.specs.Shelf.{Files, content}
use Rattle.trace_passes.specs.Lives.{symbols_in}
use Rattle.invalidations.specs.LineInvalidations.{kept_of}
use Rattle.invalidations.specs.Latest.{accesses_of}
use Rattle.invalidations.specs.Laws.Listed.{listed-counted}
use Rattle.invalidations.specs.Invalidations.{invalidation_count}
use Rattle.invalidations.specs.Text.{table_lines}
use Rattle.trace_format.specs.Rules.{touch_in, touches_in}
use Rattle.trace_format.specs.declared.record.TraceRecord.{TraceRecord}
use Rattle.trace_format.specs.declared.record.TraceRecord.TheVariants as records
use Rattle.trace_format.specs.declared.record.Version.{Version}
use Rattle.trace_passes.specs.Passes.{all_records}
use Rattle.command_io.specs.SettingsFiles.{chosen_settings, levels_of, native_of}
use Rattle.predator_cli.specs.Explain.{as_run, explain_work}
use Rattle.predator_cli.specs.ListedCounts.{ReportsCount, ReportsListedCount}
use Rattle.predator_cli.specs.Run.{run_for_demand, symbol_record, symbol_records, version_with}

-- ---- the accesses of the sited list are those of the trace

of_events : (v : Version) (events : List RunEvent)
    → accesses_of (map sited (sited_among events)) ≡ touches_in (records_in v events)
of_events v [] = refl
of_events v (quiet ∷ events) = of_events v events
of_events v (touch a pc ∷ events) = ap (λ (xs : List Touch). a ∷ xs) (of_events v events)
of_events v (alloc at size sites ∷ events) = of_events v events
of_events v (free at ∷ events) = of_events v events
of_events v (output at bytes ∷ events) = of_events v events

pub no_touch : (symbols : List Symbol) → touches_in (map symbol_record symbols) ≡ []
no_touch [] = refl
no_touch (s ∷ symbols) = no_touch symbols

of_trace : (v : Version) (harts : ℕ) (file : List ℕ) (r : Run)
    → accesses_of (sited_run r)
    ≡ touches_in (all_records (trace_for v harts (symbol_records file) r))
of_trace v harts file r =
    let symbols = symbol_records file in
    let last : List TraceRecord = records.End (end_for v r.ending) ∷ [] in
    of_events v r.events
    ∙ sym (filter_map-append touch_in (symbols ++ records_in v r.events) last
    ∙ append-nil (touches_in (symbols ++ records_in v r.events))
    ∙ filter_map-append touch_in symbols (records_in v r.events)
    ∙ ap (λ (xs : List Touch). xs ++ touches_in (records_in v r.events))
    (no_touch (symbols_of file)))

-- ---- a listed line begins within the first line of its layout

abbrev IsLaid : Line → Type 0
IsLaid l = 0 < l.size → l.offset < l.size

shifted_laid : (n T P k : ℕ) (t : List Touch) (o : ℕ) (l : Line)
    → shifted_opening n T P k t ≡ Some o → shifted_line n T P k t ≡ Some l → IsLaid l
shifted_laid n T P k t o l opens is =
    let e : option_map (shifted_around n k) (best_between n T n k (take (suc o) t)) ≡ Some l =
    rw opens at is in
    elim (slice_cases (best_between n T n k (take (suc o) t))) [
      | inl none ↦ let z : None ≡ Some l = rw none at e in absurd (none-some l z)
      | inr p ↦
          let z : Some (shifted_around n k p.0) ≡ Some l = rw p.1 at e in
          subst IsLaid (same_Some (shifted_around n k p.0) l z) (λ some. mod-lt
          (shifted_base n (word_address n k p.0.0) (word_address n (k + 1) p.0.1)) some)
    ]

opened_laid : (n : ℕ) (v : Levels) (t : List Touch) (o : Opened)
    → Member o (opened (record { size = n; offset = 0 }) v t) → IsLaid o.line
opened_laid n v t o m =
    let g : Grid = record { size = n; offset = 0 } in
    elim (opened-member g v t o m) [
      | inl (k, e) ↦
          let w = observed-some g v.tracking t k o e in
          subst (λ (x : Opened). IsLaid x.line) (sym w.2) (λ some. some)
      | inr (P, e, is) ↦ elim is.one [
        | inl shifted ↦
            let w = opened_shifted-has n v.tracking P is.number t o shifted in
            subst (λ (x : Opened). IsLaid x.line) (sym w.is)
            (shifted_laid n v.tracking P is.number t w.opening w.line w.opened w.placed)
        | inr doubled ↦
            let w = doubled-some n v.tracking P is.number t o doubled in
            subst (λ (x : Opened). IsLaid x.line) (sym w.2)
            (λ some. mod-lt (word_address n is.number 0) some)
      ]
    ]

found_line : (t : List Touch) (o : Opened) (f : Finding) → finding_of t o ≡ Some f
    → o.line ≡ f.line
found_line t o f is =
    elim (slice_cases (first_write_from o.from (is_inside o.line) t)) [
      | inl none ↦ let z : None ≡ Some f = rw none at is in absurd (none-some f z)
      | inr some ↦
          let z : Some (found t o.kind o.line some.0) ≡ Some f = rw some.1 at is in
          ap (λ (x : Finding). x.line) (same_Some (found t o.kind o.line some.0) f z)
    ]

abbrev reaches : Levels → Finding → Bool
reaches v f = leb v.report f.count

listed_laid : (n : ℕ) (v : Levels) (t : List Touch) (f : Finding)
    → Member f (listed (record { size = n; offset = 0 }) v t) → IsLaid f.line
listed_laid n v t f m =
    let g : Grid = record { size = n; offset = 0 } in
    let xs : List Finding = filter (reaches v) (tracked g v t) in
    let one : Member f xs =
    Member-permutation xs (in_order comes_before xs) f (in_order-permutes comes_before xs) m in
    let two = (Member-filter (reaches v) (tracked g v t) f one).0 in
    let o = Member-filter_map (finding_of t) (opened g v t) f
    (subst (Member f) (tracked-opened g v t) two) in
    subst IsLaid (found_line t o.0 f o.2) (opened_laid n v t o.0 o.1)

-- ---- lines of one range are one

same_places : (n o p j k : ℕ) → o < n → p < n → j * n + o ≡ k * n + p → (j ≡ k) × (o ≡ p)
same_places n o p j k less small e =
    let number : j ≡ k =
    sym (div-mul-add j n o less) ∙ ap (λ x. x / n) e ∙ div-mul-add k n p small in
    let there : k * n + o ≡ k * n + p = ap (λ x. x * n + o) (sym number) ∙ e in
    (number, omega (arith, there))

same_ends : (a b n : ℕ) → (pos a -ℤ pos n) ≡ (pos b -ℤ pos n) → a ≡ b
same_ends a b n e = omega (arith, ints)

same_line : (x y : Line) → x.offset < x.size → y.offset < y.size → range_of x ≡ range_of y → x ≡ y
same_line x y less small e =
    let size : x.size ≡ y.size = ap (λ r. r.size) e in
    let base : (pos (x.number * x.size + x.offset) -ℤ pos x.size)
    ≡ (pos (y.number * x.size + y.offset) -ℤ pos x.size) =
    ap (λ r. r.base) e
    ∙ ap (λ n. pos (y.number * n + y.offset) -ℤ pos n) (sym size) in
    let same = same_places x.size x.offset y.offset x.number y.number less
    (subst (λ n. y.offset < n) (sym size) small)
    (same_ends (x.number * x.size + x.offset) (y.number * x.size + y.offset) x.size base) in
    ap (λ n. record { size = n; offset = x.offset; number = x.number }) size
    ∙ ap (λ o. record { size = y.size; offset = o; number = x.number }) same.1
    ∙ ap (λ k. record { size = y.size; offset = y.offset; number = k }) same.0

-- ---- the count

laid_by : (g : Grid) → IsTrue (is_layout g.size g.offset) → g.offset < g.size
laid_by g is =
    let outer = and_parts (is_line_size g.size && ltb g.offset g.size) (eqb (g.offset % 4) 0) is in
    ltb-true g.offset g.size (and_parts (is_line_size g.size) (ltb g.offset g.size) outer.0).1

pub reports_listed : (demand : ExplainDemand)
    → IsTrue (is_layout demand.layout.size demand.layout.offset) → (files : Files)
    → ReportsListedCount demand files
reports_listed demand allowed files = λ to_trace to_output pcs f m same start.
    let settings = chosen_settings demand.settings files in
    let r = run_for_demand (as_run demand) settings files in
    let symbols = symbol_records (content files demand.program) in
    let version = version_with pcs in
    let t = touches_in (all_records (trace_for version settings.harts symbols r)) in
    let l = line_at demand.layout demand.base in
    let small = laid_by demand.layout allowed in
    let some_bytes : 0 < demand.layout.size = omega (arith, small) in
    let some : 0 < f.line.size =
    subst (λ n. 0 < n) (sym (ap (λ (x : Range). x.size) same)) some_bytes in
    let line : f.line ≡ l =
    same_line f.line l (listed_laid settings.line (levels_of None settings) t f m some) small same
    in
    let count : f.count ≡ invalidation_count l demand.start (sited_run r) =
    listed-counted (native_of settings) (levels_of None settings) t f m
    ∙ ap (λ (x : Line). line_count_since x f.start t) line
    ∙ ap (λ s. line_count_since l s t) start
    ∙ ap (λ (u : List Touch). line_count_since l demand.start u)
    (sym (of_trace version settings.harts (content files demand.program) r)) in
    subst (λ n. ReportsCount l demand.start n (explain_work demand files).text) (sym count) (
      r.ending,
      table_lines (kept_symbols (symbols_in symbols)) (kept_of l demand.start (sited_run r)),
      refl,
    )
