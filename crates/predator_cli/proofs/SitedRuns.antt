-- A run with pcs beside the same run without them.
use Rattle.trace_format.specs.Ends.{unfiltered}
use Rattle.std.proofs.Common.{◌≡◌, ◌∙◌, ◌==◌, if◌then◌else◌, ℕ, Bool, true, false, List, [], ◌∷◌}
use Rattle.std.proofs.Common.{◌++◌, Option, None, Some, is_none, map, refl, sym, ap, subst}
use Rattle.std.proofs.lemmas.List.{append-nil, map-append}
use Rattle.std.proofs.lemmas.List.Elements.{filter_map-append}
use Rattle.base.specs.Levels.{Levels}
use Rattle.base.specs.Lines.{Grid}
use Rattle.base.specs.declared.ending.Ending.{Ending}
use Rattle.command_line.specs.Run.{RunDemand}
use Rattle.guest.specs.GuestCalls.{RunEvent, quiet, touch, alloc, free, output}
use Rattle.guest.specs.Runs.{Run, sited_among}
use Rattle.objects.specs.Blocks.{newborn}
use Rattle.objects.specs.declared.block.Block.{Block}
use Rattle.objects.specs.Objects.{Objects}
use Rattle.objects.specs.Symbols.{Symbol, kept_symbol, symbols_of as kept_symbols}
use Rattle.program_files.specs.Symbols.{symbols_of}
use Rattle.report.specs.OfLists.{report_of as report_of_list}
use Rattle.run_recorder.specs.Laws.{run-plain, run-stated, touches-without}
use Rattle.run_recorder.specs.Recorded.{records_in, records_of, trace_for}
use Rattle.settings.specs.declared.values.Settings.{Settings}
use Rattle.shelf.specs.Shelf.{Files, content}
use Rattle.observations.specs.Seen.{report_of_records}
use Rattle.invalidations.specs.BlameRecords.{sited_in, sited_item}
use Rattle.invalidations.specs.Watched.{sited, sited_run}
use Rattle.invalidations.specs.declared.sited.Sited.{Sited}
use Rattle.trace_format.specs.Pcs.{without_pc, without_pcs}
use Rattle.trace_format.specs.Reading.{counted_after}
use Rattle.trace_format.specs.Rules.{touches_in}
use Rattle.trace_format.specs.declared.record.TraceRecord.{TraceRecord}
use Rattle.trace_format.specs.declared.record.TraceRecord.TheVariants as records
use Rattle.trace_format.specs.declared.record.Version.TheVariants.{One, Three}
use Rattle.trace_passes.specs.Lives.{death_in, lived, made_in, objects_of, symbols_in}
use Rattle.trace_passes.specs.Passes.{all_records}
use Rattle.command_io.specs.SettingsFiles.{levels_of, native_of}
use Rattle.predator_cli.specs.Again.{RecordsSites}
use Rattle.predator_cli.specs.Replay.{report_of}
use Rattle.predator_cli.specs.Run.{run_for_demand, symbol_records, trace_for_demand, version_with}
use Rattle.predator_cli.proofs.ListedCounts.{no_touch}

-- ---- the objects and the report of records are those of the records without pcs

symbols_plain : (items : List TraceRecord) → symbols_in (without_pcs items) ≡ symbols_in items
symbols_plain [] = refl
symbols_plain (records.Touch a pc ∷ items) = symbols_plain items
symbols_plain (records.Alloc addr size sites ∷ items) = symbols_plain items
symbols_plain (records.Free addr ∷ items) = symbols_plain items
symbols_plain (records.Symbol kind addr size name ∷ items) =
    ap (λ (l : List Symbol). kept_symbol kind addr size name ∷ l) (symbols_plain items)
symbols_plain (records.End e ∷ items) = symbols_plain items

death_plain : (addr position : ℕ) (items : List TraceRecord)
    → death_in addr position (without_pcs items) ≡ death_in addr position items
death_plain addr position [] = refl
death_plain addr position (records.Touch a pc ∷ items) =
    death_plain addr (counted_after position (records.Touch a pc)) items
death_plain addr position (records.Alloc other size sites ∷ items) =
    ap (λ (d : Option ℕ). if addr == other then Some position else d)
    (death_plain addr position items)
death_plain addr position (records.Free other ∷ items) =
    ap (λ (d : Option ℕ). if addr == other then Some position else d)
    (death_plain addr position items)
death_plain addr position (records.Symbol kind at size name ∷ items) =
    death_plain addr position items
death_plain addr position (records.End e ∷ items) = death_plain addr position items

lived_plain : (position : ℕ) (items : List TraceRecord) (b : Block)
    → lived position (without_pcs items) b ≡ lived position items b
lived_plain position items b =
    ap (λ (d : Option ℕ). if is_none b.died then record b { died = d } else b)
    (death_plain b.addr position items)

made_plain : (position : ℕ) (items : List TraceRecord)
    → made_in position (without_pcs items) ≡ made_in position items
made_plain position [] = refl
made_plain position (records.Touch a pc ∷ items) =
    made_plain (counted_after position (records.Touch a pc)) items
made_plain position (records.Alloc addr size sites ∷ items) =
    ap (λ (b : Block). b ∷ made_in position (without_pcs items))
    (lived_plain position items (newborn position addr size sites))
    ∙ ap (λ (l : List Block). lived position items (newborn position addr size sites) ∷ l)
    (made_plain position items)
made_plain position (records.Free addr ∷ items) = made_plain position items
made_plain position (records.Symbol kind addr size name ∷ items) = made_plain position items
made_plain position (records.End e ∷ items) = made_plain position items

objects_plain : (items : List TraceRecord) → objects_of (without_pcs items) ≡ objects_of items
objects_plain items =
    ap (λ (l : List Symbol). let o : Objects =
    record { symbols = kept_symbols l; blocks = made_in 0 (without_pcs items) } in o)
    (symbols_plain items)
    ∙ ap (λ (l : List Block). let o : Objects =
    record { symbols = kept_symbols (symbols_in items); blocks = l } in o)
    (made_plain 0 items)

report_plain : (e : Ending) (g : Grid) (v : Levels) (items : List TraceRecord)
    → report_of_records e g v (without_pcs items) ≡ report_of_records e g v items
unfolding report_of_records
report_plain e g v items =
    ap (λ (o : Objects). report_of_list e g v o (touches_in (without_pcs items)))
    (objects_plain items)
    ∙ ap (report_of_list e g v (objects_of items)) (touches-without items)

-- ---- a run

-- the records of a run are those of the trace without pcs, the end too
all_plain : (harts : ℕ) (symbols : List TraceRecord) (r : Run) → touches_in symbols ≡ []
    → without_pcs (all_records (trace_for Three harts symbols r))
    ≡ all_records (trace_for One harts symbols r)
all_plain harts symbols r none =
    map-append without_pc (records_of Three symbols r) (records.End (unfiltered r.ending) ∷ [])
    ∙ ap (λ (l : List TraceRecord). l ++ records.End (unfiltered r.ending) ∷ []) (run-plain symbols r none)

run_text : (pcs : Bool) (v : Levels) (g : Grid) (harts : ℕ) (symbols : List TraceRecord) (r : Run)
    → touches_in symbols ≡ []
    → report_of v g (trace_for (version_with pcs) harts symbols r)
    ≡ report_of v g (trace_for One harts symbols r)
run_text false v g harts symbols r none = refl
run_text true v g harts symbols r none =
    sym (report_plain r.ending g v (all_records (trace_for Three harts symbols r)))
    ∙ ap (report_of_records r.ending g v) (all_plain harts symbols r none)

-- ---- the accesses of its trace, as `blame` reads them

no_blame : (items : List TraceRecord) → touches_in items ≡ [] → sited_in items ≡ []
no_blame [] none = refl
no_blame (records.Touch a pc ∷ items) none = cc
no_blame (records.Alloc addr size sites ∷ items) none = no_blame items none
no_blame (records.Free addr ∷ items) none = no_blame items none
no_blame (records.Symbol kind addr size name ∷ items) none = no_blame items none
no_blame (records.End e ∷ items) none = no_blame items none

events_blamed : (events : List RunEvent)
    → sited_in (records_in Three events) ≡ map sited (sited_among events)
events_blamed [] = refl
events_blamed (quiet ∷ events) = events_blamed events
events_blamed (touch a pc ∷ events) =
    ap (λ (l : List Sited). sited (a, pc) ∷ l) (events_blamed events)
events_blamed (alloc at size sites ∷ events) = events_blamed events
events_blamed (free at ∷ events) = events_blamed events
events_blamed (output at bytes ∷ events) = events_blamed events

run_blamed : (harts : ℕ) (symbols : List TraceRecord) (r : Run) → touches_in symbols ≡ []
    → sited_in (all_records (trace_for Three harts symbols r)) ≡ sited_run r
run_blamed harts symbols r none =
    filter_map-append sited_item (records_of Three symbols r) (records.End (unfiltered r.ending) ∷ [])
    ∙ append-nil (sited_in (records_of Three symbols r))
    ∙ filter_map-append sited_item symbols (records_in Three r.events)
    ∙ ap (λ (l : List Sited). l ++ sited_in (records_in Three r.events)) (no_blame symbols none)
    ∙ events_blamed r.events

-- ---- a demand

pub demand_text : (d : RunDemand) (s : Settings) (files : Files)
    → report_of (levels_of None s) (native_of s) (trace_for_demand d s files)
    ≡ report_of (levels_of None s) (native_of s)
    (trace_for_demand (record d { pcs = false }) s files)
demand_text d s files =
    run_text d.pcs (levels_of None s) (native_of s) s.harts
    (symbol_records (content files d.program)) (run_for_demand d s files)
    (no_touch (symbols_of (content files d.program)))

pub demand_sited : (d : RunDemand) (s : Settings) (files : Files) → d.pcs ≡ true
    → RecordsSites d s files (trace_for_demand d s files)
demand_sited d s files pcs =
    let symbols = symbol_records (content files d.program) in
    let r = run_for_demand d s files in
    let none = no_touch (symbols_of (content files d.program)) in
    let stated = run-stated s.harts symbols r none in
    subst (λ (b : Bool). RecordsSites d s files (trace_for (version_with b) s.harts symbols r))
    (sym pcs) (record {
      header = stated.header;
      records = stated.records;
      ending = stated.ending;
      sites = ap (map sited) stated.sites;
      blamed = run_blamed s.harts symbols r none;
    })
