-- What a trace with pcs records beside one without: the same records but for the pcs, and the pcs.
use Rattle.std.proofs.Common.{◌≡◌, ◌∙◌, ℕ, List, [], ◌∷◌, ◌++◌, None, refl, sym, ap}
use Rattle.std.proofs.lemmas.List.{map-append}
use Rattle.std.proofs.lemmas.List.Elements.{filter_map-append}
use Rattle.base.specs.Touch.{Touch as ATouch}
use Rattle.guest.specs.GuestCalls.{RunEvent, quiet, touch, alloc, free, output}
use Rattle.guest.specs.Runs.{Run, sited_among, sited_of}
use Rattle.trace_format.specs.Pcs.{without_pc, without_pcs}
use Rattle.trace_format.specs.Rules.{touches_in}
use Rattle.trace_format.specs.declared.record.TraceRecord.{TraceRecord}
use Rattle.trace_format.specs.declared.record.TraceRecord.TheVariants as records
use Rattle.trace_format.specs.declared.record.Version.TheVariants.{One, Three}
use Rattle.run_recorder.specs.Recorded.{RecordsRun, records_in, records_of, sited_record}
use Rattle.run_recorder.specs.Recorded.{sited_records, trace_for}

-- the pcs of accesses change none of them
pub touches-without : (items : List TraceRecord) → touches_in (without_pcs items) ≡ touches_in items
touches-without [] = refl
touches-without (records.Touch a pc ∷ items) =
    ap (λ (l : List ATouch). a ∷ l) (touches-without items)
touches-without (records.Alloc addr size sites ∷ items) = touches-without items
touches-without (records.Free addr ∷ items) = touches-without items
touches-without (records.Symbol kind addr size name ∷ items) = touches-without items
touches-without (records.End e ∷ items) = touches-without items

-- ---- records without an access

no_site : (items : List TraceRecord) → touches_in items ≡ [] → sited_records items ≡ []
no_site [] none = refl
no_site (records.Touch a pc ∷ items) none = cc
no_site (records.Alloc addr size sites ∷ items) none = no_site items none
no_site (records.Free addr ∷ items) none = no_site items none
no_site (records.Symbol kind addr size name ∷ items) none = no_site items none
no_site (records.End e ∷ items) none = no_site items none

no_pc : (items : List TraceRecord) → touches_in items ≡ [] → without_pcs items ≡ items
no_pc [] none = refl
no_pc (records.Touch a pc ∷ items) none = cc
no_pc (records.Alloc addr size sites ∷ items) none =
    ap (λ (l : List TraceRecord). records.Alloc addr size sites ∷ l) (no_pc items none)
no_pc (records.Free addr ∷ items) none =
    ap (λ (l : List TraceRecord). records.Free addr ∷ l) (no_pc items none)
no_pc (records.Symbol kind addr size name ∷ items) none =
    ap (λ (l : List TraceRecord). records.Symbol kind addr size name ∷ l) (no_pc items none)
no_pc (records.End e ∷ items) none =
    ap (λ (l : List TraceRecord). records.End e ∷ l) (no_pc items none)

-- ---- records of events

events_sited : (events : List RunEvent)
    → sited_records (records_in Three events) ≡ sited_among events
events_sited [] = refl
events_sited (quiet ∷ events) = events_sited events
events_sited (touch a pc ∷ events) =
    ap (λ (l : List (ATouch × ℕ)). (a, pc) ∷ l) (events_sited events)
events_sited (alloc at size sites ∷ events) = events_sited events
events_sited (free at ∷ events) = events_sited events
events_sited (output at bytes ∷ events) = events_sited events

events_plain : (events : List RunEvent)
    → without_pcs (records_in Three events) ≡ records_in One events
events_plain [] = refl
events_plain (quiet ∷ events) = events_plain events
events_plain (touch a pc ∷ events) =
    ap (λ (l : List TraceRecord). records.Touch a None ∷ l) (events_plain events)
events_plain (alloc at size sites ∷ events) =
    ap (λ (l : List TraceRecord). records.Alloc at size sites ∷ l) (events_plain events)
events_plain (free at ∷ events) =
    ap (λ (l : List TraceRecord). records.Free at ∷ l) (events_plain events)
events_plain (output at bytes ∷ events) = events_plain events

-- ---- those of a run

pub run-sited : (symbols : List TraceRecord) (r : Run) → touches_in symbols ≡ []
    → sited_records (records_of Three symbols r) ≡ sited_of r
run-sited symbols r none =
    filter_map-append sited_record symbols (records_in Three r.events)
    ∙ ap (λ (l : List (ATouch × ℕ)). l ++ sited_records (records_in Three r.events))
    (no_site symbols none)
    ∙ events_sited r.events

pub run-plain : (symbols : List TraceRecord) (r : Run) → touches_in symbols ≡ []
    → without_pcs (records_of Three symbols r) ≡ records_of One symbols r
run-plain symbols r none =
    map-append without_pc symbols (records_in Three r.events)
    ∙ ap (λ (l : List TraceRecord). l ++ without_pcs (records_in Three r.events))
    (no_pc symbols none)
    ∙ ap (λ (l : List TraceRecord). symbols ++ l) (events_plain r.events)

pub run-stated : (harts : ℕ) (symbols : List TraceRecord) (r : Run) → touches_in symbols ≡ []
    → RecordsRun harts symbols r (trace_for Three harts symbols r)
run-stated harts symbols r none =
    let plain = run-plain symbols r none in
    record {
      header = refl;
      records = plain;
      accesses = sym (touches-without (records_of Three symbols r)) ∙ ap touches_in plain;
      ending = refl;
      sites = run-sited symbols r none;
    }
