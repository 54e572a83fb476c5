-- An end shows nothing: it is no access, no block and no symbol.
use Rattle.std.proofs.Common.{◌≡◌, ℕ, ◌+◌, List, [], ◌∷◌, ◌++◌, length, refl, ap, ◌∙◌, subst}
use Rattle.std.proofs.lemmas.List.{append-nil}
use Rattle.std.proofs.lemmas.List.Elements.{filter_map-append}
use Rattle.base.specs.Levels.{Levels}
use Rattle.base.specs.Lines.{Grid}
use Rattle.base.specs.declared.ending.Ending.{Ending}
use Rattle.trace_format.specs.declared.record.TraceEnd.{TraceEnd}
use Rattle.objects.specs.Objects.{Objects, no_objects}
use Rattle.objects.specs.Symbols.{symbols_of}
use Rattle.sharing_rules.specs.AccessLists.{AccessList}
use Rattle.detector.specs.Standing.{StandsFor}
use Rattle.report.specs.OfLists.{report_of}
use Rattle.trace_format.specs.Rules.{touch_in, touches_in}
use Rattle.trace_format.specs.declared.record.TraceRecord.{TraceRecord}
use Rattle.trace_format.specs.declared.record.TraceRecord.TheVariants as records
use Rattle.trace_passes.specs.Laws.Lives.{blocks_behind, blocks_behind-push, none_ended}
use Rattle.trace_passes.specs.Laws.Lives.{position_after}
use Rattle.trace_passes.specs.Lives.{objects_after, symbol_in, symbols_in}
use Rattle.observations.specs.Seen.{HasSeen, report_of_records}
use Rattle.observations.specs.ObservedTraces.{ObservedTrace, noted, observed_after}

-- one record more is noted last
pub observed_after-push : (s : ObservedTrace) (items : List TraceRecord) (x : TraceRecord)
    → observed_after s (items ++ x ∷ []) ≡ noted (observed_after s items) x
observed_after-push s [] x = refl
observed_after-push s (item ∷ items) x = observed_after-push (noted s item) items x

module _ (items : List TraceRecord) (e : TraceEnd) where
  touches-end : touches_in (items ++ records.End e ∷ []) ≡ touches_in items
  touches-end = filter_map-append touch_in items (records.End e ∷ [])
      ∙ append-nil (touches_in items)

  symbols-end : symbols_in (items ++ records.End e ∷ []) ≡ symbols_in items
  symbols-end = filter_map-append symbol_in items (records.End e ∷ [])
      ∙ append-nil (symbols_in items)

  pub objects_after-end : (before : Objects) (position : ℕ)
      → objects_after before position (items ++ records.End e ∷ []) ≡ objects_after before position
      items
  objects_after-end before position =
      let old = blocks_behind before.blocks position items in
      let new = blocks_behind before.blocks position (items ++ records.End e ∷ []) in
      let blocks : new ≡ old =
      blocks_behind-push before.blocks position items (records.End e) ∙ append-nil _
      ∙ none_ended (position_after position items) (records.End e) (λ addr. refl) old in
      ap (λ ss. record { symbols = symbols_of (before.symbols ++ ss); blocks = new }) symbols-end
      ∙ ap (λ bs. record { symbols = symbols_of (before.symbols ++ symbols_in items); blocks = bs })
      blocks

  pub report_of_records-end : (ending : Ending) (g : Grid) (v : Levels)
      → report_of_records ending g v (items ++ records.End e ∷ []) ≡ report_of_records ending g v
      items
  unfolding report_of_records
  report_of_records-end ending g v =
      ap (λ (o : Objects). report_of ending g v o (touches_in (items ++ records.End e ∷ [])))
      (objects_after-end no_objects 0)
      ∙ ap (λ (t : AccessList). report_of ending g v (objects_after no_objects 0 items) t)
      touches-end

  pub HasSeen-end : (begun now : ObservedTrace) → HasSeen begun now (items ++ records.End e ∷ [])
      → HasSeen begun now items
  HasSeen-end begun now seen = record {
    value = seen.value ∙ observed_after-push begun items (records.End e);
    accesses = record {
      stands = λ t stood. subst (λ (list : AccessList). StandsFor (t ++ list) now.watch) touches-end
          (seen.accesses.stands t stood);
      position = seen.accesses.position
          ∙ ap (λ (list : AccessList). begun.watch.position + length list) touches-end;
      setting = seen.accesses.setting;
    };
    objects = seen.objects ∙ objects_after-end begun.objects begun.watch.position;
  }
