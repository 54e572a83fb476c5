-- A filter of records, with one more.
use Rattle.std.proofs.Common.{◌≡◌, ℕ, List, [], ◌∷◌, ◌++◌, length, Option, Some, sym, ap, ◌∙◌}
use Rattle.std.proofs.Common.{append-nil, refl, subst}
use Rattle.access_filter.specs.Standing.{StandsFor, near_of}
use Rattle.base.specs.Touch.{Touch}
use Rattle.sharing_rules.specs.AccessLists.{AccessList}
use Rattle.sharing_rules.specs.Filtered.{filtered}
use Rattle.trace_format.specs.declared.record.TraceEnd.{TraceEnd}
use Rattle.trace_format.specs.declared.record.TraceRecord.{TraceRecord}
use Rattle.trace_format.specs.declared.record.TraceRecord.TheVariants as records
use Rattle.trace_format.specs.Laws.Touches.{touches-push}
use Rattle.trace_format.specs.Rules.{touches_in}
use Rattle.trace_filter.specs.Filtering.{filtered_item}
use Rattle.trace_filter.specs.Passages.{HasFiltered}
use Rattle.trace_filter.specs.declared.record_filter.RecordFilter.{RecordFilter}

-- a record that is no access and no end stays as it is
pub other_item : (k : ℕ) (t : AccessList) (item : TraceRecord)
    → ((a : Touch) (pc : Option ℕ) → item ≡ records.Touch a pc → ⊥)
    → ((e : TraceEnd) → item ≡ records.End e → ⊥)
    → (Some item ≡ filtered_item k t item) × (touches_in (item ∷ []) ≡ [])
other_item k t (records.Touch a pc) touch end = absurd (touch a pc refl)
other_item k t (records.Alloc addr size sites) touch end = (refl, refl)
other_item k t (records.Free addr) touch end = (refl, refl)
other_item k t (records.Symbol kind addr size name) touch end = (refl, refl)
other_item k t (records.End e) touch end = absurd (end e refl)

-- a record that is no access
pub quiet : (items : List TraceRecord) (item : TraceRecord) (f : RecordFilter)
    → touches_in (item ∷ []) ≡ [] → HasFiltered items f → HasFiltered (items ++ item ∷ []) f
quiet items item f none has =
    let same : touches_in items ≡ touches_in (items ++ item ∷ []) =
    sym (touches-push items item ∙ ap (λ xs. touches_in items ++ xs) none
    ∙ append-nil (touches_in items)) in
    record {
      stands = subst (λ (t : AccessList). StandsFor t f.filter) same has.stands;
      kept = subst (λ (t : AccessList). f.kept ≡ length (filtered (near_of f.filter) t)) same
          has.kept;
    }

-- an access
pub touched : (items : List TraceRecord) (a : Touch) (pc : Option ℕ) (f : RecordFilter)
    → StandsFor (touches_in items ++ a ∷ []) f.filter
    → f.kept ≡ length (filtered (near_of f.filter) (touches_in items ++ a ∷ []))
    → HasFiltered (items ++ records.Touch a pc ∷ []) f
touched items a pc f stands kept =
    let same = sym (touches-push items (records.Touch a pc)) in
    record {
      stands = subst (λ (t : AccessList). StandsFor t f.filter) same stands;
      kept = subst (λ (t : AccessList). f.kept ≡ length (filtered (near_of f.filter) t)) same kept;
    }
