-- A worked filtered trace, closed by computing.
use Rattle.std.proofs.Common.{◌≡◌, ℕ, [], ◌∷◌, Some, None, refl}
use Rattle.base.specs.declared.access.Kind.{Kind}
use Rattle.base.specs.declared.access.Kind.TheVariants.{Read, Write}
use Rattle.base.specs.declared.ending.Outcome.TheVariants.{Exit}
use Rattle.sharing_rules.specs.Filtered.{filtered}
use Rattle.trace_format.specs.declared.record.TraceEnd.{TraceEnd}
use Rattle.trace_format.specs.declared.record.TraceRecord.{TraceRecord}
use Rattle.trace_format.specs.declared.record.TraceRecord.TheVariants as records
use Rattle.trace_filter.specs.Filtering.{filtered_items}

abbrev pub touch : Kind → ℕ → ℕ → ℕ → TraceRecord
touch kind hart addr pc =
    records.Touch (record { hart = hart; addr = addr; kind = kind; size = 4 }) (Some pc)

abbrev pub ends : ℕ → TraceEnd
ends accesses = record { outcome = Exit 0; steps = 7; accesses = accesses; whole = None }

-- a block and its end stay where they were among the accesses that are kept
one_trace : filtered_items 6 (touch Write 0 0x1000 0x44 ∷ records.Free 0x1100
    ∷ touch Read 1 0x1020 0x48 ∷ touch Write 0 0x1000 0x4c ∷ touch Read 0 0x1000 0x50
    ∷ records.Free 0x1200 ∷ records.End (ends 4) ∷ [])
    ≡ touch Write 0 0x1000 0x44 ∷ records.Free 0x1100
    ∷ touch Read 1 0x1020 0x48 ∷ touch Write 0 0x1000 0x4c
    ∷ records.Free 0x1200 ∷ records.End (record (ends 3) { whole = Some 4 }) ∷ []
unfolding filtered_items filtered
one_trace = refl
