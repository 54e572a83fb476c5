-- What a moved trace is for each list that was filtered, if it is filtered.
use Rattle.std.proofs.Common.{◌≡◌, ◌≢◌, ◌≤◌, List, [], ◌∷◌, refl, sym, ap, subst, arith}
use Rattle.filtered_counts.specs.Laws.Harts.{same-harts}
use Rattle.filtered_counts.specs.Laws.Same.{same-counts}
use Rattle.filtered_counts.specs.SameCounts.{SameCounts}
use Rattle.filtered_counts.specs.SameHarts.{IsSitedWithoutRedundant, SameHarts}
use Rattle.filtered_moves.specs.Laws.Moved.{free-whole, moved-sited, moved-without}
use Rattle.filtered_moves.specs.MovedSites.{moved_sited}
use Rattle.invalidations.specs.BlameRecords.{sited_by, sited_in}
use Rattle.invalidations.specs.Laws.BlameRecords.{sited-accesses}
use Rattle.invalidations.specs.declared.sited.Sited.{Sited}
use Rattle.sharing_rules.specs.AccessLists.{AccessList}
use Rattle.sharing_rules.specs.Filtered.{IsWithoutRedundant}
use Rattle.trace_files.specs.Moves.{IsFree, moved_in, moved_list}
use Rattle.trace_files.specs.Moving.{IsNearFiltered, moved, moved_items}
use Rattle.trace_files.specs.NearMoves.{IsNearTable}
use Rattle.trace_files.specs.Tables.{IsTable}
use Rattle.trace_files.specs.declared.move_row.Move.{Move}
use Rattle.trace_format.specs.Rules.{HasRegions, touches_in}
use Rattle.trace_format.specs.declared.record.Header.{Header}
use Rattle.trace_format.specs.declared.record.TraceRecord.{TraceRecord}
use Rattle.trace_format.specs.declared.record.TraceRecord.TheVariants as records
use Rattle.trace_format.specs.declared.record.Version.{Version}
use Rattle.trace_format.specs.declared.record.Version.TheVariants.{One, Two, Three, Four}
use Rattle.trace_passes.specs.Passes.{Trace}
use Rattle.predator_cli.specs.Relocate.{AreMovedWith, IsMovedWith, StandsForMoved}

-- regions have words
whole_words : (v : Version) (h : Header) → HasRegions v h → h.near ≢ 0 → 2 ≤ h.near
whole_words One h regions some = absurd (some regions)
whole_words Two h regions some = absurd (some regions)
whole_words Three h regions some = absurd (some regions)
whole_words Four h regions some = omega (arith, regions.1.0)

-- the accesses of moved records with their pcs are the moved ones
sited_moved : (table : List Move) (items : List TraceRecord)
    → sited_in (moved_items table items) ≡ moved_sited table (sited_in items)
sited_moved table [] = refl
sited_moved table (records.Touch a pc ∷ items) =
    ap (λ (l : List Sited). sited_by (moved_in table a) pc ∷ l) (sited_moved table items)
sited_moved table (records.Alloc addr size sites ∷ items) = sited_moved table items
sited_moved table (records.Free addr ∷ items) = sited_moved table items
sited_moved table (records.Symbol kind addr size symbol ∷ items) = sited_moved table items
sited_moved table (records.End e ∷ items) = sited_moved table items

module _ (table : List Move) (t : Trace) (is_table : IsTable table)
    (free : IsFree table (touches_in t.items)) (near : IsNearFiltered table t)
    (regions : HasRegions t.version t.header)
    (accesses : touches_in (moved table t).items ≡ moved_list table (touches_in t.items))
  where
    abbrev v : AccessList
    v = touches_in t.items

    moved_with : t.header.near ≢ 0 → (u : AccessList) → IsWithoutRedundant t.header.near u v
        → IsMovedWith table t u
    moved_with some u without =
        let k = t.header.near in
        let c = (moved table t).header.near in
        let less = moved-without k table u v (whole_words t.version t.header regions some) is_table
        (near some) without in
        record {
          free = free-whole k table u v is_table free without;
          rest = subst (λ (l : AccessList). IsWithoutRedundant c (moved_list table u) l)
              (sym accesses) less;
          counts = λ g within. subst (λ (l : AccessList). SameCounts g (moved_list table u) l)
              (sym accesses) (same-counts c g within (moved_list table u) (moved_list table v) less);
        }

    sited_with : t.header.near ≢ 0 → (u : List Sited)
        → IsSitedWithoutRedundant t.header.near u (sited_in t.items) → AreMovedWith table t u
    sited_with some u without =
        let k = t.header.near in
        let c = (moved table t).header.near in
        let w = sited_in t.items in
        let close = subst (λ (l : AccessList). IsNearTable k table l)
        (sym (sited-accesses t.items)) (near some) in
        let less = moved-sited k table u w (whole_words t.version t.header regions some) is_table
        close without in
        let same = sym (sited_moved table t.items) in
        record {
          rest = subst (λ (l : List Sited). IsSitedWithoutRedundant c (moved_sited table u) l) same
              less;
          harts = λ g within. subst (λ (l : List Sited). SameHarts g (moved_sited table u) l) same
              (same-harts c g within (moved_sited table u) (moved_sited table w) less);
        }

    pub stands_for : t.header.near ≢ 0 → StandsForMoved table t
    stands_for some = record { lists = moved_with some; sited_lists = sited_with some }
