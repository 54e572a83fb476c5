-- What has been seen of the invalidations of all lines.
use Rattle.std.specs.Prelude.{ℕ}
use Rattle.std.specs.Prelude.{Option}
use Rattle.std.proofs.Common.{◌≡◌, List, [], ◌∷◌, refl, sym, ap, None}
use Rattle.std.proofs.lemmas.Option.{none-some}
use Rattle.base.specs.Lines.{Grid}
use Rattle.trace_format.specs.Rules.{touch_in, touches_in}
use Rattle.trace_format.specs.declared.record.TraceRecord.{TraceRecord}
use Rattle.trace_format.specs.declared.record.TraceRecord.TheVariants as records
use Rattle.invalidations.specs.BlameKept.{Blamed, StandsFor, nothing_blamed}
use Rattle.invalidations.specs.BlameRecords.{HasBlamed, blame_of_records, sited_in, sited_item}
use Rattle.invalidations.specs.BlameText.{blame_text}
use Rattle.invalidations.specs.Latest.{accesses_of}
use Rattle.invalidations.specs.Laws.BlameKept.{stands-empty}

-- without its pcs the list is that of the accesses
pub sited-accesses : (items : List TraceRecord) → accesses_of (sited_in items) ≡ touches_in items
sited-accesses [] = refl
sited-accesses (records.Touch a pc ∷ items) = ap (λ t. a ∷ t) (sited-accesses items)
sited-accesses (records.Alloc addr size sites ∷ items) = sited-accesses items
sited-accesses (records.Free addr ∷ items) = sited-accesses items
sited-accesses (records.Symbol kind addr size name ∷ items) = sited-accesses items
sited-accesses (records.End e ∷ items) = sited-accesses items

-- what is no access has no site
pub no_site : (x : TraceRecord) → touch_in x ≡ None → sited_item x ≡ None
no_site (records.Touch a pc) none = absurd (none-some a (sym none))
no_site (records.Alloc addr size sites) none = refl
no_site (records.Free addr) none = refl
no_site (records.Symbol kind addr size name) none = refl
no_site (records.End e) none = refl

-- where it has seen records from the beginning, it stands for their list, and the text of that is
-- the records'
pub stands-seen : (g : Grid) (now : Blamed) (items : List TraceRecord)
    → HasBlamed (nothing_blamed g) now items → StandsFor (sited_in items) now
stands-seen g now items seen = seen.stands [] (stands-empty g)

pub text-seen : (g : Grid) (whole : Option ℕ) (now : Blamed) (items : List TraceRecord)
    → HasBlamed (nothing_blamed g) now items
    → blame_text now.grid whole (sited_in items) ≡ blame_of_records g whole items
unfolding blame_of_records
text-seen g whole now items seen = ap (λ (q : Grid). blame_text q whole (sited_in items)) seen.setting
