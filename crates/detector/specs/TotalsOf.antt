-- What the lines of an access list come to.
use Rattle.std.specs.Prelude.{length, sum_by}
use Rattle.base.specs.Levels.{Levels}
use Rattle.base.specs.Lines.{Grid}
use Rattle.sharing_rules.specs.AccessLists.{AccessList}
use Rattle.sharing_rules.specs.Listed.{listed, observed_lines, tracked}
use Rattle.detector.specs.declared.totals.Totals.{Totals}

-- how many lines are tracked, how many are listed, and the sum of the counts of the observed ones
unfoldable pub totals_of : Grid → Levels → AccessList → Totals
totals_of g v t = record {
  tracked = length (tracked g v t);
  listed = length (listed g v t);
  invalidations = sum_by (λ f. f.count) (observed_lines g v.tracking t);
}
