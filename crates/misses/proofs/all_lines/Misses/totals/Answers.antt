use Rattle.std.proofs.Common.{◌≡◌, ◌∙◌, sym, subst}
use Rattle.misses.specs.MissCounts.{MissCounts, StandsFor}
use Rattle.misses.specs.Laws.Totals.{totals-stand}
use Rattle.misses.specs.Rows.{all_costs}
use Rattle.misses.proofs.all_lines.Misses.totals.Goals as goal

pub returns-clause-stands : goal.returns-clause-stands
returns-clause-stands c =
    let s = c.self.inside in
    λ t stands.
    let here = subst (StandsFor t) (sym c.self.view_is) stands in
    subst (λ (k : MissCounts). c.costs.result ≡ all_costs k.grid t) c.self.view_is
    (c.costs.ensures ∙ totals-stand (record {
      grid = s.layout;
      position = s.position;
      totals = s.totals;
      lines = s.lines.entries;
    }) t c.self.invariant.2 here)
