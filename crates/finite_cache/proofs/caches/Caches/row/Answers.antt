use Rattle.std.proofs.Common.{◌∙◌}
use Rattle.finite_cache.specs.Laws.Stands.{row-stands}
use Rattle.finite_cache.proofs.caches.Caches.row.Goals as goal

pub returns-clause-stands : goal.returns-clause-stands
returns-clause-stands c = λ t stands.
    c.kept_row.ensures ∙ row-stands c.args.self.now t c.args.index stands
