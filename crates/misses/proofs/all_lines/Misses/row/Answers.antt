use Rattle.std.proofs.Common.{◌∙◌}
use Rattle.misses.specs.Laws.Totals.{row-stands}
use Rattle.misses.proofs.all_lines.Misses.row.Goals as goal

pub returns-clause-stands : goal.returns-clause-stands
returns-clause-stands c = λ t stands.
    c.kept_row.ensures ∙ row-stands c.args.self.now t c.args.index stands
