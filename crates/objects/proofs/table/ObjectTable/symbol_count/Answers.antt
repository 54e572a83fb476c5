use Rattle.objects.specs.Laws.Apart.{each_apart}
use Rattle.objects.proofs.table.ObjectTable.symbol_count.Goals as goal

pub returns-clause-apart : goal.returns-clause-apart
returns-clause-apart c = rw (← c.self.view_is) (each_apart _ c.self.invariant.0)
