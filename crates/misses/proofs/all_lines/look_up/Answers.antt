use Rattle.std.proofs.Common.{sym}
use Rattle.misses.specs.Laws.Fits.{insert_entry-at}
use Rattle.misses.proofs.all_lines.look_up.Goals as goal

pub returns-in-Some-clause-index : goal.returns-in-Some-clause-index
returns-in-Some-clause-index c = λ l.
    insert_entry-at c.args.lines.now.entries c.args.number c.in-Some.index l
    (sym c.in-Some.ensures.index)
