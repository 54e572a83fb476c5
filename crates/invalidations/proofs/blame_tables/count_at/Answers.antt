use Rattle.std.proofs.Common.{rules}
use Rattle.invalidations.specs.Laws.BlameFits.{counted-at, few-taken_at}
use Rattle.invalidations.proofs.blame_tables.count_at.Goals as goal

pub after-requires : goal.after-requires
after-requires c =
    few-taken_at c.args.table.now.entries c.args.key c.args.index c.in-Some.taken.now
    c.requires.found (search rules) c.requires.few

pub returns : goal.returns
returns c =
    counted-at c.args.table.now.entries _ c.args.key c.args.index c.in-Some.taken.now
    c.args.same c.requires.found (search rules) (search rules)
