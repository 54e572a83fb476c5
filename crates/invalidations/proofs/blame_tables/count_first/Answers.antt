use Rattle.std.proofs.Common.{rules}
use Rattle.invalidations.specs.Laws.BlameFits.{counted-new}
use Rattle.invalidations.proofs.blame_tables.count_first.Goals as goal

pub returns : goal.returns
returns c =
    counted-new c.args.table.now.entries c.insert.new.self.entries c.args.key c.args.same
    c.requires.new (search rules)
