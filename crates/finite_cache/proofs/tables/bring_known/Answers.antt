use Rattle.std.proofs.Common.{rules}
use Rattle.finite_cache.specs.Laws.Tables.{refused-same}
use Rattle.finite_cache.proofs.tables.bring_known.Goals as goal

pub returns-in-Some-clause-refused : goal.returns-in-Some-clause-refused
returns-in-Some-clause-refused c =
    refused-same c.bring.result c.args.sets.now.entries c.args.index c.in-Some.set.now
    c.bring.new.self (search rules) c.bring.ensures.refused
