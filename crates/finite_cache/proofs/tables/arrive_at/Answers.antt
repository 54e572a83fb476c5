use Rattle.std.proofs.Common.{rules}
use Rattle.finite_cache.specs.Laws.Tables.{refused-same}
use Rattle.finite_cache.proofs.tables.arrive_at.Goals as goal

pub returns-in-Some-clause-refused : goal.returns-in-Some-clause-refused
returns-in-Some-clause-refused c =
    refused-same c.arrive.result c.args.lines.now.entries c.args.index c.in-Some.line.now
    c.arrive.new.self (search rules) c.arrive.ensures.refused
