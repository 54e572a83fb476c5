use Rattle.std.proofs.Common.{sym}
use Rattle.invalidations.proofs.PlaceLaws.{line-found}
use Rattle.invalidations.proofs.blame_tables.is_line_at.Goals as goal

pub returns-in-Some-clause-found : goal.returns-in-Some-clause-found
returns-in-Some-clause-found c = λ same.
    line-found c.args.lines.now.entries c.args.guess c.in-Some.found.now c.args.line
    c.in-Some.field-0-1.now c.len.ensures.unique (sym c.in-Some.ensures.entry) same
