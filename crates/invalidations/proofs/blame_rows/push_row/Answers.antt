use Rattle.std.proofs.Common.{sym}
use Rattle.invalidations.proofs.BlameLaws.{pushed-in}
use Rattle.invalidations.proofs.blame_rows.push_row.Goals as goal

pub returns-in-Some : goal.returns-in-Some
returns-in-Some c =
    pushed-in c.push_at.result c.args.gathered.now.entries c.push_at.new.gathered.entries
    c.args.line c.in-Some.index c.args.row (sym c.in-Some.ensures.index) c.in-Some.ensures.value
    c.in-Some.ensures.found c.push_at.ensures
