use Rattle.report.proofs.StandingLaws.{symbol_exact}
use Rattle.report.proofs.standing.symbol_on.Goals as goal

pub returns-clause-exact : goal.returns-clause-exact
returns-clause-exact c = rw c.do_meet.ensures (symbol_exact c.args.range c.args.addr c.args.size)
