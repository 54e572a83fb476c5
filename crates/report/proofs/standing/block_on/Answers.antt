use Rattle.report.proofs.StandingLaws.{block_exact}
use Rattle.report.proofs.standing.block_on.Goals as goal

pub returns-clause-exact : goal.returns-clause-exact
returns-clause-exact c = rw c.stands_between.ensures
    (block_exact c.args.range c.args.start c.args.end c.args.block.now)
