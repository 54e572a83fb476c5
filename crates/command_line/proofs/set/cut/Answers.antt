use Rattle.command_line.proofs.SetLemmas.{split_at_comma, split_without_comma, behind_shorter}
use Rattle.command_line.proofs.set.cut.Goals as goal

pub returns-in-Some-clause-shorter : goal.returns-in-Some-clause-shorter
returns-in-Some-clause-shorter c =
    behind_shorter c.args.text.now c.in-Some.part c.in-Some.rest c.in-Some.ensures.cases

pub returns-in-Some-clause-split : goal.returns-in-Some-clause-split
returns-in-Some-clause-split c =
    split_at_comma c.args.text.now c.in-Some.part c.in-Some.rest c.in-Some.ensures.cases

pub returns-in-None-clause-split : goal.returns-in-None-clause-split
returns-in-None-clause-split c = split_without_comma c.args.text.now c.in-None.ensures.cases
