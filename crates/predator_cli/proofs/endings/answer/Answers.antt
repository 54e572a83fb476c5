use Rattle.predator_cli.proofs.Ends.{answered_worked}
use Rattle.predator_cli.proofs.endings.answer.Goals as goal

pub returns : goal.returns
returns g c = λ demand old answered.
    c.finish.ensures demand old (answered_worked demand old (g.S.Shelf.outside c.args.shelf.now)
    c.args.text.now answered)
