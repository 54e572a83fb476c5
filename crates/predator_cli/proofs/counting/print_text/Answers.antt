use Rattle.predator_cli.proofs.CountingEnds.{counted_answered}
use Rattle.predator_cli.proofs.counting.print_text.Goals as goal

pub returns : goal.returns
returns g c = λ demand wanted says name old readings works again ready.
    c.answer.ensures demand old
    (counted_answered demand wanted says name old (g.S.Shelf.outside c.args.shelf.now)
    c.args.text.now readings works again ready)
