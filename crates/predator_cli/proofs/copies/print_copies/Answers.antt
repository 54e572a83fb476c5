use Rattle.std.proofs.Common.{Some}
use Rattle.predator_cli.proofs.Ends.{finish_unknown}
use Rattle.predator_cli.proofs.copies.print_copies.Goals as goal

pub returns-in-Err : goal.returns-in-Err
returns-in-Err g c = λ demand old worked.
    c.refuse.ensures (Some demand) old (finish_unknown demand old
    (g.S.Shelf.outside c.args.shelf.now) _ _ worked)
