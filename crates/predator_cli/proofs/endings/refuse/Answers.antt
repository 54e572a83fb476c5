use Rattle.predator_cli.proofs.FaultEnds.{faulty_for_memory}
use Rattle.predator_cli.proofs.endings.refuse.Goals as goal

pub returns-in-Err : goal.returns-in-Err
returns-in-Err g c = λ asked old faulty.
    c.print_fault-in-Err.ensures asked old
    (faulty_for_memory asked old (g.S.Shelf.outside c.args.shelf.now) c.args.status
    c.in_default.not-ReadFault c.in_default.not-WriteFault faulty)
