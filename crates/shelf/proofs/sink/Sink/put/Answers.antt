use Rattle.shelf.proofs.Lasting.{stays_same}
use Rattle.shelf.proofs.Fronts.{on_err, front_of_more}
use Rattle.shelf.proofs.sink.Sink.put.Goals as goal

pub returns-in_err-extend_from_slice-clause-front :
    goal.returns-in_err-extend_from_slice-clause-front
returns-in_err-extend_from_slice-clause-front g c =
    on_err c.from_residual.result
    (λ pushed sunk. front_of_more c.args.self.now pushed c.args.bytes.now
    (g.S.Shelf.outside c.args.shelf.now) sunk)

pub finish-requires : goal.finish-requires
finish-requires g c = rw (← c.self.view_is) at c.requires

pub returns-in_err-extend_from_slice-clause-stays :
    goal.returns-in_err-extend_from_slice-clause-stays
returns-in_err-extend_from_slice-clause-stays g c =
    stays_same (g.S.Shelf.outside c.args.shelf.now)
