use Rattle.shelf.specs.OneFile.{Waiting}
use Rattle.shelf.proofs.Lasting.{stays_added, stays_cut, stays_same}
use Rattle.shelf.proofs.Fronts.{on_err, front_of_sent}
use Rattle.shelf.proofs.sink.Sink.finish.Goals as goal

pub append-requires : goal.append-requires
append-requires g c = rw (← c.self.view_is) at c.requires

pub returns-in_err-append-clause-front : goal.returns-in_err-append-clause-front
returns-in_err-append-clause-front g c =
    let sink : Waiting = record { name = c.self.inside.name.now; kept = c.self.inside.kept.items }
    in
    on_err c.from_residual.result (rw (← c.self.view_is)
    (λ pushed sunk. front_of_sent sink pushed c.deref.result.now
    (g.S.Shelf.outside c.args.shelf.now)
    (g.S.Shelf.outside c.append.new.self)
    c.deref.ensures.value sunk c.in_err-append.ensures.appends))

pub returns-then-is_empty-clause-stays : goal.returns-then-is_empty-clause-stays
returns-then-is_empty-clause-stays g c = stays_same (g.S.Shelf.outside c.args.shelf.now)

pub returns-in_err-append-clause-stays : goal.returns-in_err-append-clause-stays
returns-in_err-append-clause-stays g c =
    stays_cut c.self.inside.name.now c.deref.result.now (g.S.Shelf.outside c.args.shelf.now)
    (g.S.Shelf.outside c.append.new.self) c.in_err-append.ensures.appends

pub returns-clause-stays : goal.returns-clause-stays
returns-clause-stays g c =
    stays_added c.self.inside.name.now c.deref.result.now (g.S.Shelf.outside c.args.shelf.now)
    (g.S.Shelf.outside c.append.new.self) c.in_ok-append.ensures.appends
