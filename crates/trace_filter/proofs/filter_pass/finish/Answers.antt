use Rattle.trace_filter.proofs.OnItsWay.{cut_by, written_by}
use Rattle.trace_filter.proofs.filter_pass.finish.Goals as goal

pub returns-in-Ok-clause-written : goal.returns-in-Ok-clause-written
returns-in-Ok-clause-written g c = λ k name head seen before way.
    written_by k name c.args.file.now c.in-Some.begun head seen before
    (g.S.Shelf.outside c.args.shelf.now) (g.S.Shelf.outside c.finish.new.shelf) c.in-Some.is
    c.in-Ok.ensures.written way

pub returns-in-Err-clause-cut : goal.returns-in-Err-clause-cut
returns-in-Err-clause-cut g c = λ k name head seen before way.
    cut_by k name c.args.file.now c.in-Some.begun head seen before
    (g.S.Shelf.outside c.args.shelf.now) (g.S.Shelf.outside c.finish.new.shelf) c.in-Err.error
    c.in-Some.is c.in-Err.ensures.cut way
