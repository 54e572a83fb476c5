use Rattle.std.proofs.lemmas.Result.{IfErr-weaker}
use Rattle.trace_format.specs.declared.record.Header.{Header}
use Rattle.trace_format.specs.declared.record.Version.{Version}
use Rattle.trace_filter.proofs.OnItsWay.{first_came, first_cut, more_cut}
use Rattle.trace_filter.proofs.filter_pass.take.Goals as goal

pub returns-in-Some-file-clause-cut : goal.returns-in-Some-file-clause-cut
returns-in-Some-file-clause-cut g c =
    IfErr-weaker c.put_all.result _ _
    (λ error cut known seen before way follows.
    more_cut c.args.near c.args.name.now c.args.file.now c.in-Some-file.begun known c.args.head seen
    c.args.items.now before (g.S.Shelf.outside c.args.shelf.now)
    (g.S.Shelf.outside c.put_all.new.shelf) error cut.0 c.in-Some-file.is cut.1 way follows)
    c.put_all.ensures.cut

pub returns-in-Ok-clause-came : goal.returns-in-Ok-clause-came
returns-in-Ok-clause-came g c = λ known seen before way follows.
    let h : Version × Header = (c.in-Some.field-0-0, c.in-Some.header) in
    first_came c.args.near c.args.name.now c.args.file.now c.in-Ok.begun known c.args.head h seen
    c.args.items.now before (g.S.Shelf.outside c.args.shelf.now)
    (g.S.Shelf.outside c.begin_with.new.shelf) c.in-None.is c.in-Some.is c.in-Ok.ensures.came way
    follows

pub returns-in-Err-clause-cut : goal.returns-in-Err-clause-cut
returns-in-Err-clause-cut g c = λ known seen before way follows.
    let h : Version × Header = (c.in-Some.field-0-0, c.in-Some.header) in
    first_cut c.args.near c.args.name.now c.args.file.now known c.args.head h seen
    c.args.items.now before (g.S.Shelf.outside c.args.shelf.now)
    (g.S.Shelf.outside c.begin_with.new.shelf) c.in-Err.error c.in-None.is c.in-Some.is
    (c.in-Err.ensures.cut c.in-Some.field-0-0) way follows
