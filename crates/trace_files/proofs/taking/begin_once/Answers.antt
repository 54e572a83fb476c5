use Rattle.std.proofs.Common.{List, Some, subst, sym}
use Rattle.trace_format.specs.declared.record.Header.{Header}
use Rattle.trace_format.specs.declared.record.TraceRecord.{TraceRecord}
use Rattle.trace_format.specs.declared.record.Version.{Version}
use Rattle.trace_files.specs.declared.move_fault.MoveFault.{MoveFault}
use Rattle.trace_files.specs.Movers.{HasMoved, StopsAt}
use Rattle.trace_files.proofs.Takings.{cut_header, not_begun, stops_by}
use Rattle.trace_files.proofs.taking.begin_once.Goals as goal

pub returns-in-Ok-clause-moved : goal.returns-in-Ok-clause-moved
returns-in-Ok-clause-moved g c = λ table known seen before has follows.
    let m = c.args.mover.now in
    let head : Version × Header = (c.args.version, c.args.header) in
    let none = not_begun table m.name.now m known seen before (g.S.Shelf.outside c.args.shelf.now)
    head has follows c.if-mover.false in
    subst (λ (l : List TraceRecord). HasMoved table m.name.now c.begin.new.self (Some head) l before
    (g.S.Shelf.outside c.begin.new.shelf)) (sym none.1)
    (c.in-Ok.ensures.moved table before none.0)

pub returns-in-Err-clause-stopped : goal.returns-in-Err-clause-stopped
returns-in-Err-clause-stopped g c = λ table known seen before has follows.
    let m = c.args.mover.now in
    let head : Version × Header = (c.args.version, c.args.header) in
    let new = g.S.Shelf.outside c.begin.new.shelf in
    let none = not_begun table m.name.now m known seen before (g.S.Shelf.outside c.args.shelf.now)
    head has follows c.if-mover.false in
    subst (λ (f : MoveFault). StopsAt table m.name.now (Some head) seen before new f)
    (sym c.write_fault.ensures)
    (stops_by table m.name.now (Some head) seen before new c.in-Err.error
    (cut_header table m.name.now head seen before new c.in-Err.error none.1
    (c.in-Err.ensures.cut table before none.0)))
