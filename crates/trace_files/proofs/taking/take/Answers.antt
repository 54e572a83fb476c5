use Rattle.std.proofs.Common.{◌++◌, List, Option, OnOk, Some, [], subst, sym}
use Rattle.std.proofs.lemmas.Result.{IfErr-weaker, on_ok_weaker}
use Rattle.shelf.specs.Shelf.{Outside}
use Rattle.trace_format.specs.declared.record.Header.{Header}
use Rattle.trace_format.specs.declared.record.TraceRecord.{TraceRecord}
use Rattle.trace_format.specs.declared.record.Version.{Version}
use Rattle.trace_files.specs.Movers.{Follows, HasMoved, MayTake, StopsAt}
use Rattle.trace_files.proofs.Takings.{follows_any, stops_on, then_moved, then_put, then_stopped}
use Rattle.trace_files.proofs.taking.take.Goals as goal

pub put_all-requires-clause-way : goal.put_all-requires-clause-way
put_all-requires-clause-way g c =
    let head : Version × Header = (c.in-Some.version, c.in-Some.header) in
    then_put c.args.table.now c.args.mover.now c.begin_once.new.mover head c.args.items.now
    (g.S.Shelf.outside c.args.shelf.now) (g.S.Shelf.outside c.begin_once.new.shelf)
    c.begin_once.ensures.name (c.in-Ok.ensures.moved c.args.table.now)
    (subst (λ (h : Option (Version × Header)). MayTake c.args.table.now c.args.mover.now h
    c.args.items.now (g.S.Shelf.outside c.args.shelf.now)) c.in-Some.is c.requires.way)

pub returns-in-Ok-clause-moved : goal.returns-in-Ok-clause-moved
returns-in-Ok-clause-moved g c =
    let t = c.args.table.now in
    let m = c.args.mover.now in
    let items = c.args.items.now in
    let head : Version × Header = (c.in-Some.version, c.in-Some.header) in
    let old = g.S.Shelf.outside c.args.shelf.now in
    let new = g.S.Shelf.outside c.put_all.new.shelf in
    subst (λ (h : Option (Version × Header)). OnOk c.put_all.result
    ((known : Option (Version × Header)) (seen : List TraceRecord) (before : Outside)
    → HasMoved t m.name.now m known seen before old → Follows known seen h items
    → HasMoved t m.name.now c.put_all.new.mover h (seen ++ items) before new))
    (sym c.in-Some.is)
    (on_ok_weaker c.put_all.result
    (then_moved t m c.begin_once.new.mover head items old
    (g.S.Shelf.outside c.begin_once.new.shelf) c.begin_once.ensures.name (c.in-Ok.ensures.moved t)
    c.put_all.new.mover new) c.put_all.ensures.moved)

pub returns-in-Ok-clause-stopped : goal.returns-in-Ok-clause-stopped
returns-in-Ok-clause-stopped g c =
    let t = c.args.table.now in
    let m = c.args.mover.now in
    let items = c.args.items.now in
    let head : Version × Header = (c.in-Some.version, c.in-Some.header) in
    let old = g.S.Shelf.outside c.args.shelf.now in
    let new = g.S.Shelf.outside c.put_all.new.shelf in
    IfErr-weaker c.put_all.result _ _
    (λ fault put.
    subst (λ (h : Option (Version × Header)). (known : Option (Version × Header))
    (seen : List TraceRecord) (before : Outside)
    → HasMoved t m.name.now m known seen before old → Follows known seen h items
    → StopsAt t m.name.now h (seen ++ items) before new fault) (sym c.in-Some.is)
    (then_stopped t m c.begin_once.new.mover head items old
    (g.S.Shelf.outside c.begin_once.new.shelf) c.begin_once.ensures.name (c.in-Ok.ensures.moved t)
    new fault put)) c.put_all.ensures.stopped

pub returns-in-Err-clause-stopped : goal.returns-in-Err-clause-stopped
returns-in-Err-clause-stopped g c =
    let t = c.args.table.now in
    let m = c.args.mover.now in
    let items = c.args.items.now in
    let head : Version × Header = (c.in-Some.version, c.in-Some.header) in
    let old = g.S.Shelf.outside c.args.shelf.now in
    let new = g.S.Shelf.outside c.begin_once.new.shelf in
    let fault = c.in-Err.fault in
    subst (λ (h : Option (Version × Header)). (known : Option (Version × Header))
    (seen : List TraceRecord) (before : Outside)
    → HasMoved t m.name.now m known seen before old → Follows known seen h items
    → StopsAt t m.name.now h (seen ++ items) before new fault) (sym c.in-Some.is)
    (λ known seen before has follows. stops_on t m.name.now (Some head) seen items before new fault
    (c.in-Err.ensures.stopped t known seen before has
    (follows_any known seen head items [] follows)))
