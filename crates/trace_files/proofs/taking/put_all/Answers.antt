use Rattle.std.proofs.lemmas.List.{take_all}
use Rattle.trace_files.proofs.Takings.{may_put, moved_all, moved_next, stops_next}
use Rattle.trace_files.proofs.taking.put_all.Goals as goal

pub put_one-requires-clause-way : goal.put_one-requires-clause-way
put_one-requires-clause-way g c =
    may_put c.args.table.now c.args.items.now c.loop-item.item-index c.args.mover.now
    c.loop-item.mover (g.S.Shelf.outside c.args.shelf.now) (g.S.Shelf.outside c.loop-item.shelf)
    c.loop-item.invariant c.item-item.result c.loop-item-test.true c.item-item.is c.requires.way

pub returns-in-Err-clause-stopped : goal.returns-in-Err-clause-stopped
returns-in-Err-clause-stopped g c =
    stops_next c.args.table.now c.args.items.now c.loop-item.item-index c.args.mover.now
    c.loop-item.mover (g.S.Shelf.outside c.args.shelf.now) (g.S.Shelf.outside c.loop-item.shelf)
    c.loop-item.invariant c.item-item.result c.loop-item-test.true c.item-item.is
    (g.S.Shelf.outside c.put_one.new.shelf) c.in-Err.fault c.in-Err.ensures.stopped

pub loop-item-preserved : goal.loop-item-preserved
loop-item-preserved g c =
    moved_next c.args.table.now c.args.items.now c.loop-item.item-index c.args.mover.now
    c.loop-item.mover (g.S.Shelf.outside c.args.shelf.now) (g.S.Shelf.outside c.loop-item.shelf)
    c.loop-item.invariant c.item-item.result c.loop-item-test.true c.item-item.is
    c.put_one.new.mover (g.S.Shelf.outside c.put_one.new.shelf) c.put_one.ensures.name
    c.put_one.ensures.keeps_held c.in-Ok.ensures.moved

pub returns-clause-moved : goal.returns-clause-moved
returns-clause-moved g c =
    moved_all c.args.table.now c.args.items.now c.loop-item.item-index c.args.mover.now
    c.loop-item.mover (g.S.Shelf.outside c.args.shelf.now) (g.S.Shelf.outside c.loop-item.shelf)
    c.loop-item.invariant
    (take_all c.loop-item.item-index c.args.items.now c.loop-item-test.false)
