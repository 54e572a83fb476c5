use Rattle.std.proofs.Common.{List, subst, sym}
use Rattle.command_io.specs.Readings.{IsStopped, Reading}
use Rattle.predator_cli.proofs.counter.count.Goals as goal

pub returns-in-Ok : goal.returns-in-Ok
returns-in-Ok g c =
    let name = c.args.name.now in
    let under = c.args.under in
    let asked = g.met.C.Counter.answers name under in
    c.print_text.ensures (g.C.Counter.asks name under) (g.C.Counter.WANTED under) (g.C.Counter.says under) name
    (g.S.Shelf.outside c.args.shelf.now) asked.reads asked.works asked.repeats
    (rw c.deref.ensures.value c.in-Ok.ensures.counted)

pub returns-in-Err : goal.returns-in-Err
returns-in-Err g c =
    let name = c.args.name.now in
    let under = c.args.under in
    let old = g.S.Shelf.outside c.args.shelf.now in
    c.stop.ensures (g.C.Counter.asks name under) old
    (subst (λ (rs : List Reading). IsStopped rs old (g.S.Shelf.outside c.counted.new.shelf)
    c.in-Err.status) (sym (g.met.C.Counter.answers name under).first) c.in-Err.ensures.stopped)
