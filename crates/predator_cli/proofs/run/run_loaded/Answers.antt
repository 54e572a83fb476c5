use Rattle.std.proofs.Common.{Some, refl}
use Rattle.command_line.specs.Run.{run_meaning}
use Rattle.command_line.specs.Words.{run}
use Rattle.guest.specs.Runs.{rest_of}
use Rattle.run_recorder.specs.Recorded.{trace_for}
use Rattle.predator_cli.specs.Run.{version_with}
use Rattle.predator_cli.proofs.RunEnds.{near_none, shown_cut, shown_worked}
use Rattle.predator_cli.proofs.run.run_loaded.Goals as goal

pub returns-in-Ok : goal.returns-in-Ok
returns-in-Ok g c = λ old ready.
    let d = run_meaning c.args.options.now in
    let s = c.args.loaded.settings in
    let r = rest_of c.args.loaded.guest in
    let shown = c.in-Ok.ensures in
    c.finish.ensures (run d) old
    (rw c.deref.ensures.value (shown_worked d s (trace_for (version_with d.pcs) s.harts
    c.args.loaded.symbols.items r)
    old
    (g.S.Shelf.outside c.args.shelf.now) (g.S.Shelf.outside c.run_guest.new.shelf) r
    c.in-Ok.shown.status c.in-Ok.shown.text.items ready
    shown.status shown.text shown.good (near_none d.pcs) refl shown.written))

pub returns-in-Err : goal.returns-in-Err
returns-in-Err g c = λ old ready.
    let d = run_meaning c.args.options.now in
    let s = c.args.loaded.settings in
    let r = rest_of c.args.loaded.guest in
    c.refuse.ensures (Some (run d)) old
    (rw c.from.ensures (shown_cut d s (trace_for (version_with d.pcs) s.harts
    c.args.loaded.symbols.items r) old
    (g.S.Shelf.outside c.args.shelf.now)
    (g.S.Shelf.outside c.run_guest.new.shelf) r c.in-Err.error ready c.in-Err.ensures.cut))
