use Rattle.std.proofs.Common.{Err, ap, subst, sym, [], ◌∷◌}
use Rattle.command_io.specs.Readings.{IsStopped}
use Rattle.command_io.specs.declared.status.Status.{Status}
use Rattle.predator_cli.specs.Replay.{trace_reading}
use Rattle.predator_cli.proofs.TraceFiles.{pass_stopped}
use Rattle.predator_cli.proofs.counting.see_trace.Goals as goal

pub returns-in-Err-clause-stopped : goal.returns-in-Err-clause-stopped
returns-in-Err-clause-stopped g c =
    let a = g.S.Shelf.outside c.args.shelf.now in
    let b = g.S.Shelf.outside c.pass.new.shelf in
    let w = c.args.wanted.now in
    subst (λ (s : Status). IsStopped (trace_reading (λ x. w) c.args.name.now ∷ []) a b s)
    (sym c.status_of_pass.ensures)
    (pass_stopped w c.args.name.now a b c.in-Err.fault
    (λ r is. c.in-Err.ensures.refused r (ap Err is))
    (λ is. c.in-Err.ensures.memory (ap Err is))
    c.in-Err.ensures.cause c.in-Err.ensures.only)
