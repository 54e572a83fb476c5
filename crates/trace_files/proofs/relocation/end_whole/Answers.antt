use Rattle.std.proofs.Common.{subst, sym}
use Rattle.trace_files.specs.declared.move_fault.MoveFault.{MoveFault}
use Rattle.trace_files.specs.Movers.{StopsAt}
use Rattle.trace_files.proofs.Relocations.{all_cut}
use Rattle.trace_files.proofs.Takings.{stops_by}
use Rattle.trace_files.proofs.relocation.end_whole.Goals as goal

pub returns-in-Err-clause-stopped : goal.returns-in-Err-clause-stopped
returns-in-Err-clause-stopped g c = λ table name head seen before has.
    let new = g.S.Shelf.outside c.finish.new.shelf in
    subst (λ (f : MoveFault). StopsAt table name head seen before new f)
    (sym c.write_fault.ensures)
    (stops_by table name head seen before new c.in-Err.error
    (all_cut table name c.args.mover.now head seen before (g.S.Shelf.outside c.args.shelf.now) new
    c.in-Err.error has (c.in-Err.ensures.cut table name head seen before has)))
