use Rattle.std.proofs.Common.{◌++◌, ◌∷◌, [], Some, ap, arith, subst, sym, ◌∙◌}
use Rattle.std.specs.Prelude.{is_some}
use Rattle.trace_files.specs.declared.move_fault.MoveFault.{MoveFault}
use Rattle.trace_files.specs.Movers.{StopsAt}
use Rattle.trace_files.proofs.Takings.{cut_before, cut_behind, held_up_so, stops_by}
use Rattle.trace_files.proofs.taking.put_one.Goals as goal

pub record_fault-requires : goal.record_fault-requires
record_fault-requires g c =
    let has = c.requires.way.has in omega (arith, has.near, has.small)

pub returns-in-Ok-clause-stopped : goal.returns-in-Ok-clause-stopped
returns-in-Ok-clause-stopped g c = λ head seen before has.
    let t = c.args.table.now in
    let m = c.args.mover.now in
    held_up_so t m.name.now m head seen before (g.S.Shelf.outside c.args.shelf.now) has
    c.args.item.now (g.S.Shelf.outside c.finish.new.shelf) c.in-Some.fault
    (sym c.record_fault.ensures ∙ c.in-Some.is)
    (c.in-Ok.ensures.written t m.name.now (Some head) seen before has)
    (c.in-Ok.ensures.cut_there t m.name.now (Some head) seen before has)

pub returns-in-Err-clause-stopped : goal.returns-in-Err-clause-stopped
returns-in-Err-clause-stopped g c = λ head seen before has.
    let t = c.args.table.now in
    let m = c.args.mover.now in
    let item = c.args.item.now in
    let new = g.S.Shelf.outside c.finish.new.shelf in
    subst (λ (f : MoveFault). StopsAt t m.name.now (Some head) (seen ++ item ∷ []) before new f)
    (sym c.write_fault.ensures)
    (stops_by t m.name.now (Some head) (seen ++ item ∷ []) before new c.in-Err.error
    (cut_before t m.name.now m head seen before (g.S.Shelf.outside c.args.shelf.now) has item new
    c.in-Err.error (c.in-Err.ensures.cut t m.name.now (Some head) seen before has)))

pub returns-in-Err-put-clause-stopped : goal.returns-in-Err-put-clause-stopped
returns-in-Err-put-clause-stopped g c = λ head seen before has.
    let t = c.args.table.now in
    let m = c.args.mover.now in
    let item = c.args.item.now in
    let new = g.S.Shelf.outside c.put.new.shelf in
    let free = ap is_some (sym c.record_fault.ensures ∙ c.in_default.is) in
    subst (λ (f : MoveFault). StopsAt t m.name.now (Some head) (seen ++ item ∷ []) before new f)
    (sym c.write_fault-in-Err-put.ensures)
    (stops_by t m.name.now (Some head) (seen ++ item ∷ []) before new c.in-Err-put.error
    (cut_behind t m.name.now m head seen before (g.S.Shelf.outside c.args.shelf.now) has item new
    c.in-Err-put.error free (c.in-Err-put.ensures.cut head seen before has)))
