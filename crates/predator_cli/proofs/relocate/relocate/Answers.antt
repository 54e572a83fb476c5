use Rattle.std.proofs.Common.{◌∙◌, ap, sym}
use Rattle.command_line.specs.Relocate.{move_meaning}
use Rattle.command_line.specs.Words.{relocate as asks}
use Rattle.shelf.specs.Laws.Known.{known_map}
use Rattle.trace_files.specs.Tables.{table_of}
use Rattle.predator_cli.proofs.relocate.relocate.Goals as goal

pub returns-in-Ok : goal.returns-in-Ok
returns-in-Ok g c =
    let m = g.S.Shelf.outside c.read_judged.new.shelf in
    let given = c.in-Ok.ensures.given in
    c.relocate_by.ensures (g.S.Shelf.outside c.args.shelf.now) c.in-Ok.ensures.accepted
    (known_map m.held (λ files same. ap table_of (sym same) ∙ given.given.0) given.whole)
    given.given.1

pub returns-in-Err : goal.returns-in-Err
returns-in-Err g c = c.stop.ensures (asks (move_meaning c.args.options.now))
    (g.S.Shelf.outside c.args.shelf.now) c.in-Err.ensures.stopped
