use Rattle.std.proofs.Common.{Some}
use Rattle.command_line.specs.Gen.{gen_meaning}
use Rattle.command_line.specs.Words.{gen}
use Rattle.predator_cli.proofs.GenEnds.{made_cut, made_worked}
use Rattle.predator_cli.proofs.generate.generate.Goals as goal

pub returns-in-Ok : goal.returns-in-Ok
returns-in-Ok g c =
    let d = gen_meaning c.args.options.now in
    let a = g.S.Shelf.outside c.args.shelf.now in
    let b = g.S.Shelf.outside c.make.new.shelf in
    c.finish.ensures (gen d) a
    (rw c.as_bytes.ensures.value (made_worked d a b _ c.in-Ok.ensures.text c.in-Ok.ensures.written))

pub returns-in-Err : goal.returns-in-Err
returns-in-Err g c =
    let d = gen_meaning c.args.options.now in
    let a = g.S.Shelf.outside c.args.shelf.now in
    let b = g.S.Shelf.outside c.make.new.shelf in
    c.refuse.ensures (Some (gen d)) a (rw c.from.ensures
    (made_cut d a b c.in-Err.error c.in-Err.ensures.cut))
