use Rattle.std.proofs.Common.{[]}
use Rattle.std.proofs.lemmas.Result.{IfErr-weaker, on_ok_weaker}
use Rattle.shelf.specs.Files.{one_file}
use Rattle.command_io.proofs.SaveLaws.{begun_cut}
use Rattle.command_io.proofs.saving.write_file.Goals as goal

pub returns-in-Err-clause-cut : goal.returns-in-Err-clause-cut
returns-in-Err-clause-cut g c =
    let a = g.S.Shelf.outside c.args.shelf.now in
    begun_cut c.args.name.now c.args.bytes.now a (g.S.Shelf.outside c.begin.new.shelf)
    c.in-Err.error
    (c.in-Err.ensures.cut [] a (c.new-outputs.ensures.outputs a))

pub returns-in-Err-put-clause-cut : goal.returns-in-Err-put-clause-cut
returns-in-Err-put-clause-cut g c =
    let a = g.S.Shelf.outside c.args.shelf.now in
    c.in-Err-put.ensures.cut (one_file c.args.name.now []) a
    (c.in-Ok.ensures.outputs [] a (c.new-outputs.ensures.outputs a))

pub returns-clause-written : goal.returns-clause-written
returns-clause-written g c =
    let a = g.S.Shelf.outside c.args.shelf.now in
    let on = c.in-Ok-put.ensures.outputs (one_file c.args.name.now []) a
    (c.in-Ok.ensures.outputs [] a (c.new-outputs.ensures.outputs a)) in
    on_ok_weaker c.finish.result (λ f. f (one_file c.args.name.now c.args.bytes.now) a on)
    c.finish.ensures.written

pub returns-clause-cut : goal.returns-clause-cut
returns-clause-cut g c =
    let a = g.S.Shelf.outside c.args.shelf.now in
    let on = c.in-Ok-put.ensures.outputs (one_file c.args.name.now []) a
    (c.in-Ok.ensures.outputs [] a (c.new-outputs.ensures.outputs a)) in
    IfErr-weaker c.finish.result _ _ (λ error f. f (one_file c.args.name.now c.args.bytes.now) a on)
    c.finish.ensures.cut
