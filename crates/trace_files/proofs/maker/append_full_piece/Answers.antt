use Rattle.std.proofs.lemmas.Result.{IfErr-weaker}
use Rattle.trace_files.proofs.OneTraces.{begun_way, still_on}
use Rattle.trace_files.proofs.maker.append_full_piece.Goals as goal

pub finish-requires : goal.finish-requires
finish-requires g c =
    begun_way c.args.file.now (g.S.Shelf.outside c.args.shelf.now) c.requires.way

pub returns-then-accesses-eq0-clause-noted : goal.returns-then-accesses-eq0-clause-noted
returns-then-accesses-eq0-clause-noted g c =
    still_on c.finish.result c.args.file.now c.finish.new.self (g.S.Shelf.outside c.args.shelf.now)
    (g.S.Shelf.outside c.finish.new.shelf) c.finish.ensures.files c.finish.ensures.has
    c.finish.ensures.outputs

pub returns-then-accesses-eq0-clause-cut : goal.returns-then-accesses-eq0-clause-cut
returns-then-accesses-eq0-clause-cut g c =
    IfErr-weaker c.finish.result _ _ (λ error cut items before on. cut _ before on.outputs)
    c.finish.ensures.cut
