use Rattle.std.proofs.lemmas.Result.{IfErr-weaker, on_ok_weaker}
use Rattle.shelf.specs.declared.shelf.ShelfError.TheVariants.{NoMemory}
use Rattle.shelf.specs.Laws.Files.{IsOutputs-begun, IsOutputs-cut}
use Rattle.trace_files.specs.Moving.{moved_so_far}
use Rattle.trace_files.proofs.mover.Mover.finish.Goals as goal

pub finish-requires : goal.finish-requires
finish-requires g c =
    let way = c.requires.way in
    IsOutputs-begun c.args.self.now.files (moved_so_far way.0 way.1 way.2 way.3) way.4
    (g.S.Shelf.outside c.args.shelf.now) way.5.outputs

pub returns-clause-written : goal.returns-clause-written
returns-clause-written g c =
    on_ok_weaker c.finish.result
    (λ written table name head seen before has.
    written (moved_so_far table name head seen) before has.outputs) c.finish.ensures.written

pub returns-clause-cut : goal.returns-clause-cut
returns-clause-cut g c =
    IfErr-weaker c.finish.result _ _
    (λ error cut table name head seen before has.
    cut (moved_so_far table name head seen) before has.outputs) c.finish.ensures.cut

pub returns-clause-cut_there : goal.returns-clause-cut_there
returns-clause-cut_there g c =
    let new = g.S.Shelf.outside c.finish.new.shelf in
    on_ok_weaker c.finish.result
    (λ outputs table name head seen before has.
    IsOutputs-cut c.finish.new.self (moved_so_far table name head seen) before new NoMemory
    (λ e. cc) (outputs (moved_so_far table name head seen) before has.outputs))
    c.finish.ensures.outputs
