use Rattle.std.proofs.lemmas.Result.{IfErr-weaker, on_ok_weaker}
use Rattle.trace_filter.specs.Files.{filtered_so_far}
use Rattle.trace_filter.proofs.FilterFiles.{begun_file}
use Rattle.trace_filter.proofs.filter_file.FilterFile.finish.Goals as goal

pub finish-requires : goal.finish-requires
finish-requires g c =
    begun_file c.args.self.now (g.S.Shelf.outside c.args.shelf.now) c.requires.way

pub returns-clause-written : goal.returns-clause-written
returns-clause-written g c =
    on_ok_weaker c.finish.result
    (λ written k name h seen before came. written (filtered_so_far k name h seen) before came.outputs)
    c.finish.ensures.written

pub returns-clause-cut : goal.returns-clause-cut
returns-clause-cut g c =
    IfErr-weaker c.finish.result _ _
    (λ error cut k name h seen before came. cut (filtered_so_far k name h seen) before came.outputs)
    c.finish.ensures.cut
