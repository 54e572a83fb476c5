use Rattle.std.proofs.Common.{[]}
use Rattle.trace_files.proofs.trace_file.TraceFile.begin.Goals as goal

pub returns-in-Ok-clause-outputs : goal.returns-in-Ok-clause-outputs
returns-in-Ok-clause-outputs g c =
    let old = g.S.Shelf.outside c.args.shelf.now in c.in-Ok.ensures.outputs [] old
    (c.new-files.ensures.outputs old)

pub returns-clause-cut : goal.returns-clause-cut
returns-clause-cut g c =
    let old = g.S.Shelf.outside c.args.shelf.now in c.in-Err.ensures.cut [] old
    (c.new-files.ensures.outputs old)
