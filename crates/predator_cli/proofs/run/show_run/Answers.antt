use Rattle.guest.specs.Runs.{rest_of}
use Rattle.run_recorder.specs.Recorded.{outputs_for}
use Rattle.predator_cli.proofs.WriteEnds.{written_cut}
use Rattle.predator_cli.proofs.run.show_run.Goals as goal

pub returns-in-Err-report-clause-cut : goal.returns-in-Err-report-clause-cut
returns-in-Err-report-clause-cut g c =
    written_cut (outputs_for c.args.version c.args.guest.setup.harts c.args.symbols.now
    (rest_of c.args.guest) c.args.files.now)
    (g.S.Shelf.outside c.args.shelf.now) (g.S.Shelf.outside c.record_run.new.shelf)
    c.in-Ok.ensures.written
