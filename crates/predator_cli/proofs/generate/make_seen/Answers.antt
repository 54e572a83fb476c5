use Rattle.std.proofs.Common.{◌∙◌, [], ap}
use Rattle.base.specs.Levels.{Levels}
use Rattle.base.specs.Lines.{Grid}
use Rattle.trace_files.specs.Made.{made_file}
use Rattle.detector.specs.TotalsOf.{totals_of}
use Rattle.predator_cli.specs.Gen.{made_accesses, summary_text}
use Rattle.predator_cli.proofs.WriteEnds.{written_cut}
use Rattle.predator_cli.proofs.generate.make_seen.Goals as goal

pub returns-in-Ok-summary_of_seen-clause-text : goal.returns-in-Ok-summary_of_seen-clause-text
returns-in-Ok-summary_of_seen-clause-text g c =
    let seen = c.in-Ok.ensures.made in
    let count = c.args.count in
    c.in-Ok-summary_of_seen.ensures (made_accesses count)
    (seen.accesses.stands [] c.requires.stands)
    ∙ ap (λ (x : Grid × Levels). summary_text count (totals_of x.0 x.1 (made_accesses count)))
    seen.accesses.setting

pub returns-in-Err-summary_of_seen-clause-cut : goal.returns-in-Err-summary_of_seen-clause-cut
returns-in-Err-summary_of_seen-clause-cut g c =
    written_cut (made_file c.args.name.now c.args.count) (g.S.Shelf.outside c.args.shelf.now)
    (g.S.Shelf.outside c.make_trace.new.shelf) c.in-Ok.ensures.written
