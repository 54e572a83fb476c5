use Rattle.std.proofs.Common.{◌∙◌}
use Rattle.program_files.proofs.PlacedSummaries.{placed}
use Rattle.program_files.proofs.summaries.summary.Goals as goal

pub returns-in-Ok-clause-placed : goal.returns-in-Ok-clause-placed
returns-in-Ok-clause-placed c = λ space is symbols_are. c.in-Ok.ensures
    ∙ placed space c.args.view.now c.args.image.now
    c.args.symbols.now.symbols is symbols_are
