use Rattle.std.proofs.Common.{◌≡◌, ◌∙◌, ap}
use Rattle.program_files.specs.PlacedImages.{IsImageOf}
use Rattle.program_files.specs.Symbols.{symbols_of}
use Rattle.program_files.specs.Summaries.{placed_text}
use Rattle.command_io.specs.ProgramFiles.{space_of}
use Rattle.command_io.specs.ProgramFiles.{program_refusal}
use Rattle.predator_cli.proofs.Wanted.{judged_wanted}
use Rattle.predator_cli.proofs.check.SummaryOfJudge.judge.Goals as goal

pub returns-clause-given : goal.returns-clause-given
returns-clause-given c =
    let is = c.in-Ok.ensures in
    let space = space_of c.args.self.now.settings in
    let placed : IsImageOf c.in-Ok.program.view space c.in-Ok.program.image =
    rw is.view is.placed in
    let symbols : c.in-Ok.program.symbols ≡ symbols_of c.in-Ok.program.view =
    rw is.view is.symbols in
    c.in_ok-program_text.ensures space placed symbols ∙ ap (placed_text space) is.view

pub returns-in_err-program_text-clause-judged : goal.returns-in_err-program_text-clause-judged
returns-in_err-program_text-clause-judged c =
    judged_wanted c.from_residual.result
    (program_refusal c.args.self.now.settings c.args.bytes.now) c.from_residual.ensures.1
