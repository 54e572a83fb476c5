use Rattle.std.proofs.Common.{◌∙◌, Err, None, Some, ap, sym}
use Rattle.command_io.specs.ProgramFiles.{program_refusal}
use Rattle.command_io.specs.Readings.{IsJudged}
use Rattle.command_io.specs.Statuses.{status_of_placing}
use Rattle.command_io.proofs.Refusals.{err_of, judged_or, judged_placing, no_memory_of, refused_by}
use Rattle.command_io.proofs.program_file.judge_program.Goals as goal

pub returns-in_err-image-in-Ok-clause-judged : goal.returns-in_err-image-in-Ok-clause-judged
returns-in_err-image-in-Ok-clause-judged c =
    let refused = program_refusal c.args.settings.now c.args.bytes.now in
    let fault = c.in_err-image-in-Ok.field-0.0 in
    err_of c.from_residual-in_err-image-in-Ok.result (status_of_placing fault) (IsJudged refused)
    c.from_residual-in_err-image-in-Ok.ensures.1
    (judged_placing refused fault (λ e is.
    refused_by c.args.settings.now c.args.bytes.now c.in_ok-view.view c.space_of-space.result None
    (Some e) None c.requires.short c.in_ok-view.ensures.same c.space_of-space.ensures.value
    c.in_ok-view.ensures.accepted (c.in_err-image-in-Ok.ensures.refused e is)
    c.in-Ok.ensures.accepted))

pub returns-in_err-image-in-Ok-clause-memory : goal.returns-in_err-image-in-Ok-clause-memory
returns-in_err-image-in-Ok-clause-memory c =
    no_memory_of c.from_residual-in_err-image-in-Ok.result c.in_err-image-in-Ok.field-0.0
    (program_refusal c.args.settings.now c.args.bytes.now)
    c.from_residual-in_err-image-in-Ok.ensures.1
    (λ is.
    refused_by c.args.settings.now c.args.bytes.now c.in_ok-view.view c.space_of-space.result None
    None None c.requires.short c.in_ok-view.ensures.same c.space_of-space.ensures.value
    c.in_ok-view.ensures.accepted (c.place.ensures.memory (c.in_err-image-in-Ok.was ∙ ap Err is))
    c.in-Ok.ensures.accepted)

pub returns-in_ok-image-in-Ok-clause-accepted : goal.returns-in_ok-image-in-Ok-clause-accepted
returns-in_ok-image-in-Ok-clause-accepted c =
    refused_by c.args.settings.now c.args.bytes.now c.in_ok-view.view c.space_of-space.result None
    None None c.requires.short c.in_ok-view.ensures.same c.space_of-space.ensures.value
    c.in_ok-view.ensures.accepted c.in_ok-image-in-Ok.ensures.accepted c.in-Ok.ensures.accepted

pub returns-in-Err-clause-judged : goal.returns-in-Err-clause-judged
returns-in-Err-clause-judged c =
    rw c.unwrap_or.ensures
    (judged_or (program_refusal c.args.settings.now c.args.bytes.now) c.place_fault.result
    c.in-Err.fault
    (refused_by c.args.settings.now c.args.bytes.now c.in_ok-view.view c.space_of-space.result None
    c.place_fault.result (Some c.in-Err.fault) c.requires.short c.in_ok-view.ensures.same
    c.space_of-space.ensures.value c.in_ok-view.ensures.accepted (sym c.place_fault.ensures)
    c.in-Err.ensures.refused))
