use Rattle.std.proofs.Common.{◌∙◌}
use Rattle.guest.proofs.ThreadAnswers.{marks_answer}
use Rattle.guest.proofs.threads.Threads.runnable.Goals as goal

pub returns-clause-each : goal.returns-clause-each
returns-clause-each c = marks_answer c.as_slice.result.now c.args.self.now (c.as_slice.ensures.value
    ∙ rw c.self.view_is at c.self.invariant.marked)
