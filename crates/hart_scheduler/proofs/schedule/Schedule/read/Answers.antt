use Rattle.hart_scheduler.proofs.Written.{lines_are_written}
use Rattle.hart_scheduler.proofs.schedule.Schedule.read.Goals as goal

pub returns-then-content-gt-LONGEST_CONTENT-clause-written
    : goal.returns-then-content-gt-LONGEST_CONTENT-clause-written
returns-then-content-gt-LONGEST_CONTENT-clause-written c = lines_are_written

pub returns-in-Ok-clause-written : goal.returns-in-Ok-clause-written
returns-in-Ok-clause-written c = lines_are_written

pub returns-in-Err-clause-written : goal.returns-in-Err-clause-written
returns-in-Err-clause-written c = lines_are_written
