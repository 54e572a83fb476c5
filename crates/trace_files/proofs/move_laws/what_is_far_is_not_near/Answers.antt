use Rattle.trace_files.proofs.NearRanges.{far_not_near, never_far, not_far}
use Rattle.trace_files.proofs.move_laws.what_is_far_is_not_near.Goals as goal

pub returns-clause-far : goal.returns-clause-far
returns-clause-far c = far_not_near

pub returns-clause-near : goal.returns-clause-near
returns-clause-near c = not_far

pub returns-clause-unfiltered : goal.returns-clause-unfiltered
returns-clause-unfiltered c = never_far
