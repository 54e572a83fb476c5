use Rattle.run_recorder.proofs.files.begin_one.Goals as goal

pub returns-in-Ok-clause-outputs : goal.returns-in-Ok-clause-outputs
returns-in-Ok-clause-outputs g c = rw c.in-Trace.is (rw c.near_for-near.ensures at c.in-Ok.ensures.outputs)

pub returns-in-Err-clause-cut : goal.returns-in-Err-clause-cut
returns-in-Err-clause-cut g c = rw c.in-Trace.is (rw c.near_for-near.ensures at c.in-Err.ensures.cut)

pub returns-in-Output-clause-outputs : goal.returns-in-Output-clause-outputs
returns-in-Output-clause-outputs g c = rw c.in-Output.is c.begin.ensures.outputs

pub returns-in-Output-clause-cut : goal.returns-in-Output-clause-cut
returns-in-Output-clause-cut g c = rw c.in-Output.is c.begin.ensures.cut
