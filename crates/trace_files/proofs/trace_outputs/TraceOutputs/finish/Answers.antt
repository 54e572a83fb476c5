use Rattle.trace_files.proofs.trace_outputs.TraceOutputs.finish.Goals as goal

pub returns-clause-outputs : goal.returns-clause-outputs
returns-clause-outputs g c = rw (← c.self.view_is) c.finish.ensures.outputs

pub returns-clause-written : goal.returns-clause-written
returns-clause-written g c = rw (← c.self.view_is) c.finish.ensures.written

pub returns-clause-cut : goal.returns-clause-cut
returns-clause-cut g c = rw (← c.self.view_is) c.finish.ensures.cut
