use Rattle.trace_files.proofs.trace_outputs.TraceOutputs.put_bytes.Goals as goal

pub returns-clause-outputs : goal.returns-clause-outputs
returns-clause-outputs g c = rw (← c.self.view_is) c.put.ensures.outputs

pub returns-clause-cut : goal.returns-clause-cut
returns-clause-cut g c = rw (← c.self.view_is) c.put.ensures.cut
