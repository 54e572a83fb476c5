use Rattle.trace_files.proofs.trace_outputs.TraceOutputs.begin.Goals as goal

pub returns-clause-begun : goal.returns-clause-begun
returns-clause-begun g c = rw (← c.self.view_is) c.begin.ensures.begun

pub returns-clause-ready : goal.returns-clause-ready
returns-clause-ready g c = rw (← c.self.view_is) c.begin.ensures.ready

pub returns-clause-outputs : goal.returns-clause-outputs
returns-clause-outputs g c = rw (← c.self.view_is) c.begin.ensures.outputs

pub returns-clause-cut : goal.returns-clause-cut
returns-clause-cut g c = rw (← c.self.view_is) c.begin.ensures.cut
