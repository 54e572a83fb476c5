-- The end of a trace beside the end of a run.
use Rattle.std.specs.Prelude.{None}
use Rattle.base.specs.declared.ending.Ending.{Ending}
use Rattle.trace_format.specs.declared.record.TraceEnd.{TraceEnd}

-- the end of a trace that has all accesses of a run
abbrev pub unfiltered : Ending → TraceEnd
unfiltered e = record {
  outcome = e.outcome;
  steps = e.steps;
  accesses = e.accesses;
  whole = None;
}

-- the end of a run, with as many accesses as the trace has
abbrev pub run_end : TraceEnd → Ending
run_end e = record { outcome = e.outcome; steps = e.steps; accesses = e.accesses }
