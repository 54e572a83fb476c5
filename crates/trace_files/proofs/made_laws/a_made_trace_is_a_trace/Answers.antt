use Rattle.trace_files.proofs.Items.{touches_all}
use Rattle.trace_files.proofs.Kept.{all_good, all_writable, is_found, is_trace}
use Rattle.trace_files.proofs.made_laws.a_made_trace_is_a_trace.Goals as goal

pub returns : goal.returns
returns c = record {
  trace = is_trace;
  found = is_found;
  good = all_good;
  writable = all_writable;
  accesses = touches_all;
}
