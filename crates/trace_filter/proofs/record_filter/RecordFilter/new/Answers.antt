use Rattle.std.proofs.Common.{ap, length, sym}
use Rattle.trace_filter.proofs.FilterLaws.{no_access}
use Rattle.trace_filter.proofs.record_filter.RecordFilter.new.Goals as goal

pub returns-clause-filtered : goal.returns-clause-filtered
returns-clause-filtered c = record {
  stands = c.new.ensures.stands;
  kept = ap length (sym (no_access c.new.result.near));
}
