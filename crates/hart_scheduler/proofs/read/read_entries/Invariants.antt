use Rattle.std.proofs.Common.{◌≡◌, ◌≤◌, ◌+◌, ◌++◌, length}
use Rattle.hart_scheduler.specs.Texts.{faults_from, entries_of}
use Rattle.hart_scheduler.proofs.read.read_entries.Given as goal

-- what was read is good, and what is left has the lines that follow
abbrev pub invariant-loop-rest : goal.invariant-loop-rest
invariant-loop-rest l = record {
  faults : faults_from l.harts 1 l.content ≡ faults_from l.harts l.number l.rest;
  entries : entries_of l.content ≡ l.entries.items ++ entries_of l.rest;
  room : l.number + length l.rest ≤ 1 + length l.content;
}

abbrev pub decreases-loop-rest : goal.decreases-loop-rest
decreases-loop-rest l = length l.rest
