use Rattle.std.proofs.Common.{length}
use Rattle.trace_files.specs.Rows.{AreKept}
use Rattle.trace_files.proofs.TableLines.{IsRead}
use Rattle.trace_files.proofs.move_table.read_lines.Given as goal

-- what was read is good, and what is left has the lines that follow
abbrev pub invariant-loop-rest : goal.invariant-loop-rest
invariant-loop-rest l = record {
  read : IsRead l.text l.number l.rest l.rows.items;
  kept : AreKept l.rows.items l.places.items;
}

abbrev pub decreases-loop-rest : goal.decreases-loop-rest
decreases-loop-rest l = length l.rest
