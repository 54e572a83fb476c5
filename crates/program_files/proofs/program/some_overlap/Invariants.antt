use Rattle.std.proofs.Common.{◌≡◌, map, length}
use Rattle.program_files.specs.Programs.{program_header, overlap, some_pair}
use Rattle.program_files.proofs.program.some_overlap.Given as goal

abbrev pub invariant-loop-row : goal.invariant-loop-row
invariant-loop-row l = some_pair overlap (map program_header l.rest)
    ≡ some_pair overlap (map program_header l.fn.rows)

abbrev pub decreases-loop-row : goal.decreases-loop-row
decreases-loop-row l = length l.rest
