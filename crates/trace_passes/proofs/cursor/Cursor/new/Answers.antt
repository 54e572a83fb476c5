use Rattle.std.proofs.Common.{refl, arith}
use Rattle.trace_passes.proofs.Fronts.{first_come}
use Rattle.trace_passes.proofs.cursor.Cursor.new.Goals as goal

pub returns-clause-begins : goal.returns-clause-begins
returns-clause-begins c = λ held name wanted.
    first_come held name wanted _ c.in_ok-new.ensures refl
    (omega (arith, c.in_ok-buffer_of.ensures)) (omega (arith, c.in_ok-buffer_of.ensures))
