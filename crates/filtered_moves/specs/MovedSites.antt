-- The moved list with its pcs.
use Rattle.std.specs.Prelude.{List, map}
use Rattle.invalidations.specs.declared.sited.Sited.{Sited}
use Rattle.trace_files.specs.Moves.{moved_in}
use Rattle.trace_files.specs.declared.move_row.Move.{Move}

abbrev pub moved_sited : List Move → List Sited → List Sited
moved_sited table u = map (λ s. record { access = moved_in table s.access; pc = s.pc }) u
