-- How far a pass is, in the clauses of this crate's own functions.
use Rattle.shelf.specs.declared.shelf.ShelfError.{ShelfError}
use Rattle.shelf.specs.declared.shelf.ShelfError.TheVariants as errors
use Rattle.trace_passes.specs.declared.passes.PassFault.{PassFault}
use Rattle.trace_passes.specs.declared.passes.PassFault.TheVariants as faults

abbrev pub pass_fault : ShelfError → PassFault
pass_fault errors.Failed = faults.ReadFault
pass_fault errors.NoMemory = faults.NoMemory
