-- The status of each end of a trace that is passed, copied, moved or filtered.
use Rattle.trace_files.specs.declared.move_fault.MoveFault.{MoveFault}
use Rattle.trace_files.specs.declared.move_fault.MoveFault.TheVariants as moves
use Rattle.trace_files.specs.declared.copy_fault.CopyFault.{CopyFault}
use Rattle.trace_files.specs.declared.copy_fault.CopyFault.TheVariants as copies
use Rattle.trace_filter.specs.declared.filter_fault.FilterFault.{FilterFault}
use Rattle.trace_filter.specs.declared.filter_fault.FilterFault.TheVariants as filters
use Rattle.trace_passes.specs.declared.passes.PassFault.{PassFault}
use Rattle.trace_passes.specs.declared.passes.PassFault.TheVariants as passes
use Rattle.trace_passes.specs.declared.wanted.Refusal.{Refusal}
use Rattle.trace_passes.specs.declared.wanted.Refusal.TheVariants as refusals
use Rattle.saved_state.specs.HeaderPlaces.{harts_place}
use Rattle.command_io.specs.Statuses.{status_of_trace}
use Rattle.command_io.specs.declared.status.StateFault.TheVariants as state
use Rattle.command_io.specs.declared.status.Status.{Status}
use Rattle.command_io.specs.declared.status.Status.TheVariants as status

-- a header of another number of harts differs from that field of a saved state
abbrev pub status_of_refusal : Refusal → Status
status_of_refusal (refusals.Trace fault) = status_of_trace fault
status_of_refusal refusals.NoPcs = status.NoPcs
status_of_refusal refusals.Filtered = status.Filtered
status_of_refusal refusals.TooWide = status.TooWide
status_of_refusal refusals.Harts = status.State (state.WrongSettings harts_place)
status_of_refusal (refusals.Position saved first) = status.State (state.WrongPosition saved first)

abbrev pub status_of_pass : PassFault → Status
status_of_pass (passes.Refused r) = status_of_refusal r
status_of_pass passes.ReadFault = status.ReadFault
status_of_pass passes.NoMemory = status.NoMemory

-- a trace is refused by the reading before its copies are begun, or by the one that copies it
abbrev pub status_of_copy : CopyFault → Status
status_of_copy (copies.Refused r) = status_of_refusal r
status_of_copy (copies.Changed r) = status_of_refusal r
status_of_copy copies.ReadFault = status.ReadFault
status_of_copy copies.WriteFault = status.WriteFault
status_of_copy copies.NoMemory = status.NoMemory

-- or it is refused, or an access of it is, once the moved trace is begun
abbrev pub status_of_move : MoveFault → Status
status_of_move (moves.Refused r) = status_of_refusal r
status_of_move (moves.Occupied addr) = status.Occupied addr
status_of_move (moves.Far addr) = status.Far addr
status_of_move moves.ReadFault = status.ReadFault
status_of_move moves.WriteFault = status.WriteFault
status_of_move moves.NoMemory = status.NoMemory

-- or it is refused once the filtered trace is begun, or before
abbrev pub status_of_filter : FilterFault → Status
status_of_filter (filters.Refused r) = status_of_refusal r
status_of_filter filters.ReadFault = status.ReadFault
status_of_filter filters.WriteFault = status.WriteFault
status_of_filter filters.NoMemory = status.NoMemory
