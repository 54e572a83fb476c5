use Rattle.std.proofs.Common.{sym, ◌∙◌}
use Rattle.trace_files.proofs.Lookups.{moved_found, moved_nowhere}
use Rattle.trace_files.proofs.move_table.MoveTable.moved_address.Goals as goal

pub returns-in-Some : goal.returns-in-Some
returns-in-Some c =
    moved_found c.args.self.now c.args.addr c.in-Some.place (sym c.destination.ensures.value ∙ c.in-Some.is)

pub returns-in-None : goal.returns-in-None
returns-in-None c =
    moved_nowhere c.args.self.now c.args.addr (sym c.destination.ensures.value ∙ c.in-None.is)
