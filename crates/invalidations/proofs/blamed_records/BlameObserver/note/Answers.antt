use Rattle.trace_passes.specs.Laws.Accounts.{room-for_one}
use Rattle.invalidations.specs.BlameRecords.{blame_account}
use Rattle.invalidations.proofs.blamed_records.BlameObserver.note.Goals as goal

pub see-requires : goal.see-requires
see-requires c = room-for_one blame_account c.args.self.now c.args.item.now c.requires.room
