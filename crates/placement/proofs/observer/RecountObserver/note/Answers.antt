use Rattle.trace_passes.specs.Laws.Accounts.{room-for_one}
use Rattle.placement.specs.Passing.{recount_account}
use Rattle.placement.proofs.observer.RecountObserver.note.Goals as goal

pub recount_record-requires : goal.recount_record-requires
recount_record-requires c = room-for_one recount_account c.args.self.now c.args.item.now c.requires.room
