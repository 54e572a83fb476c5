use Rattle.trace_passes.specs.Laws.Accounts.{room-for_one}
use Rattle.layout_sweep.specs.Seen.{sweep_account}
use Rattle.layout_sweep.proofs.observer.SweepObserver.note.Goals as goal

pub note_record-requires : goal.note_record-requires
note_record-requires c = room-for_one sweep_account c.args.self.now c.args.item.now c.requires.room
