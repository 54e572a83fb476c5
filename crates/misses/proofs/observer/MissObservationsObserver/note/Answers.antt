use Rattle.misses.proofs.SeenLaws.{room_for_miss}
use Rattle.misses.proofs.observer.MissObservationsObserver.note.Goals as goal

pub note-requires : goal.note-requires
note-requires c = room_for_miss c.args.self.now c.args.item.now c.requires.room
