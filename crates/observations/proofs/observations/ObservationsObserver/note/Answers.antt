use Rattle.observations.proofs.NextLaws.{room_for_one}
use Rattle.observations.proofs.observations.ObservationsObserver.note.Goals as goal

pub note-requires : goal.note-requires
note-requires c = room_for_one c.args.self.now c.args.item.now c.requires.room
