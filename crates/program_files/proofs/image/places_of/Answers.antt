use Rattle.program_files.proofs.Rooms.{heap_behind}
use Rattle.program_files.proofs.image.places_of.Goals as goal

pub returns-clause-low : goal.returns-clause-low
returns-clause-low c =
    let low = heap_behind c.args.memory c.args.stacks c.args.view.now c.requires in
    rw (c.extent_of-first.ensures.least, c.extent_of-first.ensures.end, c.segments.ensures) low
