-- The segments are placed in fresh memory, and the pages behind them are mapped.
use Rattle.std.proofs.Common.{◌≡◌, ap, ◌∙◌, arith}
use Rattle.rv32_hart.specs.Space.{size_of}
use Rattle.program_files.specs.Images.{image_byte}
use Rattle.program_files.specs.PlacedSegments.{with_segments}
use Rattle.rv32_hart.specs.Space.{page_at}
use Rattle.program_files.specs.Programs.{segments_of}
use Rattle.program_files.proofs.Placing.{image_made}
use Rattle.program_files.proofs.image.image_memory.Goals as goal

pub map-requires : goal.map-requires
map-requires c =
    let base : c.put_segments.new.memory.base ≡ c.args.base = c.put_segments.ensures.base
    ∙ c.in_ok-memory.ensures.place in
    let size : size_of c.put_segments.new.memory ≡ c.args.size = c.put_segments.ensures.size
    ∙ c.in_ok-memory.ensures.extent in
    (omega arith, omega arith)

pub returns : goal.returns
returns c =
    image_made (segments_of c.args.view.now) c.args.size c.args.base c.args.heap_start
    c.in_ok-memory.memory c.put_segments.new.memory
    c.map.new.self
    c.requires.base c.requires.heap c.requires.pages c.requires.room c.in_ok-memory.ensures
    c.put_segments.ensures.base
    c.put_segments.ensures.size
    (λ a. c.put_segments.ensures.bytes a ∙ ap (λ s. image_byte s a) c.segments.ensures)
    (λ a. c.put_segments.ensures.pages a
    ∙ ap (λ s. with_segments s a (page_at c.in_ok-memory.memory a)) c.segments.ensures)
    c.map.ensures
