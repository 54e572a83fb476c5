-- The image is that of the file, as it is put together.
use Rattle.std.proofs.Common.{◌∙◌, sym}
use Rattle.program_files.proofs.WholeMemories.{placed_so, whole_so, room_for, whole_heap, heap_ends}
use Rattle.program_files.proofs.WholeMemories.{heap_fits, stacks_fill}
use Rattle.program_files.proofs.image.place.Goals as goal

pub returns-clause-placed : goal.returns-clause-placed
returns-clause-placed c =
    placed_so c.args.view.now c.args.space c.in-Ok.memory c.entry-entry.result
    c.places_of-base.result.1 c.base.result c.size.result
    c.stacks_of-stacks.result c.in-Ok.ensures c.entry-entry.ensures.value
    c.places_of-base.ensures.heap c.base.ensures.value
    c.size.ensures.value c.stacks_of-stacks.ensures
    (room_for c.args.view.now c.args.space c.in-Ok.memory _ _ _ _ _ c.in-Ok.ensures
    c.places_of-base.ensures.base
    c.places_of-base.ensures.room c.base.ensures.value c.size.ensures.value)

pub returns-clause-whole : goal.returns-clause-whole
returns-clause-whole c =
    whole_so c.args.view.now c.args.space c.in-Ok.memory c.entry-entry.result
    c.places_of-base.result.1 c.base.result c.size.result
    c.stacks_of-stacks.result c.in-Ok.ensures (sym c.size.ensures.value ∙ c.size.ensures.pages)
    c.entry-entry.ensures.value
    c.places_of-base.ensures.heap c.base.ensures.value c.size.ensures.value
    c.stacks_of-stacks.ensures

pub returns-clause-heap_start : goal.returns-clause-heap_start
returns-clause-heap_start c = whole_heap c.args.view.now c.places_of-base.result.1
    c.places_of-base.ensures.heap

pub returns-clause-heap_end : goal.returns-clause-heap_end
returns-clause-heap_end c =
    heap_ends c.args.space c.base.result c.size.result c.stacks_of-stacks.result
    c.base.ensures.aligned c.size.ensures.aligned
    c.requires.stack_pages c.stacks_of-stacks.ensures

pub returns-clause-heap : goal.returns-clause-heap
returns-clause-heap c =
    heap_fits _ _ _ _
    (room_for c.args.view.now c.args.space c.in-Ok.memory _ _ _ _ _ c.in-Ok.ensures
    c.places_of-base.ensures.base
    c.places_of-base.ensures.room c.base.ensures.value c.size.ensures.value)

pub returns-clause-stacks : goal.returns-clause-stacks
returns-clause-stacks c =
    stacks_fill c.args.space _ _ _ _ c.stacks_of-stacks.ensures
    (room_for c.args.view.now c.args.space c.in-Ok.memory _ _ _ _ _ c.in-Ok.ensures
    c.places_of-base.ensures.base
    c.places_of-base.ensures.room c.base.ensures.value c.size.ensures.value)
