use Rattle.std.proofs.Common.{refl}
use Rattle.shelf.proofs.memory.MemoryShelfShelf.append.Goals as goal

pub append_to-requires : goal.append_to-requires
append_to-requires c = rw c.count_call.ensures.others (c.requires _ refl)

pub append_to-requires-2 : goal.append_to-requires-2
append_to-requires-2 c = rw c.count_call.ensures.others (c.requires _ refl)
