use Rattle.std.proofs.Common.{ap, refl}
use Rattle.shelf.specs.Laws.Known.{grows_one}
use Rattle.shelf.specs.declared.memory.MemoryShelf.{MemoryShelf}
use Rattle.shelf.proofs.memory.MemoryShelfShelf.read_at.Goals as goal

pub returns-in-Some-clause-only : goal.returns-in-Some-clause-only
returns-in-Some-clause-only c =
    let given = grows_one c.args.self.now.log.items c.and-self.result.items c.and-self.ensures
    (ap (λ (s : MemoryShelf). s.log.items) c.count_call.ensures.others) in
    rw c.count_call.ensures.others (record {
      held = refl;
      written = refl;
      printed = refl;
      write_faults = refl;
      print_faults = refl;
      given = given;
    })
