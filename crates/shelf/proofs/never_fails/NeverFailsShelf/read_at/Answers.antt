use Rattle.std.proofs.Common.{refl}
use Rattle.shelf.specs.Laws.Known.{grows_one}
use Rattle.shelf.proofs.never_fails.NeverFailsShelf.read_at.Goals as goal

pub returns-clause-only : goal.returns-clause-only
returns-clause-only c = record {
  held = refl;
  written = refl;
  printed = refl;
  write_faults = refl;
  print_faults = refl;
  given = grows_one c.args.self.now.log.items c.and-self.result.items c.and-self.ensures refl;
}
