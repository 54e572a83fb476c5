-- What a shelf that never fails means: its files alone are known, and no number of faults ever
-- rises.
use Rattle.std.specs.Prelude.{List, [], Some, None}
use Rattle.shelf.specs.Shelf.{Outside}
use Rattle.shelf.specs.HeldFile.{file_of}
use Rattle.shelf.specs.declared.files.HeldFile.{HeldFile}
use Rattle.shelf.specs.declared.never_fails.NeverFails.{NeverFails}

-- these files alone are known, nothing was read, and nothing ever fails
abbrev pub faultless_outside : List HeldFile → Outside
faultless_outside files = record {
  held = Some (file_of files);
  written = None;
  printed = None;
  read_faults = λ _. 0;
  write_faults = λ _. 0;
  print_faults = 0;
  given = [];
}

abbrev pub never_fails_outside : NeverFails → Outside
never_fails_outside shelf = record (faultless_outside shelf.files.items) {
  given = shelf.log.items;
}
