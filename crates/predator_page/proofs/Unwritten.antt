-- A shelf that holds some files has written none.
use Rattle.std.specs.Prelude.{List, Option, option_and_then, ℕ}
use Rattle.shelf.specs.Shelf.{Outside}

-- what is written under a name, where that is known
abbrev pub written_at : List ℕ → Outside → Option (List ℕ)
written_at name outside = option_and_then (λ files. files name) outside.written
