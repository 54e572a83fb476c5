-- When a command begins to write, and what is left of its files where one that it reads is refused.
use Rattle.std.specs.Prelude.{List, [], ◌∷◌}
use Rattle.std.specs.Option.{option_map_or}
use Rattle.shelf.specs.Files.{Output}
use Rattle.shelf.specs.Shelf.{Files}
use Rattle.command_io.specs.Readings.{Reading, first_refusal}

pub data Manner : Type 0 where
  -- all files are judged before an output is begun
  judged_before : Manner
  -- so, and the trace is read a second time then
  read_again : Manner
  -- the outputs are written as the last file is read, and these are left where that one is refused
  read_along : (Files → List Output) → Manner

abbrev pub all_but_last : List Reading → List Reading
all_but_last [] = []
all_but_last (r ∷ []) = []
all_but_last (r ∷ s ∷ later) = r ∷ all_but_last (s ∷ later)

-- the files that are judged before an output is begun
abbrev pub judged_first : Manner → List Reading → List Reading
judged_first judged_before readings = readings
judged_first read_again readings = readings
judged_first (read_along left) readings = all_but_last readings

-- the outputs that a refusal leaves
abbrev pub left_of : Manner → List Reading → Files → List Output
left_of judged_before readings files = []
left_of read_again readings files = []
left_of (read_along left) readings files =
    option_map_or (λ s. []) (first_refusal (all_but_last readings) files) (left files)
