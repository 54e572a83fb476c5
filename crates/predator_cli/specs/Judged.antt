-- What a command answers: its files are read in an order, and the first that is refused ends it.
use Rattle.std.specs.Prelude.{List}
use Rattle.std.specs.Option.{option_map_or}
use Rattle.shelf.specs.Files.{Output}
use Rattle.shelf.specs.Shelf.{Files}
use Rattle.command_io.specs.Readings.{Reading, first_refusal}
use Rattle.command_io.specs.Works.{Work, refused_with}

-- the first refusal, or the work
abbrev pub judged : List Reading → (Files → Work) → Files → Work
judged readings work files = option_map_or refused_with (first_refusal readings files) (work files)

-- the same, where a refusal leaves some outputs
abbrev pub judged_leaving : (Files → List Output) → List Reading → (Files → Work) → Files → Work
judged_leaving left readings work files =
    option_map_or (λ s. record (refused_with s) { outputs = left files })
    (first_refusal readings files) (work files)
