-- What the words ask for, and what the program answers, for the contents of the names: a status,
-- the text that it prints, and the bytes of the files that it writes.
use Rattle.std.specs.Prelude.{IsTrue, List, [], ℕ, Option, Some, None}
use Rattle.std.specs.Option.{option_map_or}
use Rattle.shelf.specs.Shelf.{Files}
use Rattle.command_line.specs.Names.{are_apart}
use Rattle.command_line.specs.Words.{Demand, inputs as inputs_of, meaning, outputs as outputs_of}
use Rattle.command_line.specs.declared.demand.Demand as code
use Rattle.command_io.specs.Readings.{Reading, names_of}
use Rattle.command_io.specs.Works.{Work, refused_with}
use Rattle.command_io.specs.declared.status.Status.TheVariants as status
use Rattle.predator_cli.specs.Commands.{first_readings_of, leaves, manner_of, readings_of, work_of}
use Rattle.predator_cli.specs.Judged.{judged_leaving}
use Rattle.predator_cli.specs.Manners.{Manner, judged_before}

-- the files that are read for words, none for words that are refused
abbrev pub files_of : Option Demand → List Reading
files_of asked = option_map_or readings_of asked []

-- their names, and the names of those that are written
abbrev pub inputs : Option Demand → List (List ℕ)
inputs asked = names_of (files_of asked)

abbrev pub outputs : Option Demand → List (List ℕ)
outputs asked = option_map_or outputs_of asked []

-- when what is asked for is begun to be written, and the files that are judged before
abbrev pub manner_in : Option Demand → Manner
manner_in asked = option_map_or manner_of asked judged_before

abbrev pub first_files_of : Option Demand → List Reading
first_files_of asked = option_map_or first_readings_of asked []

-- no output of what is asked for has the name of another output or of an input
abbrev pub HasNamesApart : code.Demand → Type 0
HasNamesApart demand =
    IsTrue (are_apart (outputs_of (meaning demand)) (inputs_of (meaning demand)))

abbrev pub answer_of : Option Demand → Files → Work
answer_of None files = refused_with status.Usage
answer_of (Some demand) files =
    judged_leaving (leaves demand) (readings_of demand) (work_of demand) files
