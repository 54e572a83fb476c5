-- The command `move`: what its words ask for.
use Rattle.std.specs.Prelude.{List, [], ◌∷◌, Option, option_and_then, option_map, codes}
use Rattle.clap.specs.Words.{App, Row, Text, first_of}
use Rattle.command_line.specs.Apps.{plain_app, with_word}
use Rattle.command_line.specs.Asked.{asked}
use Rattle.command_line.specs.declared.relocate.MoveOptions.{MoveOptions}

abbrev pub move_usage : Text
move_usage = codes "usage: predator move TRACE TABLE FILE\n"

-- write a trace with its accesses moved as a table says
pub record MoveDemand : Type 0 where
  pub trace : Text
  pub table : Text
  pub file : Text

abbrev pub move_app : App
move_app =
    with_word (with_word (with_word (plain_app (codes "move")) (codes "trace")) (codes "table"))
    (codes "file")

abbrev pub move_with : Text → Text → Text → MoveDemand
move_with trace table file = record { trace = trace; table = table; file = file }

-- what its values ask for
abbrev pub move_of : List Row → Option MoveDemand
move_of rows =
    option_and_then (λ trace. option_and_then (λ table.
    option_map (move_with trace table) (first_of (codes "file") rows))
    (first_of (codes "table") rows))
    (first_of (codes "trace") rows)

abbrev pub asked_of_move : List Text → Option MoveDemand
asked_of_move words = asked move_app move_of words

-- two files are read, and one is written
abbrev pub move_inputs : MoveDemand → List Text
move_inputs demand = demand.table ∷ demand.trace ∷ []

abbrev pub move_outputs : MoveDemand → List Text
move_outputs demand = demand.file ∷ []

-- what the code's options ask for
abbrev pub move_meaning : MoveOptions → MoveDemand
move_meaning options = record {
  trace = options.trace.now;
  table = options.table.now;
  file = options.file.now;
}
