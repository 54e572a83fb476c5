-- The command `convert`: what its words ask for.
use Rattle.std.specs.Prelude.{List, [], ◌∷◌, Option, option_and_then, option_map, codes}
use Rattle.clap.specs.Words.{App, Row, Text, first_of}
use Rattle.command_line.specs.Apps.{plain_app, with_word}
use Rattle.command_line.specs.Asked.{asked}
use Rattle.command_line.specs.declared.convert.ConvertOptions.{ConvertOptions}

abbrev pub convert_usage : Text
convert_usage =
    codes "usage: predator convert TRACE FILE\n"

-- write a trace in the other version
pub record ConvertDemand : Type 0 where
  pub trace : Text
  pub file : Text

abbrev pub convert_app : App
convert_app = with_word (with_word (plain_app (codes "convert")) (codes "trace")) (codes "file")

abbrev pub convert_with : Text → Text → ConvertDemand
convert_with trace file = record { trace = trace; file = file }

-- what its values ask for
abbrev pub convert_of : List Row → Option ConvertDemand
convert_of rows =
    option_and_then (λ trace. option_map (convert_with trace) (first_of (codes "file") rows))
    (first_of (codes "trace") rows)

abbrev pub asked_of_convert : List Text → Option ConvertDemand
asked_of_convert words = asked convert_app convert_of words

-- one file is read, and one is written
abbrev pub convert_inputs : ConvertDemand → List Text
convert_inputs demand = demand.trace ∷ []

abbrev pub convert_outputs : ConvertDemand → List Text
convert_outputs demand = demand.file ∷ []

-- what the code's options ask for
abbrev pub convert_meaning : ConvertOptions → ConvertDemand
convert_meaning options = record { trace = options.trace.now; file = options.file.now }
