-- The command `place`: what its words ask for.
use Rattle.std.specs.Prelude.{ℕ, List, [], ◌∷◌, Option, option_map, option_and_then, codes}
use Rattle.clap.specs.Words.{App, Row, Text, first_of}
use Rattle.command_line.specs.Apps.{plain_app, with_option, with_word}
use Rattle.command_line.specs.Asked.{asked}
use Rattle.command_line.specs.Layouts.{given_size}
use Rattle.command_line.specs.Numbers.{marked_address_of}
use Rattle.command_line.specs.declared.place.PlaceOptions.{PlaceOptions}

abbrev pub place_usage : Text
place_usage = codes "usage: predator place TRACE NAME [--size N]\n"

-- give the words of an object of a trace new places on lines of a size, and count again; the object
-- is that of a name, or the block at the address that the name is
pub record PlaceDemand : Type 0 where
  pub trace : Text
  pub name : Text
  pub at : Option ℕ
  pub size : ℕ

abbrev pub place_app : App
place_app =
    with_option (with_word (with_word (plain_app (codes "place")) (codes "trace")) (codes "name"))
    (codes "size")

abbrev pub place_with : Text → Text → ℕ → PlaceDemand
place_with trace name size = record {
  trace = trace;
  name = name;
  at = marked_address_of name;
  size = size;
}

-- what its values ask for, unless its size is none that is allowed
abbrev pub place_demand_of : List Row → Option PlaceDemand
place_demand_of rows =
    option_and_then (λ trace. option_and_then (λ name. option_map (place_with trace name)
    (given_size (first_of (codes "size") rows)))
    (first_of (codes "name") rows))
    (first_of (codes "trace") rows)

abbrev pub asked_of_place : List Text → Option PlaceDemand
asked_of_place words = asked place_app place_demand_of words

-- one file is read, and none is written
abbrev pub place_inputs : PlaceDemand → List Text
place_inputs demand = demand.trace ∷ []

abbrev pub place_outputs : PlaceDemand → List Text
place_outputs demand = []

-- what the code's options ask for
abbrev pub place_meaning : PlaceOptions → PlaceDemand
place_meaning options = record {
  trace = options.trace.now;
  name = options.name.now;
  at = options.at;
  size = options.size;
}
