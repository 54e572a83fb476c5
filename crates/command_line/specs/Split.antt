-- The command `split`: what its words ask for.
use Rattle.std.specs.Prelude.{ℕ, List, [], ◌∷◌, Option, option_and_then, option_map, codes}
use Rattle.clap.specs.Words.{App, Row, Text, first_of}
use Rattle.command_line.specs.Apps.{plain_app, with_word}
use Rattle.command_line.specs.Asked.{asked}
use Rattle.command_line.specs.Numbers.{number_of}
use Rattle.command_line.specs.declared.split.SplitOptions.{SplitOptions}

abbrev pub split_usage : Text
split_usage =
    codes "usage: predator split TRACE K A B\n"

-- cut a trace before so many accesses, and write its halves
pub record SplitDemand : Type 0 where
  pub trace : Text
  pub at : ℕ
  pub first : Text
  pub second : Text

abbrev pub split_app : App
split_app =
    with_word (with_word (with_word (with_word (plain_app (codes "split")) (codes "trace"))
    (codes "at")) (codes "first")) (codes "second")

abbrev pub split_with : Text → Text → Text → ℕ → SplitDemand
split_with trace first second at =
    record { trace = trace; at = at; first = first; second = second }

-- what its values ask for
abbrev pub split_of : List Row → Option SplitDemand
split_of rows =
    option_and_then (λ trace. option_and_then (λ first. option_and_then (λ second.
    option_map (split_with trace first second)
    (option_and_then number_of (first_of (codes "at") rows)))
    (first_of (codes "second") rows))
    (first_of (codes "first") rows))
    (first_of (codes "trace") rows)

abbrev pub asked_of_split : List Text → Option SplitDemand
asked_of_split words = asked split_app split_of words

-- one file is read, and two are written
abbrev pub split_inputs : SplitDemand → List Text
split_inputs demand = demand.trace ∷ []

abbrev pub split_outputs : SplitDemand → List Text
split_outputs demand = demand.first ∷ demand.second ∷ []

-- what the code's options ask for
abbrev pub split_meaning : SplitOptions → SplitDemand
split_meaning options = record {
  trace = options.trace.now;
  at = options.at;
  first = options.first.now;
  second = options.second.now;
}
