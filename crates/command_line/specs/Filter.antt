-- The command `filter`: what its words ask for.
use Rattle.std.specs.Prelude.{ℕ, ◌^◌, eqb, find, List, [], ◌∷◌, Option, option_and_then, option_map}
use Rattle.std.specs.Prelude.{codes}
use Rattle.clap.specs.Words.{App, Row, Text, first_of}
use Rattle.command_line.specs.Apps.{plain_app, with_option, with_word}
use Rattle.command_line.specs.Asked.{asked}
use Rattle.command_line.specs.Numbers.{number_or}
use Rattle.command_line.specs.declared.filter.FilterOptions.{FilterOptions}

abbrev pub filter_usage : Text
filter_usage = codes "usage: predator filter TRACE FILE [--near N]\n"

-- write the filtered trace of a trace, for regions of 2^near bytes
pub record FilterDemand : Type 0 where
  pub trace : Text
  pub file : Text
  pub near : ℕ

abbrev pub filter_app : App
filter_app =
    with_option (with_word (with_word (plain_app (codes "filter")) (codes "trace")) (codes "file"))
    (codes "near")

-- the logarithm of a number of bytes, where it is one from 6 to 16
abbrev pub near_at : ℕ → Option ℕ
near_at n = find (λ k. eqb n (2 ^ k))
    (6 ∷ 7 ∷ 8 ∷ 9 ∷ 10 ∷ 11 ∷ 12 ∷ 13 ∷ 14 ∷ 15 ∷ 16 ∷ [])

-- that of the number that the word for it is, where it is allowed; a missing one is 4096
abbrev pub given_near : Option Text → Option ℕ
given_near word = option_and_then near_at (number_or 4096 word)

abbrev pub filter_with : Text → Text → ℕ → FilterDemand
filter_with trace file near = record { trace = trace; file = file; near = near }

-- what its values ask for, unless its regions have a size that isn't allowed
abbrev pub filter_of : List Row → Option FilterDemand
filter_of rows =
    option_and_then (λ trace. option_and_then (λ file. option_map (filter_with trace file)
    (given_near (first_of (codes "near") rows)))
    (first_of (codes "file") rows))
    (first_of (codes "trace") rows)

abbrev pub asked_of_filter : List Text → Option FilterDemand
asked_of_filter words = asked filter_app filter_of words

-- one file is read, and one is written
abbrev pub filter_inputs : FilterDemand → List Text
filter_inputs demand = demand.trace ∷ []

abbrev pub filter_outputs : FilterDemand → List Text
filter_outputs demand = demand.file ∷ []

-- what the code's options ask for
abbrev pub filter_meaning : FilterOptions → FilterDemand
filter_meaning options = record {
  trace = options.trace.now;
  file = options.file.now;
  near = options.near;
}
