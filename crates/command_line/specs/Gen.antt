-- The command `gen`: what its words ask for.
use Rattle.std.specs.Prelude.{ℕ, ◌^◌, nat_le, if◌then◌else◌, List, [], ◌∷◌, Option, Some, None}
use Rattle.std.specs.Prelude.{codes, option_map, option_and_then}
use Rattle.clap.specs.Words.{App, Row, Text, first_of}
use Rattle.command_line.specs.Apps.{plain_app, with_word}
use Rattle.command_line.specs.Asked.{asked}
use Rattle.command_line.specs.Numbers.{number_of}
use Rattle.command_line.specs.declared.generate.GenOptions.{GenOptions}

abbrev pub gen_usage : Text
gen_usage =
    codes "usage: predator gen N FILE\n"

-- write a trace of so many accesses under a name
pub record GenDemand : Type 0 where
  pub count : ℕ
  pub file : Text

abbrev pub gen_app : App
gen_app = with_word (with_word (plain_app (codes "gen")) (codes "count")) (codes "file")

-- a trace has at most 10^9 accesses
abbrev pub allowed_count : ℕ → Option ℕ
allowed_count n = if nat_le n (10 ^ 9) then Some n else None

-- the number that the word for it is, where it is allowed
abbrev pub count_in : Option Text → Option ℕ
count_in word = option_and_then allowed_count (option_and_then number_of word)

abbrev pub gen_with : Text → ℕ → GenDemand
gen_with file count = record { count = count; file = file }

-- what its values ask for
abbrev pub gen_of : List Row → Option GenDemand
gen_of rows =
    option_and_then (λ file. option_map (gen_with file) (count_in (first_of (codes "count") rows)))
    (first_of (codes "file") rows)

abbrev pub asked_of_gen : List Text → Option GenDemand
asked_of_gen words = asked gen_app gen_of words

-- nothing is read, and one file is written
abbrev pub gen_inputs : GenDemand → List Text
gen_inputs demand = []

abbrev pub gen_outputs : GenDemand → List Text
gen_outputs demand = demand.file ∷ []

-- what the code's options ask for
abbrev pub gen_meaning : GenOptions → GenDemand
gen_meaning options = record { count = options.count; file = options.file.now }
