-- The command `sweep`: what its words ask for.
use Rattle.std.specs.Prelude.{ℕ, Bool, eqb, if◌then◌else◌, List, [], ◌∷◌, Option, Some, None, codes}
use Rattle.std.specs.Prelude.{option_and_then, option_map}
use Rattle.std.specs.List.{list_any}
use Rattle.clap.specs.Words.{App, Row, Text, first_of}
use Rattle.command_line.specs.Apps.{plain_app, with_option, with_word}
use Rattle.command_line.specs.Asked.{asked}
use Rattle.command_line.specs.Numbers.{number_of}
use Rattle.command_line.specs.declared.sweep.SweepOptions.{SweepOptions}

abbrev pub sweep_usage : Text
sweep_usage = codes "usage: predator sweep TRACE --size N\n"

-- count every shift of a line size in a trace
pub record SweepDemand : Type 0 where
  pub trace : Text
  pub size : ℕ

abbrev pub sweep_app : App
sweep_app = with_option (with_word (plain_app (codes "sweep")) (codes "trace")) (codes "size")

-- a size that can be swept: a power of two from 4 to 256
abbrev pub is_swept_size : ℕ → Bool
is_swept_size n = list_any (eqb n) (4 ∷ 8 ∷ 16 ∷ 32 ∷ 64 ∷ 128 ∷ 256 ∷ [])

abbrev pub allowed_size : ℕ → Option ℕ
allowed_size n = if is_swept_size n then Some n else None

-- the number that the word for it is, where it is allowed; there is no usual one
abbrev pub size_in : Option Text → Option ℕ
size_in word = option_and_then allowed_size (option_and_then number_of word)

abbrev pub sweep_with : Text → ℕ → SweepDemand
sweep_with trace size = record { trace = trace; size = size }

-- what its values ask for
abbrev pub sweep_of : List Row → Option SweepDemand
sweep_of rows =
    option_and_then (λ trace. option_map (sweep_with trace) (size_in (first_of (codes "size") rows)))
    (first_of (codes "trace") rows)

abbrev pub asked_of_sweep : List Text → Option SweepDemand
asked_of_sweep words = asked sweep_app sweep_of words

-- one file is read, and none is written
abbrev pub sweep_inputs : SweepDemand → List Text
sweep_inputs demand = demand.trace ∷ []

abbrev pub sweep_outputs : SweepDemand → List Text
sweep_outputs demand = []

-- what the code's options ask for
abbrev pub sweep_meaning : SweepOptions → SweepDemand
sweep_meaning options = record { trace = options.trace.now; size = options.size }
