-- What the commands share that pass over a whole trace once and print a text of it.
use Rattle.std.specs.Prelude.{◌≡◌, ℕ, List, [], ◌∷◌, Some}
use Rattle.std.specs.Option.{option_map_or}
use Rattle.shelf.specs.Shelf.{Files, Outside, content}
use Rattle.trace_passes.specs.Passes.{Trace, trace_of}
use Rattle.trace_passes.specs.declared.wanted.Wanted.{Wanted}
use Rattle.command_io.specs.Readings.{IsAccepted, IsReadFrom, Reading}
use Rattle.command_io.specs.Works.{Work, done_with}
use Rattle.predator_cli.specs.Replay.{trace_reading}

-- the one file that is read: a trace as it is wanted
abbrev pub counted_readings : Wanted → List ℕ → List Reading
counted_readings wanted name = trace_reading (λ _. wanted) name ∷ []

-- the text of the trace of a name
abbrev pub counted_work : (Trace → List ℕ) → List ℕ → Files → Work
counted_work text name files =
    option_map_or (λ t. done_with (text t)) (trace_of (content files name)) (done_with [])

-- these bytes are the text of the trace that some bytes are
pub record IsTextOf (text : Trace → List ℕ) (bytes stated : List ℕ) : Type 0 where
  pub trace : Trace
  pub is : trace_of bytes ≡ Some trace
  pub same : text trace ≡ stated

-- the trace of a name was read as it is wanted, and nothing was changed; these bytes are its text
pub record IsToReport (wanted : Wanted) (text : Trace → List ℕ) (name : List ℕ) (old now : Outside)
    (stated : List ℕ) : Type 0 where
  pub accepted : IsAccepted (counted_readings wanted name) old now
  pub read : IsReadFrom now.held name (λ bytes. IsTextOf text bytes stated)
