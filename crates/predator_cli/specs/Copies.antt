-- What the commands share that copy a trace, `convert` and `split`: what they read, and their work.
use Rattle.std.specs.Prelude.{ℕ, List, [], ◌++◌, codes}
use Rattle.std.specs.Fmt.{decimal}
use Rattle.std.specs.Option.{option_map_or}
use Rattle.shelf.specs.Files.{Output}
use Rattle.shelf.specs.Shelf.{Files, content}
use Rattle.trace_files.specs.Copies.{unfiltered}
use Rattle.trace_passes.specs.Passes.{Trace, trace_of}
use Rattle.command_io.specs.Readings.{Reading, reading}
use Rattle.command_io.specs.Texts.{line}
use Rattle.command_io.specs.Works.{Work, done_with}
use Rattle.command_io.specs.declared.status.Status.TheVariants as status
use Rattle.predator_cli.specs.Replay.{refuses_trace}

-- a trace of any number of harts, whose first access may have any position
abbrev pub copied_reading : List ℕ → Reading
copied_reading name = reading name (refuses_trace unfiltered name)

-- a line of a command and two numbers
abbrev pub copy_text : List ℕ → ℕ → ℕ → List ℕ
copy_text command first second =
    line (command ++ (codes " " ++ (decimal first ++ (codes " " ++ decimal second))))

-- a text and outputs, by the trace
abbrev pub copy_with : (Trace → List ℕ) → (Trace → List Output) → Trace → Work
copy_with text outputs t =
    record { status = status.Done; text = text t; outputs = outputs t }

-- the same of the trace of a name
abbrev pub copy_of : (Trace → List ℕ) → (Trace → List Output) → List ℕ → Files → Work
copy_of text outputs name files =
    option_map_or (copy_with text outputs) (trace_of (content files name)) (done_with [])
