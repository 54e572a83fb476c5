-- The command `convert`: a trace in the other version.
use Rattle.std.specs.Prelude.{ℕ, List, [], ◌∷◌, codes, length}
use Rattle.command_line.specs.Convert.{ConvertDemand}
use Rattle.shelf.specs.Shelf.{Files}
use Rattle.trace_files.specs.Copies.{conversion, other_version}
use Rattle.trace_format.specs.Rules.{touches_in}
use Rattle.trace_format.specs.declared.record.Version.{Version}
use Rattle.trace_format.specs.declared.record.Version.TheVariants.{One, Two, Three, Four}
use Rattle.trace_passes.specs.Passes.{Trace}
use Rattle.command_io.specs.Readings.{Reading}
use Rattle.command_io.specs.Works.{Work}
use Rattle.predator_cli.specs.Copies.{copied_reading, copy_of, copy_text}

abbrev pub convert_readings : ConvertDemand → List Reading
convert_readings demand = copied_reading demand.trace ∷ []

abbrev pub version_number : Version → ℕ
version_number One = 1
version_number Two = 2
version_number Three = 3
version_number Four = 4

-- which version was written, and how many accesses there are
abbrev pub convert_text : Trace → List ℕ
convert_text t = copy_text (codes "convert") (version_number (other_version t.version))
    (length (touches_in t.items))

abbrev pub convert_work : ConvertDemand → Files → Work
convert_work demand files = copy_of convert_text (conversion demand.file) demand.trace files
