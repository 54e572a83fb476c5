-- What a command gives.
use Rattle.std.specs.Prelude.{ℕ, List, [], Option, Some, None, Result, Ok, Err}
use Rattle.shelf.specs.Files.{Output, one_file}
use Rattle.command_io.specs.Faults.{fault_text}
use Rattle.command_io.specs.declared.status.Status.{Status}
use Rattle.command_io.specs.declared.status.Status.TheVariants as status

-- a status, a text, and the bytes of its outputs
pub record Work : Type 0 where
  pub status : Status
  pub text : List ℕ
  pub outputs : List Output

abbrev pub done_with : List ℕ → Work
done_with text = record { status = status.Done; text = text; outputs = [] }

-- a refusal: its line, and nothing else
abbrev pub refused_with : Status → Work
refused_with s = record { status = s; text = fault_text s; outputs = [] }

-- a text, or a refusal in its place
abbrev pub done_or_refused : Result (List ℕ) Status → Work
done_or_refused (Ok text) = done_with text
done_or_refused (Err s) = refused_with s

-- the one file of a name, if one is given
abbrev pub output_for : Option (List ℕ) → List ℕ → List Output
output_for None bytes = []
output_for (Some name) bytes = one_file name bytes
