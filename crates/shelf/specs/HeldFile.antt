-- A list of named files, as a map from names to bytes.
use Rattle.std.specs.Prelude.{ℕ, Bool, List, Option, string_bytes, find}
use Rattle.std.specs.Option.{option_map}
use Rattle.std.specs.Str.{bytes_eq}
use Rattle.shelf.specs.declared.files.HeldFile.{HeldFile}

abbrev pub is_named : List ℕ → HeldFile → Bool
is_named name file = bytes_eq (string_bytes file.name) name

-- the bytes of the first file of a name
abbrev pub file_of : List HeldFile → List ℕ → Option (List ℕ)
file_of files name = option_map (λ file. file.content.items) (find (is_named name) files)
