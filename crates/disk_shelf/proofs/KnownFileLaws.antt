-- A file that was noted is known under its name.
use Rattle.std.proofs.Common.{◌≡◌, ◌++◌, ◌∷◌, ◌==◌, ◌&&◌, List, [], true, refl}
use Rattle.std.specs.Prelude.{IsTrue, string_bytes}
use Rattle.std.proofs.Math.Bool.{or-true}
use Rattle.std.specs.List.{list_any}
use Rattle.std.specs.Str.{bytes_eq}
use Rattle.std.proofs.lemmas.Bool.Decides.{Decides-eqb}
use Rattle.std.proofs.lemmas.Slice.Eq.{bytes_eq-Decides}
use Rattle.disk_shelf.specs.Disk.{has_name, is_file}
use Rattle.disk_shelf.specs.declared.known_files.FileId.{FileId}
use Rattle.disk_shelf.specs.declared.known_files.KnownFile.{KnownFile}

is_itself : (id : FileId) → is_file id id ≡ true
is_itself id =
    let number : (id.number == id.number) ≡ true = (Decides-eqb id.number id.number).1 refl in
    rw ((Decides-eqb id.device id.device).1 refl) number

pub noted : (file : KnownFile) (files : List KnownFile)
    → IsTrue (has_name file.id (string_bytes file.name) (files ++ file ∷ []))
noted file [] = rw (
  is_itself file.id,
  (bytes_eq-Decides (string_bytes file.name)
      (string_bytes file.name)).1 refl,
) refl
noted file (first ∷ rest) =
    let later : list_any (λ known. is_file known.id file.id && bytes_eq (string_bytes known.name)
    (string_bytes file.name))
    (rest ++ file ∷ []) ≡ true = noted file rest in
    rw (later) (or-true _)
