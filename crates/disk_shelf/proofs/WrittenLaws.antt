-- What was written under a name after one call more: the file of the name changes, and no other.
use Rattle.std.proofs.Common.{◌≡◌, ◌≢◌, ℕ, List, [], ◌∷◌, ◌++◌, true, false, Option, Some, None}
use Rattle.std.proofs.Common.{refl, sym}
use Rattle.std.specs.Str.{bytes_eq}
use Rattle.std.specs.Io.KnownBytes.{Appends}
use Rattle.std.specs.Option.{option_map}
use Rattle.std.proofs.lemmas.Bool.{false_from_ne_true}
use Rattle.std.proofs.lemmas.Slice.Eq.{bytes_eq-Decides}
use Rattle.shelf.specs.Shelf.{ChangesAt}
use Rattle.disk_shelf.specs.Disk.{written_by}
use Rattle.disk_shelf.specs.Done.{Done, WasBegun, WasAppended}

itself : (name : List ℕ) → bytes_eq name name ≡ true
itself name = (bytes_eq-Decides name name).1 refl

other : (name n : List ℕ) → n ≢ name → bytes_eq name n ≡ false
other name n differs =
    false_from_ne_true _ (λ same. differs (sym ((bytes_eq-Decides name n).0 same)))

-- a begun file is empty
pub begun : (name : List ℕ) (before : List Done)
    → ChangesAt name (λ old new. new ≡ Some []) (written_by before)
    (written_by (WasBegun name ∷ before))
begun name before = record {
  here = rw (itself name) refl;
  others = λ n differs. rw (other name n differs) refl;
}

longer : (old : Option (List ℕ)) (piece : List ℕ)
    → Appends old (option_map (λ bytes. bytes ++ piece) old) piece
longer None piece = tt
longer (Some bytes) piece = refl

-- a file that a piece was added to is longer by that piece
pub appended : (name piece : List ℕ) (before : List Done)
    → ChangesAt name (λ old new. Appends old new piece) (written_by before)
    (written_by (WasAppended name piece ∷ before))
appended name piece before = record {
  here = rw (itself name) (longer (written_by before name) piece);
  others = λ n differs. rw (other name n differs) refl;
}
