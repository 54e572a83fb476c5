-- A whole file read in pieces, and what `fetch` makes of a shelf's errors.
use Rattle.std.specs.Prelude.{◌≡◌, ◌≤◌, ℕ, List, length, take, IsErrOf, Result}
use Rattle.shelf.specs.Shelf.{Outside, Rose}
use Rattle.shelf.specs.declared.shelf.ShelfError.{ShelfError}
use Rattle.shelf.specs.declared.shelf.ShelfError.TheVariants.{Failed, NoMemory}
use Rattle.shelf.specs.declared.whole_file.FetchError.{FetchError}
use Rattle.shelf.specs.declared.whole_file.FetchError.TheVariants as errors

abbrev pub fetch_error : ShelfError → FetchError
fetch_error Failed = errors.ReadFault
fetch_error NoMemory = errors.NoMemory

-- as of a call of the shelf: the faults of reading don't fall, rose at the name where the answer is
-- `ReadFault`, and are the same at each other answer
pub record HasFetchCause {T : Type 0} (name : List ℕ) (old new : Outside)
    (result : Result T FetchError) : Type 0 where
  pub later : (n : List ℕ) → old.read_faults n ≤ new.read_faults n
  pub failed : IsErrOf result errors.ReadFault → Rose (old.read_faults name) (new.read_faults name)
  pub quiet : (IsErrOf result errors.ReadFault → ⊥) → new.read_faults ≡ old.read_faults

-- a file begins with these bytes
pub record IsFront (file bytes : List ℕ) : Type 0 where
  pub within : length bytes ≤ length file
  pub same : bytes ≡ take (length bytes) file
