-- A file on its way: what was put into it stands in the written file of its name, but for what
-- still waits.
use Rattle.std.specs.Prelude.{◌≡◌, ◌≢◌, ℕ, List, [], ◌++◌, length, take, Option, Some, None, IsSome}
use Rattle.std.specs.Prelude.{nat_lt}
use Rattle.std.specs.Prelude.{if◌then◌else◌}
use Rattle.std.specs.Option.{ForSome}
use Rattle.shelf.specs.Shelf.{Outside, Files, Known, Goes}

-- the bytes that wait for the written file of a name
pub record Waiting : Type 0 where
  pub name : List ℕ
  pub kept : List ℕ

-- what waits of these bytes: fewer than 64 KiB do, more go to the file
abbrev pub kept_of : List ℕ → List ℕ
kept_of bytes = if nat_lt (length bytes) 65536 then bytes else []

-- the name has a written file, where files are known
abbrev pub IsBegun : List ℕ → Outside → Type 0
IsBegun name outside = ForSome outside.written (λ files. IsSome (files name))

-- the file of the name and then what waits are the bytes that were put so far, in their order
abbrev pub AddsUp : Waiting → List ℕ → Files → Type 0
AddsUp sink pushed files = (file : List ℕ) × (files sink.name ≡ Some file)
    × (file ++ sink.kept ≡ pushed)

abbrev pub Sunk : Waiting → List ℕ → Outside → Type 0
Sunk sink pushed outside = Known outside.written (AddsUp sink pushed)

-- the file of the name is these bytes
abbrev pub Holds : List ℕ → List ℕ → Outside → Type 0
Holds name bytes outside = Known outside.written (λ files. files name ≡ Some bytes)

-- the file of the name is a front of these bytes
abbrev pub HoldsFront : List ℕ → List ℕ → Outside → Type 0
HoldsFront name bytes outside = Known outside.written
    (λ files. (k : ℕ) × (files name ≡ Some (take k bytes)))

-- what stood in a file stands, and there may be more behind it
abbrev pub GoesOn : Option (List ℕ) → Option (List ℕ) → Type 0
GoesOn None now = Unit {0}
GoesOn (Some bytes) now = (more : List ℕ) × (now ≡ Some (bytes ++ more))

-- no file loses what was written to it
abbrev pub LosesNothing : Outside → Outside → Type 0
LosesNothing old new = Goes old.written new.written
    (λ before now. (name : List ℕ) → GoesOn (before name) (now name))

-- each other name's file is as it was
abbrev pub OthersStay : List ℕ → Outside → Outside → Type 0
OthersStay name old new = Goes old.written new.written (λ before now. (n : List ℕ) → n ≢ name
    → now n ≡ before n)

-- so what stood of other names' files stands
pub record OthersStand (name : List ℕ) (old new : Outside) : Type 0 where
  pub begun : (n : List ℕ) → n ≢ name → IsBegun n old → IsBegun n new
  pub sunk : (other : Waiting) (pushed : List ℕ) → other.name ≢ name → Sunk other pushed old
      → Sunk other pushed new
