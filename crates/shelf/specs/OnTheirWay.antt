-- Any number of files on their way.
use Rattle.std.specs.Prelude.{◌≡◌, ◌≢◌, ℕ, zero, suc, List, [], ◌∷◌, ◌++◌, map}
use Rattle.shelf.specs.Shelf.{Outside, Goes, OnlyWritesAndReads}
use Rattle.shelf.specs.Files.{Output}
use Rattle.shelf.specs.OneFile.{Waiting, Sunk, IsBegun, kept_of}

-- the names of the files, in their order
abbrev pub names_of : List Waiting → List (List ℕ)
names_of files = map (λ f. f.name) files

-- none of the names is this one
abbrev pub IsNew : List ℕ → List (List ℕ) → Type 0
IsNew name [] = Unit {0}
IsNew name (n ∷ names) = (n ≢ name) × IsNew name names

-- no two of the names are one
abbrev pub AreApart : List (List ℕ) → Type 0
AreApart [] = Unit {0}
AreApart (n ∷ names) = IsNew n names × AreApart names

-- each name is begun, where files are known
abbrev pub AreBegun : List (List ℕ) → Outside → Type 0
AreBegun [] outside = Unit {0}
AreBegun (n ∷ names) outside = IsBegun n outside × AreBegun names outside

-- the files, in their order, are those of the outputs, and of each so many bytes were put
abbrev pub AreSunk : List Waiting → List Output → Outside → Type 0
AreSunk [] [] outside = Unit {0}
AreSunk [] (o ∷ outputs) outside = ⊥
AreSunk (f ∷ files) [] outside = ⊥
AreSunk (f ∷ files) (o ∷ outputs) outside = (f.name ≡ o.name) × Sunk f o.bytes outside
    × AreSunk files outputs outside

-- The files are on their way: what stands in each, and then what waits, is what was put into it so
-- far. A name that is not begun yet is none of them, and stands as it was; a file of which nothing
-- waits is whole. No call failed.
pub record IsOutputs (files : List Waiting) (outputs : List Output) (before now : Outside) : Type 0
  where
    pub sunk : AreSunk files outputs now
    pub others : Goes before.written now.written
        (λ old new. (name : List ℕ) → IsNew name (names_of files) → new name ≡ old name)
    pub faults : now.write_faults ≡ before.write_faults
    pub only : OnlyWritesAndReads before now

-- the outputs, with the bytes of the one at a place changed
abbrev pub changed_at : List Output → ℕ → (List ℕ → List ℕ) → List Output
changed_at [] place change = []
changed_at (o ∷ outputs) zero change = record o { bytes = change o.bytes } ∷ outputs
changed_at (o ∷ outputs) (suc place) change = o ∷ changed_at outputs place change

-- the outputs, with these bytes at the end of the one at a place
abbrev pub outputs_with : List Output → ℕ → List ℕ → List Output
outputs_with outputs place bytes = changed_at outputs place (λ put. put ++ bytes)

-- what waits, once these bytes were put into the file at a place
abbrev pub waiting_with : List Waiting → ℕ → List ℕ → List Waiting
waiting_with [] place bytes = []
waiting_with (f ∷ files) zero bytes = record f { kept = kept_of (f.kept ++ bytes) } ∷ files
waiting_with (f ∷ files) (suc place) bytes = f ∷ waiting_with files place bytes

-- nothing waits any more
abbrev pub NothingWaits : List Waiting → Type 0
NothingWaits [] = Unit {0}
NothingWaits (f ∷ files) = (f.kept ≡ []) × NothingWaits files
