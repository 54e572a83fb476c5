-- What stands in files that are written.
use Rattle.std.specs.Prelude.{◌≡◌, ◌≢◌, ◌⊎◌, ◌≤◌, ℕ, List, [], ◌∷◌, ◌++◌, Option, Some, None, take}
use Rattle.std.specs.Prelude.{find}
use Rattle.std.specs.Option.{option_map, option_or}
use Rattle.std.specs.Str.{bytes_eq}
use Rattle.shelf.specs.Shelf.{Outside, Files, Goes, OnlyWritesAndReads, Rose}
use Rattle.shelf.specs.declared.shelf.ShelfError.{ShelfError}
use Rattle.shelf.specs.declared.shelf.ShelfError.TheVariants.{Failed}

-- a file to be written: its name, and all its bytes
pub record Output : Type 0 where
  pub name : List ℕ
  pub bytes : List ℕ

-- the one file of a name, with these bytes
abbrev pub one_file : List ℕ → List ℕ → List Output
one_file name bytes = record { name = name; bytes = bytes } ∷ []

-- the bytes for a name: those of its first output
abbrev pub bytes_for : List Output → List ℕ → Option (List ℕ)
bytes_for outputs name = option_map (λ o. o.bytes) (find (λ o. bytes_eq o.name name) outputs)

-- a file is a front of the bytes for its name, and as it was where there are none
abbrev pub IsFrontOf : Option (List ℕ) → Option (List ℕ) → Option (List ℕ) → Type 0
IsFrontOf None before now = now ≡ before
IsFrontOf (Some bytes) before now = (k : ℕ) × (now ≡ Some (take k bytes))

-- of every output a front stands, and each other file as it was
abbrev pub AreFronts : List Output → Files → Files → Type 0
AreFronts outputs before now = (name : List ℕ) → IsFrontOf (bytes_for outputs name) (before name)
    (now name)

-- the outputs are begun in their order: of the first so many a front stands, and each other file as
-- it was
abbrev pub BegunInOrder : List Output → Files → Files → Type 0
BegunInOrder outputs before now = (begun : ℕ) × AreFronts (take begun outputs) before now

-- every output is whole, and each other file as it was
abbrev pub AreWhole : List Output → Files → Files → Type 0
AreWhole outputs before now = (name : List ℕ) → now name ≡ option_or (bytes_for outputs name)
    (before name)

-- these files go on: more bytes come to each, and more files behind them
abbrev pub GoOn : List Output → List Output → Type 0
GoOn [] longer = Unit {0}
GoOn (o ∷ os) [] = ⊥
GoOn (o ∷ os) (l ∷ ls) = (l.name ≡ o.name) × ((more : List ℕ) × (l.bytes ≡ o.bytes ++ more))
    × GoOn os ls

-- the number of faults of one of the outputs rose
abbrev pub RoseAmong : List Output → (List ℕ → ℕ) → (List ℕ → ℕ) → Type 0
RoseAmong [] before now = ⊥
RoseAmong (o ∷ os) before now = Rose (before o.name) (now o.name) ⊎ RoseAmong os before now

-- no number of faults falls; where the error is a failure that of one of the outputs rose, and else
-- all stay
pub record HasCauseAmong (outputs : List Output) (before now : List ℕ → ℕ) (error : ShelfError) :
    Type 0 where
  pub later : (n : List ℕ) → before n ≤ now n
  pub failed : error ≡ Failed → RoseAmong outputs before now
  pub quiet : error ≢ Failed → now ≡ before

-- all outputs are written: the calls failed nowhere, and did nothing else
pub record AreWritten (outputs : List Output) (before now : Outside) : Type 0 where
  pub whole : Goes before.written now.written (AreWhole outputs)
  pub faults : now.write_faults ≡ before.write_faults
  pub only : OnlyWritesAndReads before now

-- the outputs are cut where a call gave up with an error: some are begun, in their order, and what
-- stands of each is a front, and who is the cause is known
pub record AreCut (outputs : List Output) (before now : Outside) (error : ShelfError) : Type 0 where
  pub begun : Goes before.written now.written (BegunInOrder outputs)
  pub cause : HasCauseAmong outputs before.write_faults now.write_faults error
  pub only : OnlyWritesAndReads before now
