-- What a command judges in an order, files for the most part, each of which may be refused, and how
-- that order decides an end.
use Rattle.std.specs.Prelude.{◌≡◌, ◌≢◌, ◌⊎◌, ℕ, false, List, [], ◌∷◌, Option, Some, None}
use Rattle.std.specs.Option.{option_or}
use Rattle.shelf.specs.Shelf.{Files, Outside, Known, Rose, OnlyReads, HasRead, content}
use Rattle.command_io.specs.Statuses.{Kind, kind_of, done, refusal, read_fault, write_fault}
use Rattle.command_io.specs.Statuses.{no_memory, hides_no_memory}
use Rattle.command_io.specs.declared.status.Status.{Status}
use Rattle.command_io.specs.declared.status.Status.TheVariants as status

-- a file that is read, by its name, None where no file is read for it; and how it is refused, if it
-- is, beside the contents of all files
pub record Reading : Type 0 where
  pub name : Option (List ℕ)
  pub refusal : Files → Option Status

abbrev pub reading : List ℕ → (Files → Option Status) → Reading
reading name refuses = record { name = Some name; refusal = refuses }

-- what is judged without a file
abbrev pub unread : Option Status → Reading
unread refused = record { name = None; refusal = λ files. refused }

-- some names, behind another if there is one
abbrev pub named_before : Option (List ℕ) → List (List ℕ) → List (List ℕ)
named_before None names = names
named_before (Some name) names = name ∷ names

abbrev pub names_of : List Reading → List (List ℕ)
names_of [] = []
names_of (r ∷ later) = named_before r.name (names_of later)

-- the refusal of the first file that is refused
abbrev pub first_refusal : List Reading → Files → Option Status
first_refusal [] files = None
first_refusal (r ∷ later) files = option_or (r.refusal files) (first_refusal later files)

-- the faults of one of these names rose
abbrev pub RoseAt : List (List ℕ) → (List ℕ → ℕ) → (List ℕ → ℕ) → Type 0
RoseAt [] before now = ⊥
RoseAt (name ∷ names) before now = Rose (before name) (now name) ⊎ RoseAt names before now

-- the faults of the one that is named
abbrev pub RoseOf : Option (List ℕ) → (List ℕ → ℕ) → (List ℕ → ℕ) → Type 0
RoseOf None before now = ⊥
RoseOf (Some name) before now = Rose (before name) (now name)

-- the faults of reading one of the files rose, and every file before it is accepted
abbrev pub FailsInOrder : List Reading → Files → (List ℕ → ℕ) → (List ℕ → ℕ) → Type 0
FailsInOrder [] files before now = ⊥
FailsInOrder (r ∷ later) files before now =
    RoseOf r.name before now ⊎ ((r.refusal files ≡ None)
    × FailsInOrder later files before now)

-- why a command stopped while it read its files: the first refusal or want of memory, at which no
-- number of faults of reading has risen, or a fault of reading before any refusal
abbrev pub StopsBy : List Reading → Outside → Outside → Kind → Status → Type 0
StopsBy readings old now done s = ⊥
StopsBy readings old now refusal s =
    Known now.held (λ files. first_refusal readings files ≡ Some s)
    × (now.read_faults ≡ old.read_faults)
StopsBy readings old now read_fault s =
    RoseAt (names_of readings) old.read_faults now.read_faults
    × Known now.held (λ files. FailsInOrder readings files old.read_faults now.read_faults)
StopsBy readings old now write_fault s = ⊥
StopsBy readings old now no_memory s = now.read_faults ≡ old.read_faults

-- it stopped with this status, and did nothing but read
pub record IsStopped (readings : List Reading) (old now : Outside) (s : Status) : Type 0 where
  pub why : StopsBy readings old now (kind_of s) s
  pub words : s ≢ status.Usage
  pub memory : hides_no_memory s ≡ false
  pub only : OnlyReads old now

-- its files are accepted, and it did nothing but read
pub record IsAccepted (readings : List Reading) (old now : Outside) : Type 0 where
  pub accepts : Known now.held (λ files. first_refusal readings files ≡ None)
  pub read : HasRead old now

-- ---- one file

-- a status that may be the refusal of a file
pub record IsRefusal (s : Status) : Type 0 where
  pub kind : kind_of s ≡ refusal
  pub words : s ≢ status.Usage
  pub memory : hides_no_memory s ≡ false

-- why the judging of one content stopped: it is refused, or memory ran out
abbrev pub JudgedBy : Option Status → Kind → Status → Type 0
JudgedBy refused done s = ⊥
JudgedBy refused refusal s = refused ≡ Some s
JudgedBy refused read_fault s = ⊥
JudgedBy refused write_fault s = ⊥
JudgedBy refused no_memory s = Unit {0}

pub record IsJudged (refused : Option Status) (s : Status) : Type 0 where
  pub why : JudgedBy refused (kind_of s) s
  pub words : s ≢ status.Usage
  pub memory : hides_no_memory s ≡ false

-- P holds of the bytes that were read under a name, which are the held ones where these are known
pub record IsReadFrom (held : Option Files) (name : List ℕ) (P : List ℕ → Type 0) : Type 0 where
  pub bytes : List ℕ
  pub whole : Known held (λ files. bytes ≡ content files name)
  pub given : P bytes
