-- What a shelf of named files and a printed text means, and what a call does to it.
use Rattle.std.specs.Prelude.{◌≡◌, ◌≢◌, ◌⊎◌, ℕ, ◌+◌, ◌-◌, ◌^◌, ◌<◌, ◌≤◌, min, List, [], ◌∷◌, ◌++◌}
use Rattle.std.specs.Prelude.{length, take, drop, unwrap_or, MatchResult, IsErrOf, Option, Result}
use Rattle.std.specs.Prelude.{Some, None, Ok, Err}
use Rattle.std.specs.Io.KnownBytes.{Appends}
use Rattle.shelf.specs.declared.shelf.ShelfError.{ShelfError}
use Rattle.shelf.specs.declared.shelf.ShelfError.TheVariants.{Failed}

-- the bytes of each name that has a file; a name is the bytes of its text
abbrev pub Files : Type 0
Files = List ℕ → Option (List ℕ)

-- the bytes under a name, none where it has no file
abbrev pub content : Files → List ℕ → List ℕ
content files name = unwrap_or (files name) []

-- what a read gave: of the file of this name, from a place on and into so much room, these bytes
pub record Given : Type 0 where
  pub name : List ℕ
  pub at : ℕ
  pub room : ℕ
  pub bytes : List ℕ

-- all that a shelf means; the first three may be unknown
pub record Outside : Type 0 where
  -- the files that can be read
  pub held : Option Files
  -- what was written under each name that was begun
  pub written : Option Files
  -- the printed text
  pub printed : Option (List ℕ)
  -- how often reading a name has failed
  pub read_faults : List ℕ → ℕ
  -- how often writing a name has failed
  pub write_faults : List ℕ → ℕ
  -- how often printing has failed
  pub print_faults : ℕ
  -- what the reads have given that were answered Ok, the latest first
  pub given : List Given

-- where a meaning is known, P holds of it
abbrev pub Known : {A : Type 0} → Option A → (A → Type 0) → Type 0
Known None P = Unit {0}
Known (Some x) P = P x

-- what is known stays known, and P leads from the old meaning to the new; what is unknown stays
-- unknown
abbrev pub Goes : {A : Type 0} → Option A → Option A → (A → A → Type 0) → Type 0
Goes None None P = Unit {0}
Goes None (Some y) P = ⊥
Goes (Some x) None P = ⊥
Goes (Some x) (Some y) P = P x y

-- the file of one name changes so, and each other name keeps its own
pub record ChangesAt (name : List ℕ) (P : Option (List ℕ) → Option (List ℕ) → Type 0)
    (old new : Files) : Type 0 where
  pub here : P (old name) (new name)
  pub others : (n : List ℕ) → n ≢ name → new n ≡ old n

-- what is known is what was known before, or it is known no more
abbrev pub Narrows : {A : Type 0} → Option A → Option A → Type 0
Narrows old new = Known new (λ x. old ≡ Some x)

-- a number of faults is greater than before, or it stands at its end
abbrev pub Rose : ℕ → ℕ → Type 0
Rose before now = min (before + 1) (2 ^ 64 - 1) ≤ now

-- the number doesn't fall, rose where the call failed, and is the same at each other answer
pub record HasCause {T : Type 0} (before now : ℕ) (result : Result T ShelfError) : Type 0 where
  pub later : before ≤ now
  pub failed : IsErrOf result Failed → Rose before now
  pub quiet : (IsErrOf result Failed → ⊥) → now ≡ before

-- the same for a number of each name: it rose at the name of the call
pub record HasCauseAt {T : Type 0} (name : List ℕ) (before now : List ℕ → ℕ)
    (result : Result T ShelfError) : Type 0 where
  pub later : (n : List ℕ) → before n ≤ now n
  pub failed : IsErrOf result Failed → Rose (before name) (now name)
  pub quiet : (IsErrOf result Failed → ⊥) → now ≡ before

abbrev pub read_of : List ℕ → ℕ → ℕ → List ℕ → Given
read_of name at room bytes = record { name = name; at = at; room = room; bytes = bytes }

-- what was given once a read was answered so: one read more at Ok, and no more at an error
abbrev pub given_after : Result ℕ ShelfError → List ℕ → ℕ → List ℕ → List Given → List Given
given_after (Ok n) name at buffer before = read_of name at (length buffer) (take n buffer) ∷ before
given_after (Err e) name at buffer before = before

-- more was given
abbrev pub Grows : List Given → List Given → Type 0
Grows before now = (more : List Given) × (now ≡ more ++ before)

-- nothing changes but the faults of reading, and what was given, which grows; and the files that are
-- held may be known no more
pub record OnlyReads (old new : Outside) : Type 0 where
  pub held : Narrows old.held new.held
  pub written : new.written ≡ old.written
  pub printed : new.printed ≡ old.printed
  pub write_faults : new.write_faults ≡ old.write_faults
  pub print_faults : new.print_faults ≡ old.print_faults
  pub given : Grows old.given new.given

-- no reading failed either
pub record HasRead (old new : Outside) : Type 0 where
  pub only : OnlyReads old new
  pub faults : new.read_faults ≡ old.read_faults

-- nothing changes but what is written, and the faults of writing
pub record OnlyWrites (old new : Outside) : Type 0 where
  pub held : new.held ≡ old.held
  pub printed : new.printed ≡ old.printed
  pub read_faults : new.read_faults ≡ old.read_faults
  pub print_faults : new.print_faults ≡ old.print_faults
  pub given : new.given ≡ old.given

-- the same, but reads that didn't fail may stand between the writes of one output, so more may be
-- given, and the files that are held may be known no more
pub record OnlyWritesAndReads (old new : Outside) : Type 0 where
  pub held : Narrows old.held new.held
  pub printed : new.printed ≡ old.printed
  pub read_faults : new.read_faults ≡ old.read_faults
  pub print_faults : new.print_faults ≡ old.print_faults
  pub given : Grows old.given new.given

-- nothing changes but the printed text, and the faults of printing
pub record OnlyPrints (old new : Outside) : Type 0 where
  pub held : new.held ≡ old.held
  pub written : new.written ≡ old.written
  pub read_faults : new.read_faults ≡ old.read_faults
  pub write_faults : new.write_faults ≡ old.write_faults
  pub given : new.given ≡ old.given

-- the first n bytes of the buffer are those of the file from a place on; none only at its end or
-- with no room
pub record Reads (file : List ℕ) (at n : ℕ) (buffer : List ℕ) : Type 0 where
  pub within : n ≤ length file - at
  pub bytes : take n buffer ≡ take n (drop at file)
  pub ends : n ≡ 0 → 0 < length buffer → length file ≤ at

-- known bytes grow by some prefix of these
abbrev pub AppendsPrefix : Option (List ℕ) → Option (List ℕ) → List ℕ → Type 0
AppendsPrefix old new bytes = (k : ℕ) × Appends old new (take k bytes)

-- all at Ok, and a prefix at an error
abbrev pub AppendsUnless : {T E : Type 0} → Option (List ℕ) → Option (List ℕ) → Result T E → List ℕ
    → Type 0
AppendsUnless old new result bytes = MatchResult result (λ _. Appends old new bytes)
    (λ _. AppendsPrefix old new bytes)

-- a begin: empty at Ok, and at an error as before or empty
abbrev pub Begins : {T E : Type 0} → Result T E → Option (List ℕ) → Option (List ℕ) → Type 0
Begins result old new = MatchResult result (λ _. new ≡ Some []) (λ _. (new ≡ old) ⊎ (new ≡ Some []))

-- a known text grows by these bytes, and one that is unknown stays unknown
abbrev pub Adds : Option (List ℕ) → Option (List ℕ) → List ℕ → Type 0
Adds old new bytes = Goes old new (λ before now. now ≡ before ++ bytes)

abbrev pub AddsFront : Option (List ℕ) → Option (List ℕ) → List ℕ → Type 0
AddsFront old new bytes = (k : ℕ) × Adds old new (take k bytes)

-- all of them at Ok, and a front at an error
abbrev pub AddsUnless : {T E : Type 0} → Option (List ℕ) → Option (List ℕ) → Result T E → List ℕ
    → Type 0
AddsUnless old new result bytes = MatchResult result (λ _. Adds old new bytes)
    (λ _. AddsFront old new bytes)
