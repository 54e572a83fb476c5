-- What an index is after one of its entries was lent.
use Rattle.std.specs.Prelude.{◌≡◌, ℕ, ◌==◌, if◌then◌else◌, Bool, IsTrue, Result}
use Rattle.std.specs.Borrow.{LendsSoOk, MutBor, Fml, RattleType}
use Rattle.detector.specs.declared.line_entry.LineEntry.{LineEntry}
use Rattle.detector.specs.contracts.line_entry.LineEntry.{the_row}
use Rattle.detector.specs.Entries.{Entries, entry_at, with_entry}

-- The line's entry is replaced, and every other line keeps its own.
pub record ChangesEntry (old new : Entries) (line : ℕ) (e : LineEntry) : Type 0 where
  pub whole : new ≡ with_entry old line e
  pub each : (q : ℕ) → entry_at new q ≡ if q == line then e else entry_at old q

-- A line that had a place still has one.
abbrev pub KeepsPlaces : (ℕ → Bool) → (ℕ → Bool) → Type 0
KeepsPlaces old new = (q : ℕ) → IsTrue (old q) → IsTrue (new q)

-- Behind an Ok the line has a place, and its entry ends as what was left there; at an Err every
-- line keeps its own.
abbrev pub LendsEntry : {E : Type 0} (R : RattleType) → (R.Denot → Entries) → (R.Denot → ℕ → Bool)
    → MutBor R.Denot → ℕ → Result (MutBor LineEntry) E → Fml
LendsEntry R entries has_place s line r =
    LendsSoOk R the_row s r
    (λ n e. ChangesEntry (entries s.now) (entries n) line e × IsTrue (has_place n line)
    × KeepsPlaces (has_place s.now) (has_place n))
    (λ n. (entries n ≡ entries s.now) × KeepsPlaces (has_place s.now) (has_place n))
