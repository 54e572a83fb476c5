-- Written lines by their numbers, with how often each was written.
use Rattle.std.specs.Prelude.{◌≡◌, ℕ, ◌<◌, ◌≤◌, ◌^◌, Bool, nat_lt, if◌then◌else◌, List}
use Rattle.std.specs.List.{All}
use Rattle.saved_state.specs.declared.state_parts.CountedLine.{CountedLine}
use Rattle.sharing_rules.specs.Members.{IsRising, Member}

abbrev pub has_lower_number : CountedLine → CountedLine → Bool
has_lower_number x y = nat_lt x.number y.number

-- line k with its count
abbrev pub counted_line : (ℕ → ℕ) → ℕ → CountedLine
counted_line count k = record { number = k; writes = count k }

-- the lines that were written by a count of writes, each once, in order of their numbers
pub record AreCounted (count : ℕ → ℕ) (lines : List CountedLine) : Type 0 where
  pub rising : IsRising has_lower_number lines
  pub counted : (l : CountedLine) → Member l lines → (0 < l.writes) × (l.writes ≡ count l.number)
  pub all : (k : ℕ) → 0 < count k → Member (counted_line count k) lines

-- the count of the writes of the lines below n alone
abbrev pub count_below : ℕ → (ℕ → ℕ) → ℕ → ℕ
count_below n count k = if nat_lt k n then count k else 0

-- the numbers that a line can have
abbrev pub AreInRange : List CountedLine → Type 0
AreInRange lines = All (λ l. l.number ≤ 2 ^ 30) lines
