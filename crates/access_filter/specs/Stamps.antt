-- What a stamp says.
use Rattle.std.specs.Prelude.{◌≡◌, ℕ, ◌+◌, ◌*◌, ◌==◌, false, if◌then◌else◌}
use Rattle.access_filter.specs.declared.stamp.Stamp.{Stamp}

-- a stamp where nobody came yet: no hart has the number 256
abbrev pub blank_stamp : Stamp
blank_stamp = record { low = 0; high = 0; last = 256; writes = false }

abbrev pub number_of : Stamp → ℕ
number_of m = m.high * 4294967296 + m.low

-- A hart came near a region.
pub record IsVisited (h : ℕ) (m n : Stamp) : Type 0 where
  pub last : n.last ≡ h
  pub number : number_of n ≡ (if m.last == h then number_of m else number_of m + 1)
