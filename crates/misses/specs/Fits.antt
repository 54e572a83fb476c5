-- Lines of so many words whose counts are within a bound.
use Rattle.std.specs.Prelude.{◌≡◌, ℕ, ◌/◌, ◌<◌, ◌≤◌, ◌^◌, length, List}
use Rattle.std.specs.List.{AllByRecursion}
use Rattle.misses.specs.MissCounts.{LineEntry}
use Rattle.misses.specs.declared.line_misses.Counts.{Counts}

-- counts below 2^40
pub record IsFew (c : Counts) : Type 0 where
  pub cold : c.cold < 2 ^ 40
  pub misses : c.misses < 2 ^ 40
  pub needed : c.needed < 2 ^ 40

-- a line of n words, of at most p misses
pub record IsFit (n p : ℕ) (l : LineEntry) : Type 0 where
  pub words : length l.words ≡ n
  pub cold : l.counts.cold ≤ p
  pub misses : l.counts.misses ≤ p
  pub needed : l.counts.needed ≤ p

-- counts of at most p
pub record IsWithin (p : ℕ) (c : Counts) : Type 0 where
  pub cold : c.cold ≤ p
  pub misses : c.misses ≤ p
  pub needed : c.needed ≤ p

-- the lines of a layout of n bytes
unfoldable pub AreFit : ℕ → ℕ → List (ℕ × LineEntry) → Type 0
AreFit n p es = AllByRecursion (λ e. (e.0 ≤ 2 ^ 32) × IsFit (n / 4) p e.1) es
