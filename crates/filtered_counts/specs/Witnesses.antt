-- Witnesses that are kept.
use Rattle.std.specs.Prelude.{ℕ, ◌<◌, IsTrue, length}
use Rattle.base.specs.Touch.{Touch}
use Rattle.sharing_rules.specs.AccessLists.{AccessList}
use Rattle.sharing_rules.specs.Filtered.{is_kept_at, is_witness}

-- a place whose access covers another one, near which no other hart came since, and which isn't
-- redundant itself
pub record KeptWitness (k : ℕ) (t : AccessList) (a : Touch) : Type 0 where
  pub place : ℕ
  pub within : place < length t
  pub witness : IsTrue (is_witness k t a place)
  pub kept : IsTrue (is_kept_at k t place)
