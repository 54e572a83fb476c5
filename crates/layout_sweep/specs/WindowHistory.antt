-- What is kept of a window: the first two harts that came since its last write, none before the
-- first, and whether it was ever taken from a hart.
use Rattle.std.specs.Prelude.{ℕ, Bool, List, Option}

pub record WindowHistory : Type 0 where
  pub history : Option (List ℕ)
  pub taken : Bool
