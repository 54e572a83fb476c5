-- What a schedule is made of.
use Rattle.std.specs.Prelude.{ℕ}

-- an entry of the list: a hart, and how often it runs
pub record ListEntry : Type 0 where
  pub hart : ℕ
  pub count : ℕ

-- the hart that was last chosen in turn, and how many turns in a row it has left of its quantum
pub record AStreak : Type 0 where
  pub hart : ℕ
  pub left : ℕ
