-- What is true of each progress that a reader makes.
use Rattle.std.specs.Prelude.{◌≤◌}
use Rattle.trace_format.specs.declared.read_so_far.ReadSoFar.{ReadSoFar}
use Rattle.trace_format.specs.Rules.{last_position}

-- there are at most 256 harts, the first position is one of a trace, and each access took a byte
pub record IsSound (p : ReadSoFar) : Type 0 where
  pub few : p.header.harts ≤ 256
  pub first : p.header.first ≤ last_position
  pub counted : p.counted ≤ p.place
