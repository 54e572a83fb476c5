-- Little-endian numbers at their places in a file's bytes.
use Rattle.std.specs.Prelude.{ℕ, List, take, drop}
use Rattle.std.specs.Int.{Width, byte_len, from_le_bytes}

-- the number of a width at a place
abbrev pub number_at : Width → ℕ → List ℕ → ℕ
number_at w place bytes = from_le_bytes w (take (byte_len w) (drop place bytes))
