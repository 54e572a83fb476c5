-- The shapes of caches.
use Rattle.std.specs.Prelude.{ℕ, ◌*◌, Bool, ◌&&◌, nat_le, eqb, [], ◌∷◌}
use Rattle.std.specs.List.{list_any}
use Rattle.base.specs.Levels.{is_from_to}
use Rattle.base.specs.Lines.{Grid, is_line_size}

-- the size of a line in bytes, how many sets, and how many lines a set has room for
pub record CacheShape : Type 0 where
  pub size : ℕ
  pub sets : ℕ
  pub ways : ℕ

-- a power of two from 1 to 1024
abbrev pub is_set_count : ℕ → Bool
is_set_count n =
    list_any (eqb n) (1 ∷ 2 ∷ 4 ∷ 8 ∷ 16 ∷ 32 ∷ 64 ∷ 128 ∷ 256 ∷ 512 ∷ 1024 ∷ [])

-- such a size of lines and number of sets, 1 to 64 ways, and at most 4096 lines in all
abbrev pub is_shape : CacheShape → Bool
is_shape k =
    is_line_size k.size && is_set_count k.sets && is_from_to 1 64 k.ways
    && nat_le (k.sets * k.ways) 4096

-- the layout of its lines
abbrev pub grid_of : CacheShape → Grid
grid_of k = record { size = k.size; offset = 0 }
