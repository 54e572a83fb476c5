-- The layout that the options `--size` and `--shift` name, and the size that `--size` alone names.
use Rattle.std.specs.Prelude.{ℕ, if◌then◌else◌, List, Option, Some, None, option_map}
use Rattle.std.specs.Prelude.{option_and_then}
use Rattle.base.specs.Lines.{Grid, is_layout, is_line_size}
use Rattle.command_line.specs.Numbers.{number_or}

-- the layout of a size and a shift, where it is allowed
abbrev pub layout_at : ℕ → ℕ → Option Grid
layout_at size shift = if is_layout size shift then Some (record { size = size; offset = shift })
    else None

-- the layout of a size and a shift: a missing size is 64, a missing shift 0
abbrev pub given_layout : Option (List ℕ) → Option (List ℕ) → Option Grid
given_layout size shift = option_and_then (λ n. option_and_then (layout_at n) (number_or 0 shift))
    (number_or 64 size)

-- the size of a line that an option is given, 64 where it isn't, unless it is none that is allowed
abbrev pub size_at : ℕ → Option ℕ
size_at n = if is_line_size n then Some n else None

abbrev pub given_size : Option (List ℕ) → Option ℕ
given_size size = option_and_then size_at (number_or 64 size)

-- the layout that the options name, if they name one, unless they name none that is allowed
abbrev pub named_layout : Option (List ℕ) → Option (List ℕ) → Option (Option Grid)
named_layout None None = Some None
named_layout size shift = option_map Some (given_layout size shift)
