-- Thresholds, as contracts see them.
use Rattle.std.specs.Prelude.{ℕ, ◌^◌, Bool, true, ◌&&◌, nat_le, Option}
use Rattle.std.specs.Option.{option_map_or}

pub record Levels : Type 0 where
  pub tracking : ℕ
  pub prediction : Option ℕ
  pub report : ℕ

-- a number from low to high
abbrev pub is_from_to : ℕ → ℕ → ℕ → Bool
is_from_to low high n = nat_le low n && nat_le n high

-- tracking from 1 to 2^32, prediction, if given, from tracking to 2^32, report from 1 to 2^40
abbrev pub are_levels : ℕ → Option ℕ → ℕ → Bool
are_levels tracking prediction report =
    is_from_to 1 (2 ^ 32) tracking && option_map_or (is_from_to tracking (2 ^ 32)) prediction true
    && is_from_to 1 (2 ^ 40) report
