-- The same of tracks, each by what it weighs.
use Rattle.std.specs.Prelude.{ℕ, List, sum_by, nat_le, if◌then◌else◌}
use Rattle.std.specs.Option.{option_map_or}
use Rattle.sharing_rules.specs.declared.line_kind.LineKind.{LineKind}
use Rattle.sharing_rules.specs.declared.line_kind.LineKind.TheVariants.{Observed, Shifted, Doubled}
use Rattle.line_tracks.specs.TrackValue.{TrackValue}
use Rattle.detector.specs.declared.totals.Totals.{Totals}

-- a line counts as one
abbrev pub one : LineKind → ℕ → ℕ
one kind count = 1

-- or as one where it is listed
abbrev pub one_if_listed : ℕ → LineKind → ℕ → ℕ
one_if_listed report kind count = if nat_le report count then 1 else 0

-- or, where it is observed, by its count
abbrev pub observed_count : LineKind → ℕ → ℕ
observed_count Observed count = count
observed_count Shifted count = 0
observed_count Doubled count = 0

-- a track without a start counts nothing
abbrev pub weight : (LineKind → ℕ → ℕ) → TrackValue → ℕ
weight w x = option_map_or (λ s. w x.kind x.count) x.start 0

abbrev pub totals_in : ℕ → List TrackValue → Totals
totals_in report tracks = record {
  tracked = sum_by (weight one) tracks;
  listed = sum_by (weight (one_if_listed report)) tracks;
  invalidations = sum_by (weight observed_count) tracks;
}
