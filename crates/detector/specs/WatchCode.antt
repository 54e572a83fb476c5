-- A value of a detector as plain data.
use Rattle.std.specs.Prelude.{◌≡◌, ℕ, ℤ, zero, suc, List, Option, Some, None, refl}
use Rattle.std.specs.Coded.{Coded, code_by, coded×, coded_ℕ, coded_ℤ, coded_list, coded_option}
use Rattle.std.specs.FinMap as finite
use Rattle.sharing_rules.specs.Listed.{rank}
use Rattle.sharing_rules.specs.declared.line_kind.LineKind.{LineKind}
use Rattle.sharing_rules.specs.declared.line_kind.LineKind.TheVariants.{Observed, Shifted, Doubled}
use Rattle.sharing_rules.specs.declared.word.Owner.{Owner}
use Rattle.sharing_rules.specs.declared.word.Owner.TheVariants as owner
use Rattle.sharing_rules.specs.declared.word.Word.{Word}
use Rattle.line_tracks.specs.TrackValue.{TrackValue}
use Rattle.detector.specs.Counts.{Counts}
use Rattle.detector.specs.Watch.{Watch}

abbrev of_rank : ℕ → LineKind
of_rank zero = Observed
of_rank (suc zero) = Shifted
of_rank (suc (suc n)) = Doubled

abbrev of_rank-rank : (kind : LineKind) → of_rank (rank kind) ≡ kind
of_rank-rank Observed = refl
of_rank-rank Shifted = refl
of_rank-rank Doubled = refl

abbrev kind_code : Coded LineKind
kind_code = code_by ℕ coded_ℕ rank of_rank of_rank-rank

-- no hart, one, or many
abbrev harts_of : Owner → Option (Option ℕ)
harts_of owner.None = None
harts_of (owner.One h) = Some (Some h)
harts_of owner.Many = Some None

abbrev of_harts : Option (Option ℕ) → Owner
of_harts None = owner.None
of_harts (Some (Some h)) = owner.One h
of_harts (Some None) = owner.Many

abbrev of_harts-harts : (o : Owner) → of_harts (harts_of o) ≡ o
of_harts-harts owner.None = refl
of_harts-harts (owner.One h) = refl
of_harts-harts owner.Many = refl

abbrev owner_code : Coded Owner
owner_code = code_by (Option (Option ℕ)) (coded_option (coded_option coded_ℕ)) harts_of of_harts
    of_harts-harts

abbrev word_code : Coded Word
word_code =
    code_by (ℕ × (ℕ × Owner)) (coded× coded_ℕ (coded× coded_ℕ owner_code))
    (λ w. (w.reads, (w.writes, w.owner)))
    (λ p. record { reads = p.0; writes = p.1.0; owner = p.1.1 }) (λ _. refl)

abbrev kept_code : Coded TrackValue
kept_code =
    code_by (LineKind × ((ℤ × ℕ) × (Option ℕ × (List ℕ × (ℕ × List Word)))))
    (coded× kind_code
    (coded× (coded× coded_ℤ coded_ℕ)
    (coded× (coded_option coded_ℕ)
    (coded× (coded_list coded_ℕ) (coded× coded_ℕ (coded_list word_code))))))
    (λ x. (x.kind, ((x.range.base, x.range.size), (x.start, (x.entries, (x.count, x.words))))))
    (λ p. record {
      kind = p.0;
      range = record { base = p.1.0.0; size = p.1.0.1 };
      start = p.1.1.0;
      entries = p.1.1.1.0;
      count = p.1.1.1.1.0;
      words = p.1.1.1.1.1;
    })
    (λ _. refl)

-- the position, the layout, the thresholds, the counts and the tracks
abbrev pub watch_code : Coded Watch
watch_code =
    code_by (ℕ × ((ℕ × ℕ) × ((ℕ × (Option ℕ × ℕ)) × (Counts × List TrackValue))))
    (coded× coded_ℕ
    (coded× (coded× coded_ℕ coded_ℕ)
    (coded× (coded× coded_ℕ (coded× (coded_option coded_ℕ) coded_ℕ))
    (coded× (finite.code coded_ℕ coded_ℕ) (coded_list kept_code)))))
    (λ w. (
      w.position,
      (
        (w.grid.size, w.grid.offset),
        (
          (w.levels.tracking, (w.levels.prediction, w.levels.report)),
          (w.writes, w.tracks),
        ),
      ),
    ))
    (λ p. record {
      position = p.0;
      grid = record { size = p.1.0.0; offset = p.1.0.1 };
      levels = record { tracking = p.1.1.0.0; prediction = p.1.1.0.1.0; report = p.1.1.0.1.1 };
      writes = p.1.1.1.0;
      tracks = p.1.1.1.1;
    })
    (λ _. refl)
