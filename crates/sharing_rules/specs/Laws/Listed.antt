-- Of the listed lines and of the order of their kinds.
use Rattle.std.proofs.Common.{◌≡◌, List, [], ◌++◌, None, ap, ◌∙◌, refl, arith}
use Rattle.std.proofs.lemmas.List.{append-nil}
use Rattle.std.specs.Option.{option_map_or}
use Rattle.base.specs.Touch.{Touch}
use Rattle.base.specs.Lines.{Grid}
use Rattle.base.specs.Levels.{Levels}
use Rattle.sharing_rules.specs.Listed.{observed_lines, shifted_lines, doubled_lines, tracked, rank}
use Rattle.sharing_rules.specs.declared.line_kind.LineKind.{LineKind}
use Rattle.sharing_rules.specs.declared.line_kind.LineKind.TheVariants.{Observed, Shifted, Doubled}

-- where nothing is predicted the observed lines are all
pub tracked-observed : (g : Grid) (v : Levels) (t : List Touch) → v.prediction ≡ None
    → tracked g v t ≡ observed_lines g v.tracking t
tracked-observed g v t none =
    ap (λ p. observed_lines g v.tracking t ++ option_map_or
    (λ P. shifted_lines g.size v.tracking P t ++ doubled_lines g.size v.tracking P t) p []) none
    ∙ append-nil (observed_lines g v.tracking t)

-- kinds of one rank are one
pub same_rank : (j k : LineKind) → rank j ≡ rank k → j ≡ k
same_rank Observed Observed e = refl
same_rank Observed Shifted e = absurd (omega arith)
same_rank Observed Doubled e = absurd (omega arith)
same_rank Shifted Observed e = absurd (omega arith)
same_rank Shifted Shifted e = refl
same_rank Shifted Doubled e = absurd (omega arith)
same_rank Doubled Observed e = absurd (omega arith)
same_rank Doubled Shifted e = absurd (omega arith)
same_rank Doubled Doubled e = refl
