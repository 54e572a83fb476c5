-- When a detector stands for an access list.
use Rattle.std.proofs.Common.{ℕ, List, [], Option, map, refl, sym, ap, subst}
use Rattle.std.proofs.lemmas.List.Sorted.{IsPermutation-refl}
use Rattle.std.specs.FinMap as finite
use Rattle.std.specs.List.Sorted.{IsPermutation}
use Rattle.std.specs.Ordering.{nat_cmp}
use Rattle.std.specs.Prelude.{unwrap_or}
use Rattle.base.specs.Levels.{Levels}
use Rattle.base.specs.Lines.{Grid}
use Rattle.sharing_rules.specs.Opened.{Opened}
use Rattle.sharing_rules.specs.Laws.Opened.{opened-empty}
use Rattle.line_tracks.specs.KeptIn.{kept_in}
use Rattle.detector.specs.Standing.{StandsFor}
use Rattle.detector.specs.Watch.{nothing_seen}

-- one that has seen nothing stands for the empty list
pub stands_nothing : (g : Grid) (v : Levels) → StandsFor [] (nothing_seen g v)
stands_nothing g v = record {
  position = refl;
  writes = λ k. ap (λ (o : Option ℕ). unwrap_or o 0) (finite.get-empty nat_cmp k);
  tracks = subst (λ (lines : List Opened). IsPermutation [] (map (kept_in []) lines))
      (sym (opened-empty g v)) (IsPermutation-refl []);
}
