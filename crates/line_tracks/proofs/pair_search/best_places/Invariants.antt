-- the best of the rows so far
use Rattle.std.proofs.Common.{◌≡◌, ◌+◌, ◌*◌}
use Rattle.sharing_rules.specs.Pairs.{all_pairs}
use Rattle.sharing_rules.specs.Search.{is_in}
use Rattle.line_tracks.specs.HotRows.{best_of}
use Rattle.line_tracks.proofs.pair_search.best_places.Given as goal

abbrev pub invariant-loop-i : goal.invariant-loop-i
invariant-loop-i g l = record {
  is_in : is_in l.lines.lower.now.words l.lines.upper.now.words l.best;
  best : l.best ≡ best_of l.lines.lower.now.words l.lines.upper.now.words l.lines.within
      (all_pairs l.i l.lines.count);
  cost : l.steps ≡ l.fn.steps + l.i * l.lines.count;
}
