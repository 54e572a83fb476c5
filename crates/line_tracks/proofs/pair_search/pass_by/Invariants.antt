-- the best of the pairs so far, whatever pairs came before the row
use Rattle.std.proofs.Common.{◌≡◌, ℕ, ◌+◌, List, ◌++◌}
use Rattle.sharing_rules.specs.Search.{row_pairs}
use Rattle.line_tracks.specs.HotRows.{best_of}
use Rattle.line_tracks.proofs.pair_search.pass_by.Given as goal

abbrev pub invariant-loop-j : goal.invariant-loop-j
invariant-loop-j g l = record {
  best : (ps : List (ℕ × ℕ)) → l.best ≡ best_of l.lines.lower.now.words
      l.lines.upper.now.words l.lines.within ps
      → l.best ≡ best_of l.lines.lower.now.words l.lines.upper.now.words l.lines.within
      (ps ++ row_pairs l.i l._j);
  cost : l.steps ≡ l.fn.steps + l._j;
}
