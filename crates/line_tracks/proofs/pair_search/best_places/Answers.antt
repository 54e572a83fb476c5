-- One row more, and at the end all pairs were seen.
use Rattle.std.proofs.Common.{◌≡◌, ℕ, ◌+◌, ◌*◌, ap, sym, ◌∙◌, arith, rules}
use Rattle.std.proofs.lemmas.Grind.{common_steps}
use Rattle.sharing_rules.specs.Pairs.{all_pairs, best_pair_of}
use Rattle.sharing_rules.specs.Laws.Pairs.{all_pairs-more}
use Rattle.line_tracks.specs.HotRows.{best_of}
use Rattle.line_tracks.proofs.pair_search.best_places.Goals as goal

row_more : (before after i m n : ℕ) → after ≡ before + m → before ≡ n + i * m → after
    ≡ n + (i + 1) * m
row_more before after i m n here so_far = grind (arith, common_steps)

pub loop-i-preserved : goal.loop-i-preserved
loop-i-preserved g c =
    let lower = c.args.lines.now.lower.now.words in
    let upper = c.args.lines.now.upper.now.words in
    let count = c.args.lines.now.count in
    record {
      is_in = c.best_in_row-best.ensures.is_in;
      best = c.best_in_row-best.ensures.best (all_pairs c.loop-i.i count) c.loop-i.invariant.best
          ∙ ap (best_of lower upper c.args.lines.now.within)
          (sym (all_pairs-more c.loop-i.i count));
      cost = row_more _ _ c.loop-i.i count _ c.best_in_row-best.ensures.cost
          c.loop-i.invariant.cost;
    }

pub returns-clause-best : goal.returns-clause-best
unfolding best_pair_of
returns-clause-best g c = rw (c.requires.lower_words, c.requires.upper_words) (search rules)
