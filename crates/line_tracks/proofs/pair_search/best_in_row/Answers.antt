-- One pair more: kept where it passes and is better.
use Rattle.std.proofs.Common.{sym, ◌∙◌, inl, inr, arith}
use Rattle.sharing_rules.specs.Pairs.{score}
use Rattle.sharing_rules.specs.Search.{is_passing}
use Rattle.sharing_rules.specs.Laws.Pairs.{IsChosen, best_more}
use Rattle.line_tracks.proofs.pair_search.best_in_row.Goals as goal
use Rattle.line_tracks.proofs.pair_search.best_in_row.Goals.{then-is_passing, else-is_passing}

pub loop-j-preserved : goal.loop-j-preserved
loop-j-preserved g c =
    let f = score c.args.lines.now.lower.now.words c.args.lines.now.upper.now.words in
    let t = is_passing c.args.lines.now.lower.now.words c.args.lines.now.upper.now.words
    c.args.lines.now.within in
    let choice : IsChosen f t (c.args.i, c.loop-j.j) c.loop-j.best c.if-is_passing.best =
    elim c.if-is_passing.branch [
      | then-is_passing w ↦ inl (
        sym c.is_passing.ensures ∙ w.if-is_passing.true,
        w.best-is
            ∙ w.better.ensures.keeps,
      )
      | else-is_passing w ↦ inr (sym c.is_passing.ensures ∙ w.if-is_passing.false, w.best-is)
    ] in
    record {
      is_in = elim c.if-is_passing.branch [
        | then-is_passing w ↦ rw w.best-is w.better.ensures.is_in
        | else-is_passing w ↦ rw w.best-is c.loop-j.invariant.is_in
      ];
      best = best_more f t c.args.i c.loop-j.j c.args.best c.loop-j.best c.if-is_passing.best choice
          c.loop-j.invariant.best;
      cost = omega (arith, c.tick.ensures, c.loop-j.invariant.cost);
    }
