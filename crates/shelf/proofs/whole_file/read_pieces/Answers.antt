use Rattle.std.proofs.Common.{arith, ◌∙◌}
use Rattle.std.proofs.lemmas.Grind.{common_steps}
use Rattle.shelf.specs.Laws.Known.{only_both}
use Rattle.shelf.proofs.whole_file.read_pieces.Goals as goal

pub loop-bytes-preserved : goal.loop-bytes-preserved
loop-bytes-preserved g c =
    let x = c.loop-bytes.invariant in
    let read = c.in_ok-read_piece.ensures in
    record {
      room = grind (arith, common_steps);
      capped = grind (arith, common_steps);
      front = read.front;
      only = only_both _ _ _ x.only read.only;
      quiet = read.cause.quiet (λ no. cc) ∙ x.quiet;
    }

pub returns-in_err-read_piece-clause-only : goal.returns-in_err-read_piece-clause-only
returns-in_err-read_piece-clause-only g c =
    only_both _ _ _ c.loop-bytes.invariant.only c.in_err-read_piece.ensures.only

pub returns-then-not-branch-clause-only : goal.returns-then-not-branch-clause-only
returns-then-not-branch-clause-only g c =
    only_both _ _ _ c.loop-bytes.invariant.only c.in_ok-read_piece.ensures.only
