use Rattle.std.proofs.Common.{ap, sym, ◌∙◌}
use Rattle.std.specs.Prelude.{eqb}
use Rattle.invalidations.specs.BlameKept.{untouched}
use Rattle.invalidations.specs.LineInvalidations.{invalidation_by}
use Rattle.invalidations.specs.Laws.BlameFits.{found-at, value-at}
use Rattle.invalidations.specs.declared.blame_tables.LineTaken.{LineTaken}
use Rattle.invalidations.proofs.blame_tables.invalidation_at.Goals as goal

pub returns : goal.returns
returns c =
    let es = c.args.lines.now.entries in
    let there = value-at es c.args.index _ (sym c.in-Some.ensures.entry) in
    let found = found-at eqb es c.args.line c.args.index c.in-Some.known.now untouched
    c.requires.found there in
    c.invalidation.ensures
    ∙ ap (λ (l : LineTaken). invalidation_by l.two 0 c.args.position c.args.sited.now) (sym found)
