use Rattle.std.proofs.Common.{[], sym, subst}
use Rattle.detector.specs.Standing.{StandsFor}
use Rattle.detector.proofs.detector.Detector.new.Goals as goal
use Rattle.detector.specs.Laws.Standing.{stands_nothing}

pub returns-clause-stands : goal.returns-clause-stands
returns-clause-stands g c = subst (StandsFor []) (sym c.at.ensures)
    (stands_nothing c.args.layout c.args.thresholds)
