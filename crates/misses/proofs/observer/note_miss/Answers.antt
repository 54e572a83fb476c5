use Rattle.misses.specs.MissCounts.{StandsFor}
use Rattle.trace_format.specs.Laws.Touches.{stands-none}
use Rattle.misses.proofs.observer.note_miss.Goals as goal

pub returns-in-Alloc-clause-stands : goal.returns-in-Alloc-clause-stands
returns-in-Alloc-clause-stands c = λ t stood.
    rw c.in-Alloc.is (stands-none StandsFor c.args.misses.now t stood)

pub returns-in-Free-clause-stands : goal.returns-in-Free-clause-stands
returns-in-Free-clause-stands c = λ t stood.
    rw c.in-Free.is (stands-none StandsFor c.args.misses.now t stood)

pub returns-in-Symbol-clause-stands : goal.returns-in-Symbol-clause-stands
returns-in-Symbol-clause-stands c = λ t stood.
    rw c.in-Symbol.is (stands-none StandsFor c.args.misses.now t stood)

pub returns-in-End-clause-stands : goal.returns-in-End-clause-stands
returns-in-End-clause-stands c = λ t stood.
    rw c.in-End.is (stands-none StandsFor c.args.misses.now t stood)
