use Rattle.std.proofs.Common.{ap, subst, sym}
use Rattle.base.specs.declared.ending.Ending.{Ending}
use Rattle.guest.specs.declared.turn.Turn.TheVariants.{Ran, Ended}
use Rattle.guest.specs.ConfigInside.{config_of}
use Rattle.guest.specs.SeenTurns.{IsEndOf, seen}
use Rattle.guest.proofs.RunSteps.{rest_ran}
use Rattle.guest.proofs.TurnCounts.{turn_counts}
use Rattle.guest.proofs.guest.Guest.step.Goals as goal

pub invariant_of-self : goal.invariant_of-self
invariant_of-self c =
    let made = turn_counts c.self.inside.setup (config_of c.self.inside.config)
    (Ran c.in-Ok-Ran.event) (config_of c.turn.new.self)
    (rw c.in-Ok-Ran.field-0-is at c.in-Ok-Ran.ensures.turn) c.self.invariant.accesses
    c.self.invariant.steps in
    record {
      fits = c.in-Ok-Ran.ensures.fits;
      accesses = made.accesses;
      steps = made.steps;
      stated = rw c.in-None.is tt;
      end =
          rw c.in-None.is tt;
    }

pub invariant_of-self-in-Ok-Ended : goal.invariant_of-self-in-Ok-Ended
invariant_of-self-in-Ok-Ended c =
    let made = turn_counts c.self.inside.setup (config_of c.self.inside.config)
    (Ended c.in-Ok-Ended.outcome) (config_of c.turn.new.self)
    (rw c.in-Ok-Ended.field-0-is at c.in-Ok-Ended.ensures.turn) c.self.invariant.accesses
    c.self.invariant.steps in
    record {
      fits = c.in-Ok-Ended.ensures.fits;
      accesses = made.accesses;
      steps = made.steps;
      stated = (
        ap (λ (e : Ending). e.steps) c.ending.ensures,
        ap (λ (e : Ending). e.accesses)
            c.ending.ensures,
      );
      end = subst (IsEndOf c.self.inside.setup.harts)
          (sym (ap (λ (e : Ending). e.outcome) c.ending.ensures))
          (rw c.in-Ok-Ended.field-0-is at c.in-Ok-Ended.ensures.seen);
    }

pub returns-in-Ok-Ran-clause-run : goal.returns-in-Ok-Ran-clause-run
returns-in-Ok-Ran-clause-run c =
    rw (← c.self.view_is)
    (rest_ran c.self.inside.setup (config_of c.self.inside.config) c.self.inside.ending
    (seen c.turn.new.self.memory c.in-Ok-Ran.event)
    (config_of c.turn.new.self)
    c.in-None.is (rw c.in-Ok-Ran.field-0-is at c.in-Ok-Ran.ensures.turn) c.self.invariant.steps)

pub returns-in-Ok-Ran-clause-counts : goal.returns-in-Ok-Ran-clause-counts
returns-in-Ok-Ran-clause-counts c =
    let made = turn_counts c.self.inside.setup (config_of c.self.inside.config)
    (Ran c.in-Ok-Ran.event) (config_of c.turn.new.self)
    (rw c.in-Ok-Ran.field-0-is at c.in-Ok-Ran.ensures.turn) c.self.invariant.accesses
    c.self.invariant.steps in
    rw (← c.self.view_is) made.counts

pub returns-in-Ok-Ran-clause-within : goal.returns-in-Ok-Ran-clause-within
returns-in-Ok-Ran-clause-within c =
    let made = turn_counts c.self.inside.setup (config_of c.self.inside.config)
    (Ran c.in-Ok-Ran.event) (config_of c.turn.new.self)
    (rw c.in-Ok-Ran.field-0-is at c.in-Ok-Ran.ensures.turn) c.self.invariant.accesses
    c.self.invariant.steps in
    record { accesses = made.accesses; steps = made.steps }

pub returns-in-Ok-Ended-clause-counts : goal.returns-in-Ok-Ended-clause-counts
returns-in-Ok-Ended-clause-counts c =
    let made = turn_counts c.self.inside.setup (config_of c.self.inside.config)
    (Ended c.in-Ok-Ended.outcome) (config_of c.turn.new.self)
    (rw c.in-Ok-Ended.field-0-is at c.in-Ok-Ended.ensures.turn) c.self.invariant.accesses
    c.self.invariant.steps in
    rw (← c.self.view_is) made.counts

pub returns-in-Ok-Ended-clause-within : goal.returns-in-Ok-Ended-clause-within
returns-in-Ok-Ended-clause-within c =
    let made = turn_counts c.self.inside.setup (config_of c.self.inside.config)
    (Ended c.in-Ok-Ended.outcome) (config_of c.turn.new.self)
    (rw c.in-Ok-Ended.field-0-is at c.in-Ok-Ended.ensures.turn) c.self.invariant.accesses
    c.self.invariant.steps in
    record { accesses = made.accesses; steps = made.steps }
