use Rattle.std.proofs.Common.{ap, subst, sym}
use Rattle.base.specs.declared.ending.Ending.{Ending}
use Rattle.guest.specs.declared.turn.Turn.TheVariants.{Ran, Ended}
use Rattle.guest.specs.ConfigInside.{config_of}
use Rattle.guest.specs.SeenTurns.{IsEndOf}
use Rattle.guest.proofs.PassedTurns.{Behind, Came, behind_refused, came, comes_to, rest_came}
use Rattle.guest.proofs.PassedTurns.{rest_ended, rest_passed}
use Rattle.guest.proofs.guest.Guest.run_on.Goals as goal
use Rattle.guest.proofs.guest.Guest.run_on.Goals.{In-Err, In-Ok-Ended, In-Ok-Ran}

-- ---- what goals share: what was made, and what is known behind it

came_ran : (c : In-Ok-Ran) → Came c.self.inside.setup c.args.until (config_of c.self.inside.config)
    c.run_on.new.touches (Ran c.in-Ok-Ran.event) (config_of c.run_on.new.self)
came_ran c =
    came c.self.inside.setup c.args.until (config_of c.self.inside.config) c.run_on.new.touches
    (Ran c.in-Ok-Ran.event) (config_of c.run_on.new.self)
    (rw c.in-Ok-Ran.field-0-is at c.in-Ok-Ran.ensures.turn) c.self.invariant.steps

came_ended : (c : In-Ok-Ended) → Came c.self.inside.setup c.args.until
    (config_of c.self.inside.config) c.run_on.new.touches (Ended c.in-Ok-Ended.outcome)
    (config_of c.run_on.new.self)
came_ended c =
    came c.self.inside.setup c.args.until (config_of c.self.inside.config) c.run_on.new.touches
    (Ended c.in-Ok-Ended.outcome) (config_of c.run_on.new.self)
    (rw c.in-Ok-Ended.field-0-is at c.in-Ok-Ended.ensures.turn) c.self.invariant.steps

behind_err : (c : In-Err) → Behind c.self.inside.setup c.args.until
    (config_of c.self.inside.config) (config_of c.run_on.new.self)
behind_err c =
    behind_refused c.self.inside.setup c.args.until (config_of c.self.inside.config)
    (config_of c.run_on.new.self) c.run_on.new.touches c.in-Err.ensures.passed
    c.self.invariant.steps

-- ---- a turn that made a step

pub invariant_of-self : goal.invariant_of-self
invariant_of-self c =
    let b = (came_ran (goal.at.invariant_of-self c).In-Ok-Ran).known in
    record {
      fits = c.in-Ok-Ran.ensures.fits;
      accesses = b.within c.self.invariant.accesses;
      steps = b.room;
      stated = rw c.in-None.is tt;
      end = rw c.in-None.is tt;
    }

pub returns-in-Ok-Ran-clause-exact : goal.returns-in-Ok-Ran-clause-exact
returns-in-Ok-Ran-clause-exact c =
    let b = came_ran (goal.at.returns-in-Ok-Ran-clause-exact c).In-Ok-Ran in
    rw (← c.self.view_is) (λ _. comes_to _ _ _ _ _ _ b)

pub returns-in-Ok-Ran-clause-run : goal.returns-in-Ok-Ran-clause-run
returns-in-Ok-Ran-clause-run c =
    let b = came_ran (goal.at.returns-in-Ok-Ran-clause-run c).In-Ok-Ran in
    rw (← c.self.view_is)
    (rest_came c.self.inside.setup c.args.until (config_of c.self.inside.config) b.before
    c.run_on.new.touches c.self.inside.ending c.in-Ok-Ran.event (config_of c.run_on.new.self)
    c.in-None.is b.passed b.made c.self.invariant.steps)

pub returns-in-Ok-Ran-clause-counts : goal.returns-in-Ok-Ran-clause-counts
returns-in-Ok-Ran-clause-counts c =
    let b = came_ran (goal.at.returns-in-Ok-Ran-clause-counts c).In-Ok-Ran in
    rw (← c.self.view_is) b.counts

pub returns-in-Ok-Ran-clause-within : goal.returns-in-Ok-Ran-clause-within
returns-in-Ok-Ran-clause-within c =
    let b = (came_ran (goal.at.returns-in-Ok-Ran-clause-within c).In-Ok-Ran).known in
    record { accesses = b.within c.self.invariant.accesses; steps = b.room }

pub returns-in-Ok-Ran-clause-until : goal.returns-in-Ok-Ran-clause-until
returns-in-Ok-Ran-clause-until c =
    let b = came_ran (goal.at.returns-in-Ok-Ran-clause-until c).In-Ok-Ran in
    rw (← c.self.view_is) b.known.bound

-- ---- the end

pub invariant_of-self-in-Ok-Ended : goal.invariant_of-self-in-Ok-Ended
invariant_of-self-in-Ok-Ended c =
    let b = (came_ended (goal.at.invariant_of-self-in-Ok-Ended c).In-Ok-Ended).known in
    record {
      fits = c.in-Ok-Ended.ensures.fits;
      accesses = b.within c.self.invariant.accesses;
      steps = b.room;
      stated = (
        ap (λ (e : Ending). e.steps) c.ending.ensures,
        ap (λ (e : Ending). e.accesses) c.ending.ensures,
      );
      end = subst (IsEndOf c.self.inside.setup.harts)
          (sym (ap (λ (e : Ending). e.outcome) c.ending.ensures))
          (rw c.in-Ok-Ended.field-0-is at c.in-Ok-Ended.ensures.seen);
    }

pub returns-in-Ok-Ended-clause-exact : goal.returns-in-Ok-Ended-clause-exact
returns-in-Ok-Ended-clause-exact c =
    let b = came_ended (goal.at.returns-in-Ok-Ended-clause-exact c).In-Ok-Ended in
    rw (← c.self.view_is) (λ _. comes_to _ _ _ _ _ _ b)

pub returns-in-Ok-Ended-clause-run : goal.returns-in-Ok-Ended-clause-run
returns-in-Ok-Ended-clause-run c =
    let b = came_ended (goal.at.returns-in-Ok-Ended-clause-run c).In-Ok-Ended in
    rw (← c.self.view_is)
    (rest_ended c.self.inside.setup c.args.until (config_of c.self.inside.config) b.before
    c.run_on.new.touches c.self.inside.ending c.in-Ok-Ended.outcome (config_of c.run_on.new.self)
    c.in-None.is b.passed b.made c.self.invariant.steps)

pub returns-in-Ok-Ended-clause-counts : goal.returns-in-Ok-Ended-clause-counts
returns-in-Ok-Ended-clause-counts c =
    let b = came_ended (goal.at.returns-in-Ok-Ended-clause-counts c).In-Ok-Ended in
    rw (← c.self.view_is) b.counts

pub returns-in-Ok-Ended-clause-within : goal.returns-in-Ok-Ended-clause-within
returns-in-Ok-Ended-clause-within c =
    let b = (came_ended (goal.at.returns-in-Ok-Ended-clause-within c).In-Ok-Ended).known in
    record { accesses = b.within c.self.invariant.accesses; steps = b.room }

pub returns-in-Ok-Ended-clause-until : goal.returns-in-Ok-Ended-clause-until
returns-in-Ok-Ended-clause-until c =
    let b = came_ended (goal.at.returns-in-Ok-Ended-clause-until c).In-Ok-Ended in
    rw (← c.self.view_is) b.known.bound

-- ---- where memory was refused

pub invariant_of-self-in-Err : goal.invariant_of-self-in-Err
invariant_of-self-in-Err c =
    let b = behind_err (goal.at.invariant_of-self-in-Err c).In-Err in
    record {
      fits = c.in-Err.ensures.fits;
      accesses = b.within c.self.invariant.accesses;
      steps = b.room;
      stated = rw c.in-None.is tt;
      end = rw c.in-None.is tt;
    }

pub returns-in-Err-clause-within : goal.returns-in-Err-clause-within
returns-in-Err-clause-within c =
    let b = behind_err (goal.at.returns-in-Err-clause-within c).In-Err in
    record { accesses = b.within c.self.invariant.accesses; steps = b.room }

pub returns-in-Err-clause-until : goal.returns-in-Err-clause-until
returns-in-Err-clause-until c =
    rw (← c.self.view_is) (behind_err (goal.at.returns-in-Err-clause-until c).In-Err).bound

pub returns-in-Err-clause-refused : goal.returns-in-Err-clause-refused
returns-in-Err-clause-refused c =
    rw (← c.self.view_is)
    (rest_passed c.self.inside.setup c.args.until (config_of c.self.inside.config)
    (config_of c.run_on.new.self) c.run_on.new.touches c.self.inside.ending c.in-None.is
    c.in-Err.ensures.passed c.self.invariant.steps)
