use Rattle.guest.proofs.LoneHart.{lone_answer}
use Rattle.guest.proofs.threads.Threads.lone.Goals as goal

pub returns-clause-alone : goal.returns-clause-alone
returns-clause-alone c = lone_answer c.args.self.now c.self.inside.lone
    (rw c.self.view_is at c.self.invariant.known)
