use Rattle.guest.proofs.SoundChanges.{keeps_waiting}
use Rattle.guest.proofs.threads.Threads.wait.Goals as goal

pub set-requires-clause-keeps : goal.set-requires-clause-keeps
set-requires-clause-keeps c = λ sound. keeps_waiting c.args.self.now c.args.caller c.args.addr sound
    c.requires.within
