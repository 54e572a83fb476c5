use Rattle.std.proofs.Common.{◌∙◌, ap, sym}
use Rattle.guest.specs.Phases.{ended_code}
use Rattle.guest.proofs.SoundChanges.{joins, keeps_free, keeps_joining, goes_on_since}
use Rattle.guest.proofs.threads.Threads.join_hart.Goals as goal

pub set-requires-clause-keeps : goal.set-requires-clause-keeps
set-requires-clause-keeps c = λ sound.
    let can = joins c.args.self.now c.args.caller c.args.target c.requires.can in
    keeps_free c.args.self.now c.args.target sound can.there can.later can.alone

pub set-requires-in-None-clause-keeps : goal.set-requires-in-None-clause-keeps
set-requires-in-None-clause-keeps c = λ sound.
    let can = joins c.args.self.now c.args.caller c.args.target c.requires.can in
    keeps_joining c.args.self.now c.args.caller c.args.target sound c.requires.within can.later
    can.other
    (goes_on_since _ can.taken (ap ended_code (sym c.state.ensures.value) ∙ sym c.in-None.ensures))
    can.alone
