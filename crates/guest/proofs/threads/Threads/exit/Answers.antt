use Rattle.std.proofs.Common.{arith, refl, sym}
use Rattle.guest.specs.Phases.{is_joining}
use Rattle.guest.proofs.SoundChanges.{keeps_runnable, keeps_ended, keeps_freed}
use Rattle.guest.proofs.ThreadPlaces.{none_found}
use Rattle.guest.proofs.ThreadAnswers.{exits_alone, exits_joined}
use Rattle.guest.proofs.threads.Threads.exit.Goals as goal

pub set-requires-clause-keeps : goal.set-requires-clause-keeps
set-requires-clause-keeps c = λ sound. keeps_runnable c.args.self.now c.hart_at-joiner.result sound
    (omega (arith, c.hart_at-joiner.ensures, c.in-Some.ensures.small c.in-Some.place refl))

pub set-requires-in-Some-clause-keeps : goal.set-requires-in-Some-clause-keeps
set-requires-in-Some-clause-keeps c =
    keeps_freed c.args.self.now c.set.new.self c.in-Some.place c.hart_at-joiner.result c.args.caller
    c.in-Some.ensures.sound c.requires.within c.in-Some.ensures.answer c.hart_at-joiner.ensures
    c.set.ensures

pub set-requires-in-None-clause-keeps : goal.set-requires-in-None-clause-keeps
set-requires-in-None-clause-keeps c = λ sound.
    keeps_ended c.args.self.now c.args.caller c.args.code sound c.requires.within
    (none_found (is_joining c.args.caller) refl c.args.self.now (sym c.in-None.ensures.answer))

pub returns-in-Some-clause-effect : goal.returns-in-Some-clause-effect
returns-in-Some-clause-effect c =
    exits_joined c.args.self.now c.set.new.self c.set-in-Some.new.self c.in-Some.place
    c.hart_at-joiner.result c.args.caller
    c.requires.within c.requires.runs c.in-Some.ensures.answer c.hart_at-joiner.ensures
    c.set.ensures c.set-in-Some.ensures

pub returns-in-None-clause-effect : goal.returns-in-None-clause-effect
returns-in-None-clause-effect c = exits_alone c.args.self.now c.set-in-None.new.self c.args.caller
    c.args.code c.requires.within
    c.in-None.ensures.answer c.set-in-None.ensures
