use Rattle.std.proofs.Common.{arith, refl}
use Rattle.guest.proofs.SoundChanges.{keeps_runnable}
use Rattle.guest.proofs.ThreadAnswers.{starts, starts_none}
use Rattle.guest.proofs.threads.Threads.spawn.Goals as goal

pub hart_at-hart-requires : goal.hart_at-hart-requires
hart_at-hart-requires c = omega (
  arith,
  c.in-Some.ensures.small c.in-Some.place refl,
  c.in-Some.ensures.sound.most,
)

pub set-requires-clause-keeps : goal.set-requires-clause-keeps
set-requires-clause-keeps c = λ sound. keeps_runnable c.args.self.now c.hart_at-hart.result sound
    (omega (arith, c.hart_at-hart.ensures, c.in-Some.ensures.small c.in-Some.place refl))

pub returns-in-Some-clause-effect : goal.returns-in-Some-clause-effect
returns-in-Some-clause-effect c = starts c.args.self.now c.set.new.self c.in-Some.place
    c.hart_at-hart.result c.in-Some.ensures.answer
    c.hart_at-hart.ensures c.set.ensures

pub returns-in-None-clause-effect : goal.returns-in-None-clause-effect
returns-in-None-clause-effect c = starts_none c.args.self.now c.in-None.ensures.answer
