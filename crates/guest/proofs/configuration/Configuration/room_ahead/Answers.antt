use Rattle.std.proofs.Common.{arith}
use Rattle.guest.specs.ConfigInside.{config_of}
use Rattle.guest.specs.Turns.{runnable_in}
use Rattle.guest.proofs.GoingAhead.{sure_room}
use Rattle.guest.proofs.configuration.Configuration.room_ahead.Goals as goal

pub returns-clause-sure : goal.returns-clause-sure
returns-clause-sure c = λ k below.
    sure_room (runnable_in (config_of c.args.self.now)) c.args.self.now.schedule c.args.hart
    c.sure_turns-sure.result c.saturating_sub-2.result k c.requires.next c.sure_turns-sure.ensures
    (omega (arith, c.saturating_sub-2.ensures, c.min.ensures)) below

pub returns-then-sure-lt2-clause-sure : goal.returns-then-sure-lt2-clause-sure
returns-then-sure-lt2-clause-sure c = λ k below.
    sure_room (runnable_in (config_of c.args.self.now)) c.args.self.now.schedule c.args.hart
    c.sure_turns-sure.result 0 k c.requires.next c.sure_turns-sure.ensures (omega arith) below
