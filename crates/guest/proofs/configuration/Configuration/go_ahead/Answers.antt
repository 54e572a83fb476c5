use Rattle.std.proofs.Common.{arith}
use Rattle.guest.specs.ConfigInside.{config_of}
use Rattle.guest.proofs.GoingAhead.{ahead, can_step, gone_steps, turn_at}
use Rattle.guest.proofs.configuration.Configuration.go_ahead.Goals as goal

pub go_own-requires-clause-ready : goal.go_own-requires-clause-ready
go_own-requires-clause-ready c =
    can_step c.args.setup.now c.args.hart (config_of c.args.self.now) c.requires.at
    (omega (arith, c.room_ahead-most.ensures.few))

pub returns-clause-puts : goal.returns-clause-puts
returns-clause-puts c =
    let old = config_of c.args.self.now in
    let ready = can_step c.args.setup.now c.args.hart old c.requires.at
    (omega (arith, c.room_ahead-most.ensures.few)) in
    (ahead c.args.setup.now c.args.hart c.args.until c.room_ahead-most.result old
    c.args.touches.now (config_of c.go_own.new.self) c.go_own.new.touches c.requires.at ready.inside c.room_ahead-most.ensures.sure
    c.room_ahead-most.ensures.budget c.room_ahead-most.ensures.early c.go_own.ensures).puts

pub returns-clause-at : goal.returns-clause-at
returns-clause-at c =
    let old = config_of c.args.self.now in
    let ready = can_step c.args.setup.now c.args.hart old c.requires.at
    (omega (arith, c.room_ahead-most.ensures.few)) in
    (ahead c.args.setup.now c.args.hart c.args.until c.room_ahead-most.result old
    c.args.touches.now (config_of c.go_own.new.self) c.go_own.new.touches c.requires.at ready.inside c.room_ahead-most.ensures.sure
    c.room_ahead-most.ensures.budget c.room_ahead-most.ensures.early c.go_own.ensures).at

pub returns-clause-ready : goal.returns-clause-ready
returns-clause-ready c =
    let old = config_of c.args.self.now in
    let new = config_of c.go_own.new.self in
    let ready = can_step c.args.setup.now c.args.hart old c.requires.at
    (omega (arith, c.room_ahead-most.ensures.few)) in
    let way = ahead c.args.setup.now c.args.hart c.args.until c.room_ahead-most.result old
    c.args.touches.now new c.go_own.new.touches c.requires.at ready.inside c.room_ahead-most.ensures.sure c.room_ahead-most.ensures.budget
    c.room_ahead-most.ensures.early c.go_own.ensures in
    can_step c.args.setup.now c.args.hart new way.at
    (omega (
      arith,
      gone_steps c.args.hart c.room_ahead-most.result old c.args.touches.now new
          c.go_own.new.touches c.go_own.ensures,
      c.room_ahead-most.ensures.few,
    ))

pub returns-clause-turn : goal.returns-clause-turn
returns-clause-turn c =
    let old = config_of c.args.self.now in
    let new = config_of c.go_own.new.self in
    let ready = can_step c.args.setup.now c.args.hart old c.requires.at
    (omega (arith, c.room_ahead-most.ensures.few)) in
    let way = ahead c.args.setup.now c.args.hart c.args.until c.room_ahead-most.result old
    c.args.touches.now new c.go_own.new.touches c.requires.at ready.inside c.room_ahead-most.ensures.sure c.room_ahead-most.ensures.budget
    c.room_ahead-most.ensures.early c.go_own.ensures in
    turn_at c.args.setup.now c.args.hart new way.at

pub returns-clause-steps : goal.returns-clause-steps
returns-clause-steps c =
    let old = config_of c.args.self.now in
    let ready = can_step c.args.setup.now c.args.hart old c.requires.at
    (omega (arith, c.room_ahead-most.ensures.few)) in
    (ahead c.args.setup.now c.args.hart c.args.until c.room_ahead-most.result old
    c.args.touches.now (config_of c.go_own.new.self) c.go_own.new.touches c.requires.at ready.inside c.room_ahead-most.ensures.sure
    c.room_ahead-most.ensures.budget c.room_ahead-most.ensures.early c.go_own.ensures).steps

pub returns-clause-early : goal.returns-clause-early
returns-clause-early c =
    let old = config_of c.args.self.now in
    let ready = can_step c.args.setup.now c.args.hart old c.requires.at
    (omega (arith, c.room_ahead-most.ensures.few)) in
    (ahead c.args.setup.now c.args.hart c.args.until c.room_ahead-most.result old
    c.args.touches.now (config_of c.go_own.new.self) c.go_own.new.touches c.requires.at ready.inside c.room_ahead-most.ensures.sure
    c.room_ahead-most.ensures.budget c.room_ahead-most.ensures.early c.go_own.ensures).early
