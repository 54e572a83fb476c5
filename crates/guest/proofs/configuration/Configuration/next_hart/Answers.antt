use Rattle.std.proofs.Common.{◌∙◌, ap, Bool, List, sym}
use Rattle.std.proofs.lemmas.List.{length-map}
use Rattle.std.proofs.lemmas.Option.{IfSome_then}
use Rattle.guest.specs.Phases.{is_runnable}
use Rattle.hart_scheduler.specs.Choices.{choice}
use Rattle.guest.specs.ConfigInside.{config_of}
use Rattle.guest.specs.Turns.{runnable_in}
use Rattle.guest.proofs.NextHart.{lone-marked}
use Rattle.guest.proofs.configuration.Configuration.next_hart.Goals as goal

pub returns-in-Some-clause-value : goal.returns-in-Some-clause-value
returns-in-Some-clause-value c =
    sym
    (c.lone_is_chosen.ensures (runnable_in (config_of c.args.self.now)) c.args.self.now.schedule
    c.in-Some.hart
    (length-map c.args.self.now.threads is_runnable ∙ sym c.requires)
    (lone-marked c.args.self.now.threads c.in-Some.hart c.in-Some.ensures.alone))

pub returns-in-Some-clause-runs : goal.returns-in-Some-clause-runs
returns-in-Some-clause-runs c = c.in-Some.ensures.alone.runs

pub returns-in-None-clause-value : goal.returns-in-None-clause-value
returns-in-None-clause-value c =
    c.peek.ensures.value ∙ ap (λ (runnable : List Bool). choice runnable c.args.self.now.schedule)
    c.runnable.ensures.value

pub returns-in-None-clause-runs : goal.returns-in-None-clause-runs
returns-in-None-clause-runs c = IfSome_then c.peek.result c.peek.ensures.able
    (λ hart able. (c.runnable.ensures.each hart).0 able)
