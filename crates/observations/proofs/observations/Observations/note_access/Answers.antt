use Rattle.std.proofs.Common.{ap}
use Rattle.std.proofs.lemmas.Result.{on_ok_weaker}
use Rattle.detector.specs.Watch.{Watch}
use Rattle.observations.specs.ObservedTraces.{ObservedTrace}
use Rattle.observations.proofs.NextLaws.{next_access, on_both}
use Rattle.observations.proofs.observations.Observations.note_access.Goals as goal

pub returns-clause-noted : goal.returns-clause-noted
returns-clause-noted c =
    let with_watch : Watch → ObservedTrace = λ w. record { watch = w; objects = c.self.inside.objects } in
    λ pc. rw (← c.self.view_is) (on_ok_weaker c.see.result (ap with_watch) c.see.ensures.watched)

pub returns-clause-seen : goal.returns-clause-seen
returns-clause-seen c = λ pc.
    rw (← c.self.view_is)
    (on_both c.see.result
    (next_access c.self.inside.objects c.self.inside.detector c.see.new.detector c.args.access
    pc)
    c.see.ensures.watched
    c.see.ensures.stands)

pub returns-clause-known : goal.returns-clause-known
returns-clause-known c = λ pc. rw (← c.self.view_is) c.see.ensures.known
