use Rattle.finite_cache.specs.CacheState.{LineUse}
use Rattle.sharing_rules.specs.Arrivals.{note_arrival}
use Rattle.finite_cache.specs.Laws.Stated.{arrived-new, arrives-known, arrives-new, stated-known}
use Rattle.finite_cache.specs.Laws.Stated.{stated-new, use-changed-on}
use Rattle.finite_cache.proofs.tables.arrive.Goals as goal

pub returns-in-Some-clause-arrived : goal.returns-in-Some-clause-arrived
returns-in-Some-clause-arrived c =
    use-changed-on c.args.lines.now.entries c.args.line c.in-Some.index c.in-Some.ensures.index
    c.in-Some.ensures.value c.in-Some.ensures.found c.arrive_at.result
    (λ (l : LineUse). record l { harts = note_arrival l.harts c.args.hart })
    c.arrive_at.new.lines.entries c.arrive_at.ensures.arrived

pub returns-in-Some-clause-stated : goal.returns-in-Some-clause-stated
returns-in-Some-clause-stated c =
    stated-known c.args.lines.now.entries c.args.line c.in-Some.index c.in-Some.ensures.index
    c.in-Some.ensures.value c.in-Some.ensures.found c.arrive_at.result c.args.hart
    c.arrive_at.ensures.stated

pub returns-in-Some-clause-known : goal.returns-in-Some-clause-known
returns-in-Some-clause-known c =
    arrives-known c.args.lines.now.entries c.args.line c.in-Some.index c.in-Some.ensures.index
    c.in-Some.ensures.value c.in-Some.ensures.found c.arrive_at.result c.args.hart
    c.arrive_at.ensures.known

pub returns-in-None-clause-arrived : goal.returns-in-None-clause-arrived
returns-in-None-clause-arrived c =
    arrived-new c.args.lines.now.entries c.args.line c.in-None.ensures.found c.arrive_first.result
    c.args.hart c.arrive_first.new.lines.entries c.arrive_first.ensures.arrived

pub returns-in-None-clause-stated : goal.returns-in-None-clause-stated
returns-in-None-clause-stated c =
    stated-new c.args.lines.now.entries c.args.line c.in-None.ensures.found c.arrive_first.result
    c.args.hart c.arrive_first.ensures.stated

pub returns-in-None-clause-known : goal.returns-in-None-clause-known
returns-in-None-clause-known c =
    arrives-new c.args.lines.now.entries c.args.line c.in-None.ensures.found c.arrive_first.result
    c.args.hart
