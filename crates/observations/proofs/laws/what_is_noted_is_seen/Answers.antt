use Rattle.objects.specs.Laws.Symbols.{symbols_of-alone}
use Rattle.trace_passes.specs.Lives.{symbols_in}
use Rattle.observations.proofs.NotedLaws.{reported_as_list, seen_noted}
use Rattle.observations.proofs.ObjectLaws.{objects_on}
use Rattle.observations.proofs.laws.what_is_noted_is_seen.Goals as goal

pub returns-clause-seen : goal.returns-clause-seen
returns-clause-seen c = λ begun items good. seen_noted
    c.an_access_changes_what_it_meets.ensures.stands begun items good

pub returns-clause-report : goal.returns-clause-report
returns-clause-report c = λ ending s t good stood. reported_as_list ending s t good stood

pub returns-clause-objects : goal.returns-clause-objects
returns-clause-objects c = λ before items. objects_on before items

pub returns-clause-apart : goal.returns-clause-apart
returns-clause-apart c = λ items. symbols_of-alone (symbols_in items)
