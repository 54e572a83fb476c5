use Rattle.observations.specs.Laws.Seen.{HasSeen-end, report_of_records-end}
use Rattle.observations.proofs.laws.an_end_shows_nothing.Goals as goal

pub returns-clause-seen : goal.returns-clause-seen
returns-clause-seen c = λ begun now items e seen. HasSeen-end items e begun now seen

pub returns-clause-report : goal.returns-clause-report
returns-clause-report c = λ ending e g v items. report_of_records-end items e ending g v
