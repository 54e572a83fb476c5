use Rattle.std.proofs.Common.{◌∙◌, rules}
use Rattle.std.proofs.lemmas.Result.{IfOk-weaker}
use Rattle.observations.specs.ObservedTraces.{ObservedTrace}
use Rattle.trace_format.specs.Rules.{touches_in}
use Rattle.observations.proofs.NextLaws.{reported, reported_held, seen_whole}
use Rattle.observations.proofs.observations.Observations.report.Goals as goal

pub returns-clause-of_held : goal.returns-clause-of_held
returns-clause-of_held c =
    let held : ObservedTrace = record {
      watch = c.self.inside.detector;
      objects =
          c.self.inside.objects;
    } in
    rw (← c.self.view_is)
    (IfOk-weaker c.write_report.result _ _
    (λ text is. is ∙ reported_held c.args.ending.now c.layout.result c.thresholds.result
    c.tracks.result.now held c.layout.ensures
    c.thresholds.ensures.value c.tracks.ensures.value)
    c.write_report.ensures.text)

pub returns-clause-of_list : goal.returns-clause-of_list
returns-clause-of_list c = search rules

pub returns-clause-of_records : goal.returns-clause-of_records
returns-clause-of_records c = λ g v items so_far.
    IfOk-weaker c.write_report.result _ _ (λ text is. is
    ∙ reported c.args.ending.now g v c.args.self.now items so_far)
    (returns-clause-of_list c (touches_in items) (seen_whole g v c.args.self.now items so_far))
