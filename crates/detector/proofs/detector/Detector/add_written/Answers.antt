use Rattle.std.proofs.Common.{◌≤◌, ap, sym, subst, ◌∙◌}
use Rattle.detector.specs.Adding.{with_written}
use Rattle.detector.specs.Counts.{count_at}
use Rattle.detector.specs.Watch.{Watch}
use Rattle.detector.proofs.CountLaws.{count_at-counts_of}
use Rattle.detector.proofs.detector.Detector.add_written.Goals as goal
use Rattle.std.proofs.lemmas.Result.{on_ok_weaker}

pub set_writes-requires-clause-fresh : goal.set_writes-requires-clause-fresh
set_writes-requires-clause-fresh g c =
    sym (count_at-counts_of (g.I.LineIndex.entries c.self.inside.index) c.args.line)
    ∙ ap (λ (w : Watch). count_at w.writes c.args.line) c.self.view_is ∙ c.requires.fresh

pub invariant_of-self : goal.invariant_of-self
invariant_of-self g c = (
  c.set_writes.ensures.indexed c.self.inside.layout c.self.inside.tracks
      c.self.inside.thresholds.tracking c.self.inside.position
      (subst (λ (w : Watch). c.args.writes ≤ w.position) (sym c.self.view_is) c.requires.few)
      c.self.invariant.0,
  c.self.invariant.1,
  c.self.invariant.2,
)

pub returns-clause-added : goal.returns-clause-added
returns-clause-added g c = on_ok_weaker c.set_writes.result
    (λ counts. rw counts (ap (λ (w : Watch). with_written w c.args.line c.args.writes)
    c.self.view_is))
    c.set_writes.ensures.counts
