use Rattle.std.proofs.Common.{ap, sym, ◌∙◌}
use Rattle.detector.specs.declared.line_entry.LineEntry.{LineEntry}
use Rattle.detector.specs.Counts.{count_at}
use Rattle.detector.specs.Watch.{Watch}
use Rattle.detector.proofs.CountLaws.{count_at-counts_of}
use Rattle.detector.proofs.detector.Detector.writes_of.Goals as goal

pub returns : goal.returns
returns g c =
    ap (λ (e : LineEntry). e.writes) c.peek.ensures
    ∙ sym (count_at-counts_of (g.I.LineIndex.entries c.self.inside.index) c.args.line)
    ∙ ap (λ (w : Watch). count_at w.writes c.args.line) c.self.view_is
