use Rattle.std.proofs.Common.{◌+◌, ap, ◌∙◌}
use Rattle.std.specs.Prelude.{is_ok}
use Rattle.detector.specs.declared.line_entry.LineEntry.{LineEntry}
use Rattle.detector.specs.Counts.{counts_of}
use Rattle.detector.proofs.CountLaws.{counts-with_entry}
use Rattle.detector.proofs.write_count.count.Goals as goal

pub returns-in-Ok-clause-counts : goal.returns-in-Ok-clause-counts
returns-in-Ok-clause-counts g c =
    let m = g.I.LineIndex.entries c.args.index.now in
    let e : LineEntry = record {
      writes = c.in-Ok.entry.now.writes + 1;
      track = c.in-Ok.entry.now.track;
      shifted =
          c.in-Ok.entry.now.shifted;
      doubled = c.in-Ok.entry.now.doubled;
    } in
    let change = (c.entry.follows.holds e (ap is_ok c.in-Ok.is)).0 in
    ap counts_of change.whole ∙ counts-with_entry m c.args.line e
    (ap (λ (x : LineEntry). x.writes + 1) c.in-Ok.ensures.value)
