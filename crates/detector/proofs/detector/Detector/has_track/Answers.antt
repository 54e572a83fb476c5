use Rattle.std.proofs.Common.{ap, sym, ◌∙◌}
use Rattle.std.specs.Prelude.{is_some}
use Rattle.detector.specs.Entries.{entry_at}
use Rattle.detector.specs.declared.line_entry.LineEntry.{LineEntry}
use Rattle.detector.specs.Index.{names_in, place_in}
use Rattle.detector.specs.Named.{track_named}
use Rattle.detector.specs.Watch.{Watch}
use Rattle.detector.proofs.NamedLaws.{is_some-kept}
use Rattle.detector.proofs.detector.Detector.has_track.Goals as goal

pub returns : goal.returns
returns g c =
    c.is_some.ensures ∙ ap is_some c.named_track.ensures
    ∙ ap (λ (e : LineEntry). is_some (place_in e c.args.kind)) c.peek.ensures
    ∙ sym (is_some-kept (names_in (entry_at (g.I.LineIndex.entries c.self.inside.index)))
    c.self.inside.layout c.self.inside.tracks
    c.args.kind c.args.line c.self.invariant.0.names)
    ∙ ap (λ (w : Watch). is_some (track_named w.grid c.args.kind c.args.line w.tracks))
    c.self.view_is
