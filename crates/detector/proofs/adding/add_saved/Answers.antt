use Rattle.std.proofs.Common.{Some, length, ap, ◌∙◌, arith}
use Rattle.detector.specs.Entries.{entry_at}
use Rattle.line_tracks.specs.TrackValue.{saved}
use Rattle.detector.specs.Index.{names_in}
use Rattle.detector.specs.Named.{line_of_base}
use Rattle.detector.specs.Tasks.{with_name}
use Rattle.detector.proofs.AddLaws.{added-indexed, addable-written, written_small}
use Rattle.detector.proofs.adding.add_saved.Goals as goal

pub name-requires-clause-written : goal.name-requires-clause-written
name-requires-clause-written g c = λ p e.
    addable-written (g.I.LineIndex.entries c.args.index.now) c.args.layout c.args.tracks.now
    c.args.thresholds c.args.position
    c.line_of-line.result (saved c.args.kind c.args.shadow c.args.start c.args.count)
    c.requires
    (c.line_of-line.ensures ∙ ap (line_of_base c.args.layout) c.range.ensures.value)

pub name-requires-clause-small : goal.name-requires-clause-small
name-requires-clause-small g c =
    written_small (g.I.LineIndex.entries c.args.index.now) c.line_of-line.result
    (g.met.I.LineIndex.only_entries c.args.index.now c.line_of-line.result)
    (addable-written (g.I.LineIndex.entries c.args.index.now) c.args.layout c.args.tracks.now
    c.args.thresholds c.args.position
    c.line_of-line.result (saved c.args.kind c.args.shadow c.args.start c.args.count)
    c.requires
    (c.line_of-line.ensures ∙ ap (line_of_base c.args.layout) c.range.ensures.value))

pub returns-in-Ok-clause-indexed : goal.returns-in-Ok-clause-indexed
returns-in-Ok-clause-indexed g c =
    added-indexed (g.I.LineIndex.entries c.args.index.now)
    (g.I.LineIndex.entries c.name.new.index) c.args.layout c.args.tracks.now
    c.add_saved.new.self c.args.thresholds c.args.position c.line_of-line.result
    (saved c.args.kind c.args.shadow c.args.start c.args.count) c.requires
    (c.line_of-line.ensures ∙ ap (line_of_base c.args.layout) c.range.ensures.value)
    (c.name.ensures.names
    ∙ ap (with_name (names_in (entry_at (g.I.LineIndex.entries c.args.index.now))) c.args.kind
    c.line_of-line.result)
    (c.at.ensures ∙ ap Some c.in-Ok.ensures.place)) c.name.ensures.writes
    (omega (arith, ap length c.all.ensures)) c.in-Ok.ensures.added
