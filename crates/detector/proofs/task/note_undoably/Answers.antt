use Rattle.std.proofs.Common.{◌+◌, ◌≤◌, sym, ap, ◌∙◌, subst}
use Rattle.std.specs.Prelude.{if◌then◌else◌, is_some}
use Rattle.detector.specs.Entries.{entry_at}
use Rattle.detector.specs.Noting.{CanTouchAll, places, touched_places}
use Rattle.detector.specs.declared.track_places.TrackNumbers.{TrackNumbers}
use Rattle.detector.proofs.TouchLaws.{places-can, places-touched}
use Rattle.detector.proofs.task.note_undoably.Goals as goal

pub note_all_undoably-requires-clause-can : goal.note_all_undoably-requires-clause-can
note_all_undoably-requires-clause-can g c =
    let n = c.requires.notable.1 in
    subst (λ (q : TrackNumbers). CanTouchAll c.args.tracks.now c.args.position c.args.access q)
    (sym c.places_of-places.ensures)
    (places-can (entry_at (g.I.LineIndex.entries c.args.index.now)) c.requires.notable.0
    c.args.tracks.now c.args.position c.args.access c.args.line n.names n.in_time)

pub returns-clause-tracks : goal.returns-clause-tracks
returns-clause-tracks g c =
    let f = entry_at (g.I.LineIndex.entries c.args.index.now) in
    let n = c.requires.notable.1 in
    c.note_all_undoably.ensures.tracks
    ∙ ap (λ (q : TrackNumbers). touched_places c.args.position c.args.access q c.args.tracks.now)
    (c.places_of-places.ensures ∙ ap (places f) n.line)
    ∙ places-touched f c.requires.notable.0 c.args.tracks.now c.args.position c.args.access n.layout
    n.names

pub returns-clause-steps : goal.returns-clause-steps
returns-clause-steps g c =
    subst (λ (q : TrackNumbers). c.note_all_undoably.new.steps
    ≤ c.args.steps.now + (if is_some q.own then 4 else 3)) c.places_of-places.ensures
    c.note_all_undoably.ensures.steps
