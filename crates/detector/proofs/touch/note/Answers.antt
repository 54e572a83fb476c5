use Rattle.std.proofs.Common.{sym, ap, ◌∙◌, subst}
use Rattle.detector.specs.declared.track_places.TrackNumbers.{TrackNumbers}
use Rattle.detector.specs.Noting.{AreHeld, CanTouchAll, places, touched_places}
use Rattle.detector.proofs.TouchLaws.{places-held, places-can, places-touched}
use Rattle.detector.proofs.touch.note.Goals as goal

pub note_places-requires-clause-can : goal.note_places-requires-clause-can
note_places-requires-clause-can g c =
    let n = c.requires.notable in
    subst (λ (z : TrackNumbers). CanTouchAll c.args.tracks.now c.args.position c.args.access z)
    (sym (c.places_between-places.ensures ∙ n.2))
    (places-can n.0 n.1 c.args.tracks.now c.args.position c.args.access c.args.line n.3.names
    n.3.in_time)

pub note_places-requires-clause-held : goal.note_places-requires-clause-held
note_places-requires-clause-held g c =
    let n = c.requires.notable in
    subst (λ (z : TrackNumbers). AreHeld c.args.tracks.now c.args.position c.args.access z)
    (sym (c.places_between-places.ensures ∙ n.2))
    (places-held n.0 n.1 c.args.tracks.now c.args.position c.args.access c.args.line n.3.layout
    n.3.line n.3.names)

pub returns-clause-tracks : goal.returns-clause-tracks
returns-clause-tracks g c =
    let n = c.requires.notable in
    c.note_places.ensures.tracks ∙ ap (λ (z : TrackNumbers). touched_places c.args.position c.args.access
    z c.args.tracks.now)
    (c.places_between-places.ensures ∙ n.2 ∙ ap (places n.0) n.3.line)
    ∙ places-touched n.0 n.1 c.args.tracks.now c.args.position c.args.access n.3.layout n.3.names
