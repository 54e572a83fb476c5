use Rattle.std.proofs.Common.{sym, ◌∙◌}
use Rattle.detector.proofs.TouchLaws.{slice_get-get_or_at}
use Rattle.detector.proofs.UndoLaws.{touched-holds, touched-misses}
use Rattle.detector.proofs.track_places.note_at.Goals as goal

pub holds-requires : goal.holds-requires
holds-requires g c = c.requires.can.within c.in-Some.place (sym c.number.ensures ∙ c.in-Some.is)

pub note-requires-clause-there : goal.note-requires-clause-there
note-requires-clause-there g c = c.requires.can.within c.in-Some.place
    (sym c.number.ensures ∙ c.in-Some.is)

pub note-requires-clause-ready : goal.note-requires-clause-ready
note-requires-clause-ready g c = λ x got. record {
  inside = sym (c.holds.ensures x got) ∙ c.if-holds.true;
  in_time = c.requires.can.in_time c.in-Some.place x (sym c.number.ensures ∙ c.in-Some.is) got;
}

pub returns-then-holds-clause-tracks : goal.returns-then-holds-clause-tracks
returns-then-holds-clause-tracks g c =
    let named = sym c.number.ensures ∙ c.in-Some.is in
    let at = slice_get-get_or_at c.args.tracks.now c.in-Some.place
    (c.requires.can.within c.in-Some.place named) in
    c.note.ensures.exact at.0 at.1
    ∙ sym (touched-holds c.args.position c.args.access c.args.tracks.now c.in-Some.place at.0
    c.args.place named at.1 (sym (c.holds.ensures at.0 at.1) ∙ c.if-holds.true))

pub returns-else-holds-clause-tracks : goal.returns-else-holds-clause-tracks
returns-else-holds-clause-tracks g c =
    let named = sym c.number.ensures ∙ c.in-Some.is in
    let at = slice_get-get_or_at c.args.tracks.now c.in-Some.place
    (c.requires.can.within c.in-Some.place named) in
    touched-misses c.args.position c.args.access c.args.tracks.now c.in-Some.place at.0
    c.args.place named at.1 (sym (c.holds.ensures at.0 at.1) ∙ c.if-holds.false)
