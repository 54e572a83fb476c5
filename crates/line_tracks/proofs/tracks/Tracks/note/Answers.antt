-- The track at the place is the one that is lent.
use Rattle.std.proofs.Common.{◌≡◌, ◌+◌, Some, sym, ap, ◌∙◌, subst}
use Rattle.std.specs.Prelude.{slice_get}
use Rattle.line_tracks.specs.TrackValue.{IsInTime, TrackValue, note_kept}
use Rattle.line_tracks.specs.Laws.TrackValue.{kept-push}
use Rattle.line_tracks.proofs.ReadLaws.{same_held}
use Rattle.line_tracks.proofs.tracks.Tracks.note.Goals as goal
use Rattle.sharing_rules.specs.Laws.Lists.{slice_get-seen}

pub note-requires : goal.note-requires
note-requires g c =
    let there : slice_get c.args.self.now c.args.index ≡ Some c.index_mut-track.result.now =
    slice_get-seen c.args.self.now c.self.inside.tracks.items c.args.index _ c.self.view_is
    c.requires.there c.index_mut-track.ensures.value in
    let ready = c.requires.ready c.index_mut-track.result.now there in
    record { inside = ready.inside; early = c.requires.early; in_time = ready.in_time }

pub returns-clause-exact : goal.returns-clause-exact
returns-clause-exact g c = λ x e.
    let there : slice_get c.args.self.now c.args.index ≡ Some c.index_mut-track.result.now =
    slice_get-seen c.args.self.now c.self.inside.tracks.items c.args.index _ c.self.view_is
    c.requires.there c.index_mut-track.ensures.value in
    let same : x ≡ c.index_mut-track.result.now =
    same_held c.args.self.now c.args.index x _ there e in
    rw (same, c.note.ensures.exact, c.self.view_is)

pub returns-clause-in_time : goal.returns-clause-in_time
returns-clause-in_time g c = λ x e.
    let there : slice_get c.args.self.now c.args.index ≡ Some c.index_mut-track.result.now =
    slice_get-seen c.args.self.now c.self.inside.tracks.items c.args.index _ c.self.view_is
    c.requires.there c.index_mut-track.ensures.value in
    let same : x ≡ c.index_mut-track.result.now =
    same_held c.args.self.now c.args.index x _ there e in
    subst (λ (k : TrackValue). IsInTime k (c.args.position + 1))
    (c.note.ensures.exact ∙ ap (λ (k : TrackValue). note_kept k c.args.position c.args.access) (sym same))
    c.note.ensures.in_time

pub returns-clause-follows : goal.returns-clause-follows
returns-clause-follows g c = λ x e l from t allowed at due old.
    kept-push l from t c.args.access x c.args.position allowed at due
    (c.requires.ready x e).inside old
