-- The track at the place is the one that is lent.
use Rattle.std.proofs.Common.{◌≡◌, Some, sym, ap, ◌∙◌}
use Rattle.std.specs.Prelude.{slice_get}
use Rattle.line_tracks.specs.TrackValue.{TrackValue, Marked, note_kept, restored}
use Rattle.line_tracks.proofs.ReadLaws.{same_held}
use Rattle.line_tracks.proofs.UndoLaws.{undone}
use Rattle.line_tracks.proofs.tracks.Tracks.restore.Goals as goal
use Rattle.sharing_rules.specs.Laws.Lists.{slice_get-seen}

pub restore-requires : goal.restore-requires
restore-requires c =
    let there : slice_get c.args.self.now c.args.index ≡ Some c.index_mut-track.result.now =
    slice_get-seen c.args.self.now c.self.inside.tracks.items c.args.index _ c.self.view_is
    c.requires.there c.index_mut-track.ensures.value in
    c.requires.ready c.index_mut-track.result.now there

pub returns-clause-exact : goal.returns-clause-exact
returns-clause-exact c = λ x e.
    let there : slice_get c.args.self.now c.args.index ≡ Some c.index_mut-track.result.now =
    slice_get-seen c.args.self.now c.self.inside.tracks.items c.args.index _ c.self.view_is
    c.requires.there c.index_mut-track.ensures.value in
    let same : x ≡ c.index_mut-track.result.now =
    same_held c.args.self.now c.args.index _ _ there e in
    rw (same, c.restore.ensures, c.self.view_is)

pub returns-clause-undoes : goal.returns-clause-undoes
returns-clause-undoes c = λ x position a e marked.
    let there : slice_get c.args.self.now c.args.index ≡ Some c.index_mut-track.result.now =
    slice_get-seen c.args.self.now c.self.inside.tracks.items c.args.index _ c.self.view_is
    c.requires.there c.index_mut-track.ensures.value in
    let same : note_kept x position a ≡ c.index_mut-track.result.now =
    same_held c.args.self.now c.args.index _ _ there e in
    let back : c.restore.new.self ≡ x =
    c.restore.ensures ∙ ap (λ (k : TrackValue). restored k c.args.mark) (sym same)
    ∙ ap (λ (m : Marked). restored (note_kept x position a) m)
    marked ∙ undone x position a in
    rw (back, c.self.view_is)
