-- The track at the place is the one that is read.
use Rattle.std.proofs.Common.{◌≡◌, Some, sym, ap, ◌∙◌, subst}
use Rattle.std.specs.Prelude.{slice_get}
use Rattle.line_tracks.specs.TrackValue.{CanRestore, TrackValue, mark_of, note_kept}
use Rattle.line_tracks.proofs.ReadLaws.{same_held}
use Rattle.line_tracks.proofs.tracks.Tracks.mark.Goals as goal
use Rattle.sharing_rules.specs.Laws.Lists.{slice_get-seen}

pub mark-requires : goal.mark-requires
mark-requires c =
    c.requires.holds c.index-track.result.now
    (slice_get-seen c.args.self.now c.self.inside.tracks.items c.args.index _ c.self.view_is
    c.requires.there c.index-track.ensures)

pub returns-clause-value : goal.returns-clause-value
returns-clause-value c = λ x e.
    let there : slice_get c.args.self.now c.args.index ≡ Some c.index-track.result.now =
    slice_get-seen c.args.self.now c.self.inside.tracks.items c.args.index _ c.self.view_is
    c.requires.there c.index-track.ensures in
    let same : x ≡ c.index-track.result.now = same_held c.args.self.now c.args.index x _ there e in
    c.mark.ensures.value ∙ ap (λ (k : TrackValue). mark_of k c.args.addr) (sym same)

pub returns-clause-undoes : goal.returns-clause-undoes
returns-clause-undoes c = λ x e position a at.
    let there : slice_get c.args.self.now c.args.index ≡ Some c.index-track.result.now =
    slice_get-seen c.args.self.now c.self.inside.tracks.items c.args.index _ c.self.view_is
    c.requires.there c.index-track.ensures in
    let same : x ≡ c.index-track.result.now = same_held c.args.self.now c.args.index x _ there e in
    subst (λ (k : TrackValue). CanRestore (note_kept k position a) c.mark.result) (sym same)
    (c.mark.ensures.undoes position a at)
