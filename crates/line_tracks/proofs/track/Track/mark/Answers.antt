-- After one access the mark can be restored.
use Rattle.std.proofs.Common.{◌<◌, ◌/◌, sym, ap, ◌∙◌, subst}
use Rattle.line_tracks.specs.RangeWords.{word_index}
use Rattle.line_tracks.specs.TrackValue.{CanRestore, Marked, mark_of, note_kept}
use Rattle.line_tracks.proofs.UndoLaws.{can_undo}
use Rattle.line_tracks.proofs.track.Track.mark.Goals as goal

pub returns-clause-undoes : goal.returns-clause-undoes
returns-clause-undoes c = λ position a same.
    let x = c.args.self.now in
    let is = c.remembered.ensures.value ∙ ap (mark_of c.args.self.now) (sym same) in
    let within : word_index c.args.self.now.range a.addr < c.args.self.now.range.size / 4 =
    subst (λ (m : Marked). m.place < c.args.self.now.range.size / 4) is c.remembered.ensures.within
    in
    subst (λ (m : Marked). CanRestore (note_kept c.args.self.now position a) m) (sym is)
    (can_undo c.args.self.now position a c.remembered.ensures.sized within
    c.remembered.ensures.blank)
