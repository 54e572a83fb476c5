use Rattle.std.proofs.Common.{List, ap, sym, subst, ◌∙◌}
use Rattle.line_tracks.specs.TrackValue.{TrackValue, saved}
use Rattle.detector.specs.Adding.{CanAddTrack, with_track}
use Rattle.base.specs.Levels.{Levels}
use Rattle.detector.specs.Entries.{entry_at}
use Rattle.detector.specs.Index.{IsIndexed}
use Rattle.detector.specs.Watch.{Watch, watch_of}
use Rattle.detector.proofs.detector.Detector.add_track.Goals as goal
use Rattle.std.proofs.lemmas.Result.{on_ok_weaker}

pub add_saved-requires : goal.add_saved-requires
add_saved-requires g c =
    let m = g.I.LineIndex.entries c.self.inside.index in
    let d = c.self.inside in
    record {
      indexed = subst (λ (v : Levels). IsIndexed (entry_at m) d.layout d.tracks v.tracking
          d.position) (sym c.thresholds.ensures) c.self.invariant.0;
      can = subst (λ (v : Levels). CanAddTrack (watch_of m d.tracks d.layout v d.position)
          (saved c.args.kind c.args.shadow c.args.start c.args.count)) (sym c.thresholds.ensures)
          (subst (λ (w : Watch). CanAddTrack w (saved c.args.kind c.args.shadow c.args.start
          c.args.count)) (sym c.self.view_is) c.requires);
    }

pub invariant_of-self : goal.invariant_of-self
invariant_of-self g c = (
  subst (λ (v : Levels). IsIndexed (entry_at (g.I.LineIndex.entries c.add_saved.new.index))
      c.self.inside.layout c.add_saved.new.tracks v.tracking c.self.inside.position)
      c.thresholds.ensures c.add_saved.ensures.indexed,
  c.self.invariant.1,
  c.self.invariant.2,
)

pub returns-clause-added : goal.returns-clause-added
returns-clause-added g c = on_ok_weaker c.add_saved.result
    (λ added. rw c.add_saved.ensures.counts
    (ap (λ (xs : List TrackValue). watch_of (g.I.LineIndex.entries c.self.inside.index) xs
    c.self.inside.layout c.self.inside.thresholds c.self.inside.position) added
    ∙ ap (λ (w : Watch). with_track w (saved c.args.kind c.args.shadow c.args.start c.args.count))
    c.self.view_is))
    c.add_saved.ensures.tracks
