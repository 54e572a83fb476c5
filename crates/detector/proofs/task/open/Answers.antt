use Rattle.std.proofs.Common.{◌++◌, ap, ◌∙◌}
use Rattle.std.proofs.lemmas.List.{append_assoc}
use Rattle.line_tracks.specs.TrackValue.{TrackValue}
use Rattle.std.specs.Prelude.{List}
use Rattle.sharing_rules.specs.declared.line_kind.LineKind.TheVariants.{Shifted}
use Rattle.detector.specs.Openings.{waiting_for}
use Rattle.detector.proofs.TaskLaws.{kept-after, opened-all, opened-where}
use Rattle.detector.proofs.task.open.Goals as goal

pub returns-in-Err-open_one-clause-kept : goal.returns-in-Err-open_one-clause-kept
returns-in-Err-open_one-clause-kept c =
    kept-after c.args.tracks.now (waiting_for Shifted c.args.openings.below) c.open_one-2.new.tracks
    (c.in-Err-open_one.ensures.same ∙ c.in-Ok.ensures.added)

pub returns-in-Err-open_one-2-clause-kept : goal.returns-in-Err-open_one-2-clause-kept
returns-in-Err-open_one-2-clause-kept c =
    let below = waiting_for Shifted c.args.openings.below in
    let here = waiting_for Shifted c.args.openings.here in
    kept-after c.args.tracks.now (below ++ here) c.open_one-3.new.tracks
    (c.in-Err-open_one-2.ensures.same ∙ c.in-Ok-open_one.ensures.added
    ∙ ap (λ (xs : List TrackValue). xs ++ here) c.in-Ok.ensures.added
    ∙ append_assoc c.args.tracks.now below here)

pub returns-clause-added : goal.returns-clause-added
returns-clause-added c = opened-all c.args.tracks.now c.open_one.new.tracks c.open_one-2.new.tracks
    c.open_one-3.new.tracks
    c.args.openings c.in-Ok.ensures.added c.in-Ok-open_one.ensures.added
    c.in-Ok-open_one-2.ensures.added

pub returns-clause-places : goal.returns-clause-places
returns-clause-places c = opened-where c.args.tracks.now c.open_one.new.tracks
    c.open_one-2.new.tracks c.args.openings c.in-Ok.place
    c.in-Ok-open_one.place c.in-Ok-open_one-2.place c.in-Ok.ensures.added
    c.in-Ok-open_one.ensures.added c.in-Ok.ensures.place
    c.in-Ok-open_one.ensures.place c.in-Ok-open_one-2.ensures.place
