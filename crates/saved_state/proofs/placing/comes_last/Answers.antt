use Rattle.std.proofs.Common.{◌∙◌}
use Rattle.saved_state.specs.Parts.{kept_of}
use Rattle.saved_state.proofs.AddLaws.{behind_last}
use Rattle.saved_state.proofs.placing.comes_last.Goals as goal

pub returns-in-Some : goal.returns-in-Some
returns-in-Some c =
    c.comes_before.ensures
    ∙ behind_last (kept_of c.args.track.now) c.args.tracks.now c.in-Some.last.now c.requires
    c.in-Some.ensures.value
