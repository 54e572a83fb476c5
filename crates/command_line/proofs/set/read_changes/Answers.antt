use Rattle.std.proofs.Common.{◌==◌, ap, ◌∙◌}
use Rattle.std.specs.List.{slice_split}
use Rattle.command_line.specs.Set.{and_parts, changes_of}
use Rattle.command_line.proofs.set.read_changes.Goals as goal

pub returns : goal.returns
unfolding changes_of
returns c =
    c.with_parts.ensures
    ∙ ap (λ d. and_parts d (slice_split (λ b. b == 44) c.args.text.now)) c.none.ensures
