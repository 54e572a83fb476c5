use Rattle.std.proofs.Common.{◌∷◌}
use Rattle.shelf.specs.Shelf.{content}
use Rattle.predator_cli.proofs.AllowedLaws.{settings_found, under_settings}
use Rattle.predator_cli.proofs.CutLaws.{joined}
use Rattle.predator_cli.proofs.GoodLaws.{savable}
use Rattle.predator_cli.proofs.PartLaws.{all_repeat}
use Rattle.predator_cli.proofs.StateSizes.{few_objects}
use Rattle.predator_cli.proofs.laws.a_trace_counts_in_parts.Goals as goal

pub returns : goal.returns
returns c = λ demand files how t first later small is plain zero accepted layout this find.
    let found = settings_found how.settings files accepted in
    all_repeat c.a_replay_goes_on_from_a_list.ensures.answered
    c.a_replay_goes_on_from_a_list.ensures.carried c.the_halves_are_traces.ensures.halves
    (joined c.what_is_noted_is_seen.ensures.objects)
    (λ g v w harts items good short.
    let few = few_objects g v harts items short in
    savable w harts items good few.symbols few.blocks (c.what_stands_was_noted.ensures.lives items)
    (c.what_stands_was_noted.ensures.symbols items) (c.what_stands_was_noted.ensures.lone items)
    (c.what_is_noted_is_seen.ensures.apart items))
    how found.0 (under_settings how.layout found.0 found.2 layout) files demand.trace t
    (first ∷ later) found.1 (c.the_halves_are_traces.ensures.whole (content files demand.trace) t
    small is) plain is zero find
