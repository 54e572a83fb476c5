use Rattle.std.proofs.Common.{◌∙◌}
use Rattle.trace_format.specs.Rules.{touches_in}
use Rattle.predator_cli.proofs.ReplayLaws.{held_state, seen_state}
use Rattle.predator_cli.proofs.replay.state_bytes.Goals as goal

pub returns-clause-of_held : goal.returns-clause-of_held
returns-clause-of_held c =
    held_state c.args.harts c.args.observations.now c.detector.result.now c.objects.result.now
    c.extend_from_slice.new.self.items
    c.in_ok-bytes.bytes.items c.deref.result.now (c.in_ok-extend_from_slice.ensures {u = tt}).items
    (c.deref.ensures.value ∙ c.in_ok-objects.ensures.saved) c.detector.ensures.value
    c.objects.ensures c.in_ok-bytes.ensures.state

pub returns-clause-of_records : goal.returns-clause-of_records
returns-clause-of_records c = λ g v items seen.
    seen_state c.args.harts c.args.observations.now c.detector.result.now c.objects.result.now
    c.extend_from_slice.new.self.items
    c.in_ok-bytes.bytes.items c.deref.result.now (c.in_ok-extend_from_slice.ensures {u = tt}).items
    (c.deref.ensures.value ∙ c.in_ok-objects.ensures.saved) c.detector.ensures.value
    c.objects.ensures g v items seen
    (c.in_ok-bytes.ensures.of_list (touches_in items) (c.detector.ensures.stands g v items seen))
