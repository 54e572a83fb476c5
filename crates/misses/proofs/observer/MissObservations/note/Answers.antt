use Rattle.misses.proofs.SeenLaws.{both_noted, both_seen, ok_always}
use Rattle.misses.proofs.observer.MissObservations.note.Goals as goal

pub returns-in-Ok-clause-noted : goal.returns-in-Ok-clause-noted
returns-in-Ok-clause-noted c =
    both_noted c.note_object.result c.args.self.now c.note_miss.new.misses
    c.note_object.new.objects c.args.item.now c.in-Ok.ensures.noted
    (rw c.position-position.ensures at c.note_object.ensures.noted)

pub returns-in-Ok-clause-stands : goal.returns-in-Ok-clause-stands
returns-in-Ok-clause-stands c = λ t stood.
    ok_always c.note_object.result (c.in-Ok.ensures.stands t stood)

pub returns-in-Ok-clause-seen : goal.returns-in-Ok-clause-seen
returns-in-Ok-clause-seen c =
    both_seen c.note_object.result c.args.self.now c.note_miss.new.misses
    c.note_object.new.objects c.args.item.now c.in-Ok.ensures.noted
    (rw c.position-position.ensures at c.note_object.ensures.noted) (λ t stood. c.in-Ok.ensures.stands t stood)
