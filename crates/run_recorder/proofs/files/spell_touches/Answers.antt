use Rattle.run_recorder.specs.Recording.{records_part, touch_records}
use Rattle.run_recorder.proofs.Putting.{put_none}
use Rattle.run_recorder.proofs.files.spell_touches.Goals as goal

pub returns-in-Ok-clause-outputs : goal.returns-in-Ok-clause-outputs
returns-in-Ok-clause-outputs g c =
    rw (← c.in-Ok.ensures.bytes, ← c.deref.ensures.value) c.put_spelled.ensures.outputs

pub returns-in-Ok-clause-cut : goal.returns-in-Ok-clause-cut
returns-in-Ok-clause-cut g c =
    rw (← c.in-Ok.ensures.bytes, ← c.deref.ensures.value) c.put_spelled.ensures.cut

pub returns-in-Err-clause-cut : goal.returns-in-Err-clause-cut
returns-in-Err-clause-cut g c = λ bytes before on.
    put_none c.args.files.now bytes (records_part c.args.speller.now.writer
    (touch_records c.args.version c.args.touches.now))
    c.args.outputs.now before (g.S.Shelf.outside c.args.shelf.now) on
