use Rattle.std.proofs.Common.{add-one, arith}
use Rattle.run_recorder.specs.Recording.{trace_part}
use Rattle.run_recorder.proofs.Beginning.{at_place, file_at}
use Rattle.run_recorder.proofs.Putting.{put_all, put_cut, put_more}
use Rattle.run_recorder.proofs.files.put_spelled.Goals as goal

pub returns-in-Err-clause-cut : goal.returns-in-Err-clause-cut
returns-in-Err-clause-cut g c =
    put_cut c.args.files.now (trace_part c.args.bytes.now) c.args.outputs.now c.loop-place.outputs
    c.loop-place.place (file_at c.args.files.now c.loop-place.place)
    (g.S.Shelf.outside c.args.shelf.now) (g.S.Shelf.outside c.loop-place.shelf)
    (g.S.Shelf.outside c.put_spelled_into.new.shelf) c.in-Err.error c.loop-place-test.true
    (at_place c.args.files.now c.loop-place.place c.loop-place-test.true) c.loop-place.invariant
    c.in-Err.ensures.cut

pub loop-place-preserved : goal.loop-place-preserved
loop-place-preserved g c =
    rw add-one
    (put_more c.args.files.now (trace_part c.args.bytes.now) c.args.outputs.now
    c.loop-place.outputs
    c.put_spelled_into.new.outputs c.loop-place.place (file_at c.args.files.now c.loop-place.place)
    (g.S.Shelf.outside c.args.shelf.now) (g.S.Shelf.outside c.loop-place.shelf)
    (g.S.Shelf.outside c.put_spelled_into.new.shelf) c.loop-place-test.true
    (at_place c.args.files.now c.loop-place.place c.loop-place-test.true) c.loop-place.invariant
    c.put_spelled_into.ensures.count c.put_spelled_into.ensures.begun c.in-Ok.ensures.outputs)

pub returns-clause-outputs : goal.returns-clause-outputs
returns-clause-outputs g c =
    put_all c.args.files.now (trace_part c.args.bytes.now) c.args.outputs.now c.loop-place.outputs
    c.loop-place.place (g.S.Shelf.outside c.args.shelf.now) (g.S.Shelf.outside c.loop-place.shelf)
    (omega arith) (omega arith) c.loop-place.invariant
