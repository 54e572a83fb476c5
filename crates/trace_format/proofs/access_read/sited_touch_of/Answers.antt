use Rattle.std.proofs.Common.{sym, ◌∙◌, arith}
use Rattle.trace_format.specs.Laws.Extents.{front_whole}
use Rattle.trace_format.proofs.ShortTouches.{sited_by_parts}
use Rattle.trace_format.proofs.access_read.sited_touch_of.Goals as goal

pub sited_touch_in-requires-clause-front_long : goal.sited_touch_in-requires-clause-front_long
sited_touch_in-requires-clause-front_long c =
    let bytes = c.args.bytes.now in
    let n = c.short_touch_extent.result in
    rw c.split_at.ensures.front (front_whole bytes n c.short_touch_extent.ensures.value
    (omega arith) (omega arith))

pub returns : goal.returns
returns c =
    c.sited_touch_in.ensures
    ∙ sited_by_parts c.args.kind c.args.size c.args.harts c.args.place c.short_touch_extent.result
    c.args.before.now c.args.bytes.now c.split_at.result.0.now c.split_at.result.1.now
    (sym c.short_touch_extent.ensures.value) (omega arith) c.split_at.ensures.front
    c.split_at.ensures.back
