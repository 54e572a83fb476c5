use Rattle.std.proofs.Common.{sym, ap, ◌∙◌}
use Rattle.trace_format.specs.Ahead.{HasNumberAt}
use Rattle.trace_format.specs.declared.tag.Tag.TheVariants as tags
use Rattle.trace_format.specs.Judging.{touch_counted, without_pc}
use Rattle.trace_format.proofs.Runs.{ahead_there, if_some}
use Rattle.trace_format.proofs.run_read.short_touch_ahead.Goals as goal

pub returns : goal.returns
returns c =
    let p = c.args.progress.now in
    let bytes = c.args.bytes.now in
    let n = c.in-Some.near.end in
    let has : HasNumberAt bytes 2 c.in-Some.near.number n = c.in-Some.ensures.stated in
    let same = ap (touch_counted p)
    (c.without_pc.ensures ∙ ap without_pc c.short_touch_stated-access.ensures) in
    if_some c.placed.result _ _ (λ ahead is.
    ahead_there p bytes c.split_at.result.0.now (tags.ShortTouch c.args.kind c.args.width) n
    c.requires.tagged c.split_at.ensures.front has.extent has.there
    ahead.access ahead.pc ahead.size (sym same ∙ is.0, is.1)) c.placed.ensures
