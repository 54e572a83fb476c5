use Rattle.std.proofs.Common.{take, refl, sym, ap, ◌∙◌}
use Rattle.trace_format.specs.Ahead.{HasNumberAt, with_site}
use Rattle.trace_format.specs.declared.tag.Tag.TheVariants as tags
use Rattle.trace_format.specs.Judging.{touch_counted}
use Rattle.trace_format.proofs.Runs.{ahead_there, if_some}
use Rattle.trace_format.proofs.ShortTouches.{sited_by_numbers, size_is}
use Rattle.trace_format.proofs.run_read.sited_touch_ahead.Goals as goal

pub returns : goal.returns
returns c =
    let p = c.args.progress.now in
    let bytes = c.args.bytes.now in
    let n = c.in-Some.near.end in
    let m = c.in-Some-number_at.site.end in
    let z = c.in-Some-number_at.site.number in
    let near : HasNumberAt bytes 2 c.in-Some.near.number n = c.in-Some.ensures.stated in
    let site : HasNumberAt bytes n z m = c.in-Some-number_at.ensures.stated in
    let same = ap (touch_counted p) (c.with_site.ensures
    ∙ ap (with_site p.before z) c.short_touch_stated-access.ensures
    ∙ sited_by_numbers c.args.kind c.args.width p.header.harts p.place n m z p.before bytes
    c.split_at.result.0.now near.extent site c.split_at.ensures.front) in
    if_some c.placed.result _ _ (λ ahead is.
    ahead_there p bytes (take m bytes) (tags.SitedTouch c.args.kind c.args.width) m
    c.requires.tagged refl
    (size_is bytes (take m bytes) n m near.extent site.extent site.there refl) site.there
    ahead.access ahead.pc ahead.size (sym same ∙ is.0, is.1)) c.placed.ensures
