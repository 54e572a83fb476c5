use Rattle.std.proofs.Common.{◌<◌, get_or, sym, ap, ◌∙◌, arith}
use Rattle.trace_format.specs.Numbers.{address_at, are_groups, number_in}
use Rattle.trace_format.proofs.ShortTouches.{misaligned_short_touch}
use Rattle.trace_format.proofs.access_read.short_touch_of.Goals as goal

pub returns-in-None : goal.returns-in-None
returns-in-None c =
    let stated = c.behind-stated.ensures.value in
    let below : get_or c.args.bytes.now 1 0 < c.args.harts = grind arith in
    misaligned_short_touch c.args.kind c.args.size c.args.harts c.args.last c.args.place
    c.address_at-addr.result c.args.bytes.now below
    (ap are_groups (sym stated) ∙ sym c.if-not-are_groups.ensures)
    (c.address_at-addr.ensures ∙ ap (address_at c.args.last)
    (c.number_in.ensures ∙ ap number_in stated))
    (λ e. c.in-None.ensures e)
