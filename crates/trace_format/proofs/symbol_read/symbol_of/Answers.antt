use Rattle.std.proofs.Common.{eqb, sym, ap, ◌∙◌, arith}
use Rattle.std.specs.List.{list_any}
use Rattle.base.specs.Names.{name_of}
use Rattle.trace_format.proofs.ShortTouches.{short_symbol}
use Rattle.trace_format.proofs.symbol_read.symbol_of.Goals as goal

pub returns-in-Ok : goal.returns-in-Ok
returns-in-Ok c = λ _.
    let content = c.behind-content.ensures.value in
    short_symbol c.in-Some.kind c.u32_at-addr.result c.u32_at-size.result c.u16_at.result
    c.args.place c.in-Ok.name c.args.bytes.now
    c.requires.long (sym c.in-Some.is ∙ c.kind_of.ensures)
    c.u32_at-addr.ensures c.u32_at-size.ensures c.if-size-eq0.false c.u16_at.ensures (omega arith)
    (ap (list_any (eqb 0)) (sym content)
    ∙ sym c.if-has_zero.ensures) (c.in-Ok.ensures ∙ ap name_of content)
