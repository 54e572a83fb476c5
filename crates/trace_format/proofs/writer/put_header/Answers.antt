use Rattle.trace_format.proofs.WriteParts.{header_spelled, on_ok}
use Rattle.trace_format.proofs.writer.put_header.Goals as goal

pub returns-clause-ok : goal.returns-clause-ok
returns-clause-ok c = on_ok c.put_both.result _ _
    (λ is. header_spelled c.args.version c.args.header c.args.into.now.items
    c.put_both.new.into.items c.magic_of-magic.result
    c.field_bytes-fields.result c.magic_of-magic.ensures c.field_bytes-fields.ensures is)
    c.put_both.ensures.ok
