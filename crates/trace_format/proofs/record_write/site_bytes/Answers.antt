use Rattle.std.proofs.Common.{arith}
use Rattle.trace_format.proofs.WriteParts.{sites_spelled}
use Rattle.trace_format.proofs.record_write.site_bytes.Goals as goal

pub returns : goal.returns
returns c = sites_spelled c.args.sites.now c.to_le_bytes.result c.to_le_bytes-2.result
    c.to_le_bytes-3.result c.to_le_bytes-4.result
    (grind arith) c.to_le_bytes.ensures c.to_le_bytes-2.ensures c.to_le_bytes-3.ensures
    c.to_le_bytes-4.ensures
