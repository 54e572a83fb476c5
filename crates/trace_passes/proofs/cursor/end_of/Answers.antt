use Rattle.std.proofs.Common.{sym, ◌∙◌}
use Rattle.trace_passes.proofs.Ends.{head_there, no_head}
use Rattle.trace_passes.proofs.cursor.end_of.Goals as goal

pub unreachable-requires : goal.unreachable-requires
unreachable-requires c =
    let r = c.args.reader.now in
    let end = sym c.finish.ensures.value ∙ c.in-Ok.is in
    no_head (λ p. p.version) r c.version.result
    (head_there r c.requires.read.0 c.in-Ok.ending c.requires.read.1 end)
    c.version.ensures c.in_default.is
