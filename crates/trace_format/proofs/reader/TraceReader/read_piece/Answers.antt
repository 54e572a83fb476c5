use Rattle.std.proofs.Common.{IsSome, refl, sym, ap, ◌∙◌}
use Rattle.std.specs.Prelude.{is_some}
use Rattle.trace_format.specs.Reading.{Reading}
use Rattle.trace_format.proofs.Heads.{as_before}
use Rattle.trace_format.proofs.Limits.{stays}
use Rattle.trace_format.proofs.reader.TraceReader.read_piece.Goals as goal

pub returns-in-Some-clause-read : goal.returns-in-Some-clause-read
returns-in-Some-clause-read c = λ _.
    let some : IsSome c.args.self.now.fault = ap (λ (r : Reading). is_some r.fault)
    (sym c.self.view_is) ∙ ap is_some c.in-Some.is in
    stays c.args.self.now c.args.piece.now c.args.into.now.items some

pub returns-in-Some-clause-head : goal.returns-in-Some-clause-head
returns-in-Some-clause-head c = as_before _ _ _ refl
