use Rattle.std.proofs.Common.{◌≡◌, ◌∙◌, ◌<◌, ◌^◌, false, sym, arith}
use Rattle.std.proofs.lemmas.Bool.Decides.{nat_tests}
use Rattle.std.specs.Prelude.{nat_le}
use Rattle.saved_state.specs.Parts.{header_meant}
use Rattle.saved_state.proofs.AddLaws.{never_due}
use Rattle.saved_state.proofs.placing.is_due.Goals as goal

pub returns-else-line-le-LAST_LINE-clause-value : goal.returns-else-line-le-LAST_LINE-clause-value
returns-else-line-le-LAST_LINE-clause-value g c =
    let past : 2 ^ 30 < c.args.line = omega (arith, c.if-line-le-LAST_LINE.false) in
    let not_low : nat_le c.args.line (2 ^ 30) ≡ false = grind (arith, nat_tests, past) in
    not_low ∙ sym (never_due (header_meant c.args.header.now) c.args.detector.now c.args.line
    c.requires past)
