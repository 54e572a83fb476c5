use Rattle.std.proofs.Common.{◌≡◌, ◌++◌, List, ℕ, OnOk, string_bytes, subst, sym}
use Rattle.predator_cli.proofs.SummaryLaws.{summary_spelled}
use Rattle.predator_cli.proofs.generate.push_summary.Goals as goal

pub returns : goal.returns
returns c =
    subst (λ (x : List ℕ). OnOk c.writeln.result
    (string_bytes c.writeln.new.self ≡ string_bytes c.args.text.now ++ x))
    (sym (summary_spelled c.args.count c.args.totals)) c.writeln.ensures.bytes
