use Rattle.std.proofs.Common.{◌≡◌, IfOk, string_bytes, subst}
use Rattle.observations.specs.ObservedTraces.{ObservedTrace}
use Rattle.detector.specs.TotalsOf.{totals_of}
use Rattle.predator_cli.specs.Gen.{made_accesses, summary_text}
use Rattle.predator_cli.proofs.generate.make_under.Goals as goal

pub returns-clause-text : goal.returns-clause-text
returns-clause-text g c =
    subst (λ (s : ObservedTrace). IfOk c.make_seen.result (λ text. string_bytes text
    ≡ summary_text c.args.count (totals_of s.watch.grid s.watch.levels
    (made_accesses c.args.count))))
    c.new-observations.ensures.blank c.make_seen.ensures.text
