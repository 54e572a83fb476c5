use Rattle.std.proofs.Common.{◌∙◌}
use Rattle.misses.proofs.SeenLaws.{missed_text}
use Rattle.misses.proofs.observer.MissObservations.text.Goals as goal

pub returns : goal.returns
returns c = λ g items seen.
    c.in_ok-text.ensures ∙ missed_text g c.args.whole c.args.self.now items c.totals-total.result seen
    c.totals-total.ensures.stands
