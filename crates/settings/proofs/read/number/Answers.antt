use Rattle.std.proofs.Common.{◌∙◌, ap, sym}
use Rattle.std.specs.Prelude.{pos}
use Rattle.settings.specs.Tables.{whole_of_form}
use Rattle.settings.proofs.ChangedLemmas.{number-changed, number-kept}
use Rattle.settings.proofs.read.number.Goals as goal

pub returns-in-Some-clause-value : goal.returns-in-Some-clause-value
returns-in-Some-clause-value c =
    c.formed.ensures.value
    ∙ ap (λ r. whole_of_form r.form (pos c.in-Some.number)) c.rule.ensures.value
    ∙ sym (number-changed _ _ _ _ _ (sym c.in-Some.ensures))

pub returns-in-None-clause-value : goal.returns-in-None-clause-value
returns-in-None-clause-value c =
    c.own_number.ensures.value ∙ sym (number-kept _ _ _ _ (sym c.in-None.ensures))
