use Rattle.std.proofs.Common.{◌≡◌, IfOk, subst}
use Rattle.objects.specs.Objects.{Objects}
use Rattle.invalidations.specs.LineInvalidations.{LineInvalidations}
use Rattle.invalidations.specs.Text.{reported_text}
use Rattle.invalidations.proofs.text.write_explain.Goals as goal

pub returns-clause-stated : goal.returns-clause-stated
returns-clause-stated c =
    subst (λ (all : Objects). IfOk c.text_of_rows.result (λ text. text.items
    ≡ reported_text c.args.ending.now all.symbols c.args.explainer.now)) c.in_ok-index.ensures
    c.text_of_rows.ensures

pub returns-clause-stands : goal.returns-clause-stands
returns-clause-stands c = λ u stands.
    subst (λ (k : LineInvalidations). IfOk c.text_of_rows.result (λ text. text.items
    ≡ reported_text c.args.ending.now c.args.objects.now.symbols k)) stands (returns-clause-stated c)
