use Rattle.std.proofs.Common.{◌≡◌, ◌++◌, ◌∙◌, List, ℕ, ap, codes, string_bytes, subst}
use Rattle.std.specs.Prelude.{OnOk}
use Rattle.placement.specs.Texts.{address_word}
use Rattle.placement.proofs.TextSteps.{many_pieces}
use Rattle.placement.proofs.text.push_word_of_many.Goals as goal

pub returns : goal.returns
returns c =
    subst (λ (x : List ℕ). OnOk c.push_many.result (string_bytes c.push_many.new.text ≡ x))
    (ap (λ (w : List ℕ). w ++ codes " many\n") c.in_ok-push_way.ensures
    ∙ many_pieces (string_bytes c.args.text.now) (address_word c.args.from)
    (address_word c.args.to))
    c.push_many.ensures
