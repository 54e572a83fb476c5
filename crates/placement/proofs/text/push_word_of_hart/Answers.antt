use Rattle.std.proofs.Common.{◌≡◌, ◌++◌, ◌∙◌, List, ℕ, ap, string_bytes, subst}
use Rattle.std.specs.Prelude.{OnOk}
use Rattle.std.specs.Fmt.{decimal}
use Rattle.placement.specs.Pieces.{hart_end}
use Rattle.placement.specs.Texts.{address_word}
use Rattle.placement.proofs.TextSteps.{hart_pieces}
use Rattle.placement.proofs.text.push_word_of_hart.Goals as goal

pub returns : goal.returns
returns c =
    subst (λ (x : List ℕ). OnOk c.push_hart.result (string_bytes c.push_hart.new.text ≡ x))
    (ap (λ (w : List ℕ). w ++ hart_end c.args.hart) c.in_ok-push_way.ensures
    ∙ hart_pieces (string_bytes c.args.text.now) (address_word c.args.from)
    (address_word c.args.to) (decimal c.args.hart))
    c.push_hart.ensures
