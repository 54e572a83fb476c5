use Rattle.std.proofs.Common.{◌≡◌, ◌++◌, ◌∙◌, List, ℕ, ap, string_bytes, subst}
use Rattle.std.specs.Prelude.{OnOk}
use Rattle.std.specs.Fmt.{decimal}
use Rattle.base.specs.PrintedNames.{name_text}
use Rattle.placement.specs.Pieces.{next_address, sizes_end}
use Rattle.placement.specs.Texts.{address_word}
use Rattle.placement.proofs.TextSteps.{head_pieces}
use Rattle.placement.proofs.text.push_head.Goals as goal

pub returns : goal.returns
returns c =
    let e = c.args.extent in
    let whole : List ℕ = string_bytes c.args.text.now in
    subst (λ (x : List ℕ). OnOk c.push_sizes.result (string_bytes c.push_sizes.new.text ≡ x))
    (ap (λ (w : List ℕ). w ++ sizes_end e.size c.args.size c.args.words)
    (c.in_ok-push_short_address.ensures
    ∙ ap (λ (w : List ℕ). w ++ next_address e.addr) (c.in_ok-push_name.ensures
    ∙ ap (λ (w : List ℕ). w ++ name_text c.args.name.now) c.in_ok-push_title.ensures))
    ∙ head_pieces whole (name_text c.args.name.now) (address_word e.addr) (decimal e.size)
    (decimal c.args.size) (decimal c.args.words))
    c.push_sizes.ensures
