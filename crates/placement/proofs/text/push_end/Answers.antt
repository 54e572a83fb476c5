use Rattle.std.proofs.Common.{◌≡◌, ◌++◌, ◌∙◌, List, ℕ, ap, codes, string_bytes, subst}
use Rattle.std.specs.Prelude.{OnOk}
use Rattle.std.specs.Fmt.{decimal}
use Rattle.placement.specs.Pieces.{next_address, sums_end}
use Rattle.placement.specs.Texts.{address_word}
use Rattle.placement.proofs.TextSteps.{end_pieces}
use Rattle.placement.proofs.text.push_end.Goals as goal

pub returns : goal.returns
returns c =
    let p = c.args.plan.now in
    let s = c.args.sums in
    let whole : List ℕ = string_bytes c.args.text.now in
    subst (λ (x : List ℕ). OnOk c.push_sums.result (string_bytes c.push_sums.new.text ≡ x))
    (ap (λ (w : List ℕ). w ++ sums_end c.size.result s)
    (c.in_ok-push_address_word.ensures
    ∙ ap (λ (w : List ℕ). w ++ next_address c.start.result) c.in_ok-push_area.ensures)
    ∙ ap (λ (n : ℕ). ((whole ++ codes "area") ++ next_address c.start.result) ++ sums_end n s)
    c.size.ensures
    ∙ ap (λ (n : ℕ). ((whole ++ codes "area") ++ next_address n) ++ sums_end p.size s)
    c.start.ensures
    ∙ end_pieces whole (address_word p.start) (decimal p.size) (decimal s.before)
    (decimal s.after) (decimal s.many))
    c.push_sums.ensures
