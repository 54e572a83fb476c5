use Rattle.std.proofs.Common.{◌≡◌, ◌++◌, ◌∙◌, List, ℕ, ap, length, string_bytes, subst}
use Rattle.std.specs.Prelude.{OnOk}
use Rattle.base.specs.TextLines.{text_of}
use Rattle.placement.specs.Texts.{end_lines, head_lines, touched_lines}
use Rattle.placement.specs.declared.extent.Extent.{Extent}
use Rattle.base.specs.Laws.TextLines.{in_three}
use Rattle.placement.proofs.text.push_place.Goals as goal

pub returns : goal.returns
returns c =
    let o = c.args.owners.now in
    let p = c.args.plan.now in
    let n : ℕ = c.args.size in
    let name : List ℕ = c.args.name.now in
    let whole : List ℕ = string_bytes c.args.text.now in
    let last : List ℕ = text_of (end_lines p c.args.sums) in
    let words : List ℕ = text_of (touched_lines o p) in
    subst (λ (x : List ℕ). OnOk c.push_end.result (string_bytes c.push_end.new.text ≡ x))
    (ap (λ (w : List ℕ). w ++ last) (c.in_ok-push_words.ensures
    ∙ ap (λ (w : List ℕ). w ++ words) (c.in_ok-push_head.ensures
    ∙ ap (λ (e : Extent). whole ++ text_of (head_lines n name e c.word_total.result))
    c.extent.ensures.value
    ∙ ap (λ (k : ℕ). whole ++ text_of (head_lines n name o.extent k)) c.word_total.ensures.value))
    ∙ in_three whole (head_lines n name o.extent (length o.owners)) (touched_lines o p)
    (end_lines p c.args.sums))
    c.push_end.ensures
