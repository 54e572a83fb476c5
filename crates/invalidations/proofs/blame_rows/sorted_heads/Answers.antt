use Rattle.std.proofs.Common.{◌∙◌, ap, rules}
use Rattle.std.proofs.lemmas.List.Sorted.{answers_always}
use Rattle.report.specs.Laws.Stable.{in_order-from_stable}
use Rattle.sharing_rules.specs.Listed.{in_order}
use Rattle.invalidations.specs.BlameRows.{is_head_before}
use Rattle.invalidations.specs.Laws.Rows.{heads-ranked}
use Rattle.invalidations.proofs.blame_rows.sorted_heads.Goals as goal

pub returns : goal.returns
returns c =
    in_order-from_stable is_head_before heads-ranked c.in_ok-heads.heads.items
    c.sort_by.new.self.items
    (c.in_ok-sort_by.ensures.sorted is_head_before heads-ranked
    (answers_always _ _ _ (λ f a r g called. search rules)))
    (c.in_ok-sort_by.ensures.stable is_head_before heads-ranked
    (answers_always _ _ _ (λ f a r g called. search rules)))
    ∙ ap (in_order is_head_before) c.in_ok-heads.ensures
