use Rattle.std.proofs.Common.{ap, rules, ◌∙◌}
use Rattle.std.proofs.lemmas.List.Sorted.{answers_always}
use Rattle.sharing_rules.specs.Listed.{in_order}
use Rattle.report.specs.Laws.Stable.{in_order-from_stable}
use Rattle.misses.specs.Texts.{wastes_more}
use Rattle.misses.proofs.RowOrder.{wastes_more-ranks}
use Rattle.misses.proofs.text.sorted.Goals as goal

pub returns : goal.returns
returns c =
    in_order-from_stable wastes_more wastes_more-ranks c.in_ok-rows.rows.items
    c.sort_by.new.self.items
    (c.in_ok-sort_by.ensures.sorted wastes_more wastes_more-ranks
    (answers_always _ _ _ (λ f a r g called. search rules)))
    (c.in_ok-sort_by.ensures.stable wastes_more wastes_more-ranks
    (answers_always _ _ _ (λ f a r g called. search rules)))
    ∙ ap (in_order wastes_more) c.in_ok-rows.ensures
