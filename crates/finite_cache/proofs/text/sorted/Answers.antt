use Rattle.std.proofs.Common.{ap, rules, ◌∙◌}
use Rattle.std.proofs.lemmas.List.Sorted.{answers_always}
use Rattle.sharing_rules.specs.Listed.{in_order}
use Rattle.report.specs.Laws.Stable.{in_order-from_stable}
use Rattle.finite_cache.specs.Texts.{comes_first}
use Rattle.finite_cache.specs.Laws.Texts.{comes_first-ranks}
use Rattle.finite_cache.proofs.text.sorted.Goals as goal

pub returns : goal.returns
returns c =
    in_order-from_stable comes_first comes_first-ranks c.in_ok-rows.rows.items
    c.sort_by.new.self.items
    (c.in_ok-sort_by.ensures.sorted comes_first comes_first-ranks
    (answers_always _ _ _ (λ f a r g called. search rules)))
    (c.in_ok-sort_by.ensures.stable comes_first comes_first-ranks
    (answers_always _ _ _ (λ f a r g called. search rules)))
    ∙ ap (in_order comes_first) c.in_ok-rows.ensures
