use Rattle.std.proofs.Common.{◌∙◌, ap, rules}
use Rattle.std.proofs.lemmas.List.Sorted.{answers_always}
use Rattle.sharing_rules.specs.Listed.{in_order}
use Rattle.report.specs.Laws.Stable.{in_order-from_stable}
use Rattle.invalidations.specs.Laws.Rows.{pair_rows-ranked}
use Rattle.invalidations.specs.Rows.{is_pair_row_before}
use Rattle.invalidations.proofs.blame_rows.pairs_in_order.Goals as goal

pub returns : goal.returns
returns c =
    in_order-from_stable is_pair_row_before pair_rows-ranked c.in_ok-sorted.sorted.items
    c.sort_by.new.self.items
    (c.in_ok-sort_by.ensures.sorted is_pair_row_before pair_rows-ranked
    (answers_always _ _ _ (λ f a r g called. search rules)))
    (c.in_ok-sort_by.ensures.stable is_pair_row_before pair_rows-ranked
    (answers_always _ _ _ (λ f a r g called. search rules)))
    ∙ ap (in_order is_pair_row_before) c.in_ok-sorted.ensures
