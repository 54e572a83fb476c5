-- Each word has a place.
use Rattle.std.proofs.Common.{ℕ, List, ap, length, ◌∙◌}
use Rattle.std.proofs.lemmas.List.{length-map}
use Rattle.sharing_rules.specs.Laws.Lists.{length-below}
use Rattle.sharing_rules.specs.Places.{below}
use Rattle.sharing_rules.specs.declared.word.Owner.{Owner}
use Rattle.placement.specs.Plans.{place_from}
use Rattle.placement.proofs.plan.Plan.new.Goals as goal

pub invariant_of-result : goal.invariant_of-result
invariant_of-result c =
    let os = c.owners.result.now in
    let f : ℕ → ℕ = place_from c.from-line.result c.rounded-start.result os in (
      ap length c.in_ok-area.ensures.places ∙ length-map (below (length os)) f
          ∙ length-below (length os)
          ∙ ap (λ (xs : List Owner). length xs) c.owners.ensures.value ∙ c.extent-extent.ensures.count,
      c.in_ok-area.ensures.whole,
    )
