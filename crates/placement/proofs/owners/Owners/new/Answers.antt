-- There is an owner for each word.
use Rattle.std.proofs.Common.{◌-◌, ◌∙◌, ap, arith, length}
use Rattle.std.proofs.lemmas.List.{length-map}
use Rattle.sharing_rules.specs.Laws.Lists.{length-below}
use Rattle.sharing_rules.specs.Places.{below}
use Rattle.sharing_rules.specs.declared.word.Owner.TheVariants as owner
use Rattle.placement.proofs.owners.Owners.new.Goals as goal

pub invariant_of-result : goal.invariant_of-result
invariant_of-result c =
    let count = c.past_word.result - c.first_word.result in
    let long = ap length c.in_ok-owners.ensures
    ∙ length-map (below count) (λ i. owner.None) ∙ length-below count in
    let past = c.past_word.ensures.value in
    let first = c.first_word.ensures.value in
    (omega (arith, long, past, first), omega arith, c.requires.few)
