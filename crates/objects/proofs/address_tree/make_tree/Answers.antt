use Rattle.std.proofs.Common.{List, map, rules, subst, sym}
use Rattle.std.specs.List.Sorted.{IsPermutation}
use Rattle.std.proofs.lemmas.List.Sorted.{IsNonDecreasingBy-from_sort_by_key, IsPermutation-map}
use Rattle.objects.specs.declared.address_tree.Node.{Node}
use Rattle.objects.specs.AddressTrees.{Extent, extent_of}
use Rattle.objects.proofs.address_tree.make_tree.Goals as goal

pub note_reach-requires : goal.note_reach-requires
note_reach-requires c =
    IsNonDecreasingBy-from_sort_by_key (λ (n : Node). n.addr) c.sort_unstable_by_key.new.self
    c.sort_unstable_by_key.ensures.sorted (λ a r q k. search rules)

pub returns-clause-same : goal.returns-clause-same
returns-clause-same c =
    subst (λ (es : List Extent). IsPermutation (map extent_of c.args.nodes.now) es)
    (sym c.note_reach.ensures.same)
    (IsPermutation-map extent_of c.args.nodes.now c.sort_unstable_by_key.new.self
    c.sort_unstable_by_key.ensures.permutation)
