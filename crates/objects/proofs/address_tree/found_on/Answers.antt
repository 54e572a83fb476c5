use Rattle.std.proofs.lemmas.List.Sorted.{IsNonDecreasingBy-from_sort}
use Rattle.objects.proofs.NumberLaws.{in_order}
use Rattle.objects.proofs.address_tree.found_on.Goals as goal

pub returns : goal.returns
returns c = λ rows same rises.
    in_order c.args.from c.args.to rows _ c.push_numbers.new.found.items
    c.sort_unstable.new.self.items same rises
    (rw c.new-found.ensures.items at c.in_ok-push_numbers.ensures)
    c.sort_unstable.ensures.permutation
    (IsNonDecreasingBy-from_sort (λ n. n) c.sort_unstable.new.self.items
    c.sort_unstable.ensures.sorted)
