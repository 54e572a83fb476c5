use Rattle.std.proofs.Common.{◌+◌}
use Rattle.std.proofs.lemmas.List.Elements.{All-from_recursion}
use Rattle.placement.specs.Laws.Groups.{line-sized}
use Rattle.placement.specs.Laws.Plans.{area-whole, behind-end, ends-before, no-shared_line}
use Rattle.placement.specs.Laws.Plans.{places-apart}
use Rattle.placement.specs.Laws.Words.{owners-at}
use Rattle.placement.specs.Plans.{area_start, place}
use Rattle.placement.specs.Words.{first_word, owned_of, owner_in}
use Rattle.placement.proofs.laws.words_keep_apart.Goals as goal

pub returns-clause-places : goal.returns-clause-places
returns-clause-places c = λ n e t i j sized low high apart.
    let o = owned_of e t in
    let some = (line-sized n sized).some in
    places-apart n (area_start n o) o.owners i j (owner_in t (first_word e + i))
    (owner_in t (first_word e + j)) some (area-whole n o some) (owners-at e t i low)
    (owners-at e t j high) apart

pub returns-clause-lines : goal.returns-clause-lines
returns-clause-lines c = λ n e t i j sized low high same.
    let o = owned_of e t in
    let some = (line-sized n sized).some in
    no-shared_line n (area_start n o) o.owners i j (owner_in t (first_word e + i))
    (owner_in t (first_word e + j)) some (area-whole n o some) (owners-at e t i low)
    (owners-at e t j high) same

pub returns-clause-free : goal.returns-clause-free
returns-clause-free c = λ n e t i sized low.
    let o = owned_of e t in
    All-from_recursion _ t
    (ends-before (place n o i) t
    (behind-end n o i (owner_in t (first_word e + i)) (line-sized n sized).some
    (owners-at e t i low)))
