use Rattle.std.proofs.Common.{◌≡◌, ℕ, ◌<◌, List, rules, sym, ap, subst, ◌∙◌, ◌++◌, append-nil}
use Rattle.std.proofs.Common.{OnOk, length, take, drop, map}
use Rattle.std.specs.Prelude.{◌/◌, ◌+◌, ◌-◌}
use Rattle.std.proofs.lemmas.List.{take_rest}
use Rattle.objects.specs.declared.address_tree.Node.{Node}
use Rattle.objects.specs.AddressTrees.{IsTree, extent_of, numbers_on}
use Rattle.objects.proofs.TreeLaws.{in_turn, left_alone, left_shorter, left_tree, no_node}
use Rattle.objects.proofs.TreeLaws.{none_below, right_shorter, right_tree, root_knows, some_from}
use Rattle.objects.proofs.address_tree.+push_numbers.Goals as goal

pub returns-then-root-from : goal.returns-then-root-from
returns-then-root-from t c =
    let ns = c.args.nodes.now in
    let some = some_from ns c.is_empty.result c.is_empty.ensures c.if-is_empty.false in
    let none = none_below c.args.from c.args.to _ c.if-root-from.true ns
    (root_knows ns _ some c.requires).reach in
    sym (ap (λ ks. c.args.found.now.items ++ ks) none ∙ append-nil c.args.found.now.items)

pub push_numbers-requires : goal.push_numbers-requires
push_numbers-requires t c =
    let ns = c.args.nodes.now in
    let some = some_from ns c.is_empty.result c.is_empty.ensures c.if-is_empty.false in
    let smaller : length (take (length ns / 2) ns) < length ns = left_shorter ns no_node some in
    (search rules, left_tree ns no_node some c.requires)

pub returns-then-to-from : goal.returns-then-to-from
returns-then-to-from t c =
    let ns = c.args.nodes.now in
    let some = some_from ns c.is_empty.result c.is_empty.ensures c.if-is_empty.false in
    c.in_ok-push_numbers.ensures
    ∙ ap (λ ks. c.args.found.now.items ++ ks)
    (sym (left_alone ns _ some c.requires c.args.from c.args.to (rw c.from.ensures at
    c.if-to-from.true)))

pub push_numbers-requires-2 : goal.push_numbers-requires-2
push_numbers-requires-2 t c =
    let ns = c.args.nodes.now in
    let some = some_from ns c.is_empty.result c.is_empty.ensures c.if-is_empty.false in
    let right : List Node = take (length ns - (length ns / 2 + 1)) (drop (length ns / 2 + 1) ns) in
    let same : right ≡ drop (length ns / 2 + 1) ns = take_rest ns (length ns / 2 + 1) in
    let smaller : length right < length ns = right_shorter ns no_node some in
    (search rules, subst IsTree (sym same) (right_tree ns no_node some c.requires))

pub returns : goal.returns
returns t c =
    let ns = c.args.nodes.now in
    let some = some_from ns c.is_empty.result c.is_empty.ensures c.if-is_empty.false in
    let more = c.push_number.new.found.items in
    subst (λ (ks : List ℕ). OnOk c.push_numbers-2.result (c.push_numbers-2.new.found.items ≡ ks))
    (ap (λ (xs : List Node). more ++ numbers_on c.args.from c.args.to (map extent_of xs))
    (take_rest ns (length ns / 2 + 1))
    ∙ in_turn ns _ some c.args.from c.args.to c.args.found.now.items
    c.push_numbers.new.found.items more c.in_ok-push_numbers.ensures
    c.in_ok-push_number.ensures)
    c.push_numbers-2.ensures
