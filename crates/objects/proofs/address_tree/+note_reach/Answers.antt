use Rattle.std.proofs.Common.{◌≡◌, ◌<◌, ◌∷◌, ◌++◌, ◌∙◌, List, ap, arith, length, rules}
use Rattle.objects.specs.declared.address_tree.Node.{Node}
use Rattle.objects.proofs.MadeTrees.{made_tree, right_rises, shorter, whole_reach}
use Rattle.objects.proofs.address_tree.+note_reach.Goals as goal

pub note_reach-high-requires : goal.note_reach-high-requires
note_reach-high-requires t c =
    let ns = c.args.nodes.now in
    let left : List Node = c.split_at_mut-left.result.0.now in
    let root : Node = c.in-Some.root.now in
    let right : List Node = c.in-Some.right.now in
    let whole : ns ≡ left ++ root ∷ right =
    c.split_at_mut-left.ensures.value ∙ ap (λ xs. left ++ xs) c.in-Some.ensures.cases.0 in
    let smaller : length right < length ns = shorter ns left root right whole in
    (search rules, right_rises ns left root right whole c.requires)

pub returns-in-Some-clause-tree : goal.returns-in-Some-clause-tree
returns-in-Some-clause-tree t c =
    let ns = c.args.nodes.now in
    let left : List Node = c.split_at_mut-left.result.0.now in
    let root : Node = c.in-Some.root.now in
    let right : List Node = c.in-Some.right.now in
    let whole : ns ≡ left ++ root ∷ right =
    c.split_at_mut-left.ensures.value ∙ ap (λ xs. left ++ xs) c.in-Some.ensures.cases.0 in
    made_tree ns left right c.note_reach-low.new.nodes c.note_reach-high.new.nodes root
    c.note_reach-low.result c.note_reach-high.result c.max-reach.result whole
    c.split_at_mut-left.ensures.front_len c.requires c.note_reach-low.ensures.same
    c.note_reach-high.ensures.same c.note_reach-low.ensures.reach c.note_reach-high.ensures.reach
    (omega (arith, c.max.ensures, c.max-reach.ensures))
    (omega (arith, c.max.ensures, c.max-reach.ensures))
    (omega (arith, c.end.ensures, c.max.ensures, c.max-reach.ensures))
    c.note_reach-low.ensures.tree c.note_reach-high.ensures.tree

pub returns-in-Some-clause-reach : goal.returns-in-Some-clause-reach
returns-in-Some-clause-reach t c =
    let ns = c.args.nodes.now in
    let left : List Node = c.split_at_mut-left.result.0.now in
    let root : Node = c.in-Some.root.now in
    let right : List Node = c.in-Some.right.now in
    let whole : ns ≡ left ++ root ∷ right =
    c.split_at_mut-left.ensures.value ∙ ap (λ xs. left ++ xs) c.in-Some.ensures.cases.0 in
    whole_reach ns left right c.note_reach-low.new.nodes c.note_reach-high.new.nodes root
    c.note_reach-low.result c.note_reach-high.result c.max-reach.result whole
    c.split_at_mut-left.ensures.front_len c.requires c.note_reach-low.ensures.same
    c.note_reach-high.ensures.same c.note_reach-low.ensures.reach c.note_reach-high.ensures.reach
    (omega (arith, c.max.ensures, c.max-reach.ensures))
    (omega (arith, c.max.ensures, c.max-reach.ensures))
    (omega (arith, c.end.ensures, c.max.ensures, c.max-reach.ensures))
