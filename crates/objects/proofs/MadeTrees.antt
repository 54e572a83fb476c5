-- A tree is made of two, with the row between them as its root.
use Rattle.std.proofs.Common.{◌≡◌, ℕ, zero, suc, ◌+◌, ◌/◌, ◌<◌, ◌≤◌, true, List, [], ◌∷◌, ◌++◌}
use Rattle.std.proofs.Common.{get_or, length, map, take, drop, leb, refl, sym, ap, subst, ◌∙◌, arith}
use Rattle.std.specs.List.Sorted.{IsNonDecreasingBy}
use Rattle.std.specs.List.{list_all}
use Rattle.std.proofs.lemmas.Bool.{and_parts, and_from}
use Rattle.std.proofs.lemmas.Bool.Decides.{nat_tests}
use Rattle.std.proofs.lemmas.List.{drop_at, length-append, length-map, take_at}
use Rattle.std.proofs.lemmas.List.Folds.{list_all-append, list_all-map}
use Rattle.objects.specs.declared.address_tree.Node.{Node}
use Rattle.objects.specs.AddressTrees.{Extent, IsRoot, IsTree, IsTreeTo, begins_from, ends_by}
use Rattle.objects.specs.AddressTrees.{extent_of}

wider_one : (l h : ℕ) (n : Node) → l ≤ h → ends_by l n ≡ true → ends_by h n ≡ true
wider_one l h n le e = grind (arith, nat_tests)

wider : (l h : ℕ) → l ≤ h → (ns : List Node) → list_all (ends_by l) ns ≡ true
    → list_all (ends_by h) ns ≡ true
wider l h le [] e = refl
wider l h le (n ∷ ns) e =
    let p = and_parts (ends_by l n) (list_all (ends_by l) ns) e in
    and_from (ends_by h n) (list_all (ends_by h) ns) (wider_one l h n le p.0)
    (wider l h le ns p.1)

-- the rows behind one of rising addresses
tail_rises : (n : Node) (ns : List Node) → IsNonDecreasingBy (λ x. x.addr) (n ∷ ns)
    → IsNonDecreasingBy (λ x. x.addr) ns
tail_rises n ns h = λ i j d le within. h (suc i) (suc j) d (omega arith) (omega arith)

from_root : (l : List Node) (r : Node) (rt : List Node)
    → IsNonDecreasingBy (λ x. x.addr) (l ++ r ∷ rt) → IsNonDecreasingBy (λ x. x.addr) (r ∷ rt)
from_root [] r rt h = h
from_root (n ∷ l) r rt h = from_root l r rt (tail_rises n (l ++ r ∷ rt) h)

pub right_rises : (ns l : List Node) (r : Node) (rt : List Node) → ns ≡ l ++ r ∷ rt
    → IsNonDecreasingBy (λ x. x.addr) ns → IsNonDecreasingBy (λ x. x.addr) rt
right_rises ns l r rt whole h =
    tail_rises r rt (from_root l r rt (subst (IsNonDecreasingBy (λ (x : Node). x.addr)) whole h))

behind : (low : ℕ) (ns : List Node)
    → ((j : ℕ) (d : Node) → j < length ns → low ≤ (get_or ns j d).addr)
    → list_all (begins_from low) ns ≡ true
behind low [] h = refl
behind low (n ∷ ns) h =
    and_from (begins_from low n) (list_all (begins_from low) ns) here
    (behind low ns (λ j d within. h (suc j) d (omega arith)))
  where
    here : begins_from low n ≡ true
    here = let f : low ≤ n.addr = h zero n (omega arith) in grind (arith, nat_tests)

same_begins : (low : ℕ) (xs ys : List Node) → map extent_of xs ≡ map extent_of ys
    → list_all (begins_from low) xs ≡ list_all (begins_from low) ys
same_begins low xs ys same =
    sym (list_all-map (λ (e : Extent). leb low e.addr) extent_of xs)
    ∙ ap (list_all (λ (e : Extent). leb low e.addr)) same
    ∙ list_all-map (λ (e : Extent). leb low e.addr) extent_of ys

pub same_length : (xs ys : List Node) → map extent_of xs ≡ map extent_of ys → length xs ≡ length ys
same_length xs ys same =
    sym (length-map xs extent_of) ∙ ap length same ∙ length-map ys extent_of

pub shorter : (ns l : List Node) (r : Node) (rt : List Node) → ns ≡ l ++ r ∷ rt
    → length rt < length ns
shorter ns l r rt whole = omega (arith, ap length whole, length-append l (r ∷ rt))

-- the root, once it knows how far its part reaches
abbrev pub rooted : Node → ℕ → Node
rooted n reach = record n { reach = reach }

module _ (ns left right new_left new_right : List Node) (root : Node) (low high reach : ℕ)
    (whole : ns ≡ left ++ root ∷ right) (middle : length left ≡ length ns / 2)
    (rises : IsNonDecreasingBy (λ x. x.addr) ns)
    (same_left : map extent_of new_left ≡ map extent_of left)
    (same_right : map extent_of new_right ≡ map extent_of right)
    (left_reach : list_all (ends_by low) new_left ≡ true)
    (right_reach : list_all (ends_by high) new_right ≡ true)
    (over_low : low ≤ reach) (over_high : high ≤ reach) (over_root : root.addr + root.size ≤ reach)
  where
    pub whole_reach : list_all (ends_by reach) (new_left ++ rooted root reach ∷ new_right) ≡ true
    whole_reach =
        list_all-append (ends_by reach) new_left (rooted root reach ∷ new_right)
        ∙ and_from (list_all (ends_by reach) new_left)
        (list_all (ends_by reach) (rooted root reach ∷ new_right))
        (wider low reach over_low new_left left_reach)
        (and_from (ends_by reach (rooted root reach)) (list_all (ends_by reach) new_right) here
        (wider high reach over_high new_right right_reach))
      where
        here : leb (root.addr + root.size) reach ≡ true
        here = grind (arith, nat_tests)

    right_order : list_all (begins_from root.addr) new_right ≡ true
    right_order =
        same_begins root.addr new_right right same_right
        ∙ behind root.addr right (λ j d within.
        from_root left root right (subst (IsNonDecreasingBy (λ (x : Node). x.addr)) whole rises)
        zero (suc j) d (omega arith) (omega arith))

    new_middle : length new_left ≡ length (new_left ++ rooted root reach ∷ new_right) / 2
    new_middle =
        let lefts = same_length new_left left same_left in
        let rights = same_length new_right right same_right in
        let old : length ns ≡ length left + suc (length right) =
        ap length whole ∙ length-append left (root ∷ right) in
        let new : length (new_left ++ rooted root reach ∷ new_right)
        ≡ length new_left + suc (length new_right) =
        length-append new_left (rooted root reach ∷ new_right) in
        let all : length (new_left ++ rooted root reach ∷ new_right) ≡ length ns =
        omega (arith, lefts, rights, old, new) in
        lefts ∙ middle ∙ ap (λ n. n / 2) (sym all)

    pub made_tree : IsTree new_left → IsTree new_right
        → IsTree (new_left ++ rooted root reach ∷ new_right)
    made_tree left_tree right_tree zero = tt
    made_tree left_tree right_tree (suc depth) = λ l r rt is len.
        (let all : List Node = new_left ++ rooted root reach ∷ new_right in
        let lefts : l ≡ new_left =
        sym (take_at l (r ∷ rt) (length all / 2) len) ∙ ap (take (length all / 2)) (sym is)
        ∙ take_at new_left (rooted root reach ∷ new_right) (length all / 2) new_middle in
        let rest : r ∷ rt ≡ rooted root reach ∷ new_right =
        sym (drop_at l (r ∷ rt) (length all / 2) len) ∙ ap (drop (length all / 2)) (sym is)
        ∙ drop_at new_left (rooted root reach ∷ new_right) (length all / 2) new_middle in
        let roots : r ≡ rooted root reach = cc in
        let rights : rt ≡ new_right = cc in (
          subst (λ (x : Node). IsRoot x all rt) (sym roots)
              (subst (λ (xs : List Node). IsRoot (rooted root reach) all xs) (sym rights)
              (record { reach = whole_reach; order = right_order })),
          subst (IsTreeTo depth) (sym lefts) (left_tree depth),
          subst (IsTreeTo depth) (sym rights) (right_tree depth),
        ))
