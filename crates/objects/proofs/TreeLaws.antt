-- Trees of rows: their parts, and which of their rows meet some addresses.
use Rattle.std.proofs.Common.{◌≡◌, ℕ, zero, suc, ◌+◌, ◌-◌, ◌/◌, ◌<◌, ◌≤◌, Bool, true, false, List, [], ◌∷◌}
use Rattle.std.proofs.Common.{◌++◌, get_or, length, map, filter, take, drop, leb, refl, sym, ap, ◌∙◌}
use Rattle.std.proofs.Common.{append-nil, append_assoc, arith}
use Rattle.std.specs.Prelude.{◌==◌}
use Rattle.std.proofs.lemmas.Bool.{and_parts, and_from}
use Rattle.std.proofs.lemmas.Bool.Decides.{nat_tests}
use Rattle.std.proofs.lemmas.List.{drop_more, length-drop, length-take-le, map-append}
use Rattle.std.proofs.lemmas.List.{take-append-drop, take_rest}
use Rattle.std.proofs.lemmas.List.Elements.{filter-append}
use Rattle.std.specs.List.{list_all}
use Rattle.objects.specs.declared.address_tree.Node.{Node}
use Rattle.objects.specs.AddressTrees.{IsRoot, IsTree, begins_from, ends_by, extent_of, meets}
use Rattle.objects.specs.AddressTrees.{numbers_on}

-- rows that end before some addresses, or begin behind them, don't meet them
ends_before : (from to addr size high : ℕ) → high ≤ from → leb (addr + size) high ≡ true
    → meets from to addr size ≡ false
ends_before from to addr size high far e = grind (arith, nat_tests)

begins_behind : (from to addr size low : ℕ) → to ≤ low → leb low addr ≡ true
    → meets from to addr size ≡ false
begins_behind from to addr size low far e = grind (arith, nat_tests)

pub none_below : (from to high : ℕ) → high ≤ from → (ns : List Node)
    → list_all (ends_by high) ns ≡ true → numbers_on from to (map extent_of ns) ≡ []
none_below from to high far [] e = refl
none_below from to high far (n ∷ ns) e =
    let p = and_parts (ends_by high n) (list_all (ends_by high) ns) e in
    rw (ends_before from to n.addr n.size high far p.0) (none_below from to high far ns p.1)

none_behind : (from to low : ℕ) → to ≤ low → (ns : List Node)
    → list_all (begins_from low) ns ≡ true → numbers_on from to (map extent_of ns) ≡ []
none_behind from to low far [] e = refl
none_behind from to low far (n ∷ ns) e =
    let p = and_parts (begins_from low n) (list_all (begins_from low) ns) e in
    rw (begins_behind from to n.addr n.size low far p.0) (none_behind from to low far ns p.1)

numbers-append : (from to : ℕ) (xs ys : List Node) → numbers_on from to (map extent_of (xs ++ ys))
    ≡ numbers_on from to (map extent_of xs) ++ numbers_on from to (map extent_of ys)
numbers-append from to xs ys =
    ap (numbers_on from to) (map-append extent_of xs ys)
    ∙ ap (map (λ e. e.number))
    (filter-append (λ e. meets from to e.addr e.size) (map extent_of xs) (map extent_of ys))
    ∙ map-append (λ e. e.number)
    (filter (λ e. meets from to e.addr e.size) (map extent_of xs))
    (filter (λ e. meets from to e.addr e.size) (map extent_of ys))

pub no_node : Node
no_node = record { addr = 0; size = 0; number = 0; reach = 0 }

-- rows that aren't none are some
pub some_from : (ns : List Node) (empty : Bool) → empty ≡ (length ns == 0) → empty ≡ false
    → 0 < length ns
some_from ns empty is not = grind (arith, nat_tests)

module _ (ns : List Node) (d : Node) (some : 0 < length ns) where
  middle_within : length ns / 2 < length ns
  middle_within = omega arith

  split : ns ≡ take (length ns / 2) ns ++ get_or ns (length ns / 2) d ∷ drop (length ns / 2 + 1) ns
  split =
      sym (take-append-drop (length ns / 2) ns)
      ∙ ap (λ r. take (length ns / 2) ns ++ r) (drop_more ns (length ns / 2) d middle_within)

  left_length : length (take (length ns / 2) ns) ≡ length ns / 2
  left_length = length-take-le (length ns / 2) ns (omega (arith, middle_within))

  pub left_shorter : length (take (length ns / 2) ns) < length ns
  left_shorter = omega (arith, left_length, middle_within)

  pub right_shorter : length (take (length ns - (length ns / 2 + 1)) (drop (length ns / 2 + 1) ns))
      < length ns
  right_shorter =
      let rest : length (drop (length ns / 2 + 1) ns) ≡ length ns - (length ns / 2 + 1) =
      length-drop (length ns / 2 + 1) ns in
      let whole : length (take (length ns - (length ns / 2 + 1)) (drop (length ns / 2 + 1) ns))
      ≡ length (drop (length ns / 2 + 1) ns) = ap length (take_rest ns (length ns / 2 + 1)) in
      omega (arith, rest, whole, middle_within)

  module _ (tree : IsTree ns) where
    pub root_knows : IsRoot (get_or ns (length ns / 2) d) ns (drop (length ns / 2 + 1) ns)
    root_knows = (tree (suc zero) _ _ _ split left_length).0

    pub left_tree : IsTree (take (length ns / 2) ns)
    left_tree = λ depth. (tree (suc depth) _ _ _ split left_length).1

    pub right_tree : IsTree (drop (length ns / 2 + 1) ns)
    right_tree = λ depth. (tree (suc depth) _ _ _ split left_length).2

    -- where the addresses end by the root, only rows to its left meet them
    pub left_alone : (from to : ℕ) → to ≤ (get_or ns (length ns / 2) d).addr
        → numbers_on from to (map extent_of ns)
        ≡ numbers_on from to (map extent_of (take (length ns / 2) ns))
    left_alone from to far =
        let root : Node = get_or ns (length ns / 2) d in
        let right : List Node = drop (length ns / 2 + 1) ns in
        let left : List Node = take (length ns / 2) ns in
        let here : leb root.addr root.addr ≡ true = grind (arith, nat_tests) in
        let none : numbers_on from to (map extent_of (root ∷ right)) ≡ [] =
        none_behind from to root.addr far (root ∷ right)
        (and_from (begins_from root.addr root) (list_all (begins_from root.addr) right) here
        root_knows.order) in
        ap (λ xs. numbers_on from to (map extent_of xs)) split
        ∙ numbers-append from to left (root ∷ right)
        ∙ ap (λ ks. numbers_on from to (map extent_of left) ++ ks) none
        ∙ append-nil (numbers_on from to (map extent_of left))

  -- the numbers of the rows to the left, of the root and of those to the right
  pub in_turn : (from to : ℕ) (none some_left more : List ℕ)
      → some_left ≡ none ++ numbers_on from to (map extent_of (take (length ns / 2) ns))
      → more ≡ some_left
      ++ numbers_on from to (extent_of (get_or ns (length ns / 2) d) ∷ [])
      → more ++ numbers_on from to (map extent_of (drop (length ns / 2 + 1) ns))
      ≡ none ++ numbers_on from to (map extent_of ns)
  in_turn from to none some_left more e f =
      let root : Node = get_or ns (length ns / 2) d in
      let right : List Node = drop (length ns / 2 + 1) ns in
      let left : List Node = take (length ns / 2) ns in
      let l : List ℕ = numbers_on from to (map extent_of left) in
      let m : List ℕ = numbers_on from to (map extent_of (root ∷ [])) in
      let r : List ℕ = numbers_on from to (map extent_of right) in
      let whole : numbers_on from to (map extent_of ns) ≡ l ++ (m ++ r) =
      ap (λ xs. numbers_on from to (map extent_of xs)) split
      ∙ numbers-append from to left (root ∷ right)
      ∙ ap (λ ks. l ++ ks) (numbers-append from to (root ∷ []) right) in
      let first : more ++ r ≡ ((none ++ l) ++ m) ++ r =
      ap (λ ks. ks ++ r) (f ∙ ap (λ ks. ks ++ m) e) in
      first ∙ append_assoc (none ++ l) m r ∙ append_assoc none l (m ++ r)
      ∙ ap (λ ks. none ++ ks) (sym whole)
