-- The rows of a table, put one behind the other.
use Rattle.std.proofs.Common.{◌≡◌, ℕ, zero, suc, ◌+◌, ◌<◌, ◌≤◌, List, [], ◌∷◌, ◌++◌, get_or, length}
use Rattle.std.proofs.Common.{map, take, Option, None, Some, refl, sym, ap, ◌∙◌}
use Rattle.std.proofs.Common.{subst, arith}
use Rattle.std.specs.Prelude.{option_to_list, slice_get}
use Rattle.std.specs.List.Sorted.{IsPermutation}
use Rattle.std.proofs.lemmas.List.{length-map, take_all, take_more, length-take-le}
use Rattle.std.proofs.lemmas.Option.{get_or_from_slice_get}
use Rattle.objects.specs.declared.address_tree.Node.{Node}
use Rattle.objects.specs.AddressTrees.{IsTree, IsTreeOf, extent_of, extents_from}
use Rattle.objects.specs.Laws.Found.{extents-append}

not_past : {X : Type 0} (xs : List X) (i : ℕ) → slice_get xs i ≡ None → i < length xs → ⊥
not_past [] i none within = omega arith
not_past (x ∷ xs) zero none within = cc
not_past (x ∷ xs) (suc i) none within = not_past xs i none (omega arith)

module _ {X : Type 0} (addr size : X → ℕ) where
  pub one_more : (xs : List X) (i : ℕ) (d : X) (old new : List Node) → i < length xs
      → map extent_of old ≡ extents_from addr size 0 (take i xs)
      → map extent_of new ≡ map extent_of old
      ++ extents_from addr size (length old) (get_or xs i d ∷ [])
      → map extent_of new ≡ extents_from addr size 0 (take (i + 1) xs)
  one_more xs i d old new within so_far pushed =
      let short : length (take i xs) ≡ i = length-take-le i xs (omega arith) in
      let count : length old ≡ 0 + length (take i xs) =
      sym (length-map old extent_of) ∙ ap length so_far ∙ counted 0 (take i xs) in
      pushed
      ∙ ap (λ es. es ++ extents_from addr size (length old) (get_or xs i d ∷ [])) so_far
      ∙ ap (λ n. extents_from addr size 0 (take i xs)
      ++ extents_from addr size n (get_or xs i d ∷ [])) count
      ∙ sym (ap (extents_from addr size 0) (take_more xs i d within)
      ∙ extents-append addr size 0 (take i xs) (get_or xs i d ∷ []))
    where
      counted : (n : ℕ) (ys : List X) → length (extents_from addr size n ys) ≡ 0 + length ys
      counted n [] = refl
      counted n (y ∷ ys) = let e = counted (n + 1) ys in omega (arith, e)

  pub one_more_at : (xs : List X) (i : ℕ) (o : Option X) (old new : List Node) → i < length xs
      → o ≡ slice_get xs i
      → map extent_of old ≡ extents_from addr size 0 (take i xs)
      → map extent_of new ≡ map extent_of old
      ++ extents_from addr size (length old) (option_to_list o)
      → map extent_of new ≡ extents_from addr size 0 (take (i + 1) xs)
  one_more_at xs i None old new within is so_far pushed =
      absurd (not_past xs i (sym is) within)
  one_more_at xs i (Some x) old new within is so_far pushed =
      one_more xs i x old new within so_far
      (pushed ∙ ap (λ y. map extent_of old ++ extents_from addr size (length old) (y ∷ []))
      (sym (get_or_from_slice_get xs i x x (sym is))))

  pub whole_tree : (xs : List X) (i : ℕ) (rows nodes : List Node) → length xs ≤ i
      → map extent_of rows ≡ extents_from addr size 0 (take i xs)
      → IsTree nodes → IsPermutation (map extent_of rows) (map extent_of nodes)
      → IsTreeOf (extents_from addr size 0 xs) nodes
  whole_tree xs i rows nodes all is tree same = record {
    tree = tree;
    same = subst (λ es. IsPermutation es (map extent_of nodes))
        (is ∙ ap (extents_from addr size 0) (take_all i xs all)) same;
  }
