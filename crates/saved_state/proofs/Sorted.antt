-- Sorted rows show a sorted list.
use Rattle.std.proofs.Common.{◌≡◌, ◌+◌, ◌<◌, Bool, false, List, map, length, get_or, sym, subst}
use Rattle.std.proofs.Common.{inl, inr, arith}
use Rattle.std.proofs.lemmas.List.{get_or-map, length-map}
use Rattle.std.proofs.lemmas.Option.{slice_get_cases}
use Rattle.std.specs.List.Sorted.{IsSortedBy}

pub sorted-map : {X Y : Type 0} (h : X → Y) (lt : Y → Y → Bool) (xs : List X)
    → IsSortedBy (λ x y. lt (h x) (h y)) xs
    → IsSortedBy lt (map h xs)
sorted-map h lt xs up = λ k d low high.
    let within : k + 1 < length xs = omega (arith, length-map xs h) in
    elim (slice_get_cases xs k).1 [
      | inl (x, lt_k, got, read) ↦
          subst (λ y. lt y (get_or (map h xs) k d) ≡ false)
          (sym (get_or-map h xs (k + 1) x d within))
          (subst (λ y. lt (h (get_or xs (k + 1) x)) y ≡ false)
          (sym (get_or-map h xs k x d (omega arith))) (up k x low within))
      | inr (past, got) ↦ absurd (omega arith)
    ]
