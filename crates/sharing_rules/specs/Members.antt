-- Elements of a list, lists that rise, and ties.
use Rattle.std.specs.Prelude.{◌≡◌, Bool, true, not, ◌||◌, List, [], ◌∷◌, ◌⊎◌}
use Rattle.std.specs.List.{AllByRecursion}

-- an element of a list
abbrev pub Member : {X : Type 0} → X → List X → Type 0
Member z [] = ⊥
Member z (x ∷ xs) = (z ≡ x) ⊎ Member z xs

-- each element comes before all later ones
abbrev pub IsRising : {X : Type 0} → (X → X → Bool) → List X → Type 0
IsRising lt [] = Unit {0}
IsRising lt (x ∷ xs) = AllByRecursion (λ y. lt x y ≡ true) xs × IsRising lt xs

-- neither comes before the other
abbrev pub ties : {X : Type 0} → (X → X → Bool) → X → X → Bool
ties lt x y = not (lt x y || lt y x)
