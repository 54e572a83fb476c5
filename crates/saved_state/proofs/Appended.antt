-- What one element more appends.
use Rattle.std.proofs.Common.{◌≡◌, ℕ, ◌+◌, List, [], ◌∷◌, ◌++◌, take, Some, slice_get, sym, ap, ◌∙◌}
use Rattle.std.proofs.Common.{append_assoc, append-nil}
use Rattle.std.proofs.lemmas.List.{take_more}
use Rattle.std.proofs.lemmas.Grind.{flat_map-append}
use Rattle.std.proofs.lemmas.Option.{slice_get_within, get_or_from_slice_get}
use Rattle.std.specs.List.{flat_map}

pub spelled_more : {X : Type 0} (h : X → List ℕ) (xs : List X) (i : ℕ) (x : X)
    (whole before after : List ℕ) → slice_get xs i ≡ Some x
    → before ≡ whole ++ flat_map h (take i xs) → after ≡ before ++ h x → after ≡ whole
    ++ flat_map h (take (i + 1) xs)
spelled_more h xs i x whole before after at known pushed =
    let longer : take (i + 1) xs ≡ take i xs ++ x ∷ [] =
    take_more xs i x (slice_get_within xs i x at)
    ∙ ap (λ y. take i xs ++ y ∷ []) (get_or_from_slice_get xs i x x at) in
    pushed ∙ ap (λ t. t ++ h x) known ∙ append_assoc whole (flat_map h (take i xs)) (h x)
    ∙ ap (λ t. whole ++ t) (sym (ap (flat_map h) longer ∙ flat_map-append h (take i xs) (x ∷ [])
    ∙ ap (λ t. flat_map h (take i xs) ++ t) (append-nil (h x))))
