-- The elements of a list that are reported, with one element more.
use Rattle.std.proofs.Common.{◌≡◌, ℕ, ◌+◌, ◌<◌, Bool, List, [], ◌∷◌, ◌++◌, filter, map, take, length}
use Rattle.std.proofs.Common.{Option, sym, ap, ◌∙◌, arith, option_to_list, slice_get, inl, inr}
use Rattle.std.proofs.lemmas.List.{map-append, take_more}
use Rattle.std.proofs.lemmas.List.Elements.{filter-append}
use Rattle.std.proofs.lemmas.Option.{get_or_from_slice_get, slice_get_cases}
use Rattle.std.specs.Prelude.{option_map}

-- of a list that takes those of some elements that pass a test: one element more
pub listed_more : {X Y : Type 0} (f : X → Y) (p : Y → Bool) (xs : List X) (i : ℕ) (o : Option Y)
    (before after : List Y) → i < length xs → o ≡ option_map f (slice_get xs i)
    → before ≡ filter p (map f (take i xs)) → after ≡ before ++ filter p (option_to_list o)
    → after ≡ filter p (map f (take (i + 1) xs))
listed_more f p xs i o before after within at_i known pushed =
    elim (slice_get_cases xs i).1 [
      | inl (x, lt, got, read) ↦
          pushed ∙ ap (λ t. t ++ filter p (option_to_list o)) known
          ∙ ap (λ q. filter p (map f (take i xs)) ++ filter p (option_to_list q))
          (at_i ∙ ap (option_map f) got)
          ∙ sym (ap (λ ys. filter p (map f ys)) (take_more xs i x within
          ∙ ap (λ y. take i xs ++ y ∷ []) (get_or_from_slice_get xs i x x got))
          ∙ ap (filter p) (map-append f (take i xs) (x ∷ []))
          ∙ filter-append p (map f (take i xs)) (f x ∷ []))
      | inr (past, got) ↦ absurd (omega arith)
    ]
