-- What one track more adds to the listed lines.
use Rattle.std.proofs.Common.{◌≡◌, ℕ, ◌+◌, ◌<◌, Bool, List, [], ◌∷◌, ◌++◌, get_or, length, filter}
use Rattle.std.proofs.Common.{take, option_to_list, sym, ap, ◌∙◌}
use Rattle.std.proofs.lemmas.List.{take_more}
use Rattle.std.proofs.lemmas.List.Elements.{filter-append, filter_map-append}
use Rattle.std.specs.Prelude.{Option, filter_map}
use Rattle.sharing_rules.specs.Laws.Lists.{cons_option-nil}

filter_map-one : {X Y : Type 0} (f : X → Option Y) (xs : List X) (x : X)
    → filter_map f (xs ++ x ∷ []) ≡ filter_map f xs ++ option_to_list
    (f x)
filter_map-one f xs x = filter_map-append f xs (x ∷ [])
    ∙ ap (λ zs. filter_map f xs ++ zs) (cons_option-nil (f x))

-- one element more
pub reported_more : {X Y : Type 0} (f : X → Option Y) (p : Y → Bool) (xs : List X) (i : ℕ) (x : X)
    (before after : List Y) → i < length xs
    → x ≡ get_or xs i x
    → before ≡ filter p (filter_map f (take i xs)) → after ≡ before
    ++ filter p (option_to_list (f x))
    → after ≡ filter p (filter_map f (take (i + 1) xs))
reported_more f p xs i x before after within at_i known pushed =
    pushed ∙ ap (λ t. t ++ filter p (option_to_list (f x))) known
    ∙ sym (ap (λ ys. filter p (filter_map f ys))
    (take_more xs i x within ∙ ap (λ y. take i xs ++ y ∷ []) (sym at_i))
    ∙ ap (filter p) (filter_map-one f (take i xs) x)
    ∙ filter-append p (filter_map f (take i xs)) (option_to_list (f x)))
