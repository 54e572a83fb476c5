-- Holders and counts after one access more, and at a later start.
use Rattle.std.proofs.Common.{◌≡◌, ℕ, ◌+◌, Bool, false, ltb, ◌&&◌, List}
use Rattle.std.proofs.Common.{[], ◌∷◌, ◌++◌, length, ap}
use Rattle.std.proofs.lemmas.List.Sums.{fold-append}
use Rattle.std.specs.Prelude.{if◌then◌else◌}
use Rattle.base.specs.Touch.{Touch}
use Rattle.sharing_rules.specs.Holders.{after_access, holders, is_invalidation, count_since}
use Rattle.sharing_rules.specs.Laws.Places.{count_places-push}

pub holders-push : (line_of : ℕ → ℕ) (t : List Touch) (a : Touch) (h r : ℕ)
    → holders line_of (t ++ a ∷ []) h r ≡ after_access line_of (holders line_of t) a h r
holders-push line_of t a h r = ap (λ (f : ℕ → ℕ → Bool). f h r)
    (fold-append (after_access line_of) (λ g q. false) t (a ∷ []))

pub count_since-push : (line_of : ℕ → ℕ) (r s : ℕ) (t : List Touch) (a : Touch)
    → count_since line_of r s (t ++ a ∷ []) ≡ count_since line_of r s t +
    (if ltb s (length t) && is_invalidation line_of r t a then 1 else 0)
count_since-push line_of r s t a = count_places-push
    (λ before b. ltb s (length before) && is_invalidation line_of r before b) t a
