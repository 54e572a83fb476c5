-- A longer list moves no start and no opening; where predicted lines open.
use Rattle.std.proofs.Common.{◌≡◌, ℕ, suc, take, ◌+◌, ◌*◌, ◌%◌, Bool, true, false, eqb, ◌&&◌, List}
use Rattle.std.proofs.Common.{[], ◌∷◌, ◌++◌, Some, None, length, arith, length-append}
use Rattle.std.proofs.lemmas.List.{take-append-le, take_all}
use Rattle.std.specs.Prelude.{option_map}
use Rattle.base.specs.Touch.{Touch}
use Rattle.sharing_rules.specs.Lines.{line_from}
use Rattle.sharing_rules.specs.Observed.{observed_start, first_write_from}
use Rattle.sharing_rules.specs.Predicted.{is_opening, best_between, shifted_opening}
use Rattle.sharing_rules.specs.Predicted.{shifted_line, shifted_base, word_address, doubled_opening}
use Rattle.sharing_rules.specs.Laws.Places.{first_place-empty, first_place-append}
use Rattle.sharing_rules.specs.Laws.Places.{first_place-within}
use Rattle.sharing_rules.specs.Laws.Starts.{shifted_opening-push, doubled_opening-push}
use Rattle.sharing_rules.specs.Laws.Lists.{by_push}

pub observed_start-append : (T : ℕ) (inside : ℕ → Bool) (t s : List Touch) (i : ℕ)
    → observed_start T inside t ≡ Some i → observed_start T inside (t ++ s) ≡ Some i
observed_start-append T inside t s i e = first_place-append _ t s i e

pub first_write_from-append : (o : ℕ) (inside : ℕ → Bool) (t s : List Touch) (i : ℕ)
    → first_write_from o inside t ≡ Some i → first_write_from o inside (t ++ s) ≡ Some i
first_write_from-append o inside t s i e = first_place-append _ t s i e

pub shifted_opening-append : (n T P k : ℕ) (t s : List Touch) (i : ℕ)
    → shifted_opening n T P k t ≡ Some i → shifted_opening n T P k (t ++ s) ≡ Some i
shifted_opening-append n T P k t s i e = first_place-append _ t s i e

pub doubled_opening-append : (n T P k : ℕ) (t s : List Touch) (i : ℕ)
    → doubled_opening n T P k t ≡ Some i → doubled_opening n T P k (t ++ s) ≡ Some i
doubled_opening-append n T P k t s i e = first_place-append _ t s i e

-- once opened, a shifted line keeps its place
pub shifted_line-append : (n T P k : ℕ) (t s : List Touch) (o : ℕ)
    → shifted_opening n T P k t ≡ Some o → shifted_line n T P k (t ++ s) ≡ shifted_line n T P k t
shifted_line-append n T P k t s o e =
    let same : take (suc o) (t ++ s) ≡ take (suc o) t = take-append-le (suc o) t s
    (first_place-within _ t o e) in
    rw (shifted_opening-append n T P k t s o e, e, same)

-- where it opens, a shifted line gets the place of the best pair there
pub shifted_line-opens : (n T P k : ℕ) (t : List Touch) (a : Touch)
    → shifted_opening n T P k t ≡ None → is_opening n T P n k t a ≡ true
    → shifted_line n T P k (t ++ a ∷ []) ≡ option_map
    (λ p. line_from n (shifted_base n (word_address n k p.0) (word_address n (k + 1) p.1)))
    (best_between n T n k (t ++ a ∷ []))
shifted_line-opens n T P k t a none opens =
    let here : shifted_opening n T P k (t ++ a ∷ []) ≡ Some (length t) =
    rw (shifted_opening-push n T P k t a, none, opens) in
    let whole : take (suc (length t)) (t ++ a ∷ []) ≡ t ++ a ∷ [] = take_all (suc (length t))
    (t ++ a ∷ []) (omega (arith, length-append t (a ∷ []))) in
    rw (here, whole)

-- an even lower line opens no doubled line
pub doubled_opening-even : (n T P k : ℕ) (t : List Touch) → eqb (k % 2) 1 ≡ false
    → doubled_opening n T P k t ≡ None
doubled_opening-even n T P k t even =
    by_push (λ (t : List Touch). doubled_opening n T P k t ≡ None)
    (first_place-empty (λ before a. eqb (k % 2) 1 && is_opening n T P (2 * n) k before a))
    (λ t a ih. rw (doubled_opening-push n T P k t a, ih, even))
    t
