-- Redundance behind one access more.
use Rattle.std.proofs.Common.{◌≡◌, ℕ, zero, suc, ◌+◌, ◌<◌, Bool, true, false, not, ◌&&◌, ◌||◌}
use Rattle.std.proofs.Common.{List, [], ◌∷◌, ◌++◌, length, drop, refl, sym, ap, ◌∙◌, arith}
use Rattle.std.proofs.Common.{add-one, length-append}
use Rattle.std.proofs.lemmas.List.{drop-append-le}
use Rattle.std.proofs.lemmas.List.Folds.{list_any-append}
use Rattle.std.proofs.Math.Seq.{drop-append-add}
use Rattle.std.specs.List.{list_any}
use Rattle.std.specs.Option.{option_map_or}
use Rattle.std.specs.Prelude.{slice_get}
use Rattle.base.specs.Touch.{Touch}
use Rattle.sharing_rules.specs.AccessLists.{AccessList}
use Rattle.sharing_rules.specs.Filtered.{comes_near, covers, is_redundant, is_witness}
use Rattle.sharing_rules.specs.Laws.Lists.{slice_get-append_left, slice_get-push}
use Rattle.sharing_rules.specs.Places.{below}

or_swapped : (x y : Bool) → (x || (y || false)) ≡ (y || x)
or_swapped true true = refl
or_swapped true false = refl
or_swapped false true = refl
or_swapped false false = refl

none_of_both : (x y z : Bool) → (x && not (y || (z || false))) ≡ (not z && (x && not y))
none_of_both true true true = refl
none_of_both true true false = refl
none_of_both true false true = refl
none_of_both true false false = refl
none_of_both false true true = refl
none_of_both false true false = refl
none_of_both false false true = refl
none_of_both false false false = refl

and_or : (x y z : Bool) → ((x && y) || (x && z)) ≡ (x && (y || z))
and_or true y z = refl
and_or false y z = refl

any_below : (f g : ℕ → Bool) (n : ℕ) → ((j : ℕ) → j < n → f j ≡ g j)
    → list_any f (below n) ≡ list_any g (below n)
any_below f g zero same = refl
any_below f g (suc n) same =
    list_any-append f (below n) (n ∷ [])
    ∙ ap (λ x. x || (f n || false)) (any_below f g n (λ j h. same j (omega arith)))
    ∙ ap (λ x. list_any g (below n) || (x || false)) (same n (omega arith))
    ∙ sym (list_any-append g (below n) (n ∷ []))

any_where : (c : Bool) (f : ℕ → Bool) (xs : List ℕ)
    → list_any (λ j. c && f j) xs ≡ (c && list_any f xs)
any_where true f [] = refl
any_where false f [] = refl
any_where c f (x ∷ xs) = ap (λ y. (c && f x) || y) (any_where c f xs)
    ∙ and_or c (f x) (list_any f xs)

witness-before : (k : ℕ) (t : AccessList) (b a : Touch) (j : ℕ) → j < length t
    → is_witness k (t ++ b ∷ []) a j ≡ (not (comes_near k a.hart a.addr b) && is_witness k t a j)
witness-before k t b a j less =
    let near = comes_near k a.hart a.addr in
    let here : Bool = option_map_or (λ c. covers c a) (slice_get t j) false in
    ap (λ o. option_map_or (λ c. covers c a) o false
    && not (list_any near (drop (j + 1) (t ++ b ∷ [])))) (slice_get-append_left t (b ∷ []) j less)
    ∙ ap (λ s. here && not (list_any near s)) (drop-append-le (j + 1) t (b ∷ []) (omega (arith, less)))
    ∙ ap (λ x. here && not x) (list_any-append near (drop (j + 1) t) (b ∷ []))
    ∙ none_of_both here (list_any near (drop (j + 1) t)) (near b)

witness-last : (k : ℕ) (t : AccessList) (b a : Touch)
    → is_witness k (t ++ b ∷ []) a (length t) ≡ covers b a
witness-last k t b a =
    let near = comes_near k a.hart a.addr in
    ap (λ o. option_map_or (λ c. covers c a) o false
    && not (list_any near (drop (length t + 1) (t ++ b ∷ [])))) (slice_get-push t b)
    ∙ ap (λ s. covers b a && not (list_any near s)) (drop-append-add t (b ∷ []) 1)
    ∙ and_true (covers b a)
  where
    and_true : (x : Bool) → (x && true) ≡ x
    and_true true = refl
    and_true false = refl

-- an access is redundant behind one that covers it, and stays redundant until another hart comes
pub redundant-push : (k : ℕ) (t : AccessList) (b a : Touch)
    → is_redundant k (t ++ b ∷ []) a
    ≡ (covers b a || (not (comes_near k a.hart a.addr b) && is_redundant k t a))
redundant-push k t b a =
    let far : Bool = not (comes_near k a.hart a.addr b) in
    let all : AccessList = t ++ b ∷ [] in
    let more : length all ≡ suc (length t) = length-append t (b ∷ []) ∙ add-one (length t) in
    ap (λ n. list_any (is_witness k all a) (below n)) more
    ∙ list_any-append (is_witness k all a) (below (length t)) (length t ∷ [])
    ∙ or_swapped (list_any (is_witness k all a) (below (length t))) (is_witness k all a (length t))
    ∙ ap (λ x. x || list_any (is_witness k all a) (below (length t))) (witness-last k t b a)
    ∙ ap (λ x. covers b a || x)
    (any_below (is_witness k all a) (λ j. far && is_witness k t a j) (length t)
    (witness-before k t b a) ∙ any_where far (is_witness k t a) (below (length t)))
