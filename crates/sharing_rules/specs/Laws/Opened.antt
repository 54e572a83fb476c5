-- The lines that an access opens, of all kinds.
use Rattle.std.proofs.Common.{◌≡◌, ℕ, zero, suc, ◌+◌, ◌-◌, ◌*◌, ◌/◌, ◌<◌, true, false}
use Rattle.std.proofs.Common.{List, [], ◌∷◌, ◌++◌, Some, None}
use Rattle.std.proofs.Common.{refl, sym, ap, ◌∙◌, subst, arith, inl, inr}
use Rattle.std.proofs.lemmas.List.Sorted.{IsPermutation-refl, IsPermutation-trans}
use Rattle.std.proofs.lemmas.List.Sorted.{IsPermutation-append_left, IsPermutation-append_right}
use Rattle.std.proofs.lemmas.List.Sorted.{IsPermutation-append_comm}
use Rattle.std.proofs.Math.Nat.{lt-div-mul-add}
use Rattle.std.proofs.lemmas.List.{append_assoc}
use Rattle.std.specs.Prelude.{if◌then◌else◌, is_some, option_map}
use Rattle.std.specs.Prelude.{option_to_list}
use Rattle.std.specs.Option.{option_map_or}
use Rattle.std.specs.List.Sorted.{IsPermutation}
use Rattle.base.specs.Touch.{Touch}
use Rattle.base.specs.Lines.{Grid, line_number}
use Rattle.base.specs.Levels.{Levels}
use Rattle.sharing_rules.specs.Predicted.{is_candidate, shifted_opening}
use Rattle.sharing_rules.specs.Predicted.{doubled_opening}
use Rattle.sharing_rules.specs.Predicted.{doubled_line}
use Rattle.sharing_rules.specs.Opened.{Opened, doubled_after}
use Rattle.sharing_rules.specs.Opened.{opened_shifted, opened_doubled}
use Rattle.sharing_rules.specs.Opened.{observed_ones, shifted_ones, doubled_ones, predicted_ones}
use Rattle.sharing_rules.specs.Opened.{opened, observed_now, shifted_now, doubled_now, even_lower}
use Rattle.sharing_rules.specs.Opened.{predicted_now, opened_now}
use Rattle.sharing_rules.specs.Laws.Lists.{slice_cases}
use Rattle.sharing_rules.specs.Laws.OpenedObserved.{observed_ones-push}
use Rattle.sharing_rules.specs.Laws.OpenedShifted.{shifted-none, shifted_is, shifted_line-some}
use Rattle.sharing_rules.specs.Laws.OpenedShifted.{shifted_ones-push}
use Rattle.sharing_rules.specs.Laws.OpenedDoubled.{doubled_ones-push}

-- two lists with more each, put together
shuffle : (xs x ys y : List Opened) → IsPermutation ((xs ++ x) ++ (ys ++ y))
    ((xs ++ ys) ++ (x ++ y))
shuffle xs x ys y =
    let inner : IsPermutation (x ++ (ys ++ y)) (ys ++ (x ++ y)) =
    subst (λ z. IsPermutation (x ++ (ys ++ y)) z) (append_assoc ys x y)
    (subst (λ z. IsPermutation z ((ys ++ x) ++ y)) (append_assoc x ys y)
    (IsPermutation-append_left y (x ++ ys) (ys ++ x) (IsPermutation-append_comm x ys))) in
    subst (λ z. IsPermutation ((xs ++ x) ++ (ys ++ y)) z) (sym (append_assoc xs ys (x ++ y)))
    (subst (λ z. IsPermutation z (xs ++ (ys ++ (x ++ y)))) (sym (append_assoc xs x (ys ++ y)))
    (IsPermutation-append_right xs _ _ inner))

merge : (xs' xs x ys' ys y : List Opened) → IsPermutation xs' (xs ++ x)
    → IsPermutation ys' (ys ++ y) → IsPermutation (xs' ++ ys') ((xs ++ ys) ++ (x ++ y))
merge xs' xs x ys' ys y e f =
    IsPermutation-trans (xs' ++ ys') ((xs ++ x) ++ (ys ++ y)) ((xs ++ ys) ++ (x ++ y))
    (IsPermutation-trans (xs' ++ ys') ((xs ++ x) ++ ys') ((xs ++ x) ++ (ys ++ y))
    (IsPermutation-append_left ys' xs' (xs ++ x) e)
    (IsPermutation-append_right (xs ++ x) ys' (ys ++ y) f))
    (shuffle xs x ys y)

positive_quotient : (n q a : ℕ) → a + n - 0 < q * n + n → 0 < q
positive_quotient n zero a l = absurd (omega (arith, l))
positive_quotient n (suc q) a l = omega arith

-- line numbers of a layout at offset 0 are positive
pub line_number-positive : (n a : ℕ) → 0 < n → 0 < line_number n 0 a
line_number-positive n a some = let k = lt-div-mul-add {a = a + n - 0} {b = n} some
    in positive_quotient n ((a + n - 0) / n) a k

-- the predicted lines after one access more
pub predicted_ones-push : (n T P : ℕ) (t : List Touch) (a : Touch) → 0 < n
    → IsPermutation (predicted_ones n T P (t ++ a ∷ []))
    (predicted_ones n T P t ++ predicted_now n T P t a)
predicted_ones-push n T P t a some =
    let j : ℕ = line_number n 0 a.addr in
    let positive : 0 < line_number n 0 a.addr = line_number-positive n a.addr some in
    let below = option_to_list (shifted_now n T P t a (line_number n 0 a.addr - 1)) in
    let here = option_to_list (shifted_now n T P t a (line_number n 0 a.addr)) in
    let doubled = option_to_list (doubled_now n T P t a (even_lower (line_number n 0 a.addr))) in
    let both = merge (shifted_ones n T P (t ++ a ∷ [])) (shifted_ones n T P t) _
    (doubled_ones n T P (t ++ a ∷ [])) (doubled_ones n T P t) _
    (shifted_ones-push n T P t a positive) (doubled_ones-push n T P t a positive) in
    subst (λ z. IsPermutation (predicted_ones n T P (t ++ a ∷ [])) (predicted_ones n T P t ++ z))
    (elim (is_candidate n P (line_number n 0 a.addr) t a)
    as (λ b. ((if b then below ++ here else []) ++ (if b then doubled else [])) ≡
    (if b then below ++ (here ++ doubled) else [])) [
      | true ↦ append_assoc below here doubled
      | false ↦ refl
    ])
    both

-- What is kept of a list with one access more: what was kept, and what opens at the access.
pub opened-push : (g : Grid) (v : Levels) (t : List Touch) (a : Touch) → 0 < g.size → 0 < v.tracking
    → IsPermutation (opened g v (t ++ a ∷ [])) (opened g v t ++ opened_now g v t a)
opened-push g v t a some positive =
    merge (observed_ones g v.tracking (t ++ a ∷ [])) (observed_ones g v.tracking t)
    (option_to_list (observed_now g v.tracking t a))
    (option_map_or (λ P. predicted_ones g.size v.tracking P (t ++ a ∷ [])) v.prediction [])
    (option_map_or (λ P. predicted_ones g.size v.tracking P t) v.prediction [])
    (option_map_or (λ P. predicted_now g.size v.tracking P t a) v.prediction [])
    (observed_ones-push g v.tracking t a positive)
    (elim v.prediction
    as (λ p. IsPermutation
    (option_map_or (λ P. predicted_ones g.size v.tracking P (t ++ a ∷ [])) p [])
    (option_map_or (λ P. predicted_ones g.size v.tracking P t) p [] ++ option_map_or
    (λ P. predicted_now g.size v.tracking P t a) p [])) [
      | None ↦ IsPermutation-refl []
      | Some P ↦ predicted_ones-push g.size v.tracking P t a some
    ])

pub opened-empty : (g : Grid) (v : Levels) → opened g v [] ≡ []
opened-empty g v =
    elim v.prediction
    as (λ p. ([] ++ option_map_or (λ P. predicted_ones g.size v.tracking P []) p []) ≡ [])
    [ None ↦ refl | Some P ↦ refl ]

-- a line is kept exactly where it opened
pub opened_shifted-is_some : (n T P k : ℕ) (t : List Touch)
    → is_some (opened_shifted n T P t k) ≡ is_some (shifted_opening n T P k t)
opened_shifted-is_some n T P k t =
    elim (slice_cases (shifted_opening n T P k t)) [
      | inl none ↦ ap is_some (shifted-none n T P k t none) ∙ sym (ap is_some none)
      | inr some ↦ let l = shifted_line-some n T P k t some.0 some.1
          in ap is_some (shifted_is n T P k t some.0 l.0 some.1 l.1) ∙ sym (ap is_some some.1)
    ]

pub opened_doubled-is_some : (n T P k : ℕ) (t : List Touch)
    → is_some (opened_doubled n T P t k) ≡ is_some (doubled_opening n T P k t)
opened_doubled-is_some n T P k t =
    elim (slice_cases (doubled_opening n T P k t)) [
      | inl none ↦ ap (λ z. is_some (option_map (doubled_after (doubled_line n k)) z)) none
          ∙ sym (ap is_some none)
      | inr some ↦ ap (λ z. is_some (option_map (doubled_after (doubled_line n k)) z)) some.1
          ∙ sym (ap is_some some.1)
    ]
