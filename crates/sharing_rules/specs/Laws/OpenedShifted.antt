-- The shifted lines that an access opens.
use Rattle.std.proofs.Common.{◌≡◌, ℕ, ◌+◌, ◌-◌, ◌<◌, true, false}
use Rattle.std.proofs.Common.{eqb, ◌||◌, List, [], ◌∷◌, ◌++◌, Option, Some, None, length}
use Rattle.std.proofs.Common.{sym, ap, ◌∙◌, subst, arith, inl, inr}
use Rattle.std.proofs.lemmas.Bool.{cases_Bool, false≢true, eqb-true, eqb-false, ne_eqb}
use Rattle.std.proofs.lemmas.Bool.{or_left, or_right, and_parts, and_from, and_right}
use Rattle.std.proofs.lemmas.Option.{none-some, same_Some}
use Rattle.std.proofs.lemmas.List.Sorted.{IsPermutation-trans}
use Rattle.std.proofs.lemmas.List.Sorted.{IsPermutation-append_right}
use Rattle.std.specs.Prelude.{if◌then◌else◌, filter_map, is_some, option_map, option_and_then}
use Rattle.std.specs.Prelude.{option_to_list}
use Rattle.std.specs.List.{list_any}
use Rattle.std.specs.List.Sorted.{IsPermutation}
use Rattle.base.specs.Touch.{Touch}
use Rattle.base.specs.Lines.{line_number}
use Rattle.sharing_rules.specs.Lines.{Line, native_grid}
use Rattle.sharing_rules.specs.Observed.{written_lines}
use Rattle.sharing_rules.specs.Predicted.{is_candidate, is_opening, best_between, shifted_opening}
use Rattle.sharing_rules.specs.Predicted.{shifted_around, shifted_line}
use Rattle.sharing_rules.specs.Opened.{Opened, shifted_after}
use Rattle.sharing_rules.specs.Opened.{opened_shifted}
use Rattle.sharing_rules.specs.Opened.{shifted_ones}
use Rattle.sharing_rules.specs.Opened.{opened, shifted_now}
use Rattle.sharing_rules.specs.Laws.Arrivals.{each_once-distinct}
use Rattle.sharing_rules.specs.Laws.Grown.{fresh, fresh-none, fresh-some}
use Rattle.sharing_rules.specs.Laws.Grown.{filter_map-never, filter_map-two}
use Rattle.sharing_rules.specs.Laws.Lists.{by_push, slice_cases}
use Rattle.sharing_rules.specs.Laws.Openings.{shifted_opening-append}
use Rattle.sharing_rules.specs.Laws.Openings.{shifted_line-append}
use Rattle.sharing_rules.specs.Laws.Openings.{shifted_line-opens}
use Rattle.sharing_rules.specs.Laws.Places.{first_place-empty}
use Rattle.sharing_rules.specs.Laws.Starts.{shifted_opening-push}
use Rattle.sharing_rules.specs.Laws.OpenedObserved.{best_there, fresh_written, grown_written}
use Rattle.sharing_rules.specs.Laws.OpenedObserved.{lower-written, shifted_opening-observed}

pub shifted_line-some : (n T P k : ℕ) (t : List Touch) (o : ℕ) → shifted_opening n T P k t ≡ Some o
    → (l : Line) × (shifted_line n T P k t ≡ Some l)
shifted_line-some n T P k t =
    by_push (λ (t : List Touch). (o : ℕ) → shifted_opening n T P k t ≡ Some o → (l : Line)
    × (shifted_line n T P k t ≡ Some l))
    (λ o e. absurd (none-some o (sym (first_place-empty (is_opening n T P n k)) ∙ e)))
    (λ t a ih o e. elim (slice_cases (shifted_opening n T P k t)) [
      | inl none ↦ elim (cases_Bool (is_opening n T P n k t a)) [
        | inl here ↦
            let p = best_there n T P n k t a here in (
              shifted_around n k p.0,
              shifted_line-opens n T P k t a none here
                  ∙ ap (option_map (shifted_around n k)) p.1,
            )
        | inr no_more ↦
            let z : shifted_opening n T P k (t ++ a ∷ []) ≡ None =
            rw (shifted_opening-push n T P k t a, none, no_more) in
            absurd (none-some o (sym z ∙ e))
      ]
      | inr some ↦ let w = ih some.0 some.1 in
          (w.0, shifted_line-append n T P k t (a ∷ []) some.0 some.1 ∙ w.1)
    ])
    t

-- A shifted line: where it opened it has an opening and a place.
pub record HasShifted (n T P k : ℕ) (t : List Touch) (x : Opened) : Type 0 where
  pub opening : ℕ
  pub line : Line
  pub opened : shifted_opening n T P k t ≡ Some opening
  pub placed : shifted_line n T P k t ≡ Some line
  pub is : x ≡ shifted_after opening line

pub shifted_is : (n T P k : ℕ) (t : List Touch) (o : ℕ) (l : Line) → shifted_opening n T P k t ≡ Some o
    → shifted_line n T P k t ≡ Some l → opened_shifted n T P t k ≡ Some (shifted_after o l)
shifted_is n T P k t o l e f =
    ap (λ (z : Option ℕ). option_and_then
    (λ q. option_map (shifted_after q) (shifted_line n T P k t)) z) e
    ∙ ap (option_map (shifted_after o)) f

pub opened_shifted-has : (n T P k : ℕ) (t : List Touch) (x : Opened)
    → opened_shifted n T P t k ≡ Some x → HasShifted n T P k t x
opened_shifted-has n T P k t x e =
    elim (slice_cases (shifted_opening n T P k t)) [
      | inl none ↦
          let z : opened_shifted n T P t k ≡ None =
          ap (λ (z : Option ℕ). option_and_then
          (λ q. option_map (shifted_after q) (shifted_line n T P k t)) z) none in
          absurd (none-some x (sym z ∙ e))
      | inr some ↦
          let l = shifted_line-some n T P k t some.0 some.1 in
          record {
            opening = some.0;
            line = l.0;
            opened = some.1;
            placed = l.1;
            is = same_Some x
                (shifted_after some.0 l.0) (sym e ∙ shifted_is n T P k t some.0 l.0 some.1 l.1);
          }
    ]

pub opened_shifted-stays : (n T P : ℕ) (t s : List Touch) (k : ℕ) (x : Opened)
    → opened_shifted n T P t k ≡ Some x → opened_shifted n T P (t ++ s) k ≡ Some x
opened_shifted-stays n T P t s k x e =
    let w = opened_shifted-has n T P k t x e in
    shifted_is n T P k (t ++ s) w.opening w.line
    (shifted_opening-append n T P k t s w.opening w.opened)
    (shifted_line-append n T P k t s w.opening w.opened ∙ w.placed) ∙ ap Some (sym w.is)

pub opened_shifted-written : (n T P : ℕ) (t : List Touch) (k : ℕ) (x : Opened)
    → opened_shifted n T P t k ≡ Some x → list_any (eqb k) (written_lines (native_grid n) t) ≡ true
opened_shifted-written n T P t k x e =
    let w = opened_shifted-has n T P k t x e in
    lower-written n T k t (shifted_opening-observed n T P k t (ap is_some w.opened))

-- a line that did not open gives nothing
pub shifted-none : (n T P k : ℕ) (t : List Touch) → shifted_opening n T P k t ≡ None
    → opened_shifted n T P t k ≡ None
shifted-none n T P k t none =
    ap (λ (z : Option ℕ). option_and_then
    (λ q. option_map (shifted_after q) (shifted_line n T P k t)) z) none

-- where neither line has a candidate, nothing opens
quiet_shifted : (n T P : ℕ) (t : List Touch) (a : Touch) (k : ℕ) → is_opening n T P n k t a ≡ false
    → fresh (opened_shifted n T P t) (opened_shifted n T P (t ++ a ∷ [])) k ≡ None
quiet_shifted n T P t a k quiet =
    elim (slice_cases (shifted_opening n T P k t)) [
      | inl none ↦
          fresh-none (opened_shifted n T P t) (opened_shifted n T P (t ++ a ∷ [])) k
          (shifted-none n T P k t none)
          ∙ shifted-none n T P k (t ++ a ∷ []) (rw (shifted_opening-push n T P k t a, none, quiet))
      | inr some ↦
          let l = shifted_line-some n T P k t some.0 some.1 in
          fresh-some (opened_shifted n T P t) (opened_shifted n T P (t ++ a ∷ [])) k
          (shifted_after some.0 l.0) (shifted_is n T P k t some.0 l.0 some.1 l.1)
    ]

-- at a candidate a shifted line opens where it had none and there is a pair
candidate_shifted : (n T P : ℕ) (t : List Touch) (a : Touch) (k : ℕ)
    → (is_candidate n P k t a || is_candidate n P (k + 1) t a) ≡ true
    → fresh (opened_shifted n T P t) (opened_shifted n T P (t ++ a ∷ [])) k ≡ shifted_now n T P t a
    k
candidate_shifted n T P t a k candidate =
    elim (slice_cases (shifted_opening n T P k t)) [
      | inl none ↦
          let first : shifted_now n T P t a k ≡ option_map
          (λ p. shifted_after (length t) (shifted_around n k p))
          (best_between n T n k (t ++ a ∷ [])) =
          ap (λ (z : Option ℕ). if is_some z then None
          else option_map (λ p. shifted_after (length t) (shifted_around n k p))
          (best_between n T n k (t ++ a ∷ []))) none in
          elim (slice_cases (best_between n T n k (t ++ a ∷ []))) [
            | inl nothing ↦
                quiet_shifted n T P t a k (and_right _ _ (ap is_some nothing))
                ∙ sym (first
                ∙ ap (option_map (λ p. shifted_after (length t) (shifted_around n k p)))
                nothing)
            | inr pair ↦
                let opens : is_opening n T P n k t a ≡ true = and_from _ _ candidate
                (ap is_some pair.1) in
                let there : shifted_opening n T P k (t ++ a ∷ []) ≡ Some (length t) =
                rw (shifted_opening-push n T P k t a, none, opens) in
                let place : shifted_line n T P k (t ++ a ∷ []) ≡ Some (shifted_around n k pair.0) =
                shifted_line-opens n T P k t a none opens
                ∙ ap (option_map (shifted_around n k)) pair.1 in
                fresh-none (opened_shifted n T P t) (opened_shifted n T P (t ++ a ∷ [])) k
                (shifted-none n T P k t none)
                ∙ shifted_is n T P k (t ++ a ∷ []) (length t) (shifted_around n k pair.0) there
                place
                ∙ sym (first
                ∙ ap (option_map (λ p. shifted_after (length t) (shifted_around n k p))) pair.1)
          ]
      | inr some ↦
          let l = shifted_line-some n T P k t some.0 some.1 in
          fresh-some (opened_shifted n T P t) (opened_shifted n T P (t ++ a ∷ [])) k
          (shifted_after some.0 l.0) (shifted_is n T P k t some.0 l.0 some.1 l.1)
          ∙ sym (ap (λ (z : Option ℕ). if is_some z then None
          else option_map (λ p. shifted_after (length t) (shifted_around n k p))
          (best_between n T n k (t ++ a ∷ []))) some.1)
    ]

-- a candidate is one of its own line
candidate-line : (n P k : ℕ) (t : List Touch) (a : Touch) → is_candidate n P k t a ≡ true
    → line_number n 0 a.addr ≡ k
candidate-line n P k t a e = eqb-true _ _ (and_parts _ _ (and_parts _ _ e).0).1

pub no_candidate : (n P k : ℕ) (t : List Touch) (a : Touch)
    → is_candidate n P (line_number n 0 a.addr) t a ≡ false → is_candidate n P k t a ≡ false
no_candidate n P k t a none =
    elim (cases_Bool (is_candidate n P k t a)) [
      | inl e ↦ absurd
          (false≢true (sym none ∙ (ap (λ j. is_candidate n P j t a) (candidate-line n P k t a e)
          ∙ e)))
      | inr e ↦ e
    ]

pub other_line : (n P k : ℕ) (t : List Touch) (a : Touch) → eqb (line_number n 0 a.addr) k ≡ false
    → is_candidate n P k t a ≡ false
other_line n P k t a other =
    elim (cases_Bool (is_candidate n P k t a)) [
      | inl e ↦ absurd (eqb-false _ _ other (candidate-line n P k t a e))
      | inr e ↦ e
    ]

pub quiet_opening : (n T P within k : ℕ) (t : List Touch) (a : Touch) → is_candidate n P k t a ≡ false
    → is_candidate n P (k + 1) t a ≡ false → is_opening n T P within k t a ≡ false
quiet_opening n T P within k t a lower upper = rw (lower, upper)

below_other : (j k : ℕ) → 0 < j → eqb (j - 1) k ≡ false → eqb j (k + 1) ≡ false
below_other j k positive other = ne_eqb j (k + 1)
    (λ e. eqb-false (j - 1) k other (omega (arith, e)))

apart_below : (j : ℕ) → 0 < j → eqb (j - 1) j ≡ false
apart_below j positive = ne_eqb (j - 1) j (λ e. absurd (omega (arith, e)))

suc_below : (j : ℕ) → 0 < j → j - 1 + 1 ≡ j
suc_below j positive = omega (arith, positive)

-- the shifted lines after one access more; line numbers are positive
pub shifted_ones-push : (n T P : ℕ) (t : List Touch) (a : Touch) → 0 < line_number n 0 a.addr
    → IsPermutation (shifted_ones n T P (t ++ a ∷ []))
    (shifted_ones n T P t ++ (if is_candidate n P (line_number n 0 a.addr) t a
    then option_to_list (shifted_now n T P t a (line_number n 0 a.addr - 1)) ++ option_to_list
    (shifted_now n T P t a (line_number n 0 a.addr)) else []))
shifted_ones-push n T P t a positive =
    let j : ℕ = line_number n 0 a.addr in
    let h = opened_shifted n T P t in
    let now = opened_shifted n T P (t ++ a ∷ []) in
    let ks = written_lines (native_grid n) (t ++ a ∷ []) in
    let grown = grown_written h now (native_grid n) t a
    (λ k x e. opened_shifted-stays n T P t (a ∷ []) k x e)
    (λ k x e. opened_shifted-written n T P t k x e) in
    let known = fresh_written h now ks (λ k x e. opened_shifted-written n T P (t ++ a ∷ []) k x e)
    in
    elim (cases_Bool (is_candidate n P (line_number n 0 a.addr) t a)) [
      | inl yes_j ↦
          let lower : fresh h now (line_number n 0 a.addr - 1) ≡ shifted_now n T P t a
          (line_number n 0 a.addr - 1) =
          candidate_shifted n T P t a (line_number n 0 a.addr - 1)
          (or_right _ _
          (ap (λ z. is_candidate n P z t a) (suc_below (line_number n 0 a.addr) positive)
          ∙ yes_j)) in
          let upper : fresh h now (line_number n 0 a.addr) ≡ shifted_now n T P t a
          (line_number n 0 a.addr) = candidate_shifted n T P t a (line_number n 0 a.addr)
          (or_left _ _ yes_j) in
          let two = filter_map-two (fresh h now) (line_number n 0 a.addr - 1)
          (line_number n 0 a.addr) ks (each_once-distinct _)
          (apart_below (line_number n 0 a.addr) positive)
          (λ k e d. quiet_shifted n T P t a k (quiet_opening n T P n k t a (other_line n P k t a d)
          (other_line n P (k + 1) t a (below_other (line_number n 0 a.addr) k positive e))))
          (known (line_number n 0 a.addr - 1)) (known (line_number n 0 a.addr)) in
          rw yes_j (IsPermutation-trans _ _ _ grown
          (subst (λ ys. IsPermutation (filter_map h (written_lines (native_grid n) t) ++ filter_map
          (fresh h now) ks) (filter_map h (written_lines (native_grid n) t) ++ ys))
          (ap (λ z. option_to_list z ++ option_to_list (fresh h now (line_number n 0 a.addr))) lower
          ∙ ap (λ z. option_to_list (shifted_now n T P t a (line_number n 0 a.addr - 1))
          ++ option_to_list z) upper)
          (IsPermutation-append_right (filter_map h (written_lines (native_grid n) t)) _ _ two)))
      | inr no_j ↦
          rw no_j (subst (λ ys. IsPermutation (shifted_ones n T P (t ++ a ∷ []))
          (shifted_ones n T P t ++ ys))
          (filter_map-never (fresh h now) ks
          (λ k. quiet_shifted n T P t a k
          (quiet_opening n T P n k t a (no_candidate n P k t a no_j)
          (no_candidate n P (k + 1) t a no_j))))
          grown)
    ]
