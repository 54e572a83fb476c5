-- What each kind of line is that is kept of a list.
use Rattle.std.proofs.Common.{◌≡◌, ℕ, suc, ◌+◌, ◌-◌, ◌*◌, ◌/◌, ◌%◌, ◌<◌, ◌≤◌, true, eqb, pos, List}
use Rattle.std.proofs.Common.{[], ◌∷◌, ◌++◌, Some, None, length, take, refl, sym, ap, ◌∙◌, subst}
use Rattle.std.proofs.Common.{arith, inl, inr}
use Rattle.std.proofs.lemmas.Bool.{cases_Bool, false≢true, eqb-true, and_parts}
use Rattle.std.proofs.lemmas.Option.{none-some, same_Some}
use Rattle.std.specs.Prelude.{◌⊎◌, is_some, option_map}
use Rattle.std.specs.Option.{option_map_or}
use Rattle.base.specs.Touch.{Touch}
use Rattle.base.specs.Lines.{Grid, is_layout, line_number}
use Rattle.base.specs.Levels.{Levels}
use Rattle.sharing_rules.specs.AccessLists.{writes_to}
use Rattle.sharing_rules.specs.Lines.{Line, is_inside, grid_line, native_grid, native_line}
use Rattle.sharing_rules.specs.Lines.{range_of}
use Rattle.sharing_rules.specs.Members.{Member}
use Rattle.sharing_rules.specs.Observed.{observed_start, written_lines}
use Rattle.sharing_rules.specs.Opened.{Opened, shifted_after, doubled_after, opened_observed}
use Rattle.sharing_rules.specs.Opened.{opened_shifted, opened_doubled, observed_ones, shifted_ones}
use Rattle.sharing_rules.specs.Opened.{doubled_ones, predicted_ones, opened}
use Rattle.sharing_rules.specs.Predicted.{best_between, is_native_size, is_opening, shifted_opening}
use Rattle.sharing_rules.specs.Predicted.{doubled_opening, shifted_around, shifted_line}
use Rattle.sharing_rules.specs.Predicted.{doubled_line, shifted_base, word_address}
use Rattle.sharing_rules.specs.declared.line_kind.LineKind.TheVariants.{Observed, Shifted, Doubled}
use Rattle.sharing_rules.specs.Laws.Bases.{IsBetween, IsNearPair, any_some, best_between-near}
use Rattle.sharing_rules.specs.Laws.Bases.{line_from-base, native-good, shifted_around-layout}
use Rattle.sharing_rules.specs.Laws.Bases.{shifted_base-between, doubled_line-layout}
use Rattle.sharing_rules.specs.Laws.Lists.{slice_cases, Member-filter_map, filter_map-Member}
use Rattle.sharing_rules.specs.Laws.Lists.{Member-from_any}
use Rattle.sharing_rules.specs.Laws.Observed.{observed_written}
use Rattle.sharing_rules.specs.Laws.OpenedObserved.{AreObserved, opened_observed-written}
use Rattle.sharing_rules.specs.Laws.OpenedShifted.{opened_shifted-has, opened_shifted-written}
use Rattle.sharing_rules.specs.Laws.OpenedDoubled.{opened_doubled-written, doubled-some}
use Rattle.sharing_rules.specs.Laws.OpenedObserved.{observed-some}
use Rattle.sharing_rules.specs.Laws.OpenedObserved.{shifted_opening-observed, doubled_opening-observed}
use Rattle.sharing_rules.specs.Laws.Opened.{line_number-positive}
use Rattle.sharing_rules.specs.Laws.Openings.{doubled_opening-even}
use Rattle.sharing_rules.specs.Laws.Places.{first_place-within}

-- an element of two lists put together
pub Member-append : {X : Type 0} (xs ys : List X) (z : X) → Member z (xs ++ ys)
    → Member z xs ⊎ Member z ys
Member-append [] ys z m = inr m
Member-append (x ∷ xs) ys z m = elim m [
  | inl e ↦ inl (inl e)
  | inr k ↦ elim (Member-append xs ys z k) [ inl a ↦ inl (inr a) | inr b ↦ inr b ]
]

pub append-Member_left : {X : Type 0} (xs ys : List X) (z : X) → Member z xs → Member z (xs ++ ys)
append-Member_left [] ys z m = absurd m
append-Member_left (x ∷ xs) ys z m =
    elim m [ inl e ↦ inl e | inr k ↦ inr (append-Member_left xs ys z k) ]

pub append-Member_right : {X : Type 0} (xs ys : List X) (z : X) → Member z ys → Member z (xs ++ ys)
append-Member_right [] ys z m = m
append-Member_right (x ∷ xs) ys z m = inr (append-Member_right xs ys z m)

-- A kept line may start within the list, or right behind it.
pub record IsObservedOf (g : Grid) (t : List Touch) (k : ℕ) (o : Opened) : Type 0 where
  pub kind : o.kind ≡ Observed
  pub line : o.line ≡ grid_line g k
  pub from : o.from ≤ length t

pub record IsShiftedOf (n : ℕ) (t : List Touch) (k : ℕ) (o : Opened) : Type 0 where
  pub kind : o.kind ≡ Shifted
  pub number : 0 < k
  pub size : o.line.size ≡ n
  pub layout : is_layout o.line.size o.line.offset ≡ true
  pub base : (b : ℕ) × ((range_of o.line).base ≡ pos b) × IsBetween n k b
  pub from : o.from ≤ length t

pub record IsDoubledOf (n : ℕ) (t : List Touch) (k : ℕ) (o : Opened) : Type 0 where
  pub kind : o.kind ≡ Doubled
  pub number : 0 < k
  pub odd : k % 2 ≡ 1
  pub line : o.line ≡ doubled_line n k
  pub layout : is_layout o.line.size o.line.offset ≡ true
  pub base : (range_of o.line).base ≡ pos (n * (k - 1))
  pub from : o.from ≤ length t

positive_line : (n T k : ℕ) (t : List Touch) → 0 < n → AreObserved n T k t → 0 < k
positive_line n T k t some w =
    elim (slice_cases (observed_start T (is_inside (native_line n k)) t)) [
      | inl none ↦ absurd (false≢true (sym (ap is_some none) ∙ w.lower))
      | inr s ↦
          let b = any_some (writes_to (is_inside (native_line n k))) t
          (observed_written T (is_inside (native_line n k)) t s.0 s.1) in
          let inside : line_number n 0 b.0.addr ≡ k = eqb-true _ _ (and_parts _ _ b.1).1 in
          subst (λ z. 0 < z) inside (line_number-positive n b.0.addr some)
    ]

pub opened_observed-is : (g : Grid) (T : ℕ) (t : List Touch) (k : ℕ) (o : Opened)
    → opened_observed g T t k ≡ Some o → IsObservedOf g t k o
opened_observed-is g T t k o e =
    let w = observed-some g T t k o e in
    let l = first_place-within _ t w.0 w.1 in
    rw w.2 (record { kind = refl; line = refl; from = omega (arith, l) })

shifted_place : (n T P k : ℕ) (t : List Touch) (o : ℕ) (l : Line)
    → shifted_opening n T P k t ≡ Some o → shifted_line n T P k t ≡ Some l
    → (p : ℕ × ℕ) × (l ≡ shifted_around n k p) × (best_between n T n k (take (suc o) t) ≡ Some p)
shifted_place n T P k t o l e f =
    let g : option_map (shifted_around n k) (best_between n T n k (take (suc o) t)) ≡ Some l =
    rw e at f in
    elim (slice_cases (best_between n T n k (take (suc o) t))) [
      | inl none ↦ let z : None ≡ Some l = rw none at g in absurd (none-some l z)
      | inr p ↦ let z : Some (shifted_around n k p.0) ≡ Some l = rw p.1 at g
          in (p.0, sym (same_Some _ l z), p.1)
    ]

shifted_is_of : (n k : ℕ) (t : List Touch) (p : ℕ × ℕ) (o : ℕ) → is_native_size n ≡ true → 0 < k
    → IsNearPair (n / 4) (n / 4) n p → o < length t
    → IsShiftedOf n t k (shifted_after o (shifted_around n k p))
shifted_is_of n k t p o native number near within =
    let good = native-good n native in
    record {
      kind = refl;
      number = number;
      size = refl;
      layout = shifted_around-layout n k p native;
      base = (
        shifted_base n (word_address n k p.0) (word_address n (k + 1) p.1),
        line_from-base n _ good.some,
        shifted_base-between n k p number good.even near,
      );
      from = omega (arith, within);
    }

pub opened_shifted-is : (n T P : ℕ) (t : List Touch) (k : ℕ) (o : Opened) → is_native_size n ≡ true
    → opened_shifted n T P t k ≡ Some o → IsShiftedOf n t k o
opened_shifted-is n T P t k o native e =
    let w = opened_shifted-has n T P k t o e in
    let place = shifted_place n T P k t w.opening w.line w.opened w.placed in
    let number = positive_line n T k t (native-good n native).some
    (shifted_opening-observed n T P k t (ap is_some w.opened)) in
    let is : o ≡ shifted_after w.opening (shifted_around n k place.0) = w.is
    ∙ ap (shifted_after w.opening) place.1 in
    subst (λ z. IsShiftedOf n t k z) (sym is)
    (shifted_is_of n k t place.0 w.opening native number
    (best_between-near n T n k (take (suc w.opening) t) place.0 place.2)
    (first_place-within (is_opening n T P n k) t w.opening w.opened))

odd_of : (n T P k : ℕ) (t : List Touch) (o : ℕ) → doubled_opening n T P k t ≡ Some o → k % 2 ≡ 1
odd_of n T P k t o e =
    elim (cases_Bool (eqb (k % 2) 1)) [
      | inl odd ↦ eqb-true _ _ odd
      | inr even ↦ absurd (none-some o (sym (doubled_opening-even n T P k t even) ∙ e))
    ]

doubled_is_of : (n k : ℕ) (t : List Touch) (o : ℕ) → is_native_size n ≡ true → 0 < k → k % 2 ≡ 1
    → o < length t → IsDoubledOf n t k (doubled_after (doubled_line n k) o)
doubled_is_of n k t o native number odd within =
    let good = native-good n native in
    let some : 0 < 2 * n = omega (arith, good.some) in
    let base : word_address n k 0 ≡ n * (k - 1) = omega arith in
    record {
      kind = refl;
      number = number;
      odd = odd;
      line = refl;
      layout = doubled_line-layout n k native;
      base = line_from-base (2 * n) (word_address n k 0) some ∙ ap pos base;
      from = omega (arith, within);
    }

pub opened_doubled-is : (n T P : ℕ) (t : List Touch) (k : ℕ) (o : Opened) → is_native_size n ≡ true
    → opened_doubled n T P t k ≡ Some o → IsDoubledOf n t k o
opened_doubled-is n T P t k o native e =
    let w = doubled-some n T P k t o e in
    let number = positive_line n T k t (native-good n native).some
    (doubled_opening-observed n T P k t (ap is_some w.1)) in
    subst (λ z. IsDoubledOf n t k z) (sym w.2)
    (doubled_is_of n k t w.0 native number (odd_of n T P k t w.0 w.1)
    (first_place-within _ t w.0 w.1))

-- the lines that a list keeps, each with its number
pub observed_ones-member : (g : Grid) (T : ℕ) (t : List Touch) (o : Opened)
    → Member o (observed_ones g T t) → (k : ℕ) × (opened_observed g T t k ≡ Some o)
observed_ones-member g T t o m = let w = Member-filter_map (opened_observed g T t)
    (written_lines g t) o m in (w.0, w.2)

pub member-observed_ones : (g : Grid) (T : ℕ) (t : List Touch) (k : ℕ) (o : Opened)
    → opened_observed g T t k ≡ Some o → Member o (observed_ones g T t)
member-observed_ones g T t k o e = filter_map-Member (opened_observed g T t) (written_lines g t) k o
    (Member-from_any k _ (opened_observed-written g T t k o e)) e

pub shifted_ones-member : (n T P : ℕ) (t : List Touch) (o : Opened)
    → Member o (shifted_ones n T P t) → (k : ℕ) × (opened_shifted n T P t k ≡ Some o)
shifted_ones-member n T P t o m = let w = Member-filter_map (opened_shifted n T P t)
    (written_lines (native_grid n) t) o m in (w.0, w.2)

pub member-shifted_ones : (n T P : ℕ) (t : List Touch) (k : ℕ) (o : Opened)
    → opened_shifted n T P t k ≡ Some o → Member o (shifted_ones n T P t)
member-shifted_ones n T P t k o e = filter_map-Member (opened_shifted n T P t)
    (written_lines (native_grid n) t) k o
    (Member-from_any k _ (opened_shifted-written n T P t k o e)) e

pub doubled_ones-member : (n T P : ℕ) (t : List Touch) (o : Opened)
    → Member o (doubled_ones n T P t) → (k : ℕ) × (opened_doubled n T P t k ≡ Some o)
doubled_ones-member n T P t o m = let w = Member-filter_map (opened_doubled n T P t)
    (written_lines (native_grid n) t) o m in (w.0, w.2)

pub member-doubled_ones : (n T P : ℕ) (t : List Touch) (k : ℕ) (o : Opened)
    → opened_doubled n T P t k ≡ Some o → Member o (doubled_ones n T P t)
member-doubled_ones n T P t k o e = filter_map-Member (opened_doubled n T P t)
    (written_lines (native_grid n) t) k o
    (Member-from_any k _ (opened_doubled-written n T P t k o e)) e

-- A line that is kept: observed, or predicted under a prediction threshold.
pub record IsPredictedOf (n T P : ℕ) (t : List Touch) (o : Opened) : Type 0 where
  pub number : ℕ
  pub one : (opened_shifted n T P t number ≡ Some o) ⊎ (opened_doubled n T P t number ≡ Some o)

abbrev pub IsPredicted : Grid → Levels → List Touch → Opened → Type 0
IsPredicted g v t o = (P : ℕ) × (v.prediction ≡ Some P) × IsPredictedOf g.size v.tracking P t o

pub predicted_ones-member : (n T P : ℕ) (t : List Touch) (o : Opened)
    → Member o (predicted_ones n T P t) → IsPredictedOf n T P t o
predicted_ones-member n T P t o m =
    elim (Member-append (shifted_ones n T P t) (doubled_ones n T P t) o m) [
      | inl s ↦ let w = shifted_ones-member n T P t o s in record { number = w.0; one = inl w.1 }
      | inr d ↦ let w = doubled_ones-member n T P t o d in record { number = w.0; one = inr w.1 }
    ]

pub opened-member : (g : Grid) (v : Levels) (t : List Touch) (o : Opened) → Member o (opened g v t)
    → ((k : ℕ) × (opened_observed g v.tracking t k ≡ Some o)) ⊎ IsPredicted g v t o
opened-member g v t o m =
    elim (Member-append (observed_ones g v.tracking t)
    (option_map_or (λ P. predicted_ones g.size v.tracking P t) v.prediction []) o m) [
      | inl w ↦ inl (observed_ones-member g v.tracking t o w)
      | inr p ↦ elim (slice_cases v.prediction) [
        | inl none ↦
            absurd (subst
            (λ z. Member o (option_map_or (λ P. predicted_ones g.size v.tracking P t) z [])) none p)
        | inr some ↦
            let q : Member o (predicted_ones g.size v.tracking some.0 t) =
            subst (λ z. Member o
            (option_map_or (λ P. predicted_ones g.size v.tracking P t) z [])) some.1 p in
            inr (some.0, some.1, predicted_ones-member g.size v.tracking some.0 t o q)
      ]
    ]

pub member-opened_observed : (g : Grid) (v : Levels) (t : List Touch) (k : ℕ) (o : Opened)
    → opened_observed g v.tracking t k ≡ Some o → Member o (opened g v t)
member-opened_observed g v t k o e = append-Member_left (observed_ones g v.tracking t) _ o
    (member-observed_ones g v.tracking t k o e)
