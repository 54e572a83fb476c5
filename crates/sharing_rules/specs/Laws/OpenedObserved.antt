-- The observed lines that an access opens, and what a line that is predicted says of the observed one.
use Rattle.std.proofs.Common.{◌≡◌, ℕ, ◌+◌, ◌-◌, ◌*◌, ◌%◌, ◌<◌, Bool, true, false}
use Rattle.std.proofs.Common.{eqb, leb, ◌&&◌, List, [], ◌∷◌, ◌++◌, Option, Some, None, length}
use Rattle.std.proofs.Common.{refl, sym, ap, ◌∙◌, subst, arith, inl, inr}
use Rattle.std.proofs.lemmas.Bool.{cases_Bool, false≢true, eqb-true}
use Rattle.std.proofs.lemmas.Bool.{and_parts, and_right, and_left}
use Rattle.std.proofs.lemmas.Bool.Decides.{nat_tests}
use Rattle.std.proofs.lemmas.Option.{none-some, same_Some}
use Rattle.std.specs.Prelude.{◌⊎◌, if◌then◌else◌, filter_map, is_some, option_map}
use Rattle.std.specs.Prelude.{option_to_list}
use Rattle.std.specs.Option.{option_or}
use Rattle.std.specs.List.{list_any}
use Rattle.std.specs.List.Sorted.{IsPermutation}
use Rattle.base.specs.Touch.{Touch, is_write}
use Rattle.base.specs.Lines.{Grid, line_number}
use Rattle.sharing_rules.specs.AccessLists.{writes_to}
use Rattle.sharing_rules.specs.Arrivals.{note_arrival}
use Rattle.sharing_rules.specs.Lines.{is_inside, grid_line, native_grid, native_line}
use Rattle.sharing_rules.specs.Observed.{write_count, observed_start, written_lines}
use Rattle.sharing_rules.specs.Predicted.{is_opening, best_between, shifted_opening}
use Rattle.sharing_rules.specs.Predicted.{doubled_opening}
use Rattle.sharing_rules.specs.Opened.{Opened, observed_from}
use Rattle.sharing_rules.specs.Opened.{opened_observed}
use Rattle.sharing_rules.specs.Opened.{observed_ones}
use Rattle.sharing_rules.specs.Opened.{observed_now}
use Rattle.sharing_rules.specs.Laws.Arrivals.{each_once-distinct}
use Rattle.sharing_rules.specs.Laws.Grown.{fresh, fresh-none, fresh-some, filter_map-grown}
use Rattle.sharing_rules.specs.Laws.Grown.{filter_map-single}
use Rattle.sharing_rules.specs.Laws.Grown.{filter_map-arrival}
use Rattle.sharing_rules.specs.Laws.Lists.{by_push, slice_cases}
use Rattle.sharing_rules.specs.Laws.Observed.{observed_written, written_lines-any}
use Rattle.sharing_rules.specs.Laws.Observed.{written_lines-push}
use Rattle.sharing_rules.specs.Laws.Openings.{observed_start-append}
use Rattle.sharing_rules.specs.Laws.Places.{first_place-empty}
use Rattle.sharing_rules.specs.Laws.Starts.{observed_start-is_some, observed_start-push}
use Rattle.sharing_rules.specs.Laws.Starts.{shifted_opening-push, doubled_opening-push}

-- a choice of written lines grows with its list
pub grown_written : (h now : ℕ → Option Opened) (g : Grid) (t : List Touch) (a : Touch)
    → ((k : ℕ) (x : Opened) → h k ≡ Some x → now k ≡ Some x)
    → ((k : ℕ) (x : Opened) → h k ≡ Some x → list_any (eqb k) (written_lines g t) ≡ true)
    → IsPermutation (filter_map now (written_lines g (t ++ a ∷ [])))
    (filter_map h (written_lines g t) ++ filter_map (fresh h now) (written_lines g (t ++ a ∷ [])))
grown_written h now g t a stays written =
    let known : (j : ℕ) → (list_any (eqb j) (written_lines g t) ≡ true) ⊎ (h j ≡ None) = λ j.
    elim (slice_cases (h j)) [
      | inl nothing ↦ inr nothing
      | inr some ↦
          inl (written j some.0 some.1)
    ] in
    let same : filter_map h (written_lines g (t ++ a ∷ [])) ≡ filter_map h (written_lines g t) =
    ap (filter_map h) (written_lines-push g t a)
    ∙ elim (is_write a.kind)
    as (λ b. filter_map h
    (if b then note_arrival (written_lines g t) (line_number g.size g.offset a.addr)
    else written_lines g t) ≡ filter_map h (written_lines g t)) [
      | true ↦ filter_map-arrival h (written_lines g t) (line_number g.size g.offset a.addr)
          (known (line_number g.size g.offset a.addr))
      | false ↦ refl
    ] in
    subst (λ xs. IsPermutation (filter_map now (written_lines g (t ++ a ∷ [])))
    (xs ++ filter_map (fresh h now) (written_lines g (t ++ a ∷ [])))) same
    (filter_map-grown h now stays (written_lines g (t ++ a ∷ [])))

-- a fresh choice of a line that was not written is none
pub fresh_written : (h now : ℕ → Option Opened) (ks : List ℕ)
    → ((k : ℕ) (x : Opened) → now k ≡ Some x → list_any (eqb k) ks ≡ true) → (j : ℕ)
    → (list_any (eqb j) ks ≡ true) ⊎ (fresh h now j ≡ None)
fresh_written h now ks written j =
    elim (slice_cases (now j)) [
      | inl nothing ↦
          inr (elim (slice_cases (h j)) [
            | inl was ↦ fresh-none h now j was ∙ nothing
            | inr was ↦
                fresh-some h now j was.0 was.1
          ])
      | inr some ↦ inl (written j some.0 some.1)
    ]

-- An observed line.
pub observed-some : (g : Grid) (T : ℕ) (t : List Touch) (k : ℕ) (x : Opened)
    → opened_observed g T t k ≡ Some x
    → (s : ℕ) × (observed_start T (is_inside (grid_line g k)) t ≡ Some s)
    × (x ≡ observed_from (grid_line g k) s)
observed-some g T t k x e =
    elim (slice_cases (observed_start T (is_inside (grid_line g k)) t)) [
      | inl none ↦ let z : None ≡ Some x = rw none at e in absurd (none-some x z)
      | inr some ↦ let z : Some (observed_from (grid_line g k) some.0) ≡ Some x = rw some.1 at e
          in (some.0, some.1, sym (same_Some _ x z))
    ]

pub opened_observed-stays : (g : Grid) (T : ℕ) (t s : List Touch) (k : ℕ) (x : Opened)
    → opened_observed g T t k ≡ Some x → opened_observed g T (t ++ s) k ≡ Some x
opened_observed-stays g T t s k x e =
    let w = observed-some g T t k x e in
    ap (option_map (observed_from (grid_line g k)))
    (observed_start-append T (is_inside (grid_line g k)) t s w.0 w.1) ∙ ap Some (sym w.2)

pub opened_observed-written : (g : Grid) (T : ℕ) (t : List Touch) (k : ℕ) (x : Opened)
    → opened_observed g T t k ≡ Some x → list_any (eqb k) (written_lines g t) ≡ true
opened_observed-written g T t k x e =
    let w = observed-some g T t k x e in
    written_lines-any g t k ∙ observed_written T (is_inside (grid_line g k)) t w.0 w.1

not_yet : (T n : ℕ) → n + 1 ≡ T → leb T n ≡ false
not_yet T n e = grind (arith, nat_tests)

-- the T-th write of a line comes once
observed-now_none : (g : Grid) (T : ℕ) (t : List Touch) (k : ℕ) → 0 < T
    → eqb (write_count (is_inside (grid_line g k)) t + 1) T ≡ true
    → observed_start T (is_inside (grid_line g k)) t ≡ None
observed-now_none g T t k some e =
    let below : leb T (write_count (is_inside (grid_line g k)) t) ≡ false =
    not_yet T (write_count (is_inside (grid_line g k)) t) (eqb-true _ _ e) in
    elim (slice_cases (observed_start T (is_inside (grid_line g k)) t)) [
      | inl none ↦ none
      | inr there ↦
          absurd (false≢true
          (sym below ∙ (sym (observed_start-is_some T (is_inside (grid_line g k)) t some)
          ∙ ap is_some there.1)))
    ]

-- what an access makes of the start of line k
fresh_start : (g : Grid) (T : ℕ) (t : List Touch) (a : Touch) (k : ℕ)
    → observed_start T (is_inside (grid_line g k)) t ≡ None
    → opened_observed g T (t ++ a ∷ []) k ≡
    (if writes_to (is_inside (grid_line g k)) a && eqb
    (write_count (is_inside (grid_line g k)) t + 1) T
    then Some (observed_from (grid_line g k) (length t)) else None)
fresh_start g T t a k none =
    ap (option_map (observed_from (grid_line g k)))
    (observed_start-push T (is_inside (grid_line g k)) t a
    ∙ ap (λ o. option_or o
    (if writes_to (is_inside (grid_line g k)) a && eqb
    (write_count (is_inside (grid_line g k)) t + 1) T then Some (length t) else None)) none)
    ∙ elim (writes_to (is_inside (grid_line g k)) a && eqb
    (write_count (is_inside (grid_line g k)) t + 1) T)
    as (λ b. option_map (observed_from (grid_line g k)) (if b then Some (length t) else None) ≡
    (if b then Some (observed_from (grid_line g k) (length t)) else None))
    [ true ↦ refl | false ↦ refl ]

observed_fresh-elsewhere : (g : Grid) (T : ℕ) (t : List Touch) (a : Touch) (k : ℕ)
    → eqb (line_number g.size g.offset a.addr) k ≡ false
    → fresh (opened_observed g T t) (opened_observed g T (t ++ a ∷ [])) k ≡ None
observed_fresh-elsewhere g T t a k other =
    elim (slice_cases (observed_start T (is_inside (grid_line g k)) t)) [
      | inl none ↦ fresh-none (opened_observed g T t) (opened_observed g T (t ++ a ∷ [])) k
          (ap (option_map (observed_from (grid_line g k))) none) ∙ fresh_start g T t a k none
          ∙ ap (λ b. if b then Some (observed_from (grid_line g k) (length t)) else None)
          (and_left _ _ (and_right (is_write a.kind) _ other))
      | inr some ↦ fresh-some (opened_observed g T t) (opened_observed g T (t ++ a ∷ [])) k
          (observed_from (grid_line g k) some.0)
          (ap (option_map (observed_from (grid_line g k))) some.1)
    ]

observed_fresh-here : (g : Grid) (T : ℕ) (t : List Touch) (a : Touch) → 0 < T
    → fresh (opened_observed g T t) (opened_observed g T (t ++ a ∷ []))
    (line_number g.size g.offset a.addr) ≡ observed_now g T t a
observed_fresh-here g T t a positive =
    let k : ℕ = line_number g.size g.offset a.addr in
    elim (slice_cases (observed_start T (is_inside (grid_line g k)) t)) [
      | inl none ↦ fresh-none (opened_observed g T t) (opened_observed g T (t ++ a ∷ [])) k
          (ap (option_map (observed_from (grid_line g k))) none) ∙ fresh_start g T t a k none
      | inr some ↦
          let again : eqb (write_count (is_inside (grid_line g k)) t + 1) T ≡ false =
          elim (cases_Bool (eqb (write_count (is_inside (grid_line g k)) t + 1) T)) [
            | inl e ↦ absurd
                (none-some some.0 (sym (observed-now_none g T t k positive e) ∙ some.1))
            | inr e ↦ e
          ] in
          fresh-some (opened_observed g T t) (opened_observed g T (t ++ a ∷ [])) k
          (observed_from (grid_line g k) some.0)
          (ap (option_map (observed_from (grid_line g k))) some.1)
          ∙ sym (ap (λ b. if b then Some (observed_from (grid_line g k) (length t)) else None)
          (and_right (writes_to (is_inside (grid_line g k)) a) _ again))
    ]

-- the observed lines after one access more
pub observed_ones-push : (g : Grid) (T : ℕ) (t : List Touch) (a : Touch) → 0 < T
    → IsPermutation (observed_ones g T (t ++ a ∷ []))
    (observed_ones g T t ++ option_to_list (observed_now g T t a))
observed_ones-push g T t a positive =
    let h = opened_observed g T t in
    let now = opened_observed g T (t ++ a ∷ []) in
    let ks = written_lines g (t ++ a ∷ []) in
    let new : filter_map (fresh h now) ks ≡ option_to_list (observed_now g T t a) =
    filter_map-single (fresh h now) (line_number g.size g.offset a.addr) ks (each_once-distinct _)
    (λ k e. observed_fresh-elsewhere g T t a k e)
    (fresh_written h now ks (λ k x e. opened_observed-written g T (t ++ a ∷ []) k x e)
    (line_number g.size g.offset a.addr))
    ∙ ap option_to_list (observed_fresh-here g T t a positive) in
    subst (λ ys. IsPermutation (observed_ones g T (t ++ a ∷ [])) (observed_ones g T t ++ ys)) new
    (grown_written h now g t a (λ k x e. opened_observed-stays g T t (a ∷ []) k x e)
    (λ k x e. opened_observed-written g T t k x e))

-- Both lines of a pair that opened are observed.
pub record AreObserved (n T k : ℕ) (t : List Touch) : Type 0 where
  pub lower : is_some (observed_start T (is_inside (native_line n k)) t) ≡ true
  pub upper : is_some (observed_start T (is_inside (native_line n (k + 1))) t) ≡ true

pub some_is : {X : Type 0} (o : Option X) → is_some o ≡ true → (x : X) × (o ≡ Some x)
some_is None e = absurd (false≢true e)
some_is (Some x) e = (x, refl)

observed_longer : (T : ℕ) (inside : ℕ → Bool) (t s : List Touch)
    → is_some (observed_start T inside t) ≡ true → is_some (observed_start T inside (t ++ s)) ≡ true
observed_longer T inside t s e = let w = some_is (observed_start T inside t) e
    in ap is_some (observed_start-append T inside t s w.0 w.1)

best-observed : (n T within k : ℕ) (t : List Touch) → is_some (best_between n T within k t) ≡ true
    → AreObserved n T k t
best-observed n T within k t e =
    elim (slice_cases (observed_start T (is_inside (native_line n k)) t)) [
      | inl none ↦ let z : false ≡ true = rw none at e in absurd (false≢true z)
      | inr s ↦ elim (slice_cases (observed_start T (is_inside (native_line n (k + 1))) t)) [
        | inl none ↦ let z : false ≡ true = rw (s.1, none) at e in absurd (false≢true z)
        | inr u ↦ record { lower = ap is_some s.1; upper = ap is_some u.1 }
      ]
    ]

-- what opens at a write opens by a pair of two observed lines
opening-observed : (n T P within k : ℕ) (t : List Touch) (a : Touch)
    → is_opening n T P within k t a ≡ true → AreObserved n T k (t ++ a ∷ [])
opening-observed n T P within k t a e = best-observed n T within k (t ++ a ∷ []) (and_parts _ _ e).1

longer : (n T k : ℕ) (t s : List Touch) → AreObserved n T k t → AreObserved n T k (t ++ s)
longer n T k t s w = record {
  lower = observed_longer T (is_inside (native_line n k)) t s w.lower;
  upper = observed_longer T (is_inside (native_line n (k + 1))) t s w.upper;
}

-- by induction over the list, for an opening with a law for one access more
opened-observed : (n T k : ℕ) (opening : List Touch → Option ℕ) (opens : List Touch → Touch → Bool)
    → opening [] ≡ None
    → ((t : List Touch) (a : Touch) → opening (t ++ a ∷ []) ≡ option_or (opening t)
    (if opens t a then Some (length t) else None))
    → ((t : List Touch) (a : Touch) → opens t a ≡ true → AreObserved n T k (t ++ a ∷ []))
    → (t : List Touch) → is_some (opening t) ≡ true → AreObserved n T k t
opened-observed n T k opening opens empty push observed t =
    by_push (λ (t : List Touch). is_some (opening t) ≡ true → AreObserved n T k t)
    (λ e. absurd (false≢true (sym (ap is_some empty) ∙ e)))
    (λ t a ih e. elim (slice_cases (opening t)) [
      | inl none ↦ elim (cases_Bool (opens t a)) [
        | inl here ↦ observed t a here
        | inr no_more ↦
            let z : opening (t ++ a ∷ []) ≡ None = rw (push t a, none, no_more) in
            absurd (false≢true (sym (ap is_some z) ∙ e))
      ]
      | inr some ↦ longer n T k t (a ∷ []) (ih (ap is_some some.1))
    ])
    t

pub shifted_opening-observed : (n T P k : ℕ) (t : List Touch) → is_some (shifted_opening n T P k t)
    ≡ true → AreObserved n T k t
shifted_opening-observed n T P k =
    opened-observed n T k (shifted_opening n T P k) (is_opening n T P n k)
    (first_place-empty (is_opening n T P n k)) (λ t a. shifted_opening-push n T P k t a)
    (λ t a e. opening-observed n T P n k t a e)

pub doubled_opening-observed : (n T P k : ℕ) (t : List Touch) → is_some (doubled_opening n T P k t)
    ≡ true → AreObserved n T k t
doubled_opening-observed n T P k =
    opened-observed n T k (doubled_opening n T P k)
    (λ before a. eqb (k % 2) 1 && is_opening n T P (2 * n) k before a)
    (first_place-empty (λ before a. eqb (k % 2) 1 && is_opening n T P (2 * n) k before a))
    (λ t a. doubled_opening-push n T P k t a)
    (λ t a e. opening-observed n T P (2 * n) k t a (and_parts _ _ e).1)

pub lower-written : (n T k : ℕ) (t : List Touch) → AreObserved n T k t
    → list_any (eqb k) (written_lines (native_grid n) t) ≡ true
lower-written n T k t w =
    let s = some_is (observed_start T (is_inside (native_line n k)) t) w.lower in
    written_lines-any (native_grid n) t k ∙ observed_written T (is_inside (native_line n k)) t s.0
    s.1

-- A shifted line that opened has a place.
pub best_there : (n T P within k : ℕ) (t : List Touch) (a : Touch) → is_opening n T P within k t a
    ≡ true → (p : ℕ × ℕ) × (best_between n T within k (t ++ a ∷ []) ≡ Some p)
best_there n T P within k t a e = some_is (best_between n T within k (t ++ a ∷ []))
    (and_parts _ _ e).1
