-- Lists without redundant accesses, access by access.
use Rattle.std.proofs.Common.{◌≡◌, ℕ, zero, suc, ◌<◌, Bool, true, not, List, []}
use Rattle.std.proofs.Common.{◌∷◌, ◌++◌, Option, None, length, map}
use Rattle.std.proofs.Common.{refl, sym, ap, ◌∙◌, subst, arith, inl, inr, length-append}
use Rattle.std.proofs.lemmas.Bool.{cases_Bool, false≢true}
use Rattle.std.proofs.lemmas.List.{append-nil, length-map, map-append}
use Rattle.std.proofs.lemmas.List.Elements.{filter_map-append}
use Rattle.std.specs.Prelude.{filter_map, if◌then◌else◌, slice_get}
use Rattle.base.specs.Touch.{Touch}
use Rattle.sharing_rules.specs.AccessLists.{AccessList}
use Rattle.sharing_rules.specs.Places.{below}
use Rattle.sharing_rules.specs.Laws.Lists.{by_push, slice_get-append_left, slice_get-push}
use Rattle.sharing_rules.specs.Laws.Places.{passes_at-append, passes_at-push}
use Rattle.sharing_rules.specs.Filtered.{IsWithoutRedundant, at_places, is_kept_at, is_redundant}

chosen-same : {X : Type 0} (f g : ℕ → Option X) (n : ℕ) → ((i : ℕ) → i < n → f i ≡ g i)
    → filter_map f (below n) ≡ filter_map g (below n)
chosen-same f g zero same = refl
chosen-same f g (suc n) same =
    filter_map-append f (below n) (n ∷ [])
    ∙ rw (chosen-same f g n (λ i l. same i (omega arith)), same n (omega arith)) refl
    ∙ sym (filter_map-append g (below n) (n ∷ []))

-- what stands at some places depends on the places of the list alone
pub places-same : {X : Type 0} (p q : ℕ → Bool) (u : List X)
    → ((i : ℕ) → i < length u → p i ≡ q i) → at_places p u ≡ at_places q u
places-same p q u same =
    chosen-same (λ i. if p i then slice_get u i else None)
    (λ i. if q i then slice_get u i else None) (length u) (λ i l. rw (same i l) refl)

-- what stands at some places, after one element more
pub at_places-push : {X : Type 0} (p : ℕ → Bool) (u : List X) (x : X)
    → at_places p (u ++ x ∷ []) ≡ at_places p u ++ (if p (length u) then x ∷ [] else [])
at_places-push p u x =
    let len : length (u ++ x ∷ []) ≡ suc (length u) = omega (arith, length-append u (x ∷ [])) in
    let later = λ (i : ℕ). if p i then slice_get (u ++ x ∷ []) i else None in
    let now = λ (i : ℕ). if p i then slice_get u i else None in
    ap (λ n. filter_map later (below n)) len
    ∙ filter_map-append later (below (length u)) (length u ∷ [])
    ∙ rw (
      chosen-same later now (length u) (λ i l. rw (slice_get-append_left u (x ∷ []) i l) refl),
      slice_get-push u x,
    )
    (elim (cases_Bool (p (length u))) [ inl e ↦ rw e refl | inr e ↦ rw e refl ])

-- a map of what stands there is what stands there in the mapped list
pub at_places-map : {X Y : Type 0} (f : X → Y) (p : ℕ → Bool) (u : List X)
    → map f (at_places p u) ≡ at_places p (map f u)
at_places-map f p u =
    by_push (λ u. map f (at_places p u) ≡ at_places p (map f u)) refl
    (λ u x ih.
    let left : map f (at_places p u) ++ map f (if p (length u) then x ∷ [] else [])
    ≡ at_places p (map f u) ++ (if p (length u) then f x ∷ [] else []) =
    elim (cases_Bool (p (length u))) [
      | inl e ↦ rw e (ap (λ t. t ++ f x ∷ []) ih)
      | inr e ↦ rw e (ap (λ t. t ++ []) ih)
    ] in
    let right : at_places p (map f (u ++ x ∷ []))
    ≡ at_places p (map f u) ++ (if p (length u) then f x ∷ [] else []) =
    ap (at_places p) (map-append f u (x ∷ [])) ∙ at_places-push p (map f u) (f x)
    ∙ ap (λ n. at_places p (map f u) ++ (if p n then f x ∷ [] else [])) (length-map u f) in
    ap (map f) (at_places-push p u x)
    ∙ map-append f (at_places p u) (if p (length u) then x ∷ [] else []) ∙ left ∙ sym right)
    u

kept-left : {X : Type 0} (f : X → Touch) (k : ℕ) (u : List X) (x : X) (i : ℕ) → i < length u
    → is_kept_at k (map f (u ++ x ∷ [])) i ≡ is_kept_at k (map f u) i
kept-left f k u x i l =
    let len : length (map f u) ≡ length u = length-map u f in
    rw (map-append f u (x ∷ []))
    (ap not (passes_at-append (is_redundant k) (map f u) (f x ∷ []) i (omega (arith, len, l))))

kept-last : {X : Type 0} (f : X → Touch) (k : ℕ) (u : List X) (x : X)
    → is_kept_at k (map f (u ++ x ∷ [])) (length u) ≡ not (is_redundant k (map f u) (f x))
kept-last f k u x =
    rw (map-append f u (x ∷ []), ← length-map u f)
    (ap not (passes_at-push (is_redundant k) (map f u) (f x)))

-- what isn't redundant is kept
abbrev pub IsKept : {X : Type 0} → (X → Touch) → ℕ → (ℕ → Bool) → List X → Type 0
IsKept f k kept u = (i : ℕ) → i < length u → is_kept_at k (map f u) i ≡ true → kept i ≡ true

-- What holds of two lists without elements, stays with an element more in both, and stays with a
-- redundant one more in the first alone, holds of a list and of it without redundant elements.
pub walk : {X : Type 0} (f : X → Touch) (k : ℕ) (kept : ℕ → Bool) (P : List X → List X → Type 0)
    → P [] []
    → ((u v : List X) (x : X) → P u v → P (u ++ x ∷ []) (v ++ x ∷ []))
    → ((u v : List X) (x : X) → is_redundant k (map f u) (f x) ≡ true → P u v → P (u ++ x ∷ []) v)
    → (u : List X) → IsKept f k kept u → P u (at_places kept u)
walk f k kept P none both left u =
    by_push (λ u. IsKept f k kept u → P u (at_places kept u))
    (λ needed. none)
    (λ u x ih needed.
    let len : length (u ++ x ∷ []) ≡ suc (length u) = omega (arith, length-append u (x ∷ [])) in
    let before : P u (at_places kept u) =
    ih (λ i l e. needed i (omega (arith, len, l)) (kept-left f k u x i l ∙ e)) in
    elim (cases_Bool (kept (length u))) [
      | inl keeps ↦
          let v : at_places kept (u ++ x ∷ []) ≡ at_places kept u ++ x ∷ [] =
          at_places-push kept u x ∙ rw keeps refl in
          subst (λ v. P (u ++ x ∷ []) v) (sym v) (both u (at_places kept u) x before)
      | inr drops ↦
          let v : at_places kept (u ++ x ∷ []) ≡ at_places kept u =
          at_places-push kept u x ∙ rw drops (append-nil (at_places kept u)) in
          let is : is_redundant k (map f u) (f x) ≡ true =
          elim (cases_Bool (is_redundant k (map f u) (f x))) [
            | inl e ↦ e
            | inr e ↦
                absurd (false≢true (sym drops
                ∙ needed (length u) (omega (arith, len)) (kept-last f k u x ∙ ap not e)))
          ] in
          subst (λ v. P (u ++ x ∷ []) v) (sym v) (left u (at_places kept u) x is before)
    ])
    u

map-own : (t : List Touch) → map (λ a. a) t ≡ t
map-own [] = refl
map-own (a ∷ t) = ap (λ u. a ∷ u) (map-own t)

-- the same of access lists
pub walk-lists : (k : ℕ) (P : AccessList → AccessList → Type 0)
    → P [] []
    → ((t v : AccessList) (a : Touch) → P t v → P (t ++ a ∷ []) (v ++ a ∷ []))
    → ((t v : AccessList) (a : Touch) → is_redundant k t a ≡ true → P t v → P (t ++ a ∷ []) v)
    → (t v : AccessList) → IsWithoutRedundant k t v → P t v
walk-lists k P none both left t v w =
    subst (λ v. P t v) (sym w.rest)
    (walk (λ a. a) k w.kept P none both
    (λ t v a e before. left t v a (subst (λ u. is_redundant k u a ≡ true) (map-own t) e) before) t
    (λ i l e. w.needed i (subst (λ u. is_kept_at k u i ≡ true) (map-own t) e)))
