-- Groups after one element more.
use Rattle.std.proofs.Common.{◌≡◌, ℕ, ◌+◌, Bool, true, false, not, ◌||◌, List, [], ◌∷◌, ◌++◌}
use Rattle.std.proofs.Common.{Some, None, refl, sym, ap, ◌∙◌, inl, inr, map, arith}
use Rattle.std.proofs.lemmas.Bool.{and_parts, cases_Bool, eq-eqb, eqb-true, false≢true, or_parts}
use Rattle.std.proofs.lemmas.List.{append-nil, map-append}
use Rattle.std.proofs.lemmas.List.Elements.{filter-append}
use Rattle.std.proofs.lemmas.List.Sums.{sum_by-cons}
use Rattle.std.specs.List.{AllByRecursion, IsDistinct, list_any}
use Rattle.std.specs.Map.{lookup}
use Rattle.std.specs.Option.{option_map_or}
use Rattle.std.specs.Prelude.{filter, if◌then◌else◌, nat_eq, sum_by}
use Rattle.indexmap.specs.IndexMap.{insert_entry}
use Rattle.sharing_rules.specs.Laws.Lists.{filter-distinct}
use Rattle.invalidations.specs.declared.sited.Sides.{Sides}
use Rattle.invalidations.specs.Groups.{IsExact, group_of, groups, keys_once}
use Rattle.invalidations.specs.Invalidations.{sides_eq}

pub nat_eq-exact : IsExact ℕ nat_eq
nat_eq-exact = record { same = λ x y e. eqb-true x y e; own = λ x. eq-eqb x x refl }

same_sides : (x y : Sides) → x.victim ≡ y.victim → x.taker ≡ y.taker → x ≡ y
same_sides x y e f =
    ap (λ k. record { victim = k; taker = x.taker }) e
    ∙ ap (λ k. record { victim = y.victim; taker = k }) f

pub sides_eq-exact : IsExact Sides sides_eq
sides_eq-exact = record {
  same = λ x y e.
      let parts = and_parts _ _ e in
      same_sides x y (eqb-true x.victim y.victim parts.0) (eqb-true x.taker y.taker parts.1);
  own = λ x. rw (eq-eqb x.victim x.victim refl, eq-eqb x.taker x.taker refl) refl;
}

-- a key behind the others, where it is new
abbrev pub note_key : {K : Type 0} → (K → K → Bool) → List K → K → List K
note_key eq ks k = if list_any (eq k) ks then ks else ks ++ k ∷ []

apart : {K : Type 0} (eq : K → K → Bool) → IsExact K eq → (x y z : K) → eq x y ≡ false
    → eq z y ≡ true → eq x z ≡ false
apart eq exact x y z e f = rw (exact.same z y f) e

any-without : {K : Type 0} (eq : K → K → Bool) → IsExact K eq → (x y : K) (ks : List K)
    → eq x y ≡ false → list_any (eq x) (filter (λ z. not (eq z y)) ks) ≡ list_any (eq x) ks
any-without eq exact x y [] e = refl
any-without eq exact x y (z ∷ ks) e =
    let ih = any-without eq exact x y ks e in
    elim (cases_Bool (eq z y)) [
      | inl t ↦ rw (t, apart eq exact x y z e t) ih
      | inr f ↦ rw f (ap (λ b. eq x z || b) ih)
    ]

pub keys_once-push : {K : Type 0} (eq : K → K → Bool) → IsExact K eq → (ks : List K) (x : K)
    → keys_once eq (ks ++ x ∷ []) ≡ note_key eq (keys_once eq ks) x
keys_once-push eq exact [] x = refl
keys_once-push eq exact (y ∷ ks) x =
    rw (keys_once-push eq exact ks x)
    (elim (cases_Bool (eq x y)) [
      | inl t ↦ elim (cases_Bool (list_any (eq x) (keys_once eq ks))) [
        | inl u ↦ rw (t, u) refl
        | inr u ↦ rw (t, u, filter-append (λ z. not (eq z y)) (keys_once eq ks) (x ∷ []), t)
            (ap (λ zs. y ∷ zs) (append-nil _))
      ]
      | inr f ↦ elim (cases_Bool (list_any (eq x) (keys_once eq ks))) [
        | inl u ↦ rw (f, any-without eq exact x y (keys_once eq ks) f, u) refl
        | inr u ↦ rw (
          f,
          any-without eq exact x y (keys_once eq ks) f,
          u,
          filter-append (λ z. not (eq z y)) (keys_once eq ks) (x ∷ []),
          f,
        ) refl
      ]
    ])

without-apart : {K : Type 0} (eq : K → K → Bool) → IsExact K eq → (y : K) (ks : List K)
    → AllByRecursion (λ z. eq y z ≡ false) (filter (λ z. not (eq z y)) ks)
without-apart eq exact y [] = tt
without-apart eq exact y (z ∷ ks) =
    elim (cases_Bool (eq z y)) [
      | inl t ↦ rw t (without-apart eq exact y ks)
      | inr f ↦ rw f (
        elim (cases_Bool (eq y z)) [
          | inl u ↦ absurd (false≢true (sym f ∙ rw (exact.same y z u) (exact.own z)))
          | inr u ↦ u
        ],
        without-apart eq exact y ks,
      )
    ]

pub keys_once-distinct : {K : Type 0} (eq : K → K → Bool) → IsExact K eq → (ks : List K)
    → IsDistinct eq (keys_once eq ks)
unfolding IsDistinct
keys_once-distinct eq exact [] = tt
keys_once-distinct eq exact (k ∷ ks) = (
  without-apart eq exact k (keys_once eq ks),
  filter-distinct eq (λ z. not (eq z k)) (keys_once eq ks) (keys_once-distinct eq exact ks),
)

-- each key with what f gives for it
abbrev pub entries : {K V : Type 0} → (K → V) → List K → List (K × V)
entries f ks = map (λ k. (k, f k)) ks

lookup-entries : {K V : Type 0} (eq : K → K → Bool) → IsExact K eq → (f : K → V) (ks : List K)
    (r : K) → lookup (eq r) (entries f ks) ≡ if list_any (eq r) ks then Some (f r) else None
lookup-entries eq exact f [] r = refl
lookup-entries eq exact f (k ∷ ks) r =
    elim (cases_Bool (eq r k)) [
      | inl here ↦ rw here (ap (λ j. Some (f j)) (sym (exact.same r k here)))
      | inr other ↦ rw other (lookup-entries eq exact f ks r)
    ]

-- outside r the two give the same
abbrev AgreeBut : {K V : Type 0} → (K → K → Bool) → K → (K → V) → (K → V) → Type 0
AgreeBut {K} eq r f g = (j : K) → eq r j ≡ false → g j ≡ f j

entries-same : {K V : Type 0} (eq : K → K → Bool) (f g : K → V) (r : K) (ks : List K)
    → AgreeBut eq r f g → list_any (eq r) ks ≡ false → entries g ks ≡ entries f ks
entries-same eq f g r [] agree none = refl
entries-same eq f g r (k ∷ ks) agree none =
    let parts = or_parts (eq r k) (list_any (eq r) ks) none in
    rw (agree k parts.0) (ap (λ es. (k, f k) ∷ es) (entries-same eq f g r ks agree parts.1))

none-of : {K : Type 0} (eq : K → K → Bool) (r : K) (ks : List K)
    → AllByRecursion (λ y. eq r y ≡ false) ks → list_any (eq r) ks ≡ false
none-of eq r [] all = refl
none-of eq r (k ∷ ks) all = rw all.0 (none-of eq r ks all.1)

insert-new : {K V : Type 0} (eq : K → K → Bool) (f : K → V) (ks : List K) (r : K) (v : V)
    → list_any (eq r) ks ≡ false
    → insert_entry eq (entries f ks) r v ≡ entries f ks ++ (r, v) ∷ []
insert-new eq f [] r v none = refl
insert-new eq f (k ∷ ks) r v none =
    let parts = or_parts (eq r k) (list_any (eq r) ks) none in
    rw parts.0 (ap (λ es. (k, f k) ∷ es) (insert-new eq f ks r v parts.1))

insert-known : {K V : Type 0} (eq : K → K → Bool) → IsExact K eq → (f g : K → V) (ks : List K)
    (r : K) → IsDistinct eq ks → AgreeBut eq r f g → list_any (eq r) ks ≡ true
    → insert_entry eq (entries f ks) r (g r) ≡ entries g ks
unfolding IsDistinct
insert-known eq exact f g [] r d agree there = absurd (false≢true there)
insert-known eq exact f g (k ∷ ks) r d agree there =
    elim (cases_Bool (eq r k)) [
      | inl here ↦
          let same = exact.same r k here in
          let none : list_any (eq r) ks ≡ false = rw same (none-of eq k ks d.0) in
          rw (here, entries-same eq f g r ks agree none) (ap (λ j. (k, g j) ∷ entries f ks) same)
      | inr other ↦
          let later : list_any (eq r) ks ≡ true = rw other at there in
          rw (other, agree k other)
          (ap (λ es. (k, f k) ∷ es) (insert-known eq exact f g ks r d.1 agree later))
    ]

insert-entries : {K V : Type 0} (eq : K → K → Bool) → IsExact K eq → (f g : K → V) (ks : List K)
    (r : K) → IsDistinct eq ks → AgreeBut eq r f g
    → insert_entry eq (entries f ks) r (g r) ≡ entries g (note_key eq ks r)
insert-entries eq exact f g ks r d agree =
    elim (cases_Bool (list_any (eq r) ks)) [
      | inl there ↦ rw there (insert-known eq exact f g ks r d agree there)
      | inr none ↦ rw none
          (insert-new eq f ks r (g r) none
          ∙ ap (λ es. es ++ (r, g r) ∷ []) (sym (entries-same eq f g r ks agree none))
          ∙ sym (map-append (λ k. (k, g k)) ks (r ∷ [])))
    ]

-- a key that never came has no group
no-group : {K X : Type 0} (eq : K → K → Bool) → IsExact K eq → (key : X → K) (xs : List X) (k : K)
    → list_any (eq k) (keys_once eq (map key xs)) ≡ false → group_of eq key xs k ≡ []
no-group eq exact key [] k none = refl
no-group eq exact key (x ∷ xs) k none =
    let parts = or_parts (eq k (key x)) _ none in
    rw parts.0 (no-group eq exact key xs k
    (sym (any-without eq exact k (key x) (keys_once eq (map key xs)) parts.0) ∙ parts.1))

-- what is kept under a key: what is stated of its group
pub looked-up : {K X V : Type 0} (eq : K → K → Bool) → IsExact K eq → (key : X → K)
    (stated : List X → V) (xs : List X) (k : K)
    → option_map_or (λ v. v) (lookup (eq k) (groups eq key stated xs)) (stated [])
    ≡ stated (group_of eq key xs k)
looked-up eq exact key stated xs k =
    rw (lookup-entries eq exact (λ j. stated (group_of eq key xs j)) (keys_once eq (map key xs)) k)
    (elim (cases_Bool (list_any (eq k) (keys_once eq (map key xs)))) [
      | inl there ↦ rw there refl
      | inr none ↦ rw none (ap stated (sym (no-group eq exact key xs k none)))
    ])

-- an element more: its key's group is stated anew
pub groups-push : {K X V : Type 0} (eq : K → K → Bool) → IsExact K eq → (key : X → K)
    (stated : List X → V) (xs : List X) (x : X)
    → groups eq key stated (xs ++ x ∷ [])
    ≡ insert_entry eq (groups eq key stated xs) (key x)
    (stated (group_of eq key xs (key x) ++ x ∷ []))
groups-push {K} {X} {V} eq exact key stated xs x =
    let f : K → V = λ k. stated (group_of eq key xs k) in
    let g : K → V = λ k. stated (group_of eq key (xs ++ x ∷ []) k) in
    let grown : (k : K) → group_of eq key (xs ++ x ∷ []) k
    ≡ group_of eq key xs k ++ (if eq k (key x) then x ∷ [] else []) =
    λ k. filter-append (λ y. eq k (key y)) xs (x ∷ []) in
    let agree : AgreeBut eq (key x) f g = λ k other.
    (let no : eq k (key x) ≡ false = elim (cases_Bool (eq k (key x))) [
      | inl u ↦ absurd (false≢true (sym other ∙ rw (exact.same k (key x) u) (exact.own (key x))))
      | inr u ↦ u
    ] in ap stated (grown k ∙ rw no (append-nil (group_of eq key xs k)))) in
    let own : g (key x) ≡ stated (group_of eq key xs (key x) ++ x ∷ []) =
    ap stated (grown (key x) ∙ rw (exact.own (key x)) refl) in
    ap (λ ks. entries g (keys_once eq ks)) (map-append key xs (x ∷ []))
    ∙ ap (entries g) (keys_once-push eq exact (map key xs) (key x))
    ∙ sym (insert-entries eq exact f g (keys_once eq (map key xs)) (key x)
    (keys_once-distinct eq exact (map key xs)) agree)
    ∙ ap (insert_entry eq (entries f (keys_once eq (map key xs))) (key x)) own

-- a sum over the entries grows by what the one entry grows
pub sum-inserted : {K V : Type 0} (eq : K → K → Bool) (m : V → ℕ) (blank : V) → m blank ≡ 0
    → (es : List (K × V)) (k : K) (v : V)
    → sum_by (λ e. m e.1) (insert_entry eq es k v)
    + m (option_map_or (λ w. w) (lookup (eq k) es) blank)
    ≡ sum_by (λ e. m e.1) es + m v
sum-inserted eq m blank zero [] k v = rw zero (omega arith)
sum-inserted {K} {V} eq m blank zero (e ∷ es) k v =
    let f : K × V → ℕ = λ p. m p.1 in
    elim (cases_Bool (eq k e.0)) [
      | inl here ↦ rw (here, sum_by-cons f (e.0, v) es, sum_by-cons f e es) (omega arith)
      | inr other ↦
          let ih = sum-inserted eq m blank zero es k v in
          rw (
            other,
            sum_by-cons f e (insert_entry eq es k v),
            sum_by-cons f e es,
          ) (omega (arith, ih))
    ]
